use Rattle.std.proofs.Common.{◌≡◌, take, flat_map}
use Rattle.cw_trace.specs.Gathering.{KeepsRest}
use Rattle.cw_trace.specs.Reports.{word_of, word_text}
use Rattle.cw_trace.proofs.reporting.add_words.Given as goal

abbrev pub invariant-loop-word : goal.invariant-loop-word
invariant-loop-word g l = record {
  keeps : KeepsRest (g.S.Sink.held l.fn.say) l.fn.line (g.S.Sink.held l.say) l.line (flat_map (word_text (word_of l.cpu)) (take l.word-index l.words));
  faults : g.S.Sink.faults l.say ≡ g.S.Sink.faults l.fn.say;
}
