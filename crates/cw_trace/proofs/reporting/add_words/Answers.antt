use Rattle.std.proofs.Common.{◌∙◌}
use Rattle.cw_trace.specs.Reports.{word_of, word_text}
use Rattle.cw_trace.proofs.Added.{item_more, item_cut}
use Rattle.cw_trace.proofs.reporting.add_words.Goals as goal

pub returns-in-Err : goal.returns-in-Err
returns-in-Err g c =
    item_cut (word_text (word_of c.args.cpu.now)) c.args.words.now c.loop-word.word-index _ c.word-item.result _ _ _ _ c.loop-word-test.true c.word-item.is c.loop-word.invariant.keeps
    c.loop-word.invariant.faults c.in-Err.ensures

pub loop-word-preserved : goal.loop-word-preserved
loop-word-preserved g c = record {
  keeps = item_more (word_text (word_of c.args.cpu.now)) c.args.words.now c.loop-word.word-index _ c.word-item.result _ _ _ _ _ _ c.loop-word-test.true c.word-item.is c.loop-word.invariant.keeps
      c.in_default.ensures.ok;
  faults = c.in_default.ensures.ok_faults ∙ c.loop-word.invariant.faults;
}
