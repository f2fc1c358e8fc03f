use Rattle.std.proofs.Common.{◌∙◌, subst}
use Rattle.std.specs.Prelude.{ℕ, List, codes, decimal}
use Rattle.cw_write.specs.Said.{Says}
use Rattle.cw_write.proofs.Said.{says}
use Rattle.cw_actions.proofs.Tracing.Closed.{place_line}
use Rattle.cw_actions.proofs.trace.closing.close_no_place.Goals as goal

pub returns-clause-line : goal.returns-clause-line
returns-clause-line g c =
    let P : List ℕ → Type 0 = λ text. Says (g.S.Sink.held c.args.say.now) (g.S.Sink.held c.write_line.new.sink) (g.S.Sink.faults c.args.say.now) (g.S.Sink.faults c.write_line.new.sink) text in
    subst P (place_line (codes "no place: ") _ c.args.stop.now.segment _ (decimal c.args.stop.now.line) c.bytes.ensures.value (c.as_bytes.ensures.value ∙ c.format-line.ensures.text)) (says _ _ _ _ _ _ c.write_line.ensures)
