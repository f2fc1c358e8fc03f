use Rattle.std.proofs.Common.{◌∙◌, Some, ap, sym}
use Rattle.cw_actions.proofs.code.reading.source_of.Goals as goal

pub returns-in-Err-clause-stops : goal.returns-in-Err-clause-stops
returns-in-Err-clause-stops c = λ told texts before after at. c.in-Err.ensures.stops told texts before after (at ∙ ap Some (sym c.as_slice.ensures.value))
