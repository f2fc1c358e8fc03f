use Rattle.std.proofs.Common.{◌∙◌, ap, sym, Some}
use Rattle.cw_files.proofs.objects.object_of.Goals as goal

pub returns-in-Err-clause-stops : goal.returns-in-Err-clause-stops
returns-in-Err-clause-stops c = λ told texts before after at. c.in-Err.ensures.stops told texts before after (at ∙ ap (λ bytes. Some bytes) (sym c.as_slice.ensures.value))
