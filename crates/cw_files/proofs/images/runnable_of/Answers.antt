use Rattle.std.proofs.Common.{◌∙◌, sym}
use Rattle.cw_files.proofs.Runnables.{image_stops}
use Rattle.cw_files.proofs.images.runnable_of.Goals as goal

pub returns-in-Err-clause-stops : goal.returns-in-Err-clause-stops
returns-in-Err-clause-stops c = λ told texts before after at.
    image_stops told texts before after c.args.bytes.now c.in-Err.status (sym c.begins_hex.ensures ∙ c.if-begins_hex.false) at (c.in-Err.ensures.stops told texts before after at)
