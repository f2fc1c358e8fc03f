use Rattle.std.proofs.Common.{◌∙◌, Some, sym, ap}
use Rattle.cw_link_files.proofs.reading.take_file.Goals as goal

pub returns-then-begins_library-clause-stops : goal.returns-then-begins_library-clause-stops
returns-then-begins_library-clause-stops c = λ told texts before after at. c.take_library.ensures.stops told texts before after (at ∙ ap (λ bytes. Some bytes) (sym c.as_slice-then-begins_library.ensures.value))
