use Rattle.std.proofs.Common.{◌≡◌, ◌-◌}
use Rattle.cw_image.specs.ImageFormat.{repeated, word_item}
use Rattle.cw_image.proofs.Repeating.{with_front}
use Rattle.cw_image.proofs.reading.words_fields.Given as goal

abbrev pub invariant-loop-i : goal.invariant-loop-i
invariant-loop-i l = with_front l.words (repeated (word_item l.len) (l.count - l.i) l.rest) ≡ repeated (word_item l.len) l.count l.bytes
