use Rattle.std.proofs.Common.{◌≡◌, ◌-◌}
use Rattle.cw_image.specs.ImageFormat.{repeated, name_field}
use Rattle.cw_image.proofs.Repeating.{with_front}
use Rattle.cw_image.proofs.reading.names_fields.Given as goal

abbrev pub invariant-loop : goal.invariant-loop
invariant-loop l = with_front l.names (repeated (λ _. name_field l.len) (l.count - l.counter) l.rest) ≡ repeated (λ _. name_field l.len) l.count l.bytes
