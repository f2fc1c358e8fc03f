use Rattle.std.proofs.Common.{◌∙◌}
use Rattle.cw_say.proofs.link.write_segments.Goals as goal

pub returns : goal.returns
returns g c = rw (← (c.as_bytes-first_digits.ensures.value ∙ c.format.ensures.text), ← (c.as_bytes-second_digits.ensures.value ∙ c.format-2.ensures.text)) c.write_line.ensures
