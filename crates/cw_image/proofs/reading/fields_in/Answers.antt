use Rattle.std.proofs.Common.{◌≡◌, eqb, false, length, sym, ◌∙◌}
use Rattle.cw_image.specs.ImageFormat.{fields_in}
use Rattle.cw_image.proofs.Repeating.{not_ended}
use Rattle.cw_image.proofs.reading.fields_in.Goals as goal

pub returns-then-not-is_empty : goal.returns-then-not-is_empty
unfolding fields_in
returns-then-not-is_empty c =
    let some : eqb (length c.in_ok-code.rest.now) 0 ≡ false = sym c.is_empty.ensures ∙ c.if-not-is_empty.true in
    rw (c.saturating_sub.ensures, c.in_ok-bounds.ensures, c.in_ok-names.ensures, c.in_ok-words.ensures, c.in_ok-code.ensures) (not_ended c.args.len _ c.in_ok-code.rest.now some)
