use Rattle.std.proofs.Common.{ℕ, ◌<◌, length, get_or, sym, subst}
use Rattle.cw_listing.specs.declared.line.Line.{Line}
use Rattle.cw_listing.specs.Lines.{IsShown}
use Rattle.cw_listing.proofs.Following.{all_shown}
use Rattle.cw_listing.proofs.listing.listing_text.Goals as goal

pub text_of-requires : goal.text_of-requires
text_of-requires c =
    record { shown = subst (λ ls. (k : ℕ) (d : Line) → k < length ls → IsShown (get_or ls k d).shown) (sym c.as_slice.ensures) (all_shown _ _ 0 _ _ c.in_ok-lines.ensures) }
