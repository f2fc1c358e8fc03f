use Rattle.std.proofs.Common.{◌≡◌, true, false, List, [], ◌∷◌, refl, sym, ◌∙◌, arith}
use Rattle.std.proofs.lemmas.Bool.{false≢true}
use Rattle.std.proofs.lemmas.Grind.{common_steps}
use Rattle.std.specs.Prelude.{slice_get}
use Rattle.cw_order.specs.declared.order.Order.{Order}
use Rattle.cw_order.specs.declared.order.Order.TheVariants as order
use Rattle.cw_tmpl.specs.Blocks.{is_save, bounds_at, at_bounds, block_if_saved}
use Rattle.cw_tmpl.proofs.finding.block_if_saved.Goals as goal

-- a list that begins with no Save
unsaved : (os : List Order) → is_save (slice_get os 0) ≡ false → at_bounds (bounds_at (slice_get os 0)) (slice_get os 1) (slice_get os 2) (slice_get os 3) ≡ block_if_saved os
unsaved (order.Save ∷ os) h = absurd (false≢true (sym h))
unsaved [] h = refl
unsaved (_ ∷ os) h = refl

pub returns-in_default : goal.returns-in_default
returns-in_default c =
    let other : is_save (slice_get c.args.orders.now 0) ≡ false = grind (arith, common_steps) in
    c.at_bounds.ensures ∙ unsaved c.args.orders.now other
