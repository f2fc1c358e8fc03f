use Rattle.std.proofs.Common.{rules, ◌≡◌, ℕ, ◌<◌, List, [], ◌∷◌, length, refl, arith}
use Rattle.cw_order.specs.declared.order.Order.{Order}
use Rattle.cw_order.specs.declared.order.Place.TheVariants as cell
use Rattle.cw_tmpl.specs.declared.blocks.Block.TheVariants as block
use Rattle.cw_tmpl.specs.Blocks.{fetched_behind}
use Rattle.cw_tmpl.proofs.finding.fetched_behind.Goals as goal

-- fewer than two orders
short : (n : ℕ) (os : List Order) → length os < 2 → block.Fetch (cell.Frame n) ≡ fetched_behind n os
short n [] lt = refl
short n (x ∷ []) lt = refl
short n (x ∷ y ∷ os) lt = absurd (omega (arith, lt))

pub returns-in_default : goal.returns-in_default
returns-in_default c =
    let few : length c.args.orders.now < 2 = search rules in
    short c.args.offset c.args.orders.now few
