-- The blocks of orders, found once and noted: how each order stands in its block.
use Rattle.std.specs.Prelude.{ℕ, List, [], ◌∷◌}
use Rattle.cw_order.specs.declared.order.Order.{Order}
use Rattle.cw_tmpl.specs.declared.blocks.Block.{Block}
use Rattle.cw_tmpl.specs.Blocks.{block_at, orders_left}

-- of orders of which so many are left of the block before
abbrev pub blocks_from : (left : ℕ) → List Order → List Block
blocks_from left [] = []
blocks_from left (o ∷ os) = block_at left (o ∷ os) ∷ blocks_from (orders_left (block_at left (o ∷ os))) os
