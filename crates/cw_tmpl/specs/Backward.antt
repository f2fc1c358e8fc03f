-- Which checks for an overflow jump back, and to which CALL. A block that ends with a check has a CALL of the stop with its line behind it, or jumps back
-- to that of the last block that has one, where the line is the same. Between the two ends there are at most 127 bytes in the longest code: the jump goes
-- 5 bytes further than the end of the earlier block, and its own block is shorter by 5 than there.
use Rattle.std.specs.Prelude.{ℕ, zero, suc, ◌+◌, ◌==◌, ◌&&◌, if◌then◌else◌, List, [], ◌∷◌, Option, Some, slice_index}
use Rattle.cw_order.specs.declared.order.Order.{Order}
use Rattle.cw_tmpl.specs.declared.reach.Call.{Call}
use Rattle.cw_tmpl.specs.Blocks.{block_at, orders_left}
use Rattle.cw_tmpl.specs.Templates.{is_close}
use Rattle.cw_tmpl.specs.ShortForms.{check_of}

-- The CALL for the check of a block whose first order has this number, where the last block with a CALL of its own is given: it is named by the number
-- of the order behind the first one of its block, which tells where that ends; 0 where there is none that serves.
abbrev pub call_for : (longest : List ℕ) → Option Call → (number : ℕ) → (check : Option ℕ) → ℕ
call_for longest (Some c) number (Some line) = if (c.line == line) && is_close (slice_index longest (number + 1))
    (slice_index longest c.behind) then c.behind else 0
call_for longest _ number _ = 0

-- the last block with a CALL of its own then
abbrev pub call_after : Option Call → (behind call : ℕ) → (check : Option ℕ) → Option Call
call_after last behind zero (Some line) = Some (record { line = line; behind = behind })
call_after last behind _ _ = last

-- the CALLs for the orders of a list, the first of which has this number; so many of the first ones are left of the block before
abbrev pub calls_from : (longest : List ℕ) → Option Call → (number left : ℕ) → List Order → List ℕ
calls_from longest last number left [] = []
calls_from longest last number left (o ∷ os) =
    let b = block_at left (o ∷ os) in
    let call = call_for longest last number (check_of b o) in
    call ∷ calls_from longest (call_after last (number + 1) call (check_of b o)) (suc number) (orders_left b) os
