-- The short forms of blocks: a jump of one byte's distance, and a check that jumps back to a CALL. Which blocks have one is found in the longest code.
use Rattle.std.specs.Prelude.{ℕ, ◌+◌, nat_lt, nat_le, Bool, false, List, [], ◌∷◌, if◌then◌else◌, Option, Some, None, slice_index}
use Rattle.cw_order.specs.declared.order.Order.{Order}
use Rattle.cw_order.specs.declared.order.Order.TheVariants as order
use Rattle.cw_tmpl.specs.declared.blocks.Use.TheVariants as uses
use Rattle.cw_tmpl.specs.declared.blocks.Block.{Block}
use Rattle.cw_tmpl.specs.declared.blocks.Block.TheVariants as block
use Rattle.cw_tmpl.specs.Names.{Reach}
use Rattle.cw_tmpl.specs.Templates.{is_checked, is_close}

-- the mark of a block's jump that can be short
abbrev pub jump_of : Block → Order → Option ℕ
jump_of block.Single (order.Jump m) = Some m
jump_of block.Single (order.JumpIf c m) = Some m
jump_of block.Single (order.LoopWay (m ∷ [])) = Some m
jump_of (block.Operate s (uses.Compare c m)) o = Some m
jump_of (block.CompareWord n w c m) o = Some m
jump_of b o = None

-- the line of the check with which a block ends that can jump back
abbrev pub check_of : Block → Order → Option ℕ
check_of block.Single (order.Add line) = Some line
check_of block.Single (order.Sub line) = Some line
check_of block.Single (order.Neg line) = Some line
check_of block.Single (order.Rescale from to line) = if nat_le from to then Some line else None
check_of block.Single (order.Mul s line) = if is_checked s then Some line else None
check_of block.Single (order.Div s line) = Some line
check_of (block.Operate s (uses.Add line)) o = Some line
check_of (block.Operate s (uses.Subtract line)) o = Some line
check_of (block.Operate s (uses.Multiply line)) o = Some line
check_of (block.Count down line) o = Some line
check_of b o = None

-- the bytes that the short form saves
abbrev pub saved : Block → Order → ℕ
saved block.Single (order.Add line) = 5
saved block.Single (order.Sub line) = 5
saved block.Single (order.Neg line) = 5
saved block.Single (order.Rescale from to line) = if nat_le from to then 5 else 0
saved block.Single (order.Mul s line) = if is_checked s then 5 else 0
saved block.Single (order.Div s line) = 5
saved block.Single (order.Jump m) = 1
saved block.Single (order.JumpIf c m) = 3
saved block.Single (order.LoopWay (m ∷ [])) = 3
saved (block.Operate s (uses.Add line)) o = 5
saved (block.Operate s (uses.Subtract line)) o = 5
saved (block.Operate s (uses.Multiply line)) o = 5
saved (block.Operate s (uses.Compare c m)) o = 3
saved (block.Count down line) o = 5
saved (block.CompareWord n w c m) o = 3
saved b o = 0

-- Which blocks have the short form, by the number of the block's first order. Without any, the code is the longest one.
abbrev pub Forms : Type 0
Forms = (number : ℕ) → Block → Order → Bool

abbrev pub all_near : Forms
all_near number b o = false

-- Two places of the longest code are at least as far apart as those of the same orders in the code with short jumps. So a jump is short where it
-- ends close to its mark in the longest code, and none makes another one reach less far. A check jumps back where there is a CALL for it.
abbrev pub has_call : Reach → (number : ℕ) → (check : Option ℕ) → Bool
has_call r number None = false
has_call r number (Some line) = nat_lt 0 (slice_index r.calls number)

abbrev pub reaches : Reach → (number : ℕ) → (jump check : Option ℕ) → Bool
reaches r number None check = has_call r number check
reaches r number (Some m) check = is_close (slice_index r.longest (number + 1)) (slice_index r.longest (slice_index r.marks m))

abbrev pub is_short : Reach → Forms
is_short r number b o = reaches r number (jump_of b o) (check_of b o)
