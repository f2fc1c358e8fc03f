-- The operands in hand, and the operand depth of the body at work.
use Rattle.std.specs.Prelude.{ℕ, ◌+◌, List, [], ◌∷◌, Option, Some, None, slice_get}
use Rattle.cw_unit.specs.declared.unit.Unit.{Unit as SourceUnit}
use Rattle.cw_unit.specs.declared.unit.Proc.{Proc}
use Rattle.cw_unit.specs.Program.{Program}
use Rattle.cw_unit.specs.Words.{Operand, Word, Held}
use Rattle.cw_unit.specs.Configuration.{Configuration, at, Activation, procedure_at}
use Rattle.cw_unit.specs.StackBound.{body_depth}

-- the operands on the stack, a control argument counting two
abbrev pub operands_held : List Operand → ℕ
operands_held [] = 0
operands_held (Word z ∷ xs) = 1 + operands_held xs
operands_held (Held c ∷ xs) = 2 + operands_held xs

-- the procedure of the last call
abbrev pub owner_of : List Activation → Option (ℕ × ℕ)
owner_of [] = None
owner_of (a ∷ acts) = Some (a.segment, a.procedure)

abbrev pub depth_of_unit : Option SourceUnit → ℕ
depth_of_unit None = 0
depth_of_unit (Some u) = body_depth u.body

abbrev pub depth_of_procedure : Option Proc → ℕ
depth_of_procedure None = 0
depth_of_procedure (Some q) = body_depth q.body

-- the depth of the body at work: that of the last call's procedure, or that of the segment
abbrev pub depth_at : Program → (segment : ℕ) → List Activation → ℕ
depth_at p s [] = depth_of_unit (slice_get p.units s)
depth_at p s (a ∷ acts) = depth_of_procedure (procedure_at p a.segment a.procedure)

abbrev pub depth_in : Program → Configuration → ℕ
depth_in p (at s k acts w e) = depth_at p s acts
