-- A configuration of the abstract machine.
use Rattle.std.specs.Prelude.{◌≡◌, ℕ, ◌+◌, ◌-◌, ◌<◌, ◌≤◌, List, [], ◌∷◌, Bool, Option, Some, None, slice_get, slice_index}
use Rattle.cw_unit.specs.declared.unit.Unit.{Unit as SourceUnit}
use Rattle.cw_unit.specs.declared.unit.Proc.{Proc}
use Rattle.cw_unit.specs.Program.{Program, layout_at, item_address}
use Rattle.cw_unit.specs.Scales.{fraction_of}
use Rattle.cw_unit.specs.Stop.{End}
use Rattle.cw_unit.specs.Words.{Words, Operand, Control}
use Rattle.cw_unit.specs.Work.{Work}

-- a call at work: its procedure, the caller's work and operands, the control arguments, where its frame begins, and whether
-- the answer is wanted
pub record Activation : Type 0 where
  pub segment : ℕ
  pub procedure : ℕ
  pub work : Work
  pub operands : List Operand
  pub controls : List Control
  pub frame_base : ℕ
  pub wanted : Bool

-- the segment whose body is running, the work, the activations, last first, the words, and how the run stands
pub data Configuration : Type 0 where
  at : (segment : ℕ) → Work → List Activation → Words → End → Configuration

abbrev pub activations_of : Configuration → List Activation
activations_of (at s k acts w e) = acts

abbrev pub words_of : Configuration → Words
words_of (at s k acts w e) = w

-- the segment of the work
abbrev pub segment_of : (segment : ℕ) → List Activation → ℕ
segment_of s [] = s
segment_of s (a ∷ rest) = a.segment

abbrev pub base_of : List Activation → ℕ
base_of [] = 0
base_of (a ∷ rest) = a.frame_base

abbrev pub control_at : List Activation → ℕ → Option Control
control_at [] k = None
control_at (a ∷ rest) k = slice_get a.controls k

abbrev pub procedure_in : Option SourceUnit → ℕ → Option Proc
procedure_in None q = None
procedure_in (Some u) q = slice_get u.procs q

abbrev pub procedure_at : Program → (segment procedure : ℕ) → Option Proc
procedure_at p g q = procedure_in (slice_get p.units g) q

-- the words of a procedure's frame; a procedure that is not RECURSIVE has no items in a frame
abbrev pub frame_size_of : Program → (segment procedure : ℕ) → ℕ
frame_size_of p g q = slice_index (layout_at p g).frames q

-- where the next frame begins: at the end of the last one, and before the first at the start of the frame area
abbrev pub frame_top : Program → List Activation → ℕ
frame_top p [] = p.limits.area - p.limits.frames
frame_top p (a ∷ rest) = a.frame_base + frame_size_of p a.segment a.procedure

abbrev pub fraction_of_answer : Option Proc → ℕ
fraction_of_answer None = 0
fraction_of_answer (Some q) = fraction_of q.answer

-- the scale of the answer of the last activation
abbrev pub answer_scale_of : Program → List Activation → ℕ
answer_scale_of p [] = 0
answer_scale_of p (a ∷ rest) = fraction_of_answer (procedure_at p a.segment a.procedure)

-- the address of an item of the work's segment
abbrev pub address_at : Program → (segment : ℕ) → List Activation → (item : ℕ) → ℕ
address_at p s acts i = item_address p (segment_of s acts) i (base_of acts)

-- the frames of activations that are active together: they are in the frame area, and those of later calls are above those of earlier
-- ones, which come after them in the list
pub record FramesApart (p : Program) (acts : List Activation) : Type 0 where
  pub above : (n : ℕ) (a : Activation) → slice_get acts n ≡ Some a → p.limits.area - p.limits.frames ≤ a.frame_base
  pub below : (n : ℕ) (a : Activation) → slice_get acts n ≡ Some a → a.frame_base + frame_size_of p a.segment a.procedure ≤ p.limits.area
  pub apart : (n m : ℕ) (a b : Activation) → n < m → slice_get acts n ≡ Some a → slice_get acts m ≡ Some b
      → b.frame_base + frame_size_of p b.segment b.procedure ≤ a.frame_base
