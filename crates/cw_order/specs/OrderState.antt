-- The states of the machine of orders.
use Rattle.std.specs.Prelude.{ℕ, zero, suc, ◌+◌, ◌-◌, List, [], ◌∷◌, Bool, Option, Some, None, nat_lt, if◌then◌else◌}
use Rattle.cw_unit.specs.Stop.{End}
use Rattle.cw_unit.specs.Words.{Control, Operand, Word, Held, Words}
use Rattle.cw_order.specs.OrderProgram.{OrderProgram}

-- A call at work: the caller's segment, the place behind the call, the line of the call, the caller's operands without the arguments, the
-- arguments, last first as they stand on the stack, whether Enter has begun it, and where its frame begins and ends. Before Enter the
-- frame has no words.
pub record OrderActivation : Type 0 where
  pub segment : ℕ
  pub place : ℕ
  pub line : ℕ
  pub operands : List Operand
  pub arguments : List Operand
  pub entered : Bool
  pub frame_base : ℕ
  pub frame_top : ℕ

-- The segment whose orders are carried out, the place in their list, whether the top operand is in the accumulator, the activations,
-- last first, the words, and how the run stands. Stuck is for what cannot come: no order, one that wants the accumulator the other way,
-- a number that names nothing, an operand or an argument that is missing or of the wrong sort, an address outside the data area where
-- no test has failed, more words than the control stack has.
pub data OrderState : Type 0 where
  at : (segment place : ℕ) → (loaded : Bool) → List OrderActivation → Words → End → OrderState

abbrev pub words_of : OrderState → Words
words_of (at g place loaded acts w e) = w

abbrev pub activations_of : OrderState → List OrderActivation
activations_of (at g place loaded acts w e) = acts

-- ---- the control stack

-- the words that operands take; a control argument takes two
abbrev pub operand_words : List Operand → ℕ
operand_words [] = 0
operand_words (Word z ∷ rest) = 1 + operand_words rest
operand_words (Held c ∷ rest) = 2 + operand_words rest

-- those of an activation's record (docs/CODE.md)
abbrev pub record_words : ℕ
record_words = 6

-- all words of the control stack, less the record of the segment's body
abbrev pub stack_words : List Operand → List OrderActivation → ℕ
stack_words operands [] = operand_words operands
stack_words operands (a ∷ acts) = operand_words operands + (record_words + (operand_words a.arguments + stack_words a.operands acts))

-- ---- arguments

-- the argument that so many words of arguments follow
abbrev pub argument_behind : (words : ℕ) → List Operand → Option Operand
argument_behind n [] = None
argument_behind zero (x ∷ rest) = Some x
argument_behind (suc n) (Word z ∷ rest) = argument_behind n rest
argument_behind (suc zero) (Held c ∷ rest) = None
argument_behind (suc (suc n)) (Held c ∷ rest) = argument_behind n rest

-- that of the activation at work
abbrev pub argument_at : List OrderActivation → (words : ℕ) → Option Operand
argument_at [] n = None
argument_at (a ∷ acts) n = argument_behind n a.arguments

abbrev pub control_in : Option Operand → Option Control
control_in (Some (Held c)) = Some c
control_in _ = None

abbrev pub control_at : List OrderActivation → (words : ℕ) → Option Control
control_at acts n = control_in (argument_at acts n)

-- ---- frames

-- a word of the data area, by its address
abbrev pub word_of_area : (area address : ℕ) → Option ℕ
word_of_area area k = if nat_lt k area then Some k else None

-- the address of a word of the frame at work, which has to be in the data area; a segment's body has no frame
abbrev pub frame_word : (area : ℕ) → List OrderActivation → (offset : ℕ) → Option ℕ
frame_word area [] n = None
frame_word area (a ∷ acts) n = word_of_area area (a.frame_base + n)

-- where the next frame begins: at the end of the last one, and before the first at the start of the frame area
abbrev pub frame_end : OrderProgram → List OrderActivation → ℕ
frame_end p [] = p.limits.area - p.limits.frames
frame_end p (a ∷ acts) = a.frame_top
