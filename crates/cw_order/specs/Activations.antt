-- How the activations of a state of the machine of orders stand: they have room, each but the last one was begun, their frames end in
-- the data area, and a control argument names an activation that is there.
use Rattle.std.specs.Prelude.{◌≡◌, ◌⊎◌, ℕ, zero, suc, ◌-◌, ◌≤◌, ℤ, List, [], ◌∷◌, length, true, false, Some}
use Rattle.std.specs.List.{All}
use Rattle.cw_unit.specs.declared.unit.Goal.{Goal}
use Rattle.cw_unit.specs.declared.unit.Def.TheVariants as def
use Rattle.cw_unit.specs.Stop.{Running}
use Rattle.cw_unit.specs.Words.{Control, LabelControl, SwitchControl, ProcedureControl, Operand, Word, Held, Words}
use Rattle.cw_unit.specs.Step.{goal_at}
use Rattle.cw_order.specs.declared.order.Order.TheVariants as order
use Rattle.cw_order.specs.OrderProgram.{LabelEntry, ProcedureEntry, OrderProgram, order_at, place_of, label_at, procedure_at, switch_at, label_of, defined_at}
use Rattle.cw_order.specs.OrderState.{OrderActivation, OrderState, at, stack_words, frame_end}

-- ---- control arguments

-- the segment that is at work in the activation below so many, where this one is at work in the last
abbrev pub segment_below : (n segment : ℕ) → List OrderActivation → ℕ
segment_below zero g acts = g
segment_below (suc n) g [] = g
segment_below (suc n) g (a ∷ acts) = segment_below n a.segment acts

-- The activation of this number is there, counted from 1, and 0 is the segment's body.
abbrev pub IsThere : (owner : ℕ) → List OrderActivation → Type 0
IsThere owner acts = owner ≤ length acts

module _ (p : OrderProgram) where
  -- Where the label stands in a procedure, the activation that owns it is one of the label's segment.
  abbrev pub OwnsLabel : (owner segment : ℕ) → List OrderActivation → (to label : ℕ) → Type 0
  OwnsLabel owner g acts to l = (e : LabelEntry) → label_at p to l ≡ Some e → e.in_procedure ≡ true → segment_below (length acts - owner) g acts ≡ to

  abbrev pub ControlStands : (segment : ℕ) → List OrderActivation → Control → Type 0
  ControlStands g acts (LabelControl to l owner) = IsThere owner acts × OwnsLabel owner g acts to l
  ControlStands g acts (SwitchControl to n owner) =
      IsThere owner acts
      × ((gs : List Goal) (i : ℤ) (x : Goal) (l : ℕ × ℕ) → switch_at p to n ≡ Some gs → goal_at gs i ≡ Some x
      → label_of p to x ≡ Some l → OwnsLabel owner g acts l.0 l.1)
  ControlStands g acts (ProcedureControl to q) = Unit {0}

  abbrev pub OperandStands : (segment : ℕ) → List OrderActivation → Operand → Type 0
  OperandStands g acts (Word z) = Unit {0}
  OperandStands g acts (Held c) = ControlStands g acts c

  -- ---- activations

  -- The activations have been begun, and their frames end in the area; the arguments and the operands of each caller stand.
  abbrev pub ActivationsStand : (segment : ℕ) → List OrderActivation → Type 0
  ActivationsStand g [] = Unit {0}
  ActivationsStand g (a ∷ acts) =
      (a.entered ≡ true) × (a.frame_base ≤ p.limits.area) × (a.frame_top ≤ p.limits.area)
      × All (OperandStands a.segment acts) a.arguments × All (OperandStands a.segment acts) a.operands × ActivationsStand a.segment acts

  -- A call stands before the Enter of its procedure, with no operands and with a frame of no words.
  pub record Beginning (g place : ℕ) (a : OrderActivation) (acts : List OrderActivation) (operands : List Operand) : Type 0 where
    pub begun : a.entered ≡ false
    pub size : ℕ
    pub order : order_at p g place ≡ Some (order.Enter size)
    pub none : operands ≡ []
    pub base : a.frame_base ≡ frame_end p acts
    pub top : a.frame_top ≡ frame_end p acts
    pub arguments : All (OperandStands a.segment acts) a.arguments
    pub operands_stand : All (OperandStands a.segment acts) a.operands
    pub callers : ActivationsStand a.segment acts

  abbrev pub LastStands : (segment place : ℕ) → List OrderActivation → List Operand → Type 0
  LastStands g place [] operands = Unit {0}
  LastStands g place (a ∷ acts) operands = ActivationsStand g (a ∷ acts) ⊎ Beginning g place a acts operands

  pub record Stands (g place : ℕ) (acts : List OrderActivation) (w : Words) : Type 0 where
    pub room : stack_words w.operands acts ≤ p.room
    pub last : LastStands g place acts w.operands
    pub operands : All (OperandStands g acts) w.operands

  -- of a run that is over nothing is said
  abbrev pub StateStands : OrderState → Type 0
  StateStands (at g place loaded acts w Running) = Stands g place acts w
  StateStands (at g place loaded acts w _) = Unit {0}

  -- ---- programs

  -- What this needs of a program: the orders of a procedure begin with Enter, and what segments define in common are labels of their
  -- bodies, and switches of such.
  pub record Callable : Type 0 where
    pub frames : p.limits.frames ≤ p.limits.area
    pub enters : (g q : ℕ) (e : ProcedureEntry) (k : ℕ) → procedure_at p g q ≡ Some e → place_of p g e.mark ≡ Some k
        → (size : ℕ) × (order_at p g k ≡ Some (order.Enter size))
    pub labels : (g d to l : ℕ) (e : LabelEntry) → defined_at p g d ≡ Some (to, def.Label l) → label_at p to l ≡ Some e → e.in_procedure ≡ false
    pub switches : (g d to n : ℕ) (gs : List Goal) (i : ℤ) (x : Goal) (l : ℕ × ℕ) (e : LabelEntry)
        → defined_at p g d ≡ Some (to, def.Switch n) → switch_at p to n ≡ Some gs → goal_at gs i ≡ Some x
        → label_of p to x ≡ Some l → label_at p l.0 l.1 ≡ Some e → e.in_procedure ≡ false
