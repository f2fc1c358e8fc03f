-- The typed invariant of a run: what kinds of operands are in hand, and that the pending work finds the operands that it takes.
use Rattle.std.proofs.Common.{◌≡◌, ℕ, ◌+◌, ◌≤◌, ℤ, List, [], ◌∷◌, length, Bool, true, false, IsTrue, Option, Some, None, is_some, refl, slice_get}
use Rattle.std.specs.Prelude.{int_le, ◌&&◌}
use Rattle.cw_unit.specs.declared.unit.Unit.{Unit as SourceUnit}
use Rattle.cw_unit.specs.declared.unit.Proc.{Proc}
use Rattle.cw_unit.specs.declared.unit.Dest.{Dest}
use Rattle.cw_unit.specs.declared.unit.Dest.TheVariants as dest
use Rattle.cw_unit.specs.declared.unit.Expr.{Expr}
use Rattle.cw_unit.specs.declared.unit.Arg.{Arg}
use Rattle.cw_unit.specs.declared.unit.Cond.{Cond}
use Rattle.cw_unit.specs.declared.unit.Spot.{Spot, out-Spot}
use Rattle.cw_unit.specs.declared.unit.Ref.{Ref}
use Rattle.cw_unit.specs.declared.unit.Arg.TheOpen as layer
use Rattle.cw_unit.specs.declared.unit.Arg.TheOpen.{Spot-F}
use Rattle.cw_unit.specs.Program.{Program, definition_of}
use Rattle.cw_unit.specs.Stop.{End, Running, Ended, Stopped, Stuck}
use Rattle.cw_unit.specs.Words.{Control, LabelControl, SwitchControl, ProcedureControl, Operand, Word, Held, Words}
use Rattle.cw_unit.specs.Operation.{Operation, Constant, Rescale, Fetch, Store, StoreBits, Add, Subtract, Negate, Multiply, Divide, Combine, Extract, InBounds, Form, Keep, SetVariable, AddStep, ReadByte, WriteByte}
use Rattle.cw_unit.specs.Work.{Work, Nothing, Run, Eval, Address, FormAt, Do, Test, Choose, Jump, Give, Enter, Return, Leave, KeepAt, SetVar, Element, Turn, Bump, On, Loop}
use Rattle.cw_unit.specs.Configuration.{Configuration, at, Activation, segment_of, procedure_at}
use Rattle.cw_unit.specs.StackBound.{operand_depth, argument_depth, condition_depth, address_depth, elements_depth, body_depth}
use Rattle.cw_unit.specs.Step.{label_of_goal, switch_of_def, kept, compares_in}
use Rattle.cw_safety.specs.Kinds.{Kind, WordKind, LabelKind, SwitchKind, ProcedureKind, weight, weigh as weigh_kinds, parameter_kinds, control_kinds, procedure_kind}
use Rattle.cw_safety.specs.WellFormed.{reaches, reaches_switch, controls_of, is_call, kind_of, is_expression, is_reference, is_condition, are_elements, is_statement, is_label, is_switch}
use Rattle.cw_safety.specs.Depth.{owner_of, depth_at}

-- an operand in hand: one that may be an argument, or an index that has been compared with its bounds
pub data Hand : Type 0 where
  Plain : Kind → Hand
  Between : (lower upper : ℤ) → Hand

-- the words of one, and of several
abbrev pub hand_weight : Hand → ℕ
hand_weight (Plain k) = weight k
hand_weight (Between l u) = 1

abbrev pub weigh : List Hand → ℕ
weigh [] = 0
weigh (k ∷ ks) = hand_weight k + weigh ks

-- arguments in order, put on a stack
abbrev pub onto : List Kind → List Hand → List Hand
onto [] ks = ks
onto (k ∷ args) ks = onto args (Plain k ∷ ks)

abbrev pub result : (wanted : Bool) → List Hand → List Hand
result true ks = Plain WordKind ∷ ks
result false ks = ks

-- a word is taken
abbrev pub Pop : (List Hand → Type 0) → List Hand → Type 0
Pop P [] = ⊥
Pop P (Plain WordKind ∷ ks) = P ks
Pop P (Plain LabelKind ∷ ks) = ⊥
Pop P (Plain SwitchKind ∷ ks) = ⊥
Pop P (Plain (ProcedureKind ts) ∷ ks) = ⊥
Pop P (Between l u ∷ ks) = P ks

-- how many words an operation takes, and how many it puts; an index that it has compared lies between its bounds
pub data Shape : Type 0 where
  NoneToOne : Shape
  OneToOne : Shape
  OneToBetween : (lower upper : ℤ) → Shape
  TwoToOne : Shape
  OneToNone : Shape
  TwoToNone : Shape
  Unused : Shape

-- those that are pending work; the others are steps of other work
abbrev pub shape_of : Operation → Shape
shape_of (Constant z) = Unused
shape_of (Rescale f t) = OneToOne
shape_of (Fetch s) = OneToOne
shape_of (Store s) = TwoToNone
shape_of (StoreBits t b) = TwoToNone
shape_of Add = TwoToOne
shape_of Subtract = TwoToOne
shape_of Negate = OneToOne
shape_of (Multiply s) = TwoToOne
shape_of (Divide s) = TwoToOne
shape_of (Combine op) = TwoToOne
shape_of (Extract t b) = OneToOne
shape_of (InBounds l u) = OneToBetween l u
shape_of (Form f) = Unused
shape_of (Keep a) = OneToNone
shape_of (SetVariable a) = OneToNone
shape_of (AddStep a) = Unused
shape_of ReadByte = Unused
shape_of WriteByte = OneToNone

abbrev pub spot_shape : Spot-F Arg Cond Expr Spot Ref → Shape
spot_shape (layer.Direct i) = Unused
spot_shape (layer.Through i) = NoneToOne
spot_shape (layer.One i l u e) = OneToOne
spot_shape (layer.Two i l1 u1 l2 u2 n e g) = TwoToOne
spot_shape _ = OneToOne

abbrev pub After : (depth : ℕ) → Shape → (List Hand → Type 0) → List Hand → Type 0
After h NoneToOne P ks = (1 + weigh ks ≤ h) × P (Plain WordKind ∷ ks)
After h OneToOne P ks = Pop (λ r. P (Plain WordKind ∷ r)) ks
After h (OneToBetween l u) P ks = Pop (λ r. P (Between l u ∷ r)) ks
After h TwoToOne P ks = Pop (Pop (λ r. P (Plain WordKind ∷ r))) ks
After h OneToNone P ks = Pop P ks
After h TwoToNone P ks = Pop (Pop P) ks
After h Unused P ks = ⊥

-- two indexes that are compared lie between their bounds
abbrev pub AreBetween : Spot-F Arg Cond Expr Spot Ref → (compared : Bool) → List Hand → Type 0
AreBetween (layer.Two i l1 u1 l2 u2 n e g) true ks = (rest : List Hand) × (ks ≡ Between l2 u2 ∷ Between l1 u1 ∷ rest)
AreBetween (layer.Two i l1 u1 l2 u2 n e g) false ks = Unit {0}
AreBetween _ compared ks = Unit {0}

module _ (p : Program) where
  -- ---- operands

  -- a label or a switch of a procedure is owned by an activation of that procedure
  abbrev pub ControlFits : List Activation → Control → Kind → Type 0
  ControlFits acts (LabelControl g l owner) LabelKind = (owner ≤ length acts) × IsTrue (reaches p (owner_of (kept owner acts)) (Some (g, l)))
  ControlFits acts (SwitchControl g n owner) SwitchKind = (owner ≤ length acts) × IsTrue (reaches_switch p (owner_of (kept owner acts)) (Some (g, n)))
  ControlFits acts (ProcedureControl g q) (ProcedureKind ts) = procedure_kind (procedure_at p g q) ≡ Some (ProcedureKind ts)
  ControlFits acts _ _ = ⊥

  abbrev pub HasKind : List Activation → Operand → Kind → Type 0
  HasKind acts (Word z) WordKind = Unit {0}
  HasKind acts (Word z) _ = ⊥
  HasKind acts (Held c) k = ControlFits acts c k

  abbrev pub IsHeld : List Activation → Operand → Hand → Type 0
  IsHeld acts x (Plain k) = HasKind acts x k
  IsHeld acts (Word z) (Between l u) = IsTrue (int_le l z && int_le z u)
  IsHeld acts (Held c) (Between l u) = ⊥

  abbrev pub HaveKinds : List Activation → List Operand → List Hand → Type 0
  HaveKinds acts [] [] = Unit {0}
  HaveKinds acts (x ∷ xs) (k ∷ ks) = IsHeld acts x k × HaveKinds acts xs ks
  HaveKinds acts _ _ = ⊥

  abbrev pub Fit : List Activation → List Control → List Kind → Type 0
  Fit acts [] [] = Unit {0}
  Fit acts (c ∷ cs) (k ∷ ks) = ControlFits acts c k × Fit acts cs ks
  Fit acts _ _ = ⊥

  -- ---- work, in a segment, in its procedure at work, if any, in a body of this depth
  module _ (g : ℕ) (o : Option (ℕ × ℕ)) (h : ℕ) where
    abbrev pub CanJump : Dest → List Hand → Type 0
    CanJump (dest.Goal l) ks = (ks ≡ []) × IsTrue (reaches p o (label_of_goal p g l))
    CanJump (dest.Special k) ks = IsTrue (is_label (slice_get (controls_of p o) k))
    CanJump (dest.Switch n e) ks = Pop (λ r. r ≡ []) ks × IsTrue (reaches_switch p o (Some (g, n)))
    CanJump (dest.CommonSwitch d e) ks = Pop (λ r. Unit {0}) ks × IsTrue (reaches_switch p o (switch_of_def (definition_of p g d)))
    CanJump (dest.SpecialSwitch k e) ks = Pop (λ r. Unit {0}) ks × IsTrue (is_switch (slice_get (controls_of p o) k))

    abbrev pub IsLoop : Loop → Type 0
    IsLoop c = IsTrue (are_elements p g o c.elements) × (elements_depth c.elements ≤ h) × IsTrue (is_statement p g o c.body) × (body_depth c.body ≤ h)

    abbrev pub Typed : Work → List Hand → Type 0
    Typed Nothing ks = (ks ≡ []) × (o ≡ None)
    Typed (Run s k) ks = (ks ≡ []) × IsTrue (is_statement p g o s) × (body_depth s ≤ h) × Typed k []
    Typed (Eval e f line k) ks = IsTrue (is_expression p g o e) × (operand_depth e + weigh ks ≤ h) × Typed k (Plain WordKind ∷ ks)
    Typed (Address r line k) ks = IsTrue (is_reference p g o r) × (address_depth r + weigh ks ≤ h) × Typed k (Plain WordKind ∷ ks)
    Typed (FormAt spot line k) ks = After h (spot_shape (out-Spot spot)) (Typed k) ks × AreBetween (out-Spot spot) (compares_in p (slice_get p.units g)) ks
    Typed (Do op line k) ks = After h (shape_of op) (Typed k) ks
    Typed (Test c line pass fail) ks = IsTrue (is_condition p g o c) × (condition_depth c + weigh ks ≤ h) × Typed pass ks × Typed fail ks
    Typed (Choose op line pass fail) ks = Pop (Pop (λ r. Typed pass r × Typed fail r)) ks
    Typed (Jump d line) ks = CanJump d ks
    Typed (Give a line k) ks = (m : Kind) × (kind_of p g o a ≡ Some m) × ((argument_depth a).most + weigh ks ≤ h) × Typed k (Plain m ∷ ks)
    Typed (Enter t line wanted k) ks =
        (args : List Kind) × (rest : List Hand) × (ks ≡ onto args rest) × IsTrue (is_call p g o wanted t (Some args)) × (weigh (result wanted rest) ≤ h) × Typed k (result wanted rest)
    Typed Return ks = Pop (λ r. Unit {0}) ks × IsTrue (is_some o)
    Typed Leave ks = IsTrue (is_some o)
    Typed (KeepAt n c k) ks = Pop (Typed k) ks
    Typed (SetVar c k) ks = Pop (Typed k) ks
    Typed (Element i c k) ks = (ks ≡ []) × IsLoop c × Typed k []
    Typed (Turn i c k) ks = (ks ≡ []) × IsLoop c × Typed k []
    Typed (Bump i c k) ks = (ks ≡ []) × IsLoop c × Typed k []
    Typed (On c k) ks = (ks ≡ []) × IsLoop c × Typed k []

  -- ---- configurations

  -- each call goes back to work that finds the operands that were kept; with its arguments they were no more than its caller's body may
  -- have in hand
  abbrev pub Calls : (segment : ℕ) → List Activation → Type 0
  Calls s [] = Unit {0}
  Calls s (a ∷ acts) =
      (proc : Proc) × (procedure_at p a.segment a.procedure ≡ Some proc) × Fit acts a.controls (control_kinds (parameter_kinds proc)) × (ks : List Hand) × HaveKinds acts a.operands ks × (weigh (result a.wanted ks) ≤ depth_at p s acts) × (weigh_kinds (parameter_kinds proc) + weigh ks ≤ depth_at p s acts) × Typed (segment_of s acts) (owner_of acts) (depth_at p s acts) a.work (result a.wanted ks) × Calls s acts

  abbrev pub Holds : (segment : ℕ) → Work → List Activation → Words → Type 0
  Holds s k acts w =
      (u : SourceUnit) × (slice_get p.units s ≡ Some u) × Calls s acts × (ks : List Hand) × HaveKinds acts w.operands ks × (weigh ks ≤ depth_at p s acts) × Typed (segment_of s acts) (owner_of acts) (depth_at p s acts) k ks

  abbrev pub NotStuck : End → Type 0
  NotStuck Running = Unit {0}
  NotStuck Ended = Unit {0}
  NotStuck (Stopped kind g line) = Unit {0}
  NotStuck Stuck = ⊥

  abbrev pub Safe : Configuration → Type 0
  Safe (at s k acts w e) = NotStuck e × Holds s k acts w

  -- ---- a word that is taken

  -- it is there, with what is below it
  pub record Popped (P : List Hand → Type 0) (acts : List Activation) (xs : List Operand) (ks : List Hand) : Type 0 where
    pub word : ℤ
    pub operands : List Operand
    pub below : List Hand
    pub is : xs ≡ Word word ∷ operands
    pub kinds : HaveKinds acts operands below
    pub weighs : weigh ks ≡ 1 + weigh below
    pub holds : P below

  pub popped : (P : List Hand → Type 0) (acts : List Activation) (xs : List Operand) (ks : List Hand) → HaveKinds acts xs ks → Pop P ks → Popped P acts xs ks
  popped P acts [] [] k q = absurd q
  popped P acts [] (m ∷ ks) k q = absurd k
  popped P acts (x ∷ xs) [] k q = absurd q
  popped P acts (Word z ∷ xs) (Plain WordKind ∷ ks) k q = record { word = z; operands = xs; below = ks; is = refl; kinds = k.1; weighs = refl; holds = q }
  popped P acts (Word z ∷ xs) (Between l u ∷ ks) k q = record { word = z; operands = xs; below = ks; is = refl; kinds = k.1; weighs = refl; holds = q }
  popped P acts (x ∷ xs) (Plain LabelKind ∷ ks) k q = absurd q
  popped P acts (x ∷ xs) (Plain SwitchKind ∷ ks) k q = absurd q
  popped P acts (x ∷ xs) (Plain (ProcedureKind ts) ∷ ks) k q = absurd q
  popped P acts (Held (LabelControl g l owner) ∷ xs) (Plain WordKind ∷ ks) k q = absurd k.0
  popped P acts (Held (SwitchControl g n owner) ∷ xs) (Plain WordKind ∷ ks) k q = absurd k.0
  popped P acts (Held (ProcedureControl g n) ∷ xs) (Plain WordKind ∷ ks) k q = absurd k.0
  popped P acts (Held c ∷ xs) (Between l u ∷ ks) k q = absurd k.0
