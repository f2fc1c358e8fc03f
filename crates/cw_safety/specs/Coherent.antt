-- What holds of each configuration of a run of well-formed units: what its next step finds, and how many words its calls keep.
use Rattle.std.specs.Prelude.{◌≡◌, ℕ, ◌+◌, ◌≤◌, ℤ, int_le, List, [], ◌∷◌, length, Bool, true, IsTrue, ◌&&◌, Option, Some, None, slice_get}
use Rattle.cw_unit.specs.declared.unit.Unit.{Unit as SourceUnit}
use Rattle.cw_unit.specs.declared.unit.Proc.{Proc}
use Rattle.cw_unit.specs.declared.unit.Label.{Label}
use Rattle.cw_unit.specs.declared.unit.Goal.{Goal}
use Rattle.cw_unit.specs.declared.unit.Dest.{Dest}
use Rattle.cw_unit.specs.declared.unit.Dest.TheVariants as dest
use Rattle.cw_unit.specs.declared.unit.Expr.{Expr}
use Rattle.cw_unit.specs.declared.unit.Target.{Target}
use Rattle.cw_unit.specs.declared.unit.Spot.{Spot, out-Spot}
use Rattle.cw_unit.specs.declared.unit.Arg.TheOpen as layer
use Rattle.cw_unit.specs.Program.{Program, definition_of}
use Rattle.cw_unit.specs.Words.{LabelControl, SwitchControl, Operand, Word, Words}
use Rattle.cw_unit.specs.Work.{Work, Nothing, FormAt, Jump, Enter}
use Rattle.cw_unit.specs.Configuration.{Configuration, at, Activation, segment_of, control_at, procedure_at}
use Rattle.cw_unit.specs.Step.{Calling, callee_of, kept, label_of_goal, switch_of_def, switch_in, goal_at, here, compares_in}
use Rattle.cw_safety.specs.Kinds.{weigh, parameter_kinds}
use Rattle.cw_safety.specs.Depth.{operands_held, owner_of}

-- the words of a procedure's arguments
abbrev pub argument_words : Option Proc → ℕ
argument_words None = 0
argument_words (Some q) = weigh (parameter_kinds q)

-- two indexes, the second one last, that lie between bounds
pub record LieBetween (lower upper second last : ℤ) (operands : List Operand) : Type 0 where
  pub row : ℤ
  pub column : ℤ
  pub rest : List Operand
  pub is : operands ≡ Word column ∷ Word row ∷ rest
  pub row_between : IsTrue (int_le lower row && int_le row upper)
  pub column_between : IsTrue (int_le second column && int_le column last)

module _ (p : Program) where
  -- the words of a control stack: the operands, and for each call eight words of its record, its arguments and the operands below them
  abbrev pub stack_words : List Operand → List Activation → ℕ
  stack_words xs [] = operands_held xs
  stack_words xs (a ∷ acts) = operands_held xs + (8 + (argument_words (procedure_at p a.segment a.procedure) + stack_words a.operands acts))

  abbrev pub words_held : Configuration → ℕ
  words_held (at s k acts w e) = stack_words w.operands acts

  -- a label of a procedure is owned by an activation of that procedure
  abbrev pub IsOwned : List Activation → (segment label owner : ℕ) → Type 0
  IsOwned acts h label owner =
      (v : SourceUnit) (m : Label) (q : ℕ) → slice_get p.units h ≡ Some v → slice_get v.labels label ≡ Some m
      → m.proc ≡ Some q → owner_of (kept owner acts) ≡ Some (h, q)

  -- the labels to which a destination may go, with their owners
  abbrev pub Names : (segment : ℕ) → List Activation → Dest → (h label owner : ℕ) → Type 0
  Names s acts (dest.Goal g) h label owner = (label_of_goal p (segment_of s acts) g ≡ Some (h, label)) × (owner ≡ length acts)
  Names s acts (dest.Special k) h label owner = control_at acts k ≡ Some (LabelControl h label owner)
  Names s acts (dest.Switch n e) h label owner =
      (gs : List Goal) × (x : Goal) × (z : ℤ) × (switch_in (slice_get p.units (segment_of s acts)) n ≡ Some gs)
      × (goal_at gs z ≡ Some x) × (label_of_goal p (segment_of s acts) x ≡ Some (h, label))
      × (owner ≡ length acts)
  Names s acts (dest.CommonSwitch d e) h label owner =
      (h0 : ℕ) × (n0 : ℕ) × (gs : List Goal) × (x : Goal) × (z : ℤ)
      × (switch_of_def (definition_of p (segment_of s acts) d) ≡ Some (h0, n0))
      × (switch_in (slice_get p.units h0) n0 ≡ Some gs) × (goal_at gs z ≡ Some x)
      × (label_of_goal p h0 x ≡ Some (h, label)) × (owner ≡ length acts)
  Names s acts (dest.SpecialSwitch k e) h label owner =
      (h0 : ℕ) × (n0 : ℕ) × (gs : List Goal) × (x : Goal) × (z : ℤ)
      × (control_at acts k ≡ Some (SwitchControl h0 n0 owner)) × (switch_in (slice_get p.units h0) n0 ≡ Some gs)
      × (goal_at gs z ≡ Some x) × (label_of_goal p h0 x ≡ Some (h, label))

  pub record Coherent (s : ℕ) (k : Work) (acts : List Activation) (w : Words) : Type 0 where
    -- each call is one of a procedure that there is
    pub procedures : (n : ℕ) (a : Activation) → slice_get acts n ≡ Some a → (q : Proc) × (procedure_at p a.segment a.procedure ≡ Some q)
    -- a call finds its arguments
    pub arguments : (t : Target) (line : ℕ) (wanted : Bool) (next : Work) → k ≡ Enter t line wanted next
        → (h n : ℕ) (q : Proc) → callee_of p (segment_of s acts) acts t ≡ Calling h n → procedure_at p h n ≡ Some q
        → length q.params ≤ length w.operands
    -- a jump to a label that is named leaves nothing in hand
    pub empty : (g : Goal) (line : ℕ) → k ≡ Jump (dest.Goal g) line → w.operands ≡ []
    -- a jump through a switch of the unit finds its index alone
    pub alone : (n : ℕ) (e : Expr) (line : ℕ) → k ≡ Jump (dest.Switch n e) line → length w.operands ≡ 1
    -- each label that a jump may go to has its owner at work
    pub owners : (d : Dest) (line : ℕ) → k ≡ Jump d line → (h label owner : ℕ) → Names s acts d h label owner → IsOwned acts h label owner
    -- where a unit compares its indexes, an address of two indexes is formed of such as lie between their bounds
    pub compared : (spot : Spot) (line : ℕ) (next : Work) → k ≡ FormAt spot line next → compares_in p (here p s acts) ≡ true
        → (i : ℕ) (l1 u1 l2 u2 : ℤ) (n : ℕ) (e g : Expr) → out-Spot spot ≡ layer.Two i l1 u1 l2 u2 n e g → LieBetween l1 u1 l2 u2 w.operands
    -- a segment's body ends with no call, and nothing in hand
    pub ends : k ≡ Nothing → (acts ≡ []) × (w.operands ≡ [])

  abbrev pub IsCoherent : Configuration → Type 0
  IsCoherent (at s k acts w e) = Coherent s k acts w
