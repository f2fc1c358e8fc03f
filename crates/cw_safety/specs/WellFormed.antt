-- Well-formed units: what the checks of a segment and the agreement of segments give. Every name that is used means a thing of the
-- right sort, labels are set in the bodies to which they belong and used where they can be reached, and the arguments of each call are
-- as its parameters take them.
use Rattle.std.specs.Prelude.{◌≡◌, ℕ, suc, nat_eq, List, [], ◌∷◌, map, Bool, true, false, IsTrue, ◌&&◌, ◌||◌, not, Option, Some, None, is_some, slice_get}
use Rattle.cw_unit.specs.declared.unit.Unit.{Unit as SourceUnit}
use Rattle.cw_unit.specs.declared.unit.Proc.{Proc}
use Rattle.cw_unit.specs.declared.unit.Label.{Label}
use Rattle.cw_unit.specs.declared.unit.Goal.{Goal}
use Rattle.cw_unit.specs.declared.unit.Stmt.{Stmt, Stmt-F, fold-Stmt}
use Rattle.cw_unit.specs.declared.unit.Stmt.TheOpen as statement
use Rattle.cw_unit.specs.declared.unit.Dest.{Dest}
use Rattle.cw_unit.specs.declared.unit.Dest.TheVariants as dest
use Rattle.cw_unit.specs.declared.unit.Target.{Target}
use Rattle.cw_unit.specs.declared.unit.Target.TheVariants as target
use Rattle.cw_unit.specs.declared.unit.Felem.{Felem}
use Rattle.cw_unit.specs.declared.unit.Felem.TheVariants as element
use Rattle.cw_unit.specs.declared.unit.Expr.{Expr, Expr-F, fold-Expr}
use Rattle.cw_unit.specs.declared.unit.Arg.{Arg, fold-Arg}
use Rattle.cw_unit.specs.declared.unit.Cond.{Cond, fold-Cond}
use Rattle.cw_unit.specs.declared.unit.Spot.{Spot, fold-Spot}
use Rattle.cw_unit.specs.declared.unit.Ref.{Ref, fold-Ref}
use Rattle.cw_unit.specs.declared.unit.Arg.TheOpen as layer
use Rattle.cw_unit.specs.declared.unit.Arg.TheOpen.{Arg-F, Cond-F, Spot-F, Ref-F}
use Rattle.cw_unit.specs.Program.{Program, definition_of}
use Rattle.cw_unit.specs.Step.{label_of_goal, switch_of_def, procedure_of_def, switch_in}
use Rattle.cw_unit.specs.LabelContinuation.{has_label}
use Rattle.cw_unit.specs.Configuration.{procedure_at}
use Rattle.cw_safety.specs.Kinds.{Kind, WordKind, LabelKind, SwitchKind, ProcedureKind, parameter_kinds, control_kinds, procedure_kind, same_kinds, suits}

-- ---- labels

-- of a list of truth values: one holds, all hold
abbrev pub any : List Bool → Bool
any [] = false
any (b ∷ bs) = b || any bs

abbrev pub all : List Bool → Bool
all [] = true
all (b ∷ bs) = b && all bs

-- whether a label stands before a statement of this body: before one of its own, or in one that it holds
abbrev pub sets_step : (label : ℕ) → Stmt-F Bool → Bool
sets_step l (statement.Put line r e) = false
sets_step l (statement.PutBits line t b r e) = false
sets_step l (statement.Go line d) = false
sets_step l (statement.Call line t args) = false
sets_step l (statement.Answer line e) = false
sets_step l (statement.If line c a b) = a || b
sets_step l (statement.For line item r es s) = s
sets_step l (statement.Seq ss) = any ss
sets_step l (statement.Mark ls s) = has_label l ls || s

abbrev pub sets : (label : ℕ) → Stmt → Bool
sets l = fold-Stmt Bool (sets_step l)

abbrev pub sets_in_procedure : (label : ℕ) → Option Proc → Bool
sets_in_procedure l None = false
sets_in_procedure l (Some q) = sets l q.body

-- whether the procedure at work, as segment and number, is this one
abbrev pub is_at : (segment procedure : ℕ) → Option (ℕ × ℕ) → Bool
is_at h q None = false
is_at h q (Some o) = nat_eq o.0 h && nat_eq o.1 q

-- a label that no procedure owns is the segment's, and is set in its body; another one is set in the body of the procedure at work
abbrev pub reaches_label : SourceUnit → Option Label → (segment label : ℕ) → (at_work : Option (ℕ × ℕ)) → Bool
reaches_label u None h l o = false
reaches_label u (Some m) h l o = elim m.proc [ None ↦ sets l u.body | Some q ↦ is_at h q o && sets_in_procedure l (slice_get u.procs q) ]

abbrev pub reaches_unit : Option SourceUnit → (segment label : ℕ) → (at_work : Option (ℕ × ℕ)) → Bool
reaches_unit None h l o = false
reaches_unit (Some u) h l o = reaches_label u (slice_get u.labels l) h l o

-- ---- kinds of arguments

-- the control parameters of a procedure
abbrev pub controls_in : Option Proc → List Kind
controls_in None = []
controls_in (Some q) = control_kinds (parameter_kinds q)

-- whether there is this procedure, and its parameters take these arguments
abbrev pub takes_arguments : Option Proc → List Kind → Bool
takes_arguments None ks = false
takes_arguments (Some q) ks = same_kinds ks (parameter_kinds q)

-- whether this is a procedure parameter, and takes these arguments
abbrev pub parameter_takes : Option Kind → List Kind → Bool
parameter_takes (Some (ProcedureKind ts)) ks = suits ks ts
parameter_takes _ ks = false

-- an argument is of a kind where its parts are well formed, and a list of arguments has kinds where each has one
abbrev pub kind_if : Bool → Kind → Option Kind
kind_if true k = Some k
kind_if false k = None

abbrev pub kind_and : Option Kind → Option (List Kind) → Option (List Kind)
kind_and (Some k) (Some ks) = Some (k ∷ ks)
kind_and _ _ = None

abbrev pub kinds_of : List (Option Kind) → Option (List Kind)
kinds_of [] = Some []
kinds_of (k ∷ ks) = kind_and k (kinds_of ks)

-- whether there is a control parameter of this number, and it is a label, or a switch
abbrev pub is_label : Option Kind → Bool
is_label (Some LabelKind) = true
is_label _ = false

abbrev pub is_switch : Option Kind → Bool
is_switch (Some SwitchKind) = true
is_switch _ = false

-- ---- conditions and references name nothing themselves, so they are well formed where their parts are

abbrev pub condition_step : Cond-F (Option Kind) Bool Bool Bool Bool → Bool
condition_step (layer.Cmp op a b) = a && b
condition_step (layer.And c d) = c && d
condition_step (layer.Or c d) = c && d

abbrev pub spot_step : Spot-F (Option Kind) Bool Bool Bool Bool → Bool
spot_step (layer.Direct i) = true
spot_step (layer.Through i) = true
spot_step (layer.One i l u e) = e
spot_step (layer.Two i l1 u1 l2 u2 n e g) = e && g
spot_step (layer.ParamArray i e) = e
spot_step (layer.Word i t n e) = e
spot_step (layer.Elem i t w n q e) = e
spot_step (layer.Bare e) = e

abbrev pub reference_step : Ref-F (Option Kind) Bool Bool Bool Bool → Bool
reference_step r = r.at

-- ---- names

module _ (p : Program) where
  -- whether there is this label, and it is set in the body that owns it: that of a segment, which any body reaches, or that of the
  -- procedure at work
  abbrev pub reaches : (at_work : Option (ℕ × ℕ)) → (label : Option (ℕ × ℕ)) → Bool
  reaches o None = false
  reaches o (Some l) = reaches_unit (slice_get p.units l.0) l.0 l.1 o

  abbrev pub reaches_goals : (at_work : Option (ℕ × ℕ)) → (segment : ℕ) → List Goal → Bool
  reaches_goals o h [] = true
  reaches_goals o h (g ∷ gs) = reaches o (label_of_goal p h g) && reaches_goals o h gs

  abbrev pub reaches_list : (at_work : Option (ℕ × ℕ)) → (segment : ℕ) → Option (List Goal) → Bool
  reaches_list o h None = false
  reaches_list o h (Some gs) = reaches_goals o h gs

  -- whether there is this switch, and each of its labels is reached
  abbrev pub reaches_switch : (at_work : Option (ℕ × ℕ)) → (switch : Option (ℕ × ℕ)) → Bool
  reaches_switch o None = false
  reaches_switch o (Some n) = reaches_list o n.0 (switch_in (slice_get p.units n.0) n.1)

  -- the control parameters of the procedure at work
  abbrev pub controls_of : (at_work : Option (ℕ × ℕ)) → List Kind
  controls_of None = []
  controls_of (Some o) = controls_in (procedure_at p o.0 o.1)

  -- a procedure by its segment and number
  abbrev pub procedure_of_place : Option (ℕ × ℕ) → Option Proc
  procedure_of_place None = None
  procedure_of_place (Some q) = procedure_at p q.0 q.1

  -- ---- trees, in a segment and its procedure at work, if any

  module _ (segment : ℕ) (at_work : Option (ℕ × ℕ)) where
    -- a procedure that exists, or a procedure parameter, with arguments as its parameters take them. READBYTE has no argument, and
    -- WRITEBYTE has a word and no answer
    abbrev pub is_call : (wanted : Bool) → Target → Option (List Kind) → Bool
    is_call wanted t None = false
    is_call wanted (target.Own q) (Some ks) = takes_arguments (procedure_at p segment q) ks
    is_call wanted (target.Common d) (Some ks) = takes_arguments (procedure_of_place (procedure_of_def (definition_of p segment d))) ks
    is_call wanted (target.Special k f) (Some ks) = parameter_takes (slice_get (controls_of at_work) k) ks
    is_call wanted target.Read (Some ks) = same_kinds ks []
    is_call wanted target.Write (Some ks) = not wanted && same_kinds ks (WordKind ∷ [])

    -- what an argument is, if it is well formed
    abbrev pub argument_step : Arg-F (Option Kind) Bool Bool Bool Bool → Option Kind
    argument_step (layer.Value e f) = kind_if e WordKind
    argument_step (layer.Place r) = kind_if r WordKind
    argument_step (layer.Array i l) = Some WordKind
    argument_step (layer.Same i) = Some WordKind
    argument_step (layer.Base i) = Some WordKind
    argument_step (layer.Goal g) = kind_if (reaches at_work (label_of_goal p segment g)) LabelKind
    argument_step (layer.Switch n) = kind_if (reaches_switch at_work (Some (segment, n))) SwitchKind
    argument_step (layer.CommonSwitch d) = kind_if (reaches_switch at_work (switch_of_def (definition_of p segment d))) SwitchKind
    argument_step (layer.Proc q) = procedure_kind (procedure_at p segment q)
    argument_step (layer.CommonProc d) = procedure_kind (procedure_of_place (procedure_of_def (definition_of p segment d)))
    argument_step (layer.Special k) = slice_get (controls_of at_work) k

    -- a call asks for an answer; other operators hold where their operands do
    abbrev pub expression_step : Expr-F (Option Kind) Bool Bool Bool Bool → Bool
    expression_step (layer.Num n) = true
    expression_step (layer.Const z) = true
    expression_step (layer.Text i) = true
    expression_step (layer.Read r) = r
    expression_step (layer.Call t args) = is_call true t (kinds_of args)
    expression_step (layer.Force f e) = e
    expression_step (layer.Locate r) = r
    expression_step (layer.Bits t b e) = e
    expression_step (layer.Logic op a b) = a && b
    expression_step (layer.Sum a b) = a && b
    expression_step (layer.Less a b) = a && b
    expression_step (layer.Minus a) = a
    expression_step (layer.Times a b) = a && b
    expression_step (layer.Over a b) = a && b
    expression_step (layer.Choice c a b) = c && (a && b)

    abbrev pub is_expression : Expr → Bool
    is_expression = fold-Expr (Option Kind) Bool Bool Bool Bool argument_step condition_step expression_step spot_step reference_step

    abbrev pub kind_of : Arg → Option Kind
    kind_of = fold-Arg (Option Kind) Bool Bool Bool Bool argument_step condition_step expression_step spot_step reference_step

    abbrev pub is_condition : Cond → Bool
    is_condition = fold-Cond (Option Kind) Bool Bool Bool Bool argument_step condition_step expression_step spot_step reference_step

    abbrev pub is_spot : Spot → Bool
    is_spot = fold-Spot (Option Kind) Bool Bool Bool Bool argument_step condition_step expression_step spot_step reference_step

    abbrev pub is_reference : Ref → Bool
    is_reference = fold-Ref (Option Kind) Bool Bool Bool Bool argument_step condition_step expression_step spot_step reference_step

    abbrev pub is_element : Felem → Bool
    is_element (element.One e) = is_expression e
    is_element (element.While e c) = is_expression e && is_condition c
    is_element (element.Step a b d) = is_expression a && (is_expression b && is_expression d)

    abbrev pub are_elements : List Felem → Bool
    are_elements [] = true
    are_elements (e ∷ es) = is_element e && are_elements es

    -- a jump goes to a label that is reached, or by a switch whose labels all are, or through a parameter of that sort
    abbrev pub is_goal : Dest → Bool
    is_goal (dest.Goal g) = reaches at_work (label_of_goal p segment g)
    is_goal (dest.Special k) = is_label (slice_get (controls_of at_work) k)
    is_goal (dest.Switch n e) = is_expression e && reaches_switch at_work (Some (segment, n))
    is_goal (dest.CommonSwitch d e) = is_expression e && reaches_switch at_work (switch_of_def (definition_of p segment d))
    is_goal (dest.SpecialSwitch k e) = is_expression e && is_switch (slice_get (controls_of at_work) k)

    -- ANSWER stands in procedures only
    abbrev pub statement_step : Stmt-F Bool → Bool
    statement_step (statement.Put line r e) = is_reference r && is_expression e
    statement_step (statement.PutBits line t b r e) = is_reference r && is_expression e
    statement_step (statement.Go line d) = is_goal d
    statement_step (statement.Call line t args) = is_call false t (kinds_of (map kind_of args))
    statement_step (statement.Answer line e) = is_some at_work && is_expression e
    statement_step (statement.If line c a b) = is_condition c && (a && b)
    statement_step (statement.For line item r es s) = is_reference r && (are_elements es && s)
    statement_step (statement.Seq ss) = all ss
    statement_step (statement.Mark ls s) = s

    abbrev pub is_statement : Stmt → Bool
    is_statement = fold-Stmt Bool statement_step

-- the units of a program are well formed
pub record WellFormed (p : Program) : Type 0 where
  -- there is a segment
  pub segments : IsTrue (is_some (slice_get p.units 0))
  -- the body of each segment
  pub bodies : (g : ℕ) (u : SourceUnit) → slice_get p.units g ≡ Some u → IsTrue (is_statement p g None u.body)
  -- and that of each procedure
  pub procedures : (g q : ℕ) (u : SourceUnit) (proc : Proc) → slice_get p.units g ≡ Some u
      → slice_get u.procs q ≡ Some proc → IsTrue (is_statement p g (Some (g, q)) proc.body)

-- ---- the same as a test

module _ (p : Program) where
  abbrev pub are_procedures : (segment procedure : ℕ) → List Proc → Bool
  are_procedures g q [] = true
  are_procedures g q (proc ∷ procs) = is_statement p g (Some (g, q)) proc.body && are_procedures g (suc q) procs

  abbrev pub are_units : (segment : ℕ) → List SourceUnit → Bool
  are_units g [] = true
  are_units g (u ∷ us) = (is_statement p g None u.body && are_procedures g 0 u.procs) && are_units (suc g) us

abbrev pub is_well_formed : Program → Bool
is_well_formed p = is_some (slice_get p.units 0) && are_units p 0 p.units
