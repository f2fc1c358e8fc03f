-- The calls that stand in a statement or an expression, each with the labels, switches and procedures among its arguments, in order of the text.
use Rattle.std.specs.Prelude.{ℕ, List, [], ◌∷◌, ◌++◌}
use Rattle.cw_unit.specs.declared.unit.Stmt.{Stmt, Stmt-F}
use Rattle.cw_unit.specs.declared.unit.Dest.{Dest}
use Rattle.cw_unit.specs.declared.unit.Felem.{Felem}
use Rattle.cw_unit.specs.declared.unit.Target.{Target}
use Rattle.cw_unit.specs.declared.unit.Expr.{Expr, Expr-F}
use Rattle.cw_unit.specs.declared.unit.Arg.{Arg}
use Rattle.cw_unit.specs.declared.unit.Cond.{Cond}
use Rattle.cw_unit.specs.declared.unit.Spot.{Spot}
use Rattle.cw_unit.specs.declared.unit.Ref.{Ref}
use Rattle.cw_unit.specs.declared.unit.Arg.TheOpen as layer
use Rattle.cw_unit.specs.declared.unit.Arg.TheOpen.{Arg-F}
use Rattle.cw_depth.specs.Gathered as gathered
pub use Rattle.cw_depth.specs.Gathered.{joined, condition_step, spot_step, ref_step}

-- an argument that is no word: a label or a switch, a procedure of the unit's own, that of a descriptor, or a control parameter that is
-- handed on
pub data Passed : Type 0 where
  LabelOrSwitch : Passed
  OwnProcedure : (procedure : ℕ) → Passed
  CommonProcedure : (descriptor : ℕ) → Passed
  Parameter : (control : ℕ) → Passed

pub record Call : Type 0 where
  pub target : Target
  pub passed : List Passed

abbrev pub Calls : Type 0
Calls = List Call

-- what an argument passes, and the calls in it
pub record Argument : Type 0 where
  pub passed : List Passed
  pub calls : Calls

abbrev pub passed_by : List Argument → List Passed
passed_by [] = []
passed_by (a ∷ more) = a.passed ++ passed_by more

abbrev pub calls_by : List Argument → Calls
calls_by [] = []
calls_by (a ∷ more) = a.calls ++ calls_by more

abbrev pub of_word : Calls → Argument
of_word cs = record { passed = []; calls = cs }

abbrev pub of_control : Passed → Argument
of_control x = record { passed = x ∷ []; calls = [] }

abbrev pub of_call : Target → List Argument → Calls
of_call t args = record { target = t; passed = passed_by args } ∷ calls_by args

abbrev pub argument_step : Arg-F Argument Calls Calls Calls Calls → Argument
argument_step (layer.Value e f) = of_word e
argument_step (layer.Place r) = of_word r
argument_step (layer.Array i l) = of_word []
argument_step (layer.Same i) = of_word []
argument_step (layer.Base i) = of_word []
argument_step (layer.Goal g) = of_control LabelOrSwitch
argument_step (layer.Switch n) = of_control LabelOrSwitch
argument_step (layer.CommonSwitch d) = of_control LabelOrSwitch
argument_step (layer.Proc q) = of_control (OwnProcedure q)
argument_step (layer.CommonProc d) = of_control (CommonProcedure d)
argument_step (layer.Special k) = of_control (Parameter k)

abbrev pub expression_step : Expr-F Argument Calls Calls Calls Calls → Calls
expression_step = gathered.expression_step argument_step of_call

abbrev pub statement_step : Stmt-F Calls → Calls
statement_step = gathered.statement_step argument_step of_call

abbrev pub in_expression : Expr → Calls
in_expression = gathered.in_expression argument_step of_call

abbrev pub of_argument : Arg → Argument
of_argument = gathered.of_argument argument_step of_call

abbrev pub in_condition : Cond → Calls
in_condition = gathered.in_condition argument_step of_call

abbrev pub in_spot : Spot → Calls
in_spot = gathered.in_spot argument_step of_call

abbrev pub in_reference : Ref → Calls
in_reference = gathered.in_reference argument_step of_call

abbrev pub in_element : Felem → Calls
in_element = gathered.in_element argument_step of_call

abbrev pub in_jump : Dest → Calls
in_jump = gathered.in_jump argument_step of_call

abbrev pub in_statement : Stmt → Calls
in_statement = gathered.in_statement argument_step of_call
