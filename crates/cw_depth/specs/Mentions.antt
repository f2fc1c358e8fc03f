-- The calls and the procedures as arguments that stand in a statement or an expression, in order of the text. READBYTE and WRITEBYTE are no calls.
use Rattle.std.specs.Prelude.{List, [], ◌∷◌, ◌++◌}
use Rattle.cw_unit.specs.declared.unit.Stmt.{Stmt}
use Rattle.cw_unit.specs.declared.unit.Dest.{Dest}
use Rattle.cw_unit.specs.declared.unit.Felem.{Felem}
use Rattle.cw_unit.specs.declared.unit.Target.{Target}
use Rattle.cw_unit.specs.declared.unit.Target.TheVariants as target
use Rattle.cw_unit.specs.declared.unit.Expr.{Expr}
use Rattle.cw_unit.specs.declared.unit.Arg.{Arg}
use Rattle.cw_unit.specs.declared.unit.Cond.{Cond}
use Rattle.cw_unit.specs.declared.unit.Spot.{Spot}
use Rattle.cw_unit.specs.declared.unit.Ref.{Ref}
use Rattle.cw_unit.specs.declared.unit.Arg.TheOpen as layer
use Rattle.cw_unit.specs.declared.unit.Arg.TheOpen.{Arg-F}
use Rattle.cw_depth.specs.declared.mention.Mention.{Mention}
use Rattle.cw_depth.specs.declared.mention.Mention.TheVariants as mention
use Rattle.cw_depth.specs.Gathered as gathered
pub use Rattle.cw_depth.specs.Gathered.{joined}

abbrev pub Mentions : Type 0
Mentions = List Mention

-- a call
abbrev pub called : Target → Mentions
called (target.Own q) = mention.Own q ∷ []
called (target.Common d) = mention.Common d ∷ []
called (target.Special k f) = mention.Parameter k ∷ []
called target.Read = []
called target.Write = []

abbrev pub argument_step : Arg-F Mentions Mentions Mentions Mentions Mentions → Mentions
argument_step (layer.Value e f) = e
argument_step (layer.Place r) = r
argument_step (layer.Array i l) = []
argument_step (layer.Same i) = []
argument_step (layer.Base i) = []
argument_step (layer.Goal g) = []
argument_step (layer.Switch n) = []
argument_step (layer.CommonSwitch d) = []
argument_step (layer.Proc q) = mention.HandedOwn q ∷ []
argument_step (layer.CommonProc d) = mention.HandedCommon d ∷ []
argument_step (layer.Special k) = []

-- a call, and what stands in its arguments
abbrev pub of_call : Target → List Mentions → Mentions
of_call t args = called t ++ joined args

abbrev pub in_expression : Expr → Mentions
in_expression = gathered.in_expression argument_step of_call

abbrev pub in_argument : Arg → Mentions
in_argument = gathered.of_argument argument_step of_call

abbrev pub in_condition : Cond → Mentions
in_condition = gathered.in_condition argument_step of_call

abbrev pub in_spot : Spot → Mentions
in_spot = gathered.in_spot argument_step of_call

abbrev pub in_reference : Ref → Mentions
in_reference = gathered.in_reference argument_step of_call

abbrev pub in_element : Felem → Mentions
in_element = gathered.in_element argument_step of_call

abbrev pub in_jump : Dest → Mentions
in_jump = gathered.in_jump argument_step of_call

abbrev pub in_statement : Stmt → Mentions
in_statement = gathered.in_statement argument_step of_call
