-- The long examples are computed.
use Rattle.std.specs.Prelude.{◌≡◌, refl}
use Rattle.cw_unit.specs.declared.unit.Stmt.{Stmt, roll-Stmt}
use Rattle.cw_unit.specs.declared.unit.Expr.{roll-Expr}
use Rattle.cw_unit.specs.declared.unit.Arg.{Arg}
use Rattle.cw_unit.specs.declared.unit.Spot.{roll-Spot}
use Rattle.cw_checks_meaning.specs.Examples.{result_of, wanted_of, calls_300, filter_and_control}

pub calls-run : result_of calls_300 ≡ wanted_of calls_300
unfolding Rattle.cw_unit.specs.declared.unit.Stmt.TheViews.out-Stmt denote.Hole.Carrier.out Rattle.cw_unit.specs.declared.unit.Stmt.TheViews.roll-Stmt denote.Hole.Carrier.roll Rattle.cw_unit.specs.declared.unit.Stmt.TheBlock.shown-the_row-Stmt-1 denote.Hole.Carrier.shown denote.Hole.Carrier.hidden Rattle.cw_unit.specs.declared.unit.Arg.TheViews.out-Expr Rattle.cw_unit.specs.declared.unit.Arg.TheViews.roll-Expr Rattle.cw_unit.specs.declared.unit.Arg.TheViews.out-Arg Rattle.cw_unit.specs.declared.unit.Arg.TheViews.roll-Arg Rattle.cw_unit.specs.declared.unit.Arg.TheViews.out-Spot Rattle.cw_unit.specs.declared.unit.Arg.TheViews.roll-Spot Rattle.cw_unit.specs.declared.unit.Arg.TheViews.out-Cond Rattle.cw_unit.specs.declared.unit.Arg.TheViews.roll-Cond Rattle.cw_unit.specs.declared.unit.Arg.TheBlock.shown-the_row-Expr-3
calls-run = refl

pub filter-run : result_of filter_and_control ≡ wanted_of filter_and_control
unfolding Rattle.cw_unit.specs.declared.unit.Stmt.TheViews.out-Stmt denote.Hole.Carrier.out Rattle.cw_unit.specs.declared.unit.Stmt.TheViews.roll-Stmt denote.Hole.Carrier.roll Rattle.cw_unit.specs.declared.unit.Stmt.TheBlock.shown-the_row-Stmt-1 denote.Hole.Carrier.shown denote.Hole.Carrier.hidden Rattle.cw_unit.specs.declared.unit.Arg.TheViews.out-Expr Rattle.cw_unit.specs.declared.unit.Arg.TheViews.roll-Expr Rattle.cw_unit.specs.declared.unit.Arg.TheViews.out-Arg Rattle.cw_unit.specs.declared.unit.Arg.TheViews.roll-Arg Rattle.cw_unit.specs.declared.unit.Arg.TheViews.out-Spot Rattle.cw_unit.specs.declared.unit.Arg.TheViews.roll-Spot Rattle.cw_unit.specs.declared.unit.Arg.TheViews.out-Cond Rattle.cw_unit.specs.declared.unit.Arg.TheViews.roll-Cond Rattle.cw_unit.specs.declared.unit.Arg.TheBlock.shown-the_row-Expr-3
filter-run = refl
