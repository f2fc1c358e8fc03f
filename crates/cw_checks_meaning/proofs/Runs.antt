-- The examples are computed: the trees open, and everything else is a definition that computes.
use Rattle.std.specs.Prelude.{◌≡◌, refl, map}
use Rattle.cw_unit.specs.declared.unit.Stmt.{Stmt, roll-Stmt}
use Rattle.cw_unit.specs.declared.unit.Expr.{roll-Expr}
use Rattle.cw_unit.specs.declared.unit.Arg.{Arg}
use Rattle.cw_unit.specs.declared.unit.Spot.{roll-Spot}
use Rattle.cw_checks_meaning.specs.MoreExamples.{more_examples}
use Rattle.cw_checks_meaning.specs.Examples.{result_of, wanted_of, before_of, running_of, expressions, addresses, control, procedures, frame_area_full, several_segments, counted}

-- what is said of each group of examples
pub record AllRun : Type 0 where
  pub of_expressions : map result_of expressions ≡ map wanted_of expressions
  pub of_addresses : map result_of addresses ≡ map wanted_of addresses
  pub of_control : map result_of control ≡ map wanted_of control
  pub of_procedures : map result_of procedures ≡ map wanted_of procedures
  pub of_frames : result_of frame_area_full ≡ wanted_of frame_area_full
  pub of_segments : map result_of several_segments ≡ map wanted_of several_segments
  pub of_counted : map before_of counted ≡ map running_of counted
  pub of_more : map result_of more_examples ≡ map wanted_of more_examples

pub all-run : AllRun
unfolding Rattle.cw_unit.specs.declared.unit.Stmt.TheViews.out-Stmt denote.Hole.Carrier.out Rattle.cw_unit.specs.declared.unit.Stmt.TheViews.roll-Stmt denote.Hole.Carrier.roll Rattle.cw_unit.specs.declared.unit.Stmt.TheBlock.shown-the_row-Stmt-1 denote.Hole.Carrier.shown denote.Hole.Carrier.hidden Rattle.cw_unit.specs.declared.unit.Arg.TheViews.out-Expr Rattle.cw_unit.specs.declared.unit.Arg.TheViews.roll-Expr Rattle.cw_unit.specs.declared.unit.Arg.TheViews.out-Arg Rattle.cw_unit.specs.declared.unit.Arg.TheViews.roll-Arg Rattle.cw_unit.specs.declared.unit.Arg.TheViews.out-Spot Rattle.cw_unit.specs.declared.unit.Arg.TheViews.roll-Spot Rattle.cw_unit.specs.declared.unit.Arg.TheViews.out-Cond Rattle.cw_unit.specs.declared.unit.Arg.TheViews.roll-Cond Rattle.cw_unit.specs.declared.unit.Arg.TheBlock.shown-the_row-Expr-3
all-run = record { of_expressions = refl; of_addresses = refl; of_control = refl; of_procedures = refl; of_frames = refl; of_segments = refl; of_counted = refl; of_more = refl }
