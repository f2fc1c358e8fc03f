-- That the segments of the examples are well formed is computed.
use Rattle.std.proofs.Common.{◌≡◌, IsTrue, false, refl, map, replicate, [], ◌∷◌}
use Rattle.cw_unit.specs.declared.unit.Arg.TheFolds.{fold-roll-Expr, fold-roll-Ref, fold-roll-Arg, fold-roll-Spot, fold-roll-Cond}
use Rattle.cw_unit.specs.declared.unit.Stmt.TheFolds.{fold-roll-Stmt}
use Rattle.cw_checks_meaning.specs.WellFormed.{well_formed, are_well_formed, not_well_formed}
use Rattle.cw_checks_meaning.specs.Examples.{result_of, wanted_of, expressions, addresses, control, procedures, several_segments, frame_area_full, calls_300, filter_and_control}
use Rattle.cw_checks_meaning.specs.MoreExamples.{more_examples}
use Rattle.cw_unit.specs.declared.unit.Stmt.{Stmt, roll-Stmt}
use Rattle.cw_unit.specs.declared.unit.Expr.{roll-Expr}
use Rattle.cw_unit.specs.declared.unit.Arg.{Arg}
use Rattle.cw_unit.specs.declared.unit.Spot.{roll-Spot}

pub expressions-formed : IsTrue (are_well_formed expressions)
expressions-formed = simp (fold-roll-Expr, fold-roll-Ref, fold-roll-Arg, fold-roll-Spot, fold-roll-Stmt) refl

pub addresses-formed : IsTrue (are_well_formed addresses)
addresses-formed = simp (fold-roll-Expr, fold-roll-Ref, fold-roll-Arg, fold-roll-Spot, fold-roll-Stmt) refl

pub control-formed : IsTrue (are_well_formed control)
control-formed = simp (fold-roll-Expr, fold-roll-Ref, fold-roll-Arg, fold-roll-Spot, fold-roll-Cond, fold-roll-Stmt) refl

pub procedures-formed : IsTrue (are_well_formed procedures)
procedures-formed = simp (fold-roll-Expr, fold-roll-Ref, fold-roll-Arg, fold-roll-Spot, fold-roll-Cond, fold-roll-Stmt) refl

pub segments-formed : IsTrue (are_well_formed several_segments)
segments-formed = simp (fold-roll-Expr, fold-roll-Ref, fold-roll-Arg, fold-roll-Spot, fold-roll-Stmt) refl

pub more-formed : IsTrue (are_well_formed more_examples)
more-formed = simp (fold-roll-Expr, fold-roll-Ref, fold-roll-Arg, fold-roll-Spot, fold-roll-Stmt) refl

pub frames-formed : IsTrue (are_well_formed (frame_area_full ∷ []))
frames-formed = simp (fold-roll-Expr, fold-roll-Ref, fold-roll-Arg, fold-roll-Spot, fold-roll-Cond, fold-roll-Stmt) refl

pub calls-formed : IsTrue (are_well_formed (calls_300 ∷ []))
calls-formed = simp (fold-roll-Expr, fold-roll-Ref, fold-roll-Arg, fold-roll-Spot, fold-roll-Cond, fold-roll-Stmt) refl

pub filter-formed : IsTrue (are_well_formed (filter_and_control ∷ []))
filter-formed = simp (fold-roll-Expr, fold-roll-Ref, fold-roll-Arg, fold-roll-Spot, fold-roll-Cond, fold-roll-Stmt) refl

pub refused-formed : map well_formed not_well_formed ≡ replicate 5 false
refused-formed = simp (fold-roll-Expr, fold-roll-Ref, fold-roll-Arg, fold-roll-Spot, fold-roll-Stmt) refl

pub stuck-run : map result_of not_well_formed ≡ map wanted_of not_well_formed
unfolding Rattle.cw_unit.specs.declared.unit.Stmt.TheViews.out-Stmt denote.Hole.Carrier.out Rattle.cw_unit.specs.declared.unit.Stmt.TheViews.roll-Stmt denote.Hole.Carrier.roll Rattle.cw_unit.specs.declared.unit.Stmt.TheBlock.shown-the_row-Stmt-1 denote.Hole.Carrier.shown denote.Hole.Carrier.hidden Rattle.cw_unit.specs.declared.unit.Arg.TheViews.out-Expr Rattle.cw_unit.specs.declared.unit.Arg.TheViews.roll-Expr Rattle.cw_unit.specs.declared.unit.Arg.TheViews.out-Arg Rattle.cw_unit.specs.declared.unit.Arg.TheViews.roll-Arg Rattle.cw_unit.specs.declared.unit.Arg.TheViews.out-Spot Rattle.cw_unit.specs.declared.unit.Arg.TheViews.roll-Spot Rattle.cw_unit.specs.declared.unit.Arg.TheBlock.shown-the_row-Expr-3
stuck-run = refl
