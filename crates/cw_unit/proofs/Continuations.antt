-- The continuation of a label in each kind of statement.
use Rattle.std.proofs.Common.{◌≡◌, ℕ, List, Option, Some, None, refl, ap, ap₂, ◌∙◌}
use Rattle.cw_unit.specs.declared.unit.Stmt.{Stmt, Row_of-Stmt, end_of-Stmt, more_of-Stmt, items-the_row-Stmt, items_hidden-the_row-Stmt-1}
use Rattle.cw_unit.specs.declared.unit.Stmt.TheBlock.{hidden-the_row-Stmt-1}
use Rattle.cw_unit.specs.declared.unit.Stmt.TheVariants as stmt
use Rattle.cw_unit.specs.declared.unit.Cond.{Cond}
use Rattle.cw_unit.specs.declared.unit.Ref.{Ref}
use Rattle.cw_unit.specs.declared.unit.Felem.{Felem}
use Rattle.cw_unit.specs.Work.{Work, Run, On, loop_of, run_all}
use Rattle.cw_unit.specs.LabelContinuation.{label_continuation, row_continuation, run_row, list_continuation, first_work, work_if, has_label}

first-alone : (w : Option Work) → first_work w None ≡ w
first-alone None = refl
first-alone (Some v) = refl

pub in-mark : (l : ℕ) (ls : List ℕ) (s : Stmt) (k : Work) → label_continuation l (stmt.Mark ls s) k ≡ work_if (has_label l ls) (Run s k) (label_continuation l s k)
unfolding Rattle.cw_unit.specs.declared.unit.Stmt.TheViews.roll-Stmt denote.Hole.Carrier.roll denote.Hole.Carrier.shown denote.Hole.Carrier.hidden Rattle.cw_unit.specs.declared.unit.Stmt.TheBlock.hidden-the_row-Stmt-0
in-mark l ls s k = refl

pub in-loop : (l line item : ℕ) (r : Ref) (es : List Felem) (s : Stmt) (k : Work) → label_continuation l (stmt.For line item r es s) k ≡ label_continuation l s (On (loop_of line item r es s) k)
unfolding Rattle.cw_unit.specs.declared.unit.Stmt.TheViews.roll-Stmt denote.Hole.Carrier.roll denote.Hole.Carrier.shown denote.Hole.Carrier.hidden Rattle.cw_unit.specs.declared.unit.Stmt.TheBlock.hidden-the_row-Stmt-0
in-loop l line item r es s k = refl

in-branches : (l line : ℕ) (c : Cond) (a b : Stmt) (k : Work) → label_continuation l (stmt.If line c a b) k ≡ first_work (first_work (label_continuation l a k) None) (first_work (label_continuation l b k) None)
unfolding Rattle.cw_unit.specs.declared.unit.Stmt.TheViews.roll-Stmt denote.Hole.Carrier.roll denote.Hole.Carrier.shown denote.Hole.Carrier.hidden Rattle.cw_unit.specs.declared.unit.Stmt.TheBlock.hidden-the_row-Stmt-0
in-branches l line c a b k = refl

pub in-choice : (l line : ℕ) (c : Cond) (a b : Stmt) (k : Work) → label_continuation l (stmt.If line c a b) k ≡ first_work (label_continuation l a k) (label_continuation l b k)
in-choice l line c a b k = in-branches l line c a b k ∙ ap₂ first_work (first-alone (label_continuation l a k)) (first-alone (label_continuation l b k))

run-row : {m : _} (ss : Row_of-Stmt m) (k : Work) → run_row ss k ≡ run_all (items-the_row-Stmt m ss) k
run-row end_of-Stmt k = refl
run-row (more_of-Stmt s ss) k = ap (Run s) (run-row ss k)

pub in-row : {m : _} (l : ℕ) (ss : Row_of-Stmt m) (k : Work) → row_continuation l ss k ≡ list_continuation l (items-the_row-Stmt m ss) k
in-row l end_of-Stmt k = refl
in-row l (more_of-Stmt s ss) k = ap₂ first_work (ap (label_continuation l s) (run-row ss k)) (in-row l ss k)

in-hidden : (l : ℕ) (ss : List Stmt) (k : Work) → label_continuation l (stmt.Seq ss) k ≡ row_continuation l (hidden-the_row-Stmt-1 ss) k
unfolding Rattle.cw_unit.specs.declared.unit.Stmt.TheViews.roll-Stmt denote.Hole.Carrier.roll denote.Hole.Carrier.shown denote.Hole.Carrier.hidden
in-hidden l ss k = refl

pub in-list : (l : ℕ) (ss : List Stmt) (k : Work) → label_continuation l (stmt.Seq ss) k ≡ list_continuation l ss k
in-list l ss k = in-hidden l ss k ∙ in-row l (hidden-the_row-Stmt-1 ss) k ∙ ap (λ xs. list_continuation l xs k) (items_hidden-the_row-Stmt-1 ss)
