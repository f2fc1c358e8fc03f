-- The work that follows a label is well typed, and there is such work where the label is set.
use Rattle.std.proofs.Common.{◌≡◌, ℕ, ◌≤◌, List, [], ◌∷◌, map, Bool, true, false, IsTrue, ◌&&◌, ◌||◌, Option, Some, None, refl, sym, ap, subst, ◌∙◌, arith}
use Rattle.cw_unit.specs.declared.unit.Stmt.{Stmt, Stmt-F, roll-Stmt, map-Stmt, items_hidden-the_row-Stmt-1}
use Rattle.cw_unit.specs.declared.unit.Stmt.TheBlock.{hidden-the_row-Stmt-1}
use Rattle.cw_unit.specs.declared.unit.Stmt.TheFolds.{fold-roll-Stmt, ind-Stmt}
use Rattle.cw_unit.specs.declared.unit.Stmt.TheOpen as statement
use Rattle.cw_unit.specs.Program.{Program}
use Rattle.cw_unit.specs.Work.{Work, Run, On, loop_of, run_all}
use Rattle.cw_unit.specs.LabelContinuation.{label_continuation, row_continuation, list_continuation, first_work, work_if, has_label}
use Rattle.cw_unit.specs.StackBound as bound
use Rattle.cw_unit.specs.StackBound.{body_depth}
use Rattle.cw_unit.proofs.Continuations.{in-row}
use Rattle.cw_safety.specs.WellFormed as formed
use Rattle.cw_safety.specs.WellFormed.{is_condition, is_reference, are_elements, is_statement, sets, sets_step}
use Rattle.cw_safety.proofs.Truth.{no, both}
use Rattle.cw_safety.proofs.Typing.{Typed}
use Rattle.cw_safety.proofs.Expanding.{all-typed}

abbrev layer_continuation : (label : ℕ) → Stmt-F Stmt → Work → Option Work
layer_continuation l (statement.If line c a b) k = first_work (first_work (label_continuation l a k) None) (first_work (label_continuation l b k) None)
layer_continuation l (statement.For line item r es s) k = label_continuation l s (On (loop_of line item r es s) k)
layer_continuation l (statement.Seq ss) k = list_continuation l ss k
layer_continuation l (statement.Mark ls s) k = work_if (has_label l ls) (Run s k) (label_continuation l s k)
layer_continuation l _ k = None

in-hidden : (l : ℕ) (ss : List Stmt) (k : Work) → label_continuation l (roll-Stmt (statement.Seq ss)) k ≡ row_continuation l (hidden-the_row-Stmt-1 ss) k
unfolding Rattle.cw_unit.specs.declared.unit.Stmt.TheViews.roll-Stmt denote.Hole.Carrier.roll denote.Hole.Carrier.shown denote.Hole.Carrier.hidden
in-hidden l ss k = refl

in-list : (l : ℕ) (ss : List Stmt) (k : Work) → label_continuation l (roll-Stmt (statement.Seq ss)) k ≡ list_continuation l ss k
in-list l ss k = in-hidden l ss k ∙ in-row l (hidden-the_row-Stmt-1 ss) k ∙ ap (λ xs. list_continuation l xs k) (items_hidden-the_row-Stmt-1 ss)

in-layer : (l : ℕ) (x : Stmt-F Stmt) (k : Work) → label_continuation l (roll-Stmt x) k ≡ layer_continuation l x k
unfolding Rattle.cw_unit.specs.declared.unit.Stmt.TheViews.roll-Stmt denote.Hole.Carrier.roll denote.Hole.Carrier.shown denote.Hole.Carrier.hidden Rattle.cw_unit.specs.declared.unit.Stmt.TheBlock.hidden-the_row-Stmt-0
in-layer l (statement.Seq ss) k = in-list l ss k
in-layer l _ k = refl

either : {A : Type 0} (a b : Bool) → IsTrue (a || b) → (IsTrue a → A) → (IsTrue b → A) → A
either true b h f g = f refl
either false b h f g = g h

module _ (p : Program) (g : ℕ) (o : Option (ℕ × ℕ)) (h : ℕ) where
  -- work that is well typed; none only where the label is not set
  abbrev pub Reached : (set : Bool) → Option Work → Type 0
  Reached b None = IsTrue b → ⊥
  Reached b (Some v) = Typed p g o h v []

  first-reached : (a b : Bool) (v w : Option Work) → Reached a v → Reached b w → Reached (a || b) (first_work v w)
  first-reached a b (Some v) w r s = r
  first-reached a b None (Some w) r s = s
  first-reached a b None None r s = λ e. either a b e r s

  alone-reached : (a : Bool) (v : Option Work) → Reached a v → Reached a (first_work v None)
  alone-reached a (Some v) r = r
  alone-reached a None r = r

  if-reached : (a b : Bool) (v : Work) (w : Option Work) → Typed p g o h v [] → Reached b w → Reached (a || b) (work_if a v w)
  if-reached true b v w r s = r
  if-reached false b v (Some w) r s = s
  if-reached false b v None r s = s

  abbrev Continues : (label : ℕ) → Stmt → Type 0
  Continues l s = (k : Work) → IsTrue (is_statement p g o s) → body_depth s ≤ h → Typed p g o h k [] → Reached (sets l s) (label_continuation l s k)

  list-continues : (l : ℕ) (ys : List ((s : Stmt) × Continues l s)) (k : Work) → IsTrue (formed.all (map (is_statement p g o) (map (λ y. y.0) ys))) → bound.largest (map body_depth (map (λ y. y.0) ys)) ≤ h → Typed p g o h k [] → Reached (formed.any (map (sets l) (map (λ y. y.0) ys))) (list_continuation l (map (λ y. y.0) ys) k)
  list-continues l [] k e d t = λ x. no x
  list-continues l (y ∷ ys) k e d t =
      let ss : List Stmt = map (λ z. z.0) ys in
      let parts = both (is_statement p g o y.0) (formed.all (map (is_statement p g o) ss)) e in
      first-reached (sets l y.0) (formed.any (map (sets l) ss)) (label_continuation l y.0 (run_all ss k)) (list_continuation l ss k)
      (y.1 (run_all ss k) parts.0 (omega (arith, d)) (all-typed p g o h ss k parts.1 (omega (arith, d)) t))
      (list-continues l ys k parts.1 (omega (arith, d)) t)

  layer-continues : (l : ℕ) (y : Stmt-F ((s : Stmt) × Continues l s)) (k : Work) → let x : Stmt-F Stmt = map-Stmt ((s : Stmt) × Continues l s) Stmt (λ z. z.0) y in IsTrue (formed.statement_step p g o (map-Stmt Stmt Bool (is_statement p g o) x)) → bound.statement_step (map-Stmt Stmt ℕ body_depth x) ≤ h → Typed p g o h k [] → Reached (sets_step l (map-Stmt Stmt Bool (sets l) x)) (layer_continuation l x k)
  layer-continues l (statement.Put line r a) k e d t = λ x. no x
  layer-continues l (statement.PutBits line n b r a) k e d t = λ x. no x
  layer-continues l (statement.Go line m) k e d t = λ x. no x
  layer-continues l (statement.Call line c args) k e d t = λ x. no x
  layer-continues l (statement.Answer line a) k e d t = λ x. no x
  layer-continues l (statement.If line c a b) k e d t =
      let parts = both (is_condition p g o c) (is_statement p g o a.0 && is_statement p g o b.0) e in
      let sides = both (is_statement p g o a.0) (is_statement p g o b.0) parts.1 in
      first-reached (sets l a.0) (sets l b.0) (first_work (label_continuation l a.0 k) None) (first_work (label_continuation l b.0 k) None)
      (alone-reached (sets l a.0) (label_continuation l a.0 k) (a.1 k sides.0 (omega (arith, d)) t))
      (alone-reached (sets l b.0) (label_continuation l b.0 k) (b.1 k sides.1 (omega (arith, d)) t))
  layer-continues l (statement.For line item r es s) k e d t =
      let parts = both (is_reference p g o r) (are_elements p g o es && is_statement p g o s.0) e in
      let rest = both (are_elements p g o es) (is_statement p g o s.0) parts.1 in
      s.1 (On (loop_of line item r es s.0) k) rest.1 (omega (arith, d)) (refl, (rest.0, omega (arith, d), rest.1, omega (arith, d)), t)
  layer-continues l (statement.Seq ss) k e d t = list-continues l ss k e d t
  layer-continues l (statement.Mark ls s) k e d t =
      if-reached (has_label l ls) (sets l s.0) (Run s.0 k) (label_continuation l s.0 k) (refl, e, d, t) (s.1 k e d t)

  pub continues : (l : ℕ) (s : Stmt) → Continues l s
  continues l = ind-Stmt (Continues l)
      (λ x y is k e d t.
      let e' = subst IsTrue (fold-roll-Stmt Bool (formed.statement_step p g o) x) e in
      let d' = subst (λ n. n ≤ h) (fold-roll-Stmt ℕ bound.statement_step x) d in
      let r = subst (λ z. IsTrue (formed.statement_step p g o (map-Stmt Stmt Bool (is_statement p g o) z)) → bound.statement_step (map-Stmt Stmt ℕ body_depth z) ≤ h → Reached (sets_step l (map-Stmt Stmt Bool (sets l) z)) (layer_continuation l z k)) is (λ a b. layer-continues l y k a b t) e' d' in
      subst (λ b. Reached b (label_continuation l (roll-Stmt x) k)) (sym (fold-roll-Stmt Bool (sets_step l) x))
      (subst (Reached (sets_step l (map-Stmt Stmt Bool (sets l) x))) (sym (in-layer l x k)) r))
