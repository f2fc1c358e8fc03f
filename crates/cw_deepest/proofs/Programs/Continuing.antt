-- The work that follows a label of a body is work in that body.
use Rattle.std.proofs.Common.{◌≡◌, ℕ, List, [], ◌∷◌, ◌++◌, map, Bool, true, false, Option, Some, None, refl, sym, subst}
use Rattle.cw_unit.specs.declared.unit.Unit.{Unit as SourceUnit}
use Rattle.cw_unit.specs.declared.unit.Stmt.{Stmt, Stmt-F, roll-Stmt, map-Stmt}
use Rattle.cw_unit.specs.declared.unit.Stmt.TheFolds.{fold-roll-Stmt, ind-Stmt}
use Rattle.cw_unit.specs.declared.unit.Stmt.TheOpen as statement
use Rattle.cw_unit.specs.declared.descriptor.Spec.{Spec}
use Rattle.cw_unit.specs.Work.{Work, Run, On, loop_of, run_all}
use Rattle.cw_unit.specs.LabelContinuation.{label_continuation, list_continuation, first_work, work_if, has_label}
use Rattle.cw_unit.proofs.Continuations.{in-mark, in-loop, in-choice, in-list}
use Rattle.cw_depth.specs.declared.node.Node.{Node}
use Rattle.cw_depth.specs.Mentions as mentions
use Rattle.cw_depth.proofs.Layers.{statement_step, statement_layer}
use Rattle.cw_deepest.specs.Programs.Calls as calls
use Rattle.cw_deepest.specs.Programs.Calls.{Call, Calls}
use Rattle.cw_deepest.proofs.Programs.Typing.{Stand, Typed}
use Rattle.cw_deepest.proofs.Programs.Expanding.{both, all-typed, statement_calls}

abbrev layer_continuation : (label : ℕ) → Stmt-F Stmt → Work → Option Work
layer_continuation l (statement.Put line r e) k = None
layer_continuation l (statement.PutBits line t b r e) k = None
layer_continuation l (statement.Go line d) k = None
layer_continuation l (statement.Call line t args) k = None
layer_continuation l (statement.Answer line e) k = None
layer_continuation l (statement.If line c a b) k = first_work (label_continuation l a k) (label_continuation l b k)
layer_continuation l (statement.For line item r es s) k = label_continuation l s (On (loop_of line item r es s) k)
layer_continuation l (statement.Seq ss) k = list_continuation l ss k
layer_continuation l (statement.Mark ls s) k = work_if (has_label l ls) (Run s k) (label_continuation l s k)

in-layer : (l : ℕ) (x : Stmt-F Stmt) (k : Work) → label_continuation l (roll-Stmt x) k ≡ layer_continuation l x k
unfolding Rattle.cw_unit.specs.declared.unit.Stmt.TheViews.roll-Stmt denote.Hole.Carrier.roll denote.Hole.Carrier.shown denote.Hole.Carrier.hidden
in-layer l (statement.Put line r e) k = refl
in-layer l (statement.PutBits line t b r e) k = refl
in-layer l (statement.Go line d) k = refl
in-layer l (statement.Call line t args) k = refl
in-layer l (statement.Answer line e) k = refl
in-layer l (statement.If line c a b) k = in-choice l line c a b k
in-layer l (statement.For line item r es s) k = in-loop l line item r es s k
in-layer l (statement.Seq ss) k = in-list l ss k
in-layer l (statement.Mark ls s) k = in-mark l ls s k

module _ (us : List SourceUnit) (a : Node) (os : List (Option Spec)) where
  -- work of the body, if there is any
  abbrev pub Continued : Option Work → Type 0
  Continued None = Unit {0}
  Continued (Some v) = Typed us a v os

  first-continued : (v w : Option Work) → Continued v → Continued w → Continued (first_work v w)
  first-continued None w h t = t
  first-continued (Some v) w h t = h

  if-continued : (b : Bool) (v : Work) (w : Option Work) → Typed us a v os → Continued w → Continued (work_if b v w)
  if-continued true v w h t = h
  if-continued false v w h t = t

  abbrev Continues : (label : ℕ) → Stmt → Type 0
  Continues l s = (k : Work) → Stand us a (mentions.in_statement s) (calls.in_statement s) → Typed us a k os → Continued (label_continuation l s k)

  list-continues : (l : ℕ) (ys : List ((s : Stmt) × Continues l s)) (k : Work) → let ss : List Stmt = map (λ y. y.0) ys in Stand us a (mentions.joined (map mentions.in_statement ss)) (calls.joined (map calls.in_statement ss)) → Typed us a k os → Continued (list_continuation l ss k)
  list-continues l [] k h t = tt
  list-continues l (y ∷ ys) k h t =
      let ss : List Stmt = map (λ z. z.0) ys in
      let parts = both us a (mentions.in_statement y.0) (mentions.joined (map mentions.in_statement ss)) (calls.in_statement y.0) (calls.joined (map calls.in_statement ss)) h in
      first-continued (label_continuation l y.0 (run_all ss k)) (list_continuation l ss k) (y.1 (run_all ss k) parts.0 (all-typed us a ss k os parts.1 t))
      (list-continues l ys k parts.1 t)

  layer-continues : (l : ℕ) (y : Stmt-F ((s : Stmt) × Continues l s)) (k : Work) → let x : Stmt-F Stmt = map-Stmt ((s : Stmt) × Continues l s) Stmt (λ z. z.0) y in Stand us a (statement_layer x) (statement_calls x) → Typed us a k os → Continued (layer_continuation l x k)
  layer-continues l (statement.Put line r e) k h t = tt
  layer-continues l (statement.PutBits line n b r e) k h t = tt
  layer-continues l (statement.Go line d) k h t = tt
  layer-continues l (statement.Call line c args) k h t = tt
  layer-continues l (statement.Answer line e) k h t = tt
  layer-continues l (statement.If line c s s') k h t =
      let parts = both us a (mentions.in_condition c) (mentions.in_statement s.0 ++ mentions.in_statement s'.0) (calls.in_condition c) (calls.in_statement s.0 ++ calls.in_statement s'.0) h in
      let sides = both us a (mentions.in_statement s.0) (mentions.in_statement s'.0) (calls.in_statement s.0) (calls.in_statement s'.0) parts.1 in
      first-continued (label_continuation l s.0 k) (label_continuation l s'.0 k) (s.1 k sides.0 t) (s'.1 k sides.1 t)
  layer-continues l (statement.For line item r es s) k h t =
      let parts = both us a (mentions.in_reference r) (mentions.joined (map mentions.in_element es) ++ mentions.in_statement s.0) (calls.in_reference r) (calls.joined (map calls.in_element es) ++ calls.in_statement s.0) h in
      let rest = both us a (mentions.joined (map mentions.in_element es)) (mentions.in_statement s.0) (calls.joined (map calls.in_element es)) (calls.in_statement s.0) parts.1 in
      s.1 (On (loop_of line item r es s.0) k) rest.1 (rest, t)
  layer-continues l (statement.Seq ss) k h t = list-continues l ss k h t
  layer-continues l (statement.Mark ls s) k h t =
      if-continued (has_label l ls) (Run s.0 k) (label_continuation l s.0 k) (h, t) (s.1 k h t)

  pub continues : (l : ℕ) (s : Stmt) → Continues l s
  continues l = ind-Stmt (Continues l)
      (λ x y is k h t.
      let ms : mentions.in_statement (roll-Stmt x) ≡ statement_layer x = fold-roll-Stmt mentions.Mentions statement_step x in
      let cs : calls.in_statement (roll-Stmt x) ≡ statement_calls x = fold-roll-Stmt Calls calls.statement_step x in
      let h' : Stand us a (statement_layer x) (statement_calls x) = subst (λ z. Stand us a z (statement_calls x)) ms (subst (Stand us a (mentions.in_statement (roll-Stmt x))) cs h) in
      let r = subst (λ z. Stand us a (statement_layer z) (statement_calls z) → Continued (layer_continuation l z k)) is (λ g. layer-continues l y k g t) h' in
      subst Continued (sym (in-layer l x k)) r)
