-- What follows a statement in an IF and in a list, where a run may come to its end.
use Rattle.std.proofs.Common.{◌≡◌, ℕ, suc, ◌+◌, ◌≤◌, List, [], ◌∷◌, Bool, true, false, Option, refl, sym, ap, ap₂, ◌∙◌, subst, arith}
use Rattle.std.specs.Prelude.{IsTrue, ◌&&◌, not, if◌then◌else◌}
use Rattle.cw_unit.specs.declared.unit.Stmt.{Stmt}
use Rattle.cw_order.specs.declared.order.Order.{Order}
use Rattle.cw_order.specs.declared.order.Order.TheVariants as order
use Rattle.cw_gen_expr.specs.Pieces.{Piece}
use Rattle.cw_gen_expr.specs.ReferenceExpressions.{Scope, ConditionPiece}
use Rattle.cw_gen_unit.specs.Endings.{is_empty, ends_behind, comes_to_end}
use Rattle.cw_gen_unit.specs.ReferenceStatements.{jump_past, statement_piece}
use Rattle.cw_gen_unit.proofs.Layers.{statement_layer, statement-made, empty-is}
use Rattle.cw_carry.proofs.Expressions.Standing.{Stands, Made, PartedMade}
use Rattle.cw_carry.proofs.Expressions.Carried.{Leads, past, over, wider}

module _ (code : List Order) (marks : List ℕ) (s : Scope) (who : Option ℕ) (answer : ℕ) where
  abbrev piece : Stmt → Piece
  piece = statement_piece s who answer

  -- an empty statement stands nowhere
  empty_stands : (b : Stmt) (q next free last : ℕ) → is_empty b ≡ true → Made code marks (piece b q free) q next free last → q ≡ next
  empty_stands b q next free last e made =
      (subst (λ p. Made code marks (p q free) q next free last) (statement-made s who answer b ∙ ap (statement_layer s who answer) (empty-is b e)) made).0

  -- from the end of the first, where a run may come there, on to the end of the second
  pub past_second : (c : ConditionPiece) (a b : Stmt) (q next free last : ℕ) (at : PartedMade code marks c (jump_past (comes_to_end a) b) (piece a) (piece b) q next free last) (n x : ℕ) (m : Bool) → IsTrue (comes_to_end a) → Leads code marks n at.end false x m → Leads code marks (suc n) at.middle false x m
  past_second c a b q next free last at n x m ends way = by_second (is_empty b) refl
    where
      between_is : (e : Bool) → is_empty b ≡ e → jump_past (comes_to_end a) b free ≡ (if true && not e then (order.Jump free ∷ []) else [])
      between_is e is = ap₂ (λ i j. if i && not j then (order.Jump free ∷ []) else []) ends is

      by_second : (e : Bool) → is_empty b ≡ e → Leads code marks (suc n) at.middle false x m
      by_second false e = over (subst (λ os. Stands code at.middle os at.other) (between_is false e) at.between_made).0 at.end_is refl way
      by_second true e =
          let here : at.middle ≡ at.other = subst (λ os. Stands code at.middle os at.other) (between_is true e) at.between_made in
          let end : at.other + 1 ≡ at.end = at.second_is ∙ empty_stands b at.second at.end at.second_free last e at.second_made in
          subst (λ y. Leads code marks (suc n) y false x m) (sym here)
          (past at.other_marks (subst (λ y. Leads code marks (suc n) y false x m) (sym end) (wider code marks n (suc n) at.end false x m (let z : n ≤ suc n = omega arith in z) way)))

-- ---- lists

-- a run that may come to a statement of a list, and to its end, may come to what stands behind it
pub ends_here : (before : Bool) (s : Stmt) → IsTrue before → IsTrue (comes_to_end s) → IsTrue (ends_behind before s (comes_to_end s))
ends_here before s h e = by_test (is_empty s)
  where
    by_test : (b : Bool) → IsTrue (if b then before else comes_to_end s)
    by_test true = h
    by_test false = e
