-- What is known of a statement by its first layer: its orders, and whether a run may come to its end.
use Rattle.std.proofs.Common.{◌≡◌, ℕ, ◌+◌, List, [], ◌∷◌, map, Bool, true, false, Option, refl, sym, ap, ◌∙◌}
use Rattle.std.specs.Prelude.{not, ◌&&◌, if◌then◌else◌}
use Rattle.std.proofs.lemmas.Bool.{false≢true}
use Rattle.cw_order.specs.declared.order.Order.{Order}
use Rattle.cw_order.specs.declared.order.Order.TheVariants as order
use Rattle.cw_unit.specs.declared.unit.Proc.{Proc}
use Rattle.cw_unit.specs.declared.unit.Stmt.{Stmt, Stmt-F, out-Stmt, roll-Stmt, map-Stmt, fold-Stmt, fold_out-Stmt}
use Rattle.cw_unit.specs.declared.unit.Stmt.TheFolds.{para-roll-Stmt}
use Rattle.cw_unit.specs.declared.unit.Stmt.TheViews.{roll-out-Stmt}
use Rattle.cw_unit.specs.declared.unit.Stmt.TheOpen as statement
use Rattle.cw_gen_expr.specs.Pieces.{Piece, followed_by, sequence}
use Rattle.cw_gen_expr.specs.ReferenceExpressions.{Scope, argument_words}
use Rattle.cw_gen_expr.proofs.Layers.{total}
use Rattle.cw_gen_unit.specs.Endings.{is_no_statement, is_empty, ending_step, comes_to_end}
use Rattle.cw_gen_unit.specs.ReferenceStatements.{jump_past, statement_step, statement_piece}
use Rattle.cw_gen_unit.specs.ReferenceUnits.{leave_orders}

-- ---- orders

module _ (s : Scope) (who : Option ℕ) (answer : ℕ) where
  abbrev piece : Stmt → Piece
  piece = statement_piece s who answer

  abbrev with_orders : Stmt → Stmt × Piece
  with_orders t = (t, piece t)

  abbrev pub statement_layer : Stmt-F Stmt → Piece
  statement_layer (statement.Seq ss) = sequence (map piece ss)
  statement_layer x = statement_step s who answer (map-Stmt Stmt (Stmt × Piece) with_orders x)

  in-list : (ss : List Stmt) → sequence (map (λ t. t.1) (map with_orders ss)) ≡ sequence (map piece ss)
  in-list [] = refl
  in-list (t ∷ ss) = ap (followed_by (piece t)) (in-list ss)

  in-layer : (x : Stmt-F Stmt) → statement_step s who answer (map-Stmt Stmt (Stmt × Piece) with_orders x) ≡ statement_layer x
  in-layer (statement.Put line r e) = refl
  in-layer (statement.PutBits line t b r e) = refl
  in-layer (statement.Go line d) = refl
  in-layer (statement.Call line t args) = refl
  in-layer (statement.Answer line e) = refl
  in-layer (statement.If line c a b) = refl
  in-layer (statement.For line item r es t) = refl
  in-layer (statement.Seq ss) = in-list ss
  in-layer (statement.Mark ls t) = refl

  pub statement-rolled : (x : Stmt-F Stmt) → piece (roll-Stmt x) ≡ statement_layer x
  statement-rolled x = para-roll-Stmt Piece (statement_step s who answer) x ∙ in-layer x

  pub statement-made : (t : Stmt) → piece t ≡ statement_layer (out-Stmt t)
  statement-made t = ap piece (sym (roll-out-Stmt t)) ∙ statement-rolled (out-Stmt t)

-- ---- ends

abbrev pub with_ends : List Stmt → List (Stmt × Bool)
with_ends ss = map (λ t. (t, comes_to_end t)) ss

abbrev pub ending_layer : Stmt-F Stmt → Bool
ending_layer x = ending_step (map-Stmt Stmt (Stmt × Bool) (λ t. (t, comes_to_end t)) x)

pub ending-rolled : (x : Stmt-F Stmt) → comes_to_end (roll-Stmt x) ≡ ending_layer x
ending-rolled x = para-roll-Stmt Bool ending_step x

pub ending-is : (t : Stmt) → comes_to_end t ≡ ending_layer (out-Stmt t)
ending-is t = ap comes_to_end (sym (roll-out-Stmt t)) ∙ ending-rolled (out-Stmt t)

-- ---- orders that are there where a run may come to the end of a statement

-- what holds of the jump past a statement, and of no orders
pub jump-holds : (P : List Order → Type 0) → ((end : ℕ) → P (order.Jump end ∷ [])) → P [] → (ends : Bool) (second : Stmt) (end : ℕ) → P (jump_past ends second end)
jump-holds P h none ends second end = by_test (ends && not (is_empty second))
  where
    by_test : (b : Bool) → P (if b then (order.Jump end ∷ []) else [])
    by_test true = h end
    by_test false = none

-- of the return at the end of a procedure, and of no orders
pub leave-holds : (P : List Order → Type 0) (q : Proc) → P (order.Const 0 ∷ order.Return (argument_words q.params) true ∷ []) → P [] → P (leave_orders q)
leave-holds P q h none = by_test (comes_to_end q.body)
  where
    by_test : (b : Bool) → P (if b then (order.Const 0 ∷ order.Return (argument_words q.params) true ∷ []) else [])
    by_test true = h
    by_test false = none

-- ---- the empty statement

no-statement : (x : Stmt-F Stmt) → is_no_statement x ≡ true → x ≡ statement.Seq []
no-statement (statement.Seq []) h = refl
no-statement x h = absurd (false≢true h)

-- its first layer is the list of none
pub empty-is : (t : Stmt) → is_empty t ≡ true → out-Stmt t ≡ statement.Seq []
empty-is t h = no-statement (out-Stmt t) h

-- ---- its size: how many statements stand in it

abbrev size_step : Stmt-F ℕ → ℕ
size_step (statement.If line c a b) = 1 + (a + b)
size_step (statement.For line item r es a) = 1 + a
size_step (statement.Seq ss) = 1 + total ss
size_step (statement.Mark ls a) = 1 + a
size_step _ = 0

abbrev pub statement_size : Stmt → ℕ
statement_size = fold-Stmt ℕ size_step

abbrev pub size_layer : Stmt-F Stmt → ℕ
size_layer x = size_step (map-Stmt Stmt ℕ statement_size x)

pub statement-size : (x : Stmt) → statement_size x ≡ size_layer (out-Stmt x)
statement-size = fold_out-Stmt ℕ size_step
