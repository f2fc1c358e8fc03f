-- The orders of statements whose numbers are in range have code, and their marks and labels stand at places of marks.
use Rattle.std.proofs.Common.{◌≡◌, ℕ, zero, suc, ◌+◌, ◌<◌, ◌≤◌, nat_lt, ℤ, pos, negsuc, if◌then◌else◌, List, [], ◌∷◌, ◌++◌, map, length, Bool, true, false, IsTrue, ◌&&◌, Option, Some, None, slice_get, refl, sym, ap, subst, arith}
use Rattle.std.specs.List.{list_all}
use Rattle.cw_order.specs.declared.order.Order.{Order}
use Rattle.cw_order.specs.declared.order.Order.TheVariants as order
use Rattle.cw_order.specs.declared.order.Comparator.TheVariants as comparator
use Rattle.cw_word.specs.Word.{unsigned}
use Rattle.cw_unit.specs.Operation.{is_past}
use Rattle.cw_unit.specs.declared.layout.Layout.{Layout}
use Rattle.cw_unit.specs.declared.unit.Unit.{Unit as SourceUnit}
use Rattle.cw_unit.specs.declared.unit.Label.{Label}
use Rattle.cw_unit.specs.declared.unit.Goal.{Goal}
use Rattle.cw_unit.specs.declared.unit.Goal.TheVariants as goal
use Rattle.cw_unit.specs.declared.unit.Dest.{Dest}
use Rattle.cw_unit.specs.declared.unit.Dest.TheVariants as dest
use Rattle.cw_unit.specs.declared.unit.Target.{Target}
use Rattle.cw_unit.specs.declared.unit.Target.TheVariants as target
use Rattle.cw_unit.specs.declared.unit.Felem.{Felem}
use Rattle.cw_unit.specs.declared.unit.Felem.TheVariants as element
use Rattle.cw_unit.specs.declared.unit.Expr.{Expr}
use Rattle.cw_unit.specs.declared.unit.Cond.{Cond}
use Rattle.cw_unit.specs.declared.unit.Ref.{Ref, out-Ref}
use Rattle.cw_unit.specs.declared.unit.Stmt.{Stmt, Stmt-F, out-Stmt, map-Stmt, fold_out-Stmt}
use Rattle.cw_unit.specs.declared.unit.Stmt.TheOpen as statement
use Rattle.cw_gen_expr.specs.Pieces.{Piece, plain, followed_by, sequence, with_end}
use Rattle.cw_gen_expr.specs.ReferenceExpressions.{Scope, at_line, argument_words, control_place, item_order, store_orders, number_order, call_order, condition_piece, expression_piece}
use Rattle.cw_gen_expr.specs.UnitTables.{label_mark}
use Rattle.cw_gen_expr.proofs.Layers.{total}
use Rattle.cw_gen_unit.specs.Endings.{comes_to_end}
use Rattle.cw_gen_unit.proofs.Layers.{statement_layer, statement-made, statement_size, size_layer, statement-size, jump-holds}
use Rattle.cw_gen_unit.proofs.SwitchMarks.{few-marks}
use Rattle.cw_gen_unit.specs.ReferenceStatements.{begin_orders, after_statement_call, from_procedure, own_order, goal_order, owned_marks, switch_order, jump_piece, with_middle, keep_orders, number_orders, set_orders, bump_orders, turn_piece, while_values, step_values, element_piece, elements_piece, element_ways, ring_piece, loop_place, value_orders, limit_orders, past_orders, turn_orders, simple_orders, simple_beginning, first_turn, stepped_piece, begun_loop, jump_past, statement_piece}
use Rattle.cw_gen_unit.specs.declared.simple.Simple.{Simple}
use Rattle.cw_gen_unit.specs.declared.simple.Simple.TheVariants as simple
use Rattle.cw_gen_unit.specs.declared.simple.SimpleStep.{SimpleStep}
use Rattle.cw_gen_unit.specs.SimpleLoops.{simple_step}
use Rattle.cw_built.specs.Coded.{is_part, has_code}
use Rattle.cw_writable.specs.Coded.RangedExpressions.{all_ranged, is_ranged_expression, is_ranged_condition, is_ranged_argument, ranged_reference}
use Rattle.cw_writable.specs.Coded.RangedUnits as ranged
use Rattle.cw_writable.specs.Coded.RangedUnits.{is_line, is_ranged_jump, is_ranged_element, are_ranged_elements, is_ranged_statement}
use Rattle.cw_writable.proofs.Coded.Fine.{parts, passed, Good, plainly, both_good, ended_good, labels_good}
use Rattle.cw_writable.proofs.Coded.Numbers.{lt_true, first, first_by, item-first, store-coded, control-coded, call-coded}
use Rattle.cw_writable.proofs.Coded.Expressions.{parted_good, saved_good, expression_good, condition_ranged_good, address_good, arguments_good, reference-ranges}

-- ---- layers

abbrev ranged_layer : SourceUnit → ℕ → Stmt-F Stmt → Bool
ranged_layer u f x = ranged.statement_step u f (map-Stmt Stmt Bool (is_ranged_statement u f) x)

statement-ranged : (u : SourceUnit) (f : ℕ) (x : Stmt) → is_ranged_statement u f x ≡ ranged_layer u f (out-Stmt x)
statement-ranged u f = fold_out-Stmt Bool (ranged.statement_step u f)

-- ---- lists of orders

begin-coded : (line : ℕ) → IsTrue (is_line line) → IsTrue (list_all has_code (begin_orders line))
begin-coded line h = first_by (order.Start line) [] refl h refl

begin_good : (line : ℕ) → IsTrue (is_line line) → Good (plain (begin_orders line))
begin_good line h = plainly (begin_orders line) (begin-coded line h)

after-coded : (t : Target) → IsTrue (list_all has_code (after_statement_call t))
after-coded (target.Own q) = refl
after-coded _ = refl

from-coded : (x : Option Label) (m : ℕ) → IsTrue (has_code (from_procedure x m))
from-coded None m = refl
from-coded (Some x) m = by_owner x.proc
  where
    by_owner : (o : Option ℕ) → IsTrue (has_code (elim o [ None ↦ order.GoMain m | Some q ↦ order.Jump m ]))
    by_owner None = refl
    by_owner (Some q) = refl

own-coded : (who : Option ℕ) (x : Option Label) (m : ℕ) → IsTrue (has_code (own_order who x m))
own-coded None x m = refl
own-coded (Some q) x m = from-coded x m

goal-coded : (u : SourceUnit) (who : Option ℕ) (g : Goal) → IsTrue (has_code (goal_order u who g))
goal-coded u who (goal.Own l) = own-coded who (slice_get u.labels l) (label_mark u l)
goal-coded u who (goal.Common d) = refl

-- ---- FOR

middle_good : (a b : ℕ → Piece) → ((mark : ℕ) → Good (a mark)) → ((mark : ℕ) → Good (b mark)) → Good (with_middle a b)
middle_good a b ha hb = record { at = λ place next. (both_good (ended_good a ha) (hb next)).at place next }

kept-coded : (y : Layout) (item word : ℕ) (os : List Order) → IsTrue (list_all has_code os) → IsTrue (list_all has_code (keep_orders y item word ++ os))
kept-coded y item word os h = first order.Save (item_order y item word ∷ order.Store ∷ os) refl (item-first y item word (order.Store ∷ os) (first order.Store os refl h))

numbered_good : (y : Layout) (item i : ℕ) → Good (plain (number_orders y item i))
numbered_good y item i = plainly (number_orders y item i) (kept-coded y item 3 [] refl)

set_good : (y : Layout) (line item : ℕ) → IsTrue (is_line line) → Good (plain (set_orders y line item))
set_good y line item l =
    let rest : List Order = order.SetVariable line ∷ [] in
    plainly (set_orders y line item) (first order.Save (item_order y item 0 ∷ rest) refl (item-first y item 0 rest (first_by (order.SetVariable line) [] refl l refl)))

bump_good : (y : Layout) (line item : ℕ) → IsTrue (is_line line) → Good (plain (bump_orders y line item))
bump_good y line item l = plainly (bump_orders y line item) (item-first y item 0 (order.AddStep line ∷ []) (first_by (order.AddStep line) [] refl l refl))

turn_good : (y : Layout) (line item body : ℕ) → IsTrue (is_line line) → Good (turn_piece y line item body)
turn_good y line item body l =
    ended_good (λ next. plain (item_order y item 0 ∷ order.PutVariable line ∷ order.Exhausted next ∷ order.Jump body ∷ []))
    (λ next. plainly (item_order y item 0 ∷ order.PutVariable line ∷ order.Exhausted next ∷ order.Jump body ∷ [])
    (item-first y item 0 (order.PutVariable line ∷ order.Exhausted next ∷ order.Jump body ∷ []) (first_by (order.PutVariable line) (order.Exhausted next ∷ order.Jump body ∷ []) refl l refl)))

kept_good : (y : Layout) (item word : ℕ) (os : List Order) → IsTrue (list_all has_code os) → Good (plain (keep_orders y item word ++ os))
kept_good y item word os h = plainly (keep_orders y item word ++ os) (kept-coded y item word os h)

-- ---- a beginning without the library

value-coded : (y : Layout) (a : Simple) → IsTrue (list_all has_code (value_orders y a))
value-coded y (simple.Number z) = refl
value-coded y (simple.Item i) = item-first y i 0 (order.Load ∷ []) refl

limit-coded : (y : Layout) (item j : ℕ) (past : Order) → IsTrue (has_code past) → IsTrue (list_all has_code (limit_orders y item j past))
limit-coded y item j past h =
    let last : List Order = order.Load ∷ past ∷ [] in
    let behind : List Order = order.Save ∷ item_order y item 2 ∷ last in
    item-first y j 0 (order.Load ∷ behind)
    (first order.Load behind refl (first order.Save (item_order y item 2 ∷ last) refl (item-first y item 2 last (first order.Load (past ∷ []) refl (first past [] h refl)))))

past-coded : (y : Layout) (item j : ℕ) (step : ℤ) (end : ℕ) → IsTrue (list_all has_code (past_orders y item j step end))
past-coded y item j (pos zero) end = refl
past-coded y item j (pos (suc n)) end = limit-coded y item j (order.JumpIf comparator.Greater end) refl
past-coded y item j (negsuc n) end = limit-coded y item j (order.JumpIf comparator.Less end) refl

first-turn-coded : (y : Layout) (item j : ℕ) (a : Simple) (step : ℤ) (d : Simple) (end : ℕ) → IsTrue (list_all has_code (turn_orders y item j a step d end))
first-turn-coded y item j (simple.Number a) s (simple.Number d) end = picked (is_past s a d)
  where
    picked : (b : Bool) → IsTrue (list_all has_code (if b then (order.Jump end ∷ []) else []))
    picked true = refl
    picked false = refl
first-turn-coded y item j (simple.Number a) s (simple.Item i) end = past-coded y item j s end
first-turn-coded y item j (simple.Item i) s d end = past-coded y item j s end

simple-coded : (y : Layout) (item : ℕ) (x : SimpleStep) (end : ℕ) → IsTrue (list_all has_code (simple_beginning y item x end))
simple-coded y item x end =
    let limit : List Order = value_orders y x.limit ++ keep_orders y item 2 in
    let step : List Order = keep_orders y item 1 ++ limit in
    let variable : List Order = keep_orders y x.variable 0 ++ number_order (unsigned x.step) ∷ step in
    let value : List Order = value_orders y x.first ++ variable in
    passed (simple_orders y item x) (turn_orders y item x.variable x.first x.step x.limit end)
    (item-first y x.variable 0 (keep_orders y item 0 ++ (number_orders y item 1 ++ value))
    (kept-coded y item 0 (number_orders y item 1 ++ value)
    (kept-coded y item 3 value
    (passed (value_orders y x.first) variable (value-coded y x.first)
    (kept-coded y x.variable 0 (number_order (unsigned x.step) ∷ step)
    (first (number_order (unsigned x.step)) step refl
    (kept-coded y item 1 limit (passed (value_orders y x.limit) (keep_orders y item 2) (value-coded y x.limit) (kept-coded y item 2 [] refl)))))))))
    (first-turn-coded y item x.variable x.first x.step x.limit end)

module _ (s : Scope) (few : argument_words s.parameters < 256) (line : IsTrue (is_line s.line)) where
  while_good : (item f body next i : ℕ) (e : Expr) (c : Cond) → IsTrue (is_ranged_expression s.unit e f) → IsTrue (is_ranged_condition s.unit c) → Good (while_values s item f body next i e c)
  while_good item f body next i e c he hc =
      both_good (numbered_good s.layout item i)
      (both_good (expression_good s few line e f he) (both_good (set_good s.layout s.line item line) (both_good (condition_ranged_good s few line c hc false next) (plainly (order.Jump body ∷ []) refl))))

  step_good : (item f turn i : ℕ) (a b d : Expr) → IsTrue (is_ranged_expression s.unit a f) → IsTrue (is_ranged_expression s.unit b f) → IsTrue (is_ranged_expression s.unit d f) → Good (step_values s item f turn i a b d)
  step_good item f turn i a b d ha hb hd =
      both_good (numbered_good s.layout item i)
      (both_good (expression_good s few line a f ha)
      (both_good (set_good s.layout s.line item line)
      (both_good (expression_good s few line b f hb)
      (both_good (kept_good s.layout item 1 [] refl)
      (both_good (expression_good s few line d f hd) (kept_good s.layout item 2 (order.Jump turn ∷ []) refl))))))

  element_good : (item f set body i : ℕ) (e : Felem) → IsTrue (is_ranged_element s.unit f e) → Good (element_piece s item f set body i e)
  element_good item f set body i (element.One e) h =
      ended_good (λ next. followed_by (plain (number_orders s.layout item i)) (followed_by (expression_piece s e f) (plain (order.Jump set ∷ []))))
      (λ next. both_good (numbered_good s.layout item i) (both_good (expression_good s few line e f h) (plainly (order.Jump set ∷ []) refl)))
  element_good item f set body i (element.While e c) h =
      let p = parts (is_ranged_expression s.unit e f) (is_ranged_condition s.unit c) h in
      middle_good (λ own. plain []) (λ own. with_end (λ next. while_values s item f body next i e c)) (λ own. plainly [] refl)
      (λ own. ended_good (λ next. while_values s item f body next i e c) (λ next. while_good item f body next i e c p.0 p.1))
  element_good item f set body i (element.Step a b d) h =
      let p = parts (is_ranged_expression s.unit a f) (is_ranged_expression s.unit b f && is_ranged_expression s.unit d f) h in
      let q = parts (is_ranged_expression s.unit b f) (is_ranged_expression s.unit d f) p.1 in
      middle_good (λ turn. followed_by (with_end (λ bump. step_values s item f turn i a b d)) (plain (bump_orders s.layout s.line item))) (λ turn. turn_piece s.layout s.line item body)
      (λ turn. both_good (ended_good (λ bump. step_values s item f turn i a b d) (λ bump. step_good item f turn i a b d p.0 q.0 q.1)) (bump_good s.layout s.line item line))
      (λ turn. turn_good s.layout s.line item body line)

  elements_good : (item f set body i : ℕ) (es : List Felem) → IsTrue (are_ranged_elements s.unit f es) → Good (elements_piece s item f set body i es)
  elements_good item f set body i [] h = plainly [] refl
  elements_good item f set body i (e ∷ es) h =
      let p = parts (is_ranged_element s.unit f e) (are_ranged_elements s.unit f es) h in
      both_good (element_good item f set body i e p.0) (elements_good item f set body (i + 1) es p.1)

  ways-long : (item f set body i : ℕ) (es : List Felem) (place next : ℕ) → length (element_ways s item f set body i es place next) ≡ length es
  ways-long item f set body i [] place next = refl
  ways-long item f set body i (e ∷ es) place next =
      let x = element_piece s item f set body i e place next in
      ap suc (ways-long item f set body (i + 1) es (place + length x.orders) (next + length x.marks))

  ring_good : (item f : ℕ) (es : List Felem) (body : Piece) → IsTrue (nat_lt (length es) 32768) → IsTrue (are_ranged_elements s.unit f es) → Good body → Good (ring_piece s item f es body)
  ring_good item f es body hn he hb = record { at = λ place next. (laid (element_ways s item f (next + 1 + 1) (next + 1) 1 es place (next + 1 + 1 + 1)) (ways-long item f (next + 1 + 1) (next + 1) 1 es place (next + 1 + 1 + 1))).at place next }
    where
      way_coded : (ways : List ℕ) → length ways ≡ length es → IsTrue (list_all has_code (item_order s.layout item 3 ∷ order.Load ∷ order.LoopWay ways ∷ []))
      way_coded ways e =
          item-first s.layout item 3 (order.Load ∷ order.LoopWay ways ∷ [])
          (first order.Load (order.LoopWay ways ∷ []) refl (first_by (order.LoopWay ways) [] (subst (λ k. IsTrue (nat_lt k 32768)) (sym e) hn) refl refl))

      laid : (ways : List ℕ) → length ways ≡ length es → Good (with_end (λ end. with_middle (λ start. followed_by (with_end (λ set. followed_by (elements_piece s item f set start 1 es) (plain (order.Jump end ∷ [])))) (plain (set_orders s.layout s.line item))) (λ start. followed_by body (plain (item_order s.layout item 3 ∷ order.Load ∷ order.LoopWay ways ∷ [])))))
      laid ways e =
          ended_good (λ end. with_middle (λ start. followed_by (with_end (λ set. followed_by (elements_piece s item f set start 1 es) (plain (order.Jump end ∷ [])))) (plain (set_orders s.layout s.line item))) (λ start. followed_by body (plain (item_order s.layout item 3 ∷ order.Load ∷ order.LoopWay ways ∷ []))))
          (λ end. middle_good (λ start. followed_by (with_end (λ set. followed_by (elements_piece s item f set start 1 es) (plain (order.Jump end ∷ [])))) (plain (set_orders s.layout s.line item))) (λ start. followed_by body (plain (item_order s.layout item 3 ∷ order.Load ∷ order.LoopWay ways ∷ [])))
          (λ start. both_good (ended_good (λ set. followed_by (elements_piece s item f set start 1 es) (plain (order.Jump end ∷ []))) (λ set. both_good (elements_good item f set start 1 es he) (plainly (order.Jump end ∷ []) refl))) (set_good s.layout s.line item line))
          (λ start. both_good hb (plainly (item_order s.layout item 3 ∷ order.Load ∷ order.LoopWay ways ∷ []) (way_coded ways e))))

  -- the one STEP element of a FOR
  first_turn_good : (item f end : ℕ) (a b d : Expr) → IsTrue (is_ranged_expression s.unit a f) → IsTrue (is_ranged_expression s.unit b f) → IsTrue (is_ranged_expression s.unit d f) → Good (first_turn s item f a b d end)
  first_turn_good item f end a b d ha hb hd =
      let last : List Order = order.PutVariable s.line ∷ order.Exhausted end ∷ [] in
      both_good (numbered_good s.layout item 1)
      (both_good (expression_good s few line a f ha)
      (both_good (set_good s.layout s.line item line)
      (both_good (expression_good s few line b f hb)
      (both_good (kept_good s.layout item 1 [] refl)
      (both_good (expression_good s few line d f hd)
      (kept_good s.layout item 2 (item_order s.layout item 0 ∷ last) (item-first s.layout item 0 last (first_by (order.PutVariable s.line) (order.Exhausted end ∷ []) refl line refl))))))))

  stepped_good : (item : ℕ) (beginning : ℕ → Piece) (body : Piece) → ((end : ℕ) → Good (beginning end)) → Good body → Good (stepped_piece s item beginning body)
  stepped_good item beginning body hn hb =
      let next : ℕ → Order = order.NextStep (loop_place s.layout item) s.line in
      ended_good (λ end. with_middle (λ start. beginning end) (λ start. followed_by body (plain (next start ∷ []))))
      (λ end. middle_good (λ start. beginning end) (λ start. followed_by body (plain (next start ∷ []))) (λ start. hn end)
      (λ start. both_good hb (plainly (next start ∷ []) (first_by (next start) [] refl line refl))))

  begun_good : (item : ℕ) (r : Ref) (a b d : Expr) (body : Piece) (x : Option SimpleStep) → IsTrue (ranged_reference s.unit r).good → IsTrue (is_ranged_element s.unit (out-Ref r).f (element.Step a b d)) → Good body
      → Good (begun_loop s x item r (element.Step a b d ∷ []) body)
  begun_good item r a b d body None hr he hb =
      let f = (out-Ref r).f in
      let p = parts (is_ranged_expression s.unit a f) (is_ranged_expression s.unit b f && is_ranged_expression s.unit d f) he in
      let q = parts (is_ranged_expression s.unit b f) (is_ranged_expression s.unit d f) p.1 in
      both_good (address_good s few line r hr)
      (both_good (kept_good s.layout item 0 [] refl) (stepped_good item (first_turn s item f a b d) body (λ end. first_turn_good item f end a b d p.0 q.0 q.1) hb))
  begun_good item r a b d body (Some x) hr he hb =
      stepped_good item (λ end. plain (simple_beginning s.layout item x end)) body (λ end. plainly (simple_beginning s.layout item x end) (simple-coded s.layout item x end)) hb

  loop_good : (item : ℕ) (r : Ref) (es : List Felem) (body : Piece) → IsTrue (ranged_reference s.unit r).good → IsTrue (nat_lt (length es) 32768) → IsTrue (are_ranged_elements s.unit (out-Ref r).f es) → Good body
      → Good (begun_loop s (simple_step s.layout item r es) item r es body)
  loop_good item r (element.Step a b d ∷ []) body hr hn he hb =
      begun_good item r a b d body (simple_step s.layout item r (element.Step a b d ∷ [])) hr (parts (is_ranged_element s.unit (out-Ref r).f (element.Step a b d)) true he).0 hb
  loop_good item r [] body hr hn he hb = both_good (address_good s few line r hr) (both_good (kept_good s.layout item 0 [] refl) (ring_good item (out-Ref r).f [] body hn he hb))
  loop_good item r (element.One e ∷ es) body hr hn he hb =
      both_good (address_good s few line r hr) (both_good (kept_good s.layout item 0 [] refl) (ring_good item (out-Ref r).f (element.One e ∷ es) body hn he hb))
  loop_good item r (element.While e c ∷ es) body hr hn he hb =
      both_good (address_good s few line r hr) (both_good (kept_good s.layout item 0 [] refl) (ring_good item (out-Ref r).f (element.While e c ∷ es) body hn he hb))
  loop_good item r (element.Step a b d ∷ e ∷ es) body hr hn he hb =
      both_good (address_good s few line r hr) (both_good (kept_good s.layout item 0 [] refl) (ring_good item (out-Ref r).f (element.Step a b d ∷ e ∷ es) body hn he hb))

-- ---- statements

module _ (s : Scope) (few : argument_words s.parameters < 256) (who : Option ℕ) (answer : ℕ) where
  -- a table has few marks
  switched_good : (n line : ℕ) → IsTrue (is_line line) → (x : Option (List ℕ)) → owned_marks s.unit who n ≡ x → Good (plain (switch_order x n line ∷ []))
  switched_good n line l None is = plainly (order.GoSwitch n line ∷ []) (first_by (order.GoSwitch n line) [] refl l refl)
  switched_good n line l (Some ms) is =
      let short : length ms < 32768 = omega (arith, (few-marks s.unit who n ms is).1) in
      plainly (order.SwitchWay ms line ∷ []) (first_by (order.SwitchWay ms line) [] (lt_true (length ms) 32768 short) l refl)

  jump_good : (line : ℕ) → IsTrue (is_line line) → (d : Dest) → IsTrue (is_ranged_jump s.unit d) → Good (jump_piece (at_line line s) who d)
  jump_good line l (dest.Goal g) h = plainly (goal_order s.unit who g ∷ []) (first (goal_order s.unit who g) [] (goal-coded s.unit who g) refl)
  jump_good line l (dest.Special k) h = plainly (order.GoSpecial (control_place s.parameters k) ∷ []) (first_by (order.GoSpecial (control_place s.parameters k)) [] (control-coded s.parameters k few) refl refl)
  jump_good line l (dest.Switch n e) h = both_good (expression_good (at_line line s) few l e 0 h) (switched_good n line l (owned_marks s.unit who n) refl)
  jump_good line l (dest.CommonSwitch d e) h = both_good (expression_good (at_line line s) few l e 0 h) (plainly (order.GoSwitchCommon d line ∷ []) (first_by (order.GoSwitchCommon d line) [] refl l refl))
  jump_good line l (dest.SpecialSwitch k e) h =
      let o = order.GoSwitchSpecial (control_place s.parameters k) line in
      both_good (expression_good (at_line line s) few l e 0 h) (plainly (o ∷ []) (first_by o [] (control-coded s.parameters k few) l refl))

  module _ (n : ℕ) (below : (t : Stmt) → statement_size t < n → IsTrue (is_ranged_statement s.unit answer t) → Good (statement_piece s who answer t)) where
    all_good : (ss : List Stmt) → total (map statement_size ss) < n → IsTrue (all_ranged (map (is_ranged_statement s.unit answer) ss)) → Good (sequence (map (statement_piece s who answer) ss))
    all_good [] lt h = plainly [] refl
    all_good (t ∷ ts) lt h =
        let p = parts (is_ranged_statement s.unit answer t) (all_ranged (map (is_ranged_statement s.unit answer) ts)) h in
        both_good (below t (let z : statement_size t < n = omega (arith, lt) in z) p.0) (all_good ts (let z : total (map statement_size ts) < n = omega (arith, lt) in z) p.1)

    layer_good : (x : Stmt-F Stmt) → size_layer x ≤ n → IsTrue (ranged_layer s.unit answer x) → Good (statement_layer s who answer x)
    layer_good (statement.Put line r e) le h =
        let p = parts (is_line line) ((ranged_reference s.unit r).good && is_ranged_expression s.unit e (out-Ref r).f) h in
        let q = parts (ranged_reference s.unit r).good (is_ranged_expression s.unit e (out-Ref r).f) p.1 in
        both_good (begin_good line p.0)
        (both_good (expression_good (at_line line s) few p.0 e (out-Ref r).f q.1)
        (both_good saved_good (both_good (address_good (at_line line s) few p.0 r q.0) (plainly (store_orders (out-Ref r).field) (store-coded (out-Ref r).field (reference-ranges (at_line line s) few p.0 r q.0).0)))))
    layer_good (statement.PutBits line t b r e) le h =
        let p = parts (is_line line) (is_part t b && ((ranged_reference s.unit r).good && is_ranged_expression s.unit e 0)) h in
        let q = parts (is_part t b) ((ranged_reference s.unit r).good && is_ranged_expression s.unit e 0) p.1 in
        let k = parts (ranged_reference s.unit r).good (is_ranged_expression s.unit e 0) q.1 in
        both_good (begin_good line p.0)
        (both_good (expression_good (at_line line s) few p.0 e 0 k.1)
        (both_good saved_good (both_good (address_good (at_line line s) few p.0 r k.0) (plainly (order.StorePart t b ∷ []) (first_by (order.StorePart t b) [] q.0 refl refl)))))
    layer_good (statement.Go line d) le h =
        let p = parts (is_line line) (is_ranged_jump s.unit d) h in
        both_good (begin_good line p.0) (jump_good line p.0 d p.1)
    layer_good (statement.Call line t args) le h =
        let p = parts (is_line line) (all_ranged (map (is_ranged_argument s.unit) args)) h in
        both_good (begin_good line p.0)
        (both_good (arguments_good (at_line line s) few p.0 args p.1)
        (plainly (call_order (at_line line s) t ∷ after_statement_call t) (first (call_order (at_line line s) t) (after_statement_call t) (call-coded (at_line line s) t few p.0) (after-coded t))))
    layer_good (statement.Answer line e) le h =
        let p = parts (is_line line) (is_ranged_expression s.unit e answer) h in
        both_good (begin_good line p.0)
        (both_good (expression_good (at_line line s) few p.0 e answer p.1)
        (plainly (order.Return (argument_words s.parameters) true ∷ []) (first_by (order.Return (argument_words s.parameters) true) [] (lt_true (argument_words s.parameters) 256 few) refl refl)))
    layer_good (statement.If line c a b) le h =
        let p = parts (is_line line) (is_ranged_condition s.unit c && (is_ranged_statement s.unit answer a && is_ranged_statement s.unit answer b)) h in
        let q = parts (is_ranged_condition s.unit c) (is_ranged_statement s.unit answer a && is_ranged_statement s.unit answer b) p.1 in
        let k = parts (is_ranged_statement s.unit answer a) (is_ranged_statement s.unit answer b) q.1 in
        both_good (begin_good line p.0)
        (parted_good (condition_piece (at_line line s) c) (jump_past (comes_to_end a) b) (statement_piece s who answer a) (statement_piece s who answer b) (condition_ranged_good (at_line line s) few p.0 c q.0)
        (jump-holds (λ os. IsTrue (list_all has_code os)) (λ end. refl) refl (comes_to_end a) b)
        (below a (let z : statement_size a < n = omega (arith, le) in z) k.0) (below b (let z : statement_size b < n = omega (arith, le) in z) k.1))
    layer_good (statement.For line item r es t) le h =
        let f = (out-Ref r).f in
        let p = parts (is_line line) ((ranged_reference s.unit r).good && (nat_lt (length es) 32768 && (are_ranged_elements s.unit f es && is_ranged_statement s.unit answer t))) h in
        let q = parts (ranged_reference s.unit r).good (nat_lt (length es) 32768 && (are_ranged_elements s.unit f es && is_ranged_statement s.unit answer t)) p.1 in
        let k = parts (nat_lt (length es) 32768) (are_ranged_elements s.unit f es && is_ranged_statement s.unit answer t) q.1 in
        let m = parts (are_ranged_elements s.unit f es) (is_ranged_statement s.unit answer t) k.1 in
        both_good (begin_good line p.0)
        (loop_good (at_line line s) few p.0 item r es (statement_piece s who answer t) q.0 k.0 m.0 (below t (let z : statement_size t < n = omega (arith, le) in z) m.1))
    layer_good (statement.Seq ss) le h = all_good ss (let z : total (map statement_size ss) < n = omega (arith, le) in z) h
    layer_good (statement.Mark ls t) le h = both_good (labels_good ls) (below t (let z : statement_size t < n = omega (arith, le) in z) h)

  good_below : (n : ℕ) (t : Stmt) → statement_size t < n → IsTrue (is_ranged_statement s.unit answer t) → Good (statement_piece s who answer t)
  good_below zero t lt h = absurd (omega (arith, lt))
  good_below (suc n) t lt h =
      subst Good (sym (statement-made s who answer t))
      (layer_good n (good_below n) (out-Stmt t) (let z : size_layer (out-Stmt t) ≤ n = omega (arith, lt, statement-size t) in z) (subst IsTrue (statement-ranged s.unit answer t) h))

  pub statement_good : (t : Stmt) → IsTrue (is_ranged_statement s.unit answer t) → Good (statement_piece s who answer t)
  statement_good t h = good_below (suc (statement_size t)) t (let z : statement_size t < suc (statement_size t) = omega arith in z) h
