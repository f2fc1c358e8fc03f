-- The orders of statements.
use Rattle.std.specs.Prelude.{ℕ, zero, suc, ◌+◌, nat_lt, ℤ, pos, negsuc, List, [], ◌∷◌, ◌++◌, map, length, Bool}
use Rattle.std.specs.Prelude.{true, false, not, ◌&&◌, Option, Some, None, slice_get, if◌then◌else◌}
use Rattle.cw_order.specs.declared.order.Order.{Order}
use Rattle.cw_order.specs.declared.order.Order.TheVariants as order
use Rattle.cw_order.specs.declared.order.Place.{Place}
use Rattle.cw_order.specs.declared.order.Place.TheVariants as cell
use Rattle.cw_order.specs.declared.order.Comparator.TheVariants as comparator
use Rattle.cw_word.specs.Word.{unsigned}
use Rattle.cw_unit.specs.Operation.{is_past}
use Rattle.cw_unit.specs.Step.{switch_in}
use Rattle.cw_unit.specs.declared.layout.Layout.{Layout}
use Rattle.cw_unit.specs.declared.unit.Unit.{Unit as SourceUnit}
use Rattle.cw_unit.specs.declared.unit.Label.{Label}
use Rattle.cw_unit.specs.declared.unit.Goal.{Goal}
use Rattle.cw_unit.specs.declared.unit.Goal.TheVariants as goal
use Rattle.cw_unit.specs.declared.unit.Dest.{Dest}
use Rattle.cw_unit.specs.declared.unit.Dest.TheVariants as dest
use Rattle.cw_unit.specs.declared.unit.Target.{Target}
use Rattle.cw_unit.specs.declared.unit.Target.TheVariants as target
use Rattle.cw_unit.specs.declared.unit.Felem.{Felem}
use Rattle.cw_unit.specs.declared.unit.Felem.TheVariants as element
use Rattle.cw_unit.specs.declared.unit.Expr.{Expr}
use Rattle.cw_unit.specs.declared.unit.Cond.{Cond}
use Rattle.cw_unit.specs.declared.unit.Ref.{Ref, out-Ref}
use Rattle.cw_unit.specs.declared.unit.Stmt.{Stmt, Stmt-F}
use Rattle.cw_unit.specs.declared.unit.Stmt.TheFolds.{para-Stmt}
use Rattle.cw_unit.specs.declared.unit.Stmt.TheOpen as statement
use Rattle.cw_gen_expr.specs.Pieces.{Piece, plain, followed_by, sequence, with_end, with_labels}
use Rattle.cw_gen_expr.specs.ReferenceExpressions.{Scope, at_line, saved, argument_words, control_place, item_order, store_orders, ConditionPiece}
use Rattle.cw_gen_expr.specs.ReferenceExpressions.{number_order, call_order, condition_piece, argument_piece, reference_of, expression_piece}
use Rattle.cw_gen_expr.specs.UnitTables.{label_mark}
use Rattle.cw_gen_unit.specs.declared.simple.Simple.{Simple}
use Rattle.cw_gen_unit.specs.declared.simple.Simple.TheVariants as simple
use Rattle.cw_gen_unit.specs.declared.simple.SimpleStep.{SimpleStep}
use Rattle.cw_gen_unit.specs.SimpleLoops.{simple_step}
use Rattle.cw_gen_unit.specs.Endings.{is_empty, comes_to_end}

-- the start of a statement
abbrev pub begin_orders : ℕ → List Order
begin_orders line = order.Start line ∷ []

-- every procedure answers, one without a type 0; a call statement drops the answer
abbrev pub after_statement_call : Target → List Order
after_statement_call target.Write = []
after_statement_call _ = order.Drop ∷ []

-- ---- jumps

-- a label of the segment's body is left for from a procedure
abbrev pub from_procedure : Option Label → (mark : ℕ) → Order
from_procedure None m = order.Jump m
from_procedure (Some x) m = elim x.proc [ None ↦ order.GoMain m | Some q ↦ order.Jump m ]

abbrev pub own_order : (who : Option ℕ) → Option Label → (mark : ℕ) → Order
own_order None x m = order.Jump m
own_order (Some q) x m = from_procedure x m

-- a label of the unit's own, or that of a descriptor
abbrev pub goal_order : SourceUnit → (who : Option ℕ) → Goal → Order
goal_order u who (goal.Own l) = own_order who (slice_get u.labels l) (label_mark u l)
goal_order u who (goal.Common d) = order.GoCommon d

-- where an order goes that is a plain jump
abbrev pub plain_mark : Order → Option ℕ
plain_mark (order.Jump m) = Some m
plain_mark _ = None

abbrev pub mark_before : Option ℕ → Option (List ℕ) → Option (List ℕ)
mark_before (Some m) (Some ms) = Some (m ∷ ms)
mark_before _ _ = None

-- the marks of goals, where a plain jump goes to each of them
abbrev pub plain_marks : SourceUnit → (who : Option ℕ) → List Goal → Option (List ℕ)
plain_marks u who [] = Some []
plain_marks u who (g ∷ gs) = mark_before (plain_mark (goal_order u who g)) (plain_marks u who gs)

-- those of a table in the body, which has one mark at least and 32 at most
abbrev pub table_marks : SourceUnit → (who : Option ℕ) → Option (List Goal) → Option (List ℕ)
table_marks u who None = None
table_marks u who (Some gs) = if nat_lt 0 (length gs) && nat_lt (length gs) 33 then plain_marks u who gs else None

-- the marks of the labels of a switch, where the body owns them all and a table has room for them
abbrev pub owned_marks : SourceUnit → (who : Option ℕ) → (switch : ℕ) → Option (List ℕ)
owned_marks u who n = table_marks u who (switch_in (Some u) n)

-- by the table, or by the list of the unit
abbrev pub switch_order : Option (List ℕ) → (switch line : ℕ) → Order
switch_order None n line = order.GoSwitch n line
switch_order (Some ms) n line = order.SwitchWay ms line

abbrev pub jump_order : Scope → (who : Option ℕ) → Dest → Order
jump_order s who (dest.Goal g) = goal_order s.unit who g
jump_order s who (dest.Special k) = order.GoSpecial (control_place s.parameters k)
jump_order s who (dest.Switch n e) = switch_order (owned_marks s.unit who n) n s.line
jump_order s who (dest.CommonSwitch d e) = order.GoSwitchCommon d s.line
jump_order s who (dest.SpecialSwitch k e) = order.GoSwitchSpecial (control_place s.parameters k) s.line

-- after the index of a switch, if there is one
abbrev pub jump_piece : Scope → (who : Option ℕ) → Dest → Piece
jump_piece s who (dest.Goal g) = plain (goal_order s.unit who g ∷ [])
jump_piece s who (dest.Special k) = plain (order.GoSpecial (control_place s.parameters k) ∷ [])
jump_piece s who (dest.Switch n e) = followed_by (expression_piece s e 0) (plain (switch_order (owned_marks s.unit who n) n s.line ∷ []))
jump_piece s who (dest.CommonSwitch d e) = followed_by (expression_piece s e 0) (plain (order.GoSwitchCommon d s.line ∷ []))
jump_piece s who (dest.SpecialSwitch k e) = followed_by (expression_piece s e 0) (plain (order.GoSwitchSpecial (control_place s.parameters k) s.line ∷ []))

-- ---- FOR

-- orders, a mark, and orders: all may jump to the mark
abbrev pub with_middle : (ℕ → Piece) → (ℕ → Piece) → Piece
with_middle a b place next = followed_by (with_end a) (b next) place next

-- the top operand is kept in a word of the loop
abbrev pub keep_orders : Layout → (item word : ℕ) → List Order
keep_orders y item n = order.Save ∷ item_order y item n ∷ order.Store ∷ []

-- the number of an element is written
abbrev pub number_orders : Layout → (item number : ℕ) → List Order
number_orders y item i = number_order i ∷ keep_orders y item 3

-- the control variable is set through the first word of the loop
abbrev pub set_orders : Layout → (line item : ℕ) → List Order
set_orders y line item = order.Save ∷ item_order y item 0 ∷ order.SetVariable line ∷ []

-- and the step added to it
abbrev pub bump_orders : Layout → (line item : ℕ) → List Order
bump_orders y line item = item_order y item 0 ∷ order.AddStep line ∷ []

-- the test of a STEP element, which goes on behind it where the control variable is past the limit
abbrev pub turn_piece : Layout → (line item body : ℕ) → Piece
turn_piece y line item body = with_end (λ next. plain (item_order y item 0 ∷ order.PutVariable line ∷ order.Exhausted next ∷ order.Jump body ∷ []))

-- the mark where the body's end goes on with an element whose marks begin at this number
abbrev pub way_mark : Felem → ℕ → ℕ
way_mark (element.One e) n = n
way_mark (element.While e c) n = n
way_mark (element.Step a b d) n = n + 1

-- the one STEP element of a FOR that has no other
abbrev pub only_step : List Felem → Option (Expr × Expr × Expr)
only_step (element.Step a b d ∷ []) = Some (a, b, d)
only_step _ = None

-- the place whose address an order puts
abbrev pub place_put : Order → Place
place_put (order.Home f n) = cell.Word f n
place_put (order.FrameHome n) = cell.Frame n
place_put _ = cell.Word 0 0

-- the words of a loop
abbrev pub loop_place : Layout → (item : ℕ) → Place
loop_place y item = place_put (item_order y item 0)

-- ---- a beginning without the library

abbrev pub value_orders : Layout → Simple → List Order
value_orders y (simple.Number z) = number_order (unsigned z) ∷ []
value_orders y (simple.Item i) = item_order y i 0 ∷ order.Load ∷ []

-- the control variable is compared with the limit
abbrev pub limit_orders : Layout → (item variable : ℕ) → Order → List Order
limit_orders y item j past = item_order y j 0 ∷ order.Load ∷ order.Save ∷ item_order y item 2 ∷ order.Load ∷ past ∷ []

-- by the sign of the step
abbrev pub past_orders : Layout → (item variable : ℕ) → (step : ℤ) → (end : ℕ) → List Order
past_orders y item j (pos zero) end = []
past_orders y item j (pos (suc n)) end = limit_orders y item j (order.JumpIf comparator.Greater end)
past_orders y item j (negsuc n) end = limit_orders y item j (order.JumpIf comparator.Less end)

-- the first turn, which goes to the end where the first value is past the limit: of two numbers this is known
abbrev pub turn_orders : Layout → (item variable : ℕ) → (first : Simple) → (step : ℤ) → (limit : Simple) → (end : ℕ) → List Order
turn_orders y item j (simple.Number a) s (simple.Number d) end = if is_past s a d then (order.Jump end ∷ []) else []
turn_orders y item j (simple.Number a) s (simple.Item i) end = past_orders y item j s end
turn_orders y item j (simple.Item i) s d end = past_orders y item j s end

-- word 0, the number of the element, the control variable, the step and the limit, and the first turn
abbrev pub simple_orders : Layout → (item : ℕ) → SimpleStep → List Order
simple_orders y item x =
    item_order y x.variable 0 ∷ (keep_orders y item 0
    ++ (number_orders y item 1
    ++ (value_orders y x.first
    ++ (keep_orders y x.variable 0 ++ number_order (unsigned x.step) ∷ (keep_orders y item 1 ++ (value_orders y x.limit ++ keep_orders y item 2))))))

abbrev pub simple_beginning : Layout → (item : ℕ) → SimpleStep → (end : ℕ) → List Order
simple_beginning y item x end = simple_orders y item x ++ turn_orders y item x.variable x.first x.step x.limit end

module _ (s : Scope) where
  -- the value of a WHILE element, and its test, behind which the body begins
  abbrev pub while_values : (item scale body next number : ℕ) → Expr → Cond → Piece
  while_values item f body next i e c =
      followed_by (plain (number_orders s.layout item i))
      (followed_by (expression_piece s e f) (followed_by (plain (set_orders s.layout s.line item))
      (followed_by (condition_piece s c false next) (plain (order.Jump body ∷ [])))))

  -- the three values of a STEP element: the first is set, the step and the limit are kept
  abbrev pub step_values : (item scale turn number : ℕ) → (first step limit : Expr) → Piece
  step_values item f turn i a b d =
      followed_by (plain (number_orders s.layout item i))
      (followed_by (expression_piece s a f)
      (followed_by (plain (set_orders s.layout s.line item))
      (followed_by (expression_piece s b f)
      (followed_by (plain (keep_orders s.layout item 1))
      (followed_by (expression_piece s d f) (plain (keep_orders s.layout item 2 ++ order.Jump turn ∷ [])))))))

  -- An element. Its first mark is where its body's end goes on: for a value the next element, for WHILE itself, for STEP its step, which
  -- has the second mark. A value goes to the tail that all have together
  abbrev pub element_piece : (item scale set body number : ℕ) → Felem → Piece
  element_piece item f set body i (element.One e) =
      with_end (λ next. followed_by (plain (number_orders s.layout item i)) (followed_by (expression_piece s e f) (plain (order.Jump set ∷ []))))
  element_piece item f set body i (element.While e c) =
      with_middle (λ own. plain []) (λ own. with_end (λ next. while_values item f body next i e c))
  element_piece item f set body i (element.Step a b d) =
      with_middle (λ turn. followed_by (with_end (λ bump. step_values item f turn i a b d))
      (plain (bump_orders s.layout s.line item))) (λ turn. turn_piece s.layout s.line item body)

  abbrev pub elements_piece : (item scale set body number : ℕ) → List Felem → Piece
  elements_piece item f set body i [] = plain []
  elements_piece item f set body i (e ∷ es) = followed_by (element_piece item f set body i e) (elements_piece item f set body (i + 1) es)

  abbrev pub element_ways : (item scale set body number : ℕ) → List Felem → (place next : ℕ) → List ℕ
  element_ways item f set body i [] place next = []
  element_ways item f set body i (e ∷ es) place next =
      let x = element_piece item f set body i e place next in
      way_mark e next ∷ element_ways item f set body (i + 1) es (place + length x.orders) (next + length x.marks)

  -- the elements, the body, and the way on; the marks of the end, of the body and of the tail are numbered before those of the elements
  abbrev pub ring_piece : (item scale : ℕ) → List Felem → Piece → Piece
  ring_piece item f es body place next =
      with_end
      (λ end.
      with_middle (λ start. followed_by (with_end
      (λ set. followed_by (elements_piece item f set start 1 es) (plain (order.Jump end ∷ []))))
      (plain (set_orders s.layout s.line item)))
      (λ start. followed_by body
      (plain (item_order s.layout item 3 ∷ order.Load
      ∷ order.LoopWay (element_ways item f (next + 1 + 1) (next + 1) 1 es place (next + 1 + 1 + 1))
      ∷ []))))
      place
      next

  -- the values of the one STEP element of a FOR, and its first turn, which goes to the end where the first value is past the limit
  abbrev pub first_turn : (item scale : ℕ) → (first step limit : Expr) → (end : ℕ) → Piece
  first_turn item f a b d end =
      followed_by (plain (number_orders s.layout item 1))
      (followed_by (expression_piece s a f)
      (followed_by (plain (set_orders s.layout s.line item))
      (followed_by (expression_piece s b f)
      (followed_by (plain (keep_orders s.layout item 1))
      (followed_by (expression_piece s d f)
      (plain (keep_orders s.layout item 2 ++ item_order s.layout item 0 ∷ order.PutVariable s.line ∷ order.Exhausted end ∷ [])))))))

  -- a FOR of one STEP element: how it begins, the body, and the step; the marks of the end and of the body are numbered first
  abbrev pub stepped_piece : (item : ℕ) → (beginning : ℕ → Piece) → (body : Piece) → Piece
  stepped_piece item beginning body =
      with_end
      (λ end.
      with_middle (λ start. beginning end) (λ start. followed_by body (plain (order.NextStep (loop_place s.layout item) s.line start ∷ []))))

  abbrev pub elements_loop : Option (Expr × Expr × Expr) → (item scale : ℕ) → List Felem → Piece → Piece
  elements_loop None item f es body = ring_piece item f es body
  elements_loop (Some e) item f es body = stepped_piece item (first_turn item f e.0 e.1 e.2) body

  abbrev pub begun_loop : Option SimpleStep → (item : ℕ) → Ref → List Felem → Piece → Piece
  begun_loop None item r es body =
      followed_by (reference_of s r).address (followed_by (plain (keep_orders s.layout item 0)) (elements_loop (only_step es) item (out-Ref r).f es body))
  begun_loop (Some x) item r es body = stepped_piece item (λ end. plain (simple_beginning s.layout item x end)) body

  abbrev pub loop_piece : (item : ℕ) → Ref → List Felem → Piece → Piece
  loop_piece item r es body = followed_by (plain (begin_orders s.line)) (begun_loop (simple_step s.layout item r es) item r es body)

-- ---- IF

-- one of two by a condition, with orders between them, which may jump past the second
abbrev pub parted_piece : ConditionPiece → (between : (end : ℕ) → List Order) → (first second : Piece) → Piece
parted_piece c between a b =
    with_end (λ end. followed_by (with_end (λ other. followed_by (c false other) (followed_by a (plain (between end))))) b)

-- the jump past the second of two statements is there where a run may come to the end of the first, and the second has orders
abbrev pub jump_past : (ends : Bool) → (second : Stmt) → (end : ℕ) → List Order
jump_past ends second end = if ends && not (is_empty second) then (order.Jump end ∷ []) else []

-- two statements by a condition, each with its orders
abbrev pub branches_piece : ConditionPiece → (first second : Stmt × Piece) → Piece
branches_piece c a b = parted_piece c (jump_past (comes_to_end a.0) b.0) a.1 b.1

-- ---- statements

module _ (s : Scope) (who : Option ℕ) (answer : ℕ) where
  -- each at its line, with the statements in it and their orders
  abbrev pub statement_step : Stmt-F (Stmt × Piece) → Piece
  statement_step (statement.Put line r e) =
      let h = at_line line s in
      followed_by (plain (begin_orders line))
      (followed_by (expression_piece h e (out-Ref r).f) (followed_by saved (followed_by (reference_of h r).address (plain (store_orders (out-Ref r).field)))))
  statement_step (statement.PutBits line t b r e) =
      let h = at_line line s in
      followed_by (plain (begin_orders line))
      (followed_by (expression_piece h e 0) (followed_by saved (followed_by (reference_of h r).address (plain (order.StorePart t b ∷ [])))))
  statement_step (statement.Go line d) = followed_by (plain (begin_orders line)) (jump_piece (at_line line s) who d)
  statement_step (statement.Call line t args) =
      let h = at_line line s in
      followed_by (plain (begin_orders line)) (followed_by (sequence (map (argument_piece h) args)) (plain (call_order h t ∷ after_statement_call t)))
  statement_step (statement.Answer line e) =
      followed_by (plain (begin_orders line))
      (followed_by (expression_piece (at_line line s) e answer)
      (plain (order.Return (argument_words s.parameters) true ∷ [])))
  statement_step (statement.If line c a b) = followed_by (plain (begin_orders line)) (branches_piece (condition_piece (at_line line s) c) a b)
  statement_step (statement.For line item r es body) = loop_piece (at_line line s) item r es body.1
  statement_step (statement.Seq ss) = sequence (map (λ t. t.1) ss)
  statement_step (statement.Mark ls t) = followed_by (with_labels ls) t.1

  abbrev pub statement_piece : Stmt → Piece
  statement_piece = para-Stmt Piece statement_step
