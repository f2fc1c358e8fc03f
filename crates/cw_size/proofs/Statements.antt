-- The orders of statements, with the landings of the labels that they set, are short by the tokens of their trees.
use Rattle.std.proofs.Common.{◌≡◌, ℕ, zero, suc, ◌+◌, ◌*◌, ◌<◌, ◌≤◌, List, [], ◌∷◌, ◌++◌, map, length, true, false, Option, Some, None, refl, sym, ap, subst, arith}
use Rattle.cw_order.specs.declared.order.Order.{Order}
use Rattle.cw_order.specs.declared.order.Order.TheVariants as order
use Rattle.cw_unit.specs.declared.layout.Layout.{Layout}
use Rattle.cw_unit.specs.declared.unit.Dest.{Dest}
use Rattle.cw_unit.specs.declared.unit.Dest.TheVariants as dest
use Rattle.cw_unit.specs.declared.unit.Felem.{Felem}
use Rattle.cw_unit.specs.declared.unit.Felem.TheVariants as element
use Rattle.cw_unit.specs.declared.unit.Expr.{Expr}
use Rattle.cw_unit.specs.declared.unit.Ref.{Ref, out-Ref}
use Rattle.cw_unit.specs.declared.unit.Stmt.{Stmt, Stmt-F, out-Stmt, map-Stmt, fold_out-Stmt}
use Rattle.cw_unit.specs.declared.unit.Stmt.TheOpen as statement
use Rattle.cw_gen_expr.specs.Pieces.{Piece, plain, followed_by, sequence, with_end}
use Rattle.cw_gen_expr.specs.ReferenceExpressions.{Scope, at_line, argument_words, control_place, item_order, store_orders, call_order, reference_of, condition_piece, expression_piece}
use Rattle.cw_gen_expr.proofs.Layers.{total}
use Rattle.cw_gen_unit.specs.Endings.{comes_to_end}
use Rattle.cw_gen_unit.proofs.Layers.{statement_layer, statement-made, statement_size, size_layer, statement-size, jump-holds}
use Rattle.cw_gen_unit.proofs.SwitchMarks.{few-marks}
use Rattle.cw_gen_unit.specs.ReferenceStatements.{begin_orders, after_statement_call, goal_order, owned_marks, switch_order, jump_piece, with_middle, keep_orders, number_orders, set_orders, bump_orders, turn_piece, while_values, step_values, element_piece, elements_piece, element_ways, ring_piece, loop_place, simple_beginning, only_step, first_turn, stepped_piece, elements_loop, begun_loop, loop_piece, jump_past, statement_piece}
use Rattle.cw_gen_unit.specs.declared.simple.SimpleStep.{SimpleStep}
use Rattle.cw_gen_unit.specs.SimpleLoops.{simple_step}
use Rattle.cw_tokens.specs.LeastTokens as least
use Rattle.cw_tokens.specs.LeastTokens.{separated, arguments, expression_tokens, argument_tokens, condition_tokens, reference_tokens, each_argument, element_tokens, each_element, jump_tokens, statement_tokens}
use Rattle.cw_tmpl.specs.Templates.{loop_ways_size}
use Rattle.cw_tmpl.specs.Sizes.{listed_size, listed_sizes}
use Rattle.cw_tokens.specs.SetLabels.{together, set_step, set_labels}
use Rattle.cw_size.proofs.Short.{one_short, first_short, Short, plainly, both_short, ended_short, labels_short, eased}
use Rattle.cw_size.proofs.OrderSizes.{item-load, item-keep, store-part-short, store-short, call-short, after-short, goal-short, number-short, set-short, bump-short, turn-short, limited-short, stepped-short, ways-short, simple-short, go-short, through-short}
use Rattle.cw_size.proofs.TokenLayers.{each-argument, separated-within}
use Rattle.cw_size.proofs.Expressions.{parted_short, saved_short, expression_short, condition_ended_short, address_short, arguments_short}

-- ---- layers

abbrev tokens_layer : Stmt-F Stmt → ℕ
tokens_layer x = least.statement_step (map-Stmt Stmt ℕ statement_tokens x)

statement-tokens : (x : Stmt) → statement_tokens x ≡ tokens_layer (out-Stmt x)
statement-tokens = fold_out-Stmt ℕ least.statement_step

abbrev labels_layer : Stmt-F Stmt → ℕ
labels_layer x = set_step (map-Stmt Stmt ℕ set_labels x)

labels-set : (x : Stmt) → set_labels x ≡ labels_layer (out-Stmt x)
labels-set = fold_out-Stmt ℕ set_step

-- ---- lists of orders

begin_short : (line : ℕ) → Short (plain (begin_orders line)) 0 0
begin_short line = plainly (begin_orders line) 0 (let z : 0 + 0 ≤ 0 = omega arith in z)

kept_short : (y : Layout) (item word : ℕ) (os : List Order) (most : ℕ) → listed_sizes os ≤ most → Short (plain (keep_orders y item word ++ os)) 0 (7 + most)
kept_short y item word os most h = plainly (keep_orders y item word ++ os) (7 + most) (item-keep y item word os most h)

-- ---- FOR

middle_short : {k l m n : ℕ} (a b : ℕ → Piece) → ((mark : ℕ) → Short (a mark) k m) → ((mark : ℕ) → Short (b mark) l n) → Short (with_middle a b) (k + l) (m + n)
middle_short a b ha hb = record { at = λ place next. (both_short (ended_short a ha) (hb next)).at place next }

module _ (s : Scope) where
  -- an element has the place of its way on too
  element_short : (item f set body i : ℕ) (e : Felem) → Short (element_piece s item f set body i e) 2 (32 * suc (element_tokens e))
  element_short item f set body i (element.One e) =
      ended_short (λ next. followed_by (plain (number_orders s.layout item i)) (followed_by (expression_piece s e f) (plain (order.Jump set ∷ []))))
      (λ next. eased
      (both_short (plainly (number_orders s.layout item i) 10 (number-short s.layout item i))
      (both_short (expression_short s e f) (plainly (order.Jump set ∷ []) 3 (let z : 3 + 0 ≤ 3 = omega arith in z))))
      (let z : 10 + (32 * expression_tokens e + 5 + 3) + 2 ≤ 32 * suc (expression_tokens e) + (0 + (0 + 0)) = omega arith in z))
  element_short item f set body i (element.While e c) =
      let a = expression_tokens e in
      let b = condition_tokens c in
      eased
      (middle_short (λ own. plain []) (λ own. with_end (λ next. while_values s item f body next i e c)) (λ own. plainly [] 0 (let z : 0 ≤ 0 = omega arith in z))
      (λ own. ended_short (λ next. while_values s item f body next i e c)
      (λ next. both_short (plainly (number_orders s.layout item i) 10 (number-short s.layout item i))
      (both_short (expression_short s e f)
      (both_short (plainly (set_orders s.layout s.line item) 15 (set-short s.layout s.line item))
      (both_short (condition_ended_short s c false next) (plainly (order.Jump body ∷ []) 3 (let z : 3 + 0 ≤ 3 = omega arith in z))))))))
      (let z : 0 + (10 + (32 * a + 5 + (15 + (32 * b + 3)))) + 2 ≤ 32 * suc (suc (a + b)) + (0 + (0 + (0 + (0 + (0 + 0))))) = omega arith in z)
  element_short item f set body i (element.Step a b d) =
      let k = expression_tokens a in
      let m = expression_tokens b in
      let n = expression_tokens d in
      eased
      (middle_short (λ turn. followed_by (with_end (λ bump. step_values s item f turn i a b d)) (plain (bump_orders s.layout s.line item))) (λ turn. turn_piece s.layout s.line item body)
      (λ turn. both_short
      (ended_short (λ bump. step_values s item f turn i a b d)
      (λ bump. both_short (plainly (number_orders s.layout item i) 10 (number-short s.layout item i))
      (both_short (expression_short s a f)
      (both_short (plainly (set_orders s.layout s.line item) 15 (set-short s.layout s.line item))
      (both_short (expression_short s b f)
      (both_short (kept_short s.layout item 1 [] 0 (let z : 0 ≤ 0 = omega arith in z))
      (both_short (expression_short s d f) (kept_short s.layout item 2 (order.Jump turn ∷ []) 3 (let z : 3 + 0 ≤ 3 = omega arith in z)))))))))
      (plainly (bump_orders s.layout s.line item) 14 (bump-short s.layout s.line item)))
      (λ turn. ended_short (λ next. plain (item_order s.layout item 0 ∷ order.PutVariable s.line ∷ order.Exhausted next ∷ order.Jump body ∷ []))
      (λ next. plainly (item_order s.layout item 0 ∷ order.PutVariable s.line ∷ order.Exhausted next ∷ order.Jump body ∷ []) 23 (turn-short s.layout s.line item body next))))
      (let z : 10 + (32 * k + 5 + (15 + (32 * m + 5 + (7 + 0 + (32 * n + 5 + (7 + 3)))))) + 14 + 23 + 2 ≤ 32 * suc (2 + (k + (m + n))) + (0 + (0 + (0 + (0 + (0 + (0 + 0))))) + 0 + 0) = omega arith in z)

  elements_short : (item f set body i : ℕ) (es : List Felem) → Short (elements_piece s item f set body i es) (2 * length es) (32 * separated (each_element es))
  elements_short item f set body i [] = plainly [] (32 * 0) (let z : 0 ≤ 32 * 0 = omega arith in z)
  elements_short item f set body i (e ∷ es) =
      eased (both_short (element_short item f set body i e) (elements_short item f set body (i + 1) es))
      (let z : 32 * suc (element_tokens e) + 32 * separated (each_element es) + 2 * suc (length es) ≤ 32 * (suc (element_tokens e) + separated (each_element es)) + (2 + 2 * length es) = omega arith in z)

  ways-long : (item f set body i : ℕ) (es : List Felem) (place next : ℕ) → length (element_ways s item f set body i es place next) ≡ length es
  ways-long item f set body i [] place next = refl
  ways-long item f set body i (e ∷ es) place next =
      let x = element_piece s item f set body i e place next in
      ap suc (ways-long item f set body (i + 1) es (place + length x.orders) (next + length x.marks))

  ring_short : (item f : ℕ) (es : List Felem) (body : Piece) (k m : ℕ) → Short body k m → Short (ring_piece s item f es body) k (32 * separated (each_element es) + m + 45)
  ring_short item f es body k m hb = record { at = λ place next. (laid (element_ways s item f (next + 1 + 1) (next + 1) 1 es place (next + 1 + 1 + 1)) (ways-long item f (next + 1 + 1) (next + 1) 1 es place (next + 1 + 1 + 1))).at place next }
    where
      way_short : (ways : List ℕ) → length ways ≡ length es → listed_sizes (item_order s.layout item 3 ∷ order.Load ∷ order.LoopWay ways ∷ []) ≤ 27 + 2 * length es
      way_short ways e =
          let h = item-load s.layout item 3 (order.LoopWay ways ∷ []) (20 + 2 * length es) (one_short (order.LoopWay ways) (20 + 2 * length es) (let few = ways-short ways in let z : loop_ways_size ways ≤ 20 + 2 * length es = omega (arith, e, few) in z)) in
          let z : listed_sizes (item_order s.layout item 3 ∷ order.Load ∷ order.LoopWay ways ∷ []) ≤ 27 + 2 * length es = omega (arith, h) in
          z

      laid : (ways : List ℕ) → length ways ≡ length es
          → Short (with_end (λ end. with_middle (λ start. followed_by (with_end (λ set. followed_by (elements_piece s item f set start 1 es) (plain (order.Jump end ∷ [])))) (plain (set_orders s.layout s.line item))) (λ start. followed_by body (plain (item_order s.layout item 3 ∷ order.Load ∷ order.LoopWay ways ∷ [])))))
          k (32 * separated (each_element es) + m + 45)
      laid ways e =
          ended_short (λ end. with_middle (λ start. followed_by (with_end (λ set. followed_by (elements_piece s item f set start 1 es) (plain (order.Jump end ∷ [])))) (plain (set_orders s.layout s.line item))) (λ start. followed_by body (plain (item_order s.layout item 3 ∷ order.Load ∷ order.LoopWay ways ∷ []))))
          (λ end. eased
          (middle_short (λ start. followed_by (with_end (λ set. followed_by (elements_piece s item f set start 1 es) (plain (order.Jump end ∷ [])))) (plain (set_orders s.layout s.line item))) (λ start. followed_by body (plain (item_order s.layout item 3 ∷ order.Load ∷ order.LoopWay ways ∷ [])))
          (λ start. both_short
          (ended_short (λ set. followed_by (elements_piece s item f set start 1 es) (plain (order.Jump end ∷ [])))
          (λ set. both_short (elements_short item f set start 1 es) (plainly (order.Jump end ∷ []) 3 (let z : 3 + 0 ≤ 3 = omega arith in z))))
          (plainly (set_orders s.layout s.line item) 15 (set-short s.layout s.line item)))
          (λ start. both_short hb (plainly (item_order s.layout item 3 ∷ order.Load ∷ order.LoopWay ways ∷ []) (27 + 2 * length es) (way_short ways e))))
          (let z : 32 * separated (each_element es) + 3 + 15 + (m + (27 + 2 * length es)) + k ≤ 32 * separated (each_element es) + m + 45 + (2 * length es + 0 + 0 + (k + 0)) = omega arith in z))

  -- the one STEP element of a FOR
  first_turn_short : (item f : ℕ) (a b d : Expr) (end : ℕ) → Short (first_turn s item f a b d end) 0 (32 * (expression_tokens a + (expression_tokens b + expression_tokens d)) + 74)
  first_turn_short item f a b d end =
      let k = expression_tokens a in
      let m = expression_tokens b in
      let n = expression_tokens d in
      let last : List Order = keep_orders s.layout item 2 ++ item_order s.layout item 0 ∷ order.PutVariable s.line ∷ order.Exhausted end ∷ [] in
      eased
      (both_short (plainly (number_orders s.layout item 1) 10 (number-short s.layout item 1))
      (both_short (expression_short s a f)
      (both_short (plainly (set_orders s.layout s.line item) 15 (set-short s.layout s.line item))
      (both_short (expression_short s b f)
      (both_short (kept_short s.layout item 1 [] 0 (let z : 0 ≤ 0 = omega arith in z))
      (both_short (expression_short s d f) (plainly last 27 (limited-short s.layout s.line item end))))))))
      (let z : 10 + (32 * k + 5 + (15 + (32 * m + 5 + (7 + 0 + (32 * n + 5 + 27))))) + 0 ≤ 32 * (k + (m + n)) + 74 + (0 + (0 + (0 + (0 + (0 + (0 + 0)))))) = omega arith in z)

  stepped_short : (item : ℕ) (beginning : ℕ → Piece) (body : Piece) (l k m n : ℕ) → ((end : ℕ) → Short (beginning end) l n) → Short body k m → Short (stepped_piece s item beginning body) (l + (k + 0)) (n + (m + 17))
  stepped_short item beginning body l k m n hn hb =
      ended_short (λ end. with_middle (λ start. beginning end) (λ start. followed_by body (plain (order.NextStep (loop_place s.layout item) s.line start ∷ []))))
      (λ end. middle_short (λ start. beginning end) (λ start. followed_by body (plain (order.NextStep (loop_place s.layout item) s.line start ∷ []))) (λ start. hn end)
      (λ start. both_short hb
      (plainly (order.NextStep (loop_place s.layout item) s.line start ∷ []) 17
      (one_short (order.NextStep (loop_place s.layout item) s.line start) 17 (stepped-short (loop_place s.layout item) s.line start)))))

  -- behind the address of the control variable
  addressed_short : (item : ℕ) (r : Ref) (es : List Felem) (body : Piece) (k m : ℕ) (p : Piece) → Short p k (32 * separated (each_element es) + m + 45)
      → Short (followed_by (reference_of s r).address (followed_by (plain (keep_orders s.layout item 0)) p)) k (32 * suc (reference_tokens r + separated (each_element es)) + m + 6)
  addressed_short item r es body k m p h =
      eased (both_short (address_short s r) (both_short (kept_short s.layout item 0 [] 0 (let z : 0 ≤ 0 = omega arith in z)) h))
      (let z : 32 * reference_tokens r + (7 + 0 + (32 * separated (each_element es) + m + 45)) + k ≤ 32 * suc (reference_tokens r + separated (each_element es)) + m + 6 + (14 + (0 + k)) = omega arith in z)

  one_step_short : (item f : ℕ) (a b d : Expr) (body : Piece) (k m : ℕ) → Short body k m → Short (stepped_piece s item (first_turn s item f a b d) body) k (32 * separated (each_element (element.Step a b d ∷ [])) + m + 45)
  one_step_short item f a b d body k m h =
      let n = expression_tokens a + (expression_tokens b + expression_tokens d) in
      eased (stepped_short item (first_turn s item f a b d) body 0 k m (32 * n + 74) (first_turn_short item f a b d) h)
      (let z : 32 * n + 74 + (m + 17) + k ≤ 32 * (suc (2 + n) + 0) + m + 45 + (0 + (k + 0)) = omega arith in z)

  begun_short : (item : ℕ) (r : Ref) (a b d : Expr) (body : Piece) (k m : ℕ) (x : Option SimpleStep) → Short body k m
      → Short (begun_loop s x item r (element.Step a b d ∷ []) body) k (32 * suc (reference_tokens r + separated (each_element (element.Step a b d ∷ []))) + m + 6)
  begun_short item r a b d body k m None h =
      addressed_short item r (element.Step a b d ∷ []) body k m (stepped_piece s item (first_turn s item (out-Ref r).f a b d) body) (one_step_short item (out-Ref r).f a b d body k m h)
  begun_short item r a b d body k m (Some x) h =
      let n = expression_tokens a + (expression_tokens b + expression_tokens d) in
      eased
      (stepped_short item (λ end. plain (simple_beginning s.layout item x end)) body 0 k m 86
      (λ end. plainly (simple_beginning s.layout item x end) 86 (simple-short s.layout item x end)) h)
      (let z : 86 + (m + 17) + k ≤ 32 * suc (reference_tokens r + (suc (2 + n) + 0)) + m + 6 + (0 + (k + 0)) = omega arith in z)

  begun_loop_short : (item : ℕ) (r : Ref) (es : List Felem) (body : Piece) (k m : ℕ) → Short body k m
      → Short (begun_loop s (simple_step s.layout item r es) item r es body) k (32 * suc (reference_tokens r + separated (each_element es)) + m + 6)
  begun_loop_short item r (element.Step a b d ∷ []) body k m h =
      begun_short item r a b d body k m (simple_step s.layout item r (element.Step a b d ∷ [])) h
  begun_loop_short item r [] body k m h =
      addressed_short item r [] body k m (ring_piece s item (out-Ref r).f [] body) (ring_short item (out-Ref r).f [] body k m h)
  begun_loop_short item r (element.One e ∷ es) body k m h =
      addressed_short item r (element.One e ∷ es) body k m (ring_piece s item (out-Ref r).f (element.One e ∷ es) body) (ring_short item (out-Ref r).f (element.One e ∷ es) body k m h)
  begun_loop_short item r (element.While e c ∷ es) body k m h =
      addressed_short item r (element.While e c ∷ es) body k m (ring_piece s item (out-Ref r).f (element.While e c ∷ es) body) (ring_short item (out-Ref r).f (element.While e c ∷ es) body k m h)
  begun_loop_short item r (element.Step a b d ∷ e ∷ es) body k m h =
      addressed_short item r (element.Step a b d ∷ e ∷ es) body k m (ring_piece s item (out-Ref r).f (element.Step a b d ∷ e ∷ es) body)
      (ring_short item (out-Ref r).f (element.Step a b d ∷ e ∷ es) body k m h)

-- ---- statements

module _ (s : Scope) (who : Option ℕ) (answer : ℕ) where
  -- the index of a switch, and the way to its label
  switched : (line : ℕ) (e : Expr) (o : Order) → listed_size o ≤ 84 → Short (followed_by (expression_piece (at_line line s) e 0) (plain (o ∷ []))) 0 (32 * (3 + expression_tokens e))
  switched line e o h =
      eased (both_short (expression_short (at_line line s) e 0) (plainly (o ∷ []) 84 (one_short o 84 h)))
      (let z : 32 * expression_tokens e + 5 + 84 + 0 ≤ 32 * (3 + expression_tokens e) + (0 + 0) = omega arith in z)

  -- a table in the body has few labels
  way_short : (n line : ℕ) (ways : Option (List ℕ)) → owned_marks s.unit who n ≡ ways → listed_size (switch_order ways n line) ≤ 84
  way_short n line None is = omega arith
  way_short n line (Some ms) is = let few = few-marks s.unit who n ms is in let most = few.1 in omega arith

  jump_short : (line : ℕ) (d : Dest) → Short (jump_piece (at_line line s) who d) 0 (32 * jump_tokens d)
  jump_short line (dest.Goal g) = let h = goal-short s.unit who g in plainly (goal_order s.unit who g ∷ []) (32 * 1) (one_short (goal_order s.unit who g) (32 * 1) (let z : listed_size (goal_order s.unit who g) ≤ 32 * 1 = omega (arith, h) in z))
  jump_short line (dest.Special k) = plainly (order.GoSpecial (control_place s.parameters k) ∷ []) (32 * 1) (one_short (order.GoSpecial (control_place s.parameters k)) (32 * 1) (let z : listed_size (order.GoSpecial (control_place s.parameters k)) ≤ 32 * 1 = omega (arith, go-short (control_place s.parameters k)) in z))
  jump_short line (dest.Switch n e) = switched line e (switch_order (owned_marks s.unit who n) n line) (way_short n line (owned_marks s.unit who n) refl)
  jump_short line (dest.CommonSwitch d e) = switched line e (order.GoSwitchCommon d line) (let z : 8 ≤ 84 = omega arith in z)
  jump_short line (dest.SpecialSwitch k e) = switched line e (order.GoSwitchSpecial (control_place s.parameters k) line) (let few = through-short (control_place s.parameters k) line in let z : listed_size (order.GoSwitchSpecial (control_place s.parameters k) line) ≤ 84 = omega (arith, few) in z)

  -- with the landings of its labels
  abbrev pub ShortStatement : Stmt → Type 0
  ShortStatement t = Short (statement_piece s who answer t) (15 * set_labels t) (32 * statement_tokens t)

  module _ (n : ℕ) (below : (t : Stmt) → statement_size t < n → ShortStatement t) where
    all_short : (ss : List Stmt) → total (map statement_size ss) < n → Short (sequence (map (statement_piece s who answer) ss)) (15 * together (map set_labels ss)) (32 * separated (map statement_tokens ss))
    all_short [] lt = eased (plainly [] 0 (let z : 0 ≤ 0 = omega arith in z)) (let z : 0 + 15 * 0 ≤ 32 * 0 + 0 = omega arith in z)
    all_short (t ∷ ts) lt =
        let labels = together (map set_labels ts) in
        let tokens = separated (map statement_tokens ts) in
        eased (both_short (below t (let z : statement_size t < n = omega (arith, lt) in z)) (all_short ts (let z : total (map statement_size ts) < n = omega (arith, lt) in z)))
        (let z : 32 * statement_tokens t + 32 * tokens + 15 * (set_labels t + labels) ≤ 32 * (suc (statement_tokens t) + tokens) + (15 * set_labels t + 15 * labels) = omega arith in z)

    layer_short : (x : Stmt-F Stmt) → size_layer x ≤ n → Short (statement_layer s who answer x) (15 * labels_layer x) (32 * tokens_layer x)
    layer_short (statement.Put line r e) le =
        eased
        (both_short (begin_short line)
        (both_short (expression_short (at_line line s) e (out-Ref r).f)
        (both_short (saved_short (at_line line s)) (both_short (address_short (at_line line s) r) (plainly (store_orders (out-Ref r).field) 26 (store-short (out-Ref r).field))))))
        (let z : 0 + (32 * expression_tokens e + 5 + (1 + (32 * reference_tokens r + 26))) + 15 * 0 ≤ 32 * suc (reference_tokens r + expression_tokens e) + (0 + (0 + (0 + (14 + 0)))) = omega arith in z)
    layer_short (statement.PutBits line t b r e) le =
        eased
        (both_short (begin_short line)
        (both_short (expression_short (at_line line s) e 0)
        (both_short (saved_short (at_line line s)) (both_short (address_short (at_line line s) r) (plainly (order.StorePart t b ∷ []) 26 (one_short (order.StorePart t b) 26 (store-part-short t b)))))))
        (let z : 0 + (32 * expression_tokens e + 5 + (1 + (32 * reference_tokens r + 26))) + 15 * 0 ≤ 32 * (7 + (reference_tokens r + expression_tokens e)) + (0 + (0 + (0 + (14 + 0)))) = omega arith in z)
    layer_short (statement.Go line d) le =
        eased (both_short (begin_short line) (jump_short line d)) (let z : 0 + 32 * jump_tokens d + 15 * 0 ≤ 32 * suc (jump_tokens d) + (0 + 0) = omega arith in z)
    layer_short (statement.Call line t args) le =
        let ns = map argument_tokens args in
        let listed = separated-within ns in
        let h = at_line line s in
        subst (λ (l : List ℕ). Short (statement_layer s who answer (statement.Call line t args)) (15 * 0) (32 * suc (arguments l))) (sym (each-argument args))
        (eased
        (both_short (begin_short line)
        (both_short (arguments_short h args) (plainly (call_order h t ∷ after_statement_call t) 13 (first_short (call_order h t) (after_statement_call t) 13 0 (call-short h t) (after-short t)))))
        (let z : 0 + (32 * separated ns + 13) + 15 * 0 ≤ 32 * suc (arguments ns) + (0 + (0 + 0)) = omega (arith, listed) in z))
    layer_short (statement.Answer line e) le =
        eased
        (both_short (begin_short line) (both_short (expression_short (at_line line s) e answer) (plainly (order.Return (argument_words s.parameters) true ∷ []) 6 (let z : 6 + 0 ≤ 6 = omega arith in z))))
        (let z : 0 + (32 * expression_tokens e + 5 + 6) + 15 * 0 ≤ 32 * suc (expression_tokens e) + (0 + (0 + 0)) = omega arith in z)
    layer_short (statement.If line c a b) le =
        let i = condition_tokens c in
        let j = statement_tokens a in
        let k = statement_tokens b in
        eased
        (both_short (begin_short line)
        (parted_short (condition_piece (at_line line s) c) (jump_past (comes_to_end a) b) (statement_piece s who answer a) (statement_piece s who answer b) (λ when mark. condition_ended_short (at_line line s) c when mark)
        (jump-holds (λ os. listed_sizes os ≤ 3) (λ end. (let z : 3 + 0 ≤ 3 = omega arith in z)) (let z : 0 ≤ 3 = omega arith in z) (comes_to_end a) b)
        (below a (let z : statement_size a < n = omega (arith, le) in z)) (below b (let z : statement_size b < n = omega (arith, le) in z))))
        (let z : 0 + (32 * i + 32 * j + 32 * k + 3) + 15 * (set_labels a + set_labels b) ≤ 32 * (2 + (i + (j + k))) + (0 + (15 * set_labels a + 15 * set_labels b)) = omega arith in z)
    layer_short (statement.For line item r es t) le =
        let m = separated (each_element es) in
        eased
        (both_short (begin_short line)
        (begun_loop_short (at_line line s) item r es (statement_piece s who answer t) (15 * set_labels t) (32 * statement_tokens t) (below t (let z : statement_size t < n = omega (arith, le) in z))))
        (let z : 0 + (32 * suc (reference_tokens r + m) + 32 * statement_tokens t + 6) + 15 * set_labels t ≤ 32 * (2 + (reference_tokens r + (m + statement_tokens t))) + (0 + 15 * set_labels t) = omega arith in z)
    layer_short (statement.Seq ss) le = all_short ss (let z : total (map statement_size ss) < n = omega (arith, le) in z)
    layer_short (statement.Mark ls t) le =
        eased (both_short (labels_short ls) (below t (let z : statement_size t < n = omega (arith, le) in z)))
        (let z : 0 + 32 * statement_tokens t + 15 * (length ls + set_labels t) ≤ 32 * (2 * length ls + statement_tokens t) + (0 + 15 * set_labels t) = omega arith in z)

  short_below : (n : ℕ) (t : Stmt) → statement_size t < n → ShortStatement t
  short_below zero t lt = absurd (omega (arith, lt))
  short_below (suc n) t lt =
      subst (λ (p : Piece). Short p (15 * set_labels t) (32 * statement_tokens t)) (sym (statement-made s who answer t))
      (subst (λ (k : ℕ). Short (statement_layer s who answer (out-Stmt t)) (15 * k) (32 * statement_tokens t)) (sym (labels-set t))
      (subst (λ (k : ℕ). Short (statement_layer s who answer (out-Stmt t)) (15 * labels_layer (out-Stmt t)) (32 * k)) (sym (statement-tokens t))
      (layer_short n (short_below n) (out-Stmt t) (let z : size_layer (out-Stmt t) ≤ n = omega (arith, lt, statement-size t) in z))))

  pub statement_short : (t : Stmt) → ShortStatement t
  statement_short t = short_below (suc (statement_size t)) t (let z : statement_size t < suc (statement_size t) = omega arith in z)
