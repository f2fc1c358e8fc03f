-- The orders of a statement begin the statements of its lines, in order.
use Rattle.std.proofs.Common.{◌≡◌, ℕ, zero, suc, ◌+◌, ◌<◌, ◌≤◌, List, [], ◌∷◌, ◌++◌, map, true, false, Option, Some, None, append-nil, refl, sym, ap, ◌∙◌, subst, arith}
use Rattle.std.specs.Prelude.{flat_map}
use Rattle.cw_order.specs.declared.order.Order.{Order}
use Rattle.cw_order.specs.declared.order.Order.TheVariants as order
use Rattle.cw_unit.specs.declared.unit.Dest.{Dest}
use Rattle.cw_unit.specs.declared.unit.Dest.TheVariants as dest
use Rattle.cw_unit.specs.declared.unit.Felem.{Felem}
use Rattle.cw_unit.specs.declared.unit.Felem.TheVariants as element
use Rattle.cw_unit.specs.declared.unit.Expr.{Expr}
use Rattle.cw_unit.specs.declared.unit.Cond.{Cond}
use Rattle.cw_unit.specs.declared.unit.Ref.{Ref, out-Ref}
use Rattle.cw_unit.specs.declared.unit.Stmt.{Stmt, Stmt-F, out-Stmt, map-Stmt, fold_out-Stmt}
use Rattle.cw_unit.specs.declared.unit.Stmt.TheOpen as statement
use Rattle.cw_unit.specs.Begun.{line_of}
use Rattle.cw_gen_expr.specs.Pieces.{Piece, plain, followed_by, sequence, with_end}
use Rattle.cw_gen_expr.specs.ReferenceExpressions.{Scope, at_line, argument_words, control_place, item_order, store_orders, call_order, condition_piece, reference_of, expression_piece}
use Rattle.cw_gen_expr.proofs.Layers.{total}
use Rattle.cw_gen_unit.specs.Endings.{comes_to_end}
use Rattle.cw_gen_unit.proofs.Layers.{statement_layer, statement-made, statement_size, size_layer, statement-size, jump-holds}
use Rattle.cw_gen_unit.specs.ReferenceStatements.{after_statement_call, goal_order, owned_marks, switch_order, jump_piece, with_middle, keep_orders, number_orders, set_orders, bump_orders, turn_piece, while_values, step_values, element_piece, elements_piece, element_ways, ring_piece, loop_place, simple_beginning, first_turn, stepped_piece, begun_loop, jump_past, statement_piece}
use Rattle.cw_gen_unit.specs.declared.simple.SimpleStep.{SimpleStep}
use Rattle.cw_gen_unit.specs.SimpleLoops.{simple_step}
use Rattle.cw_traced.specs.Lines.Lines.{joined, lines_step, lines_in, parts_of}
use Rattle.cw_traced.proofs.Lines.Starting.{begun_in, Begins, Silent, as-lines, plainly, both, before, ended, labelled, begun}
use Rattle.cw_traced.proofs.Lines.Silent.{none-first, item-first, store-silent, call-silent, after-silent, goal-silent, beginning-silent}
use Rattle.cw_traced.proofs.Lines.Expressions.{parted-begins, saved-silent, expression-begins, condition-begins, address-begins, arguments-begin}

-- ---- layers

abbrev lines_layer : Stmt-F Stmt → List ℕ
lines_layer x = lines_step (map-Stmt Stmt (List ℕ) lines_in x)

lines-made : (t : Stmt) → lines_in t ≡ lines_layer (out-Stmt t)
lines-made = fold_out-Stmt (List ℕ) lines_step

-- ---- by parts

each-part : (ss : List Stmt) → joined (map lines_in ss) ≡ flat_map lines_in ss
each-part [] = refl
each-part (s ∷ ss) = ap (λ ls. lines_in s ++ ls) (each-part ss)

layer-parts : (x : Stmt-F Stmt) → lines_layer x ≡ line_of x ++ flat_map lines_in (parts_of x)
layer-parts (statement.If line c a b) = ap (λ ls. line ∷ (lines_in a ++ ls)) (sym (append-nil (lines_in b)))
layer-parts (statement.For line item r es body) = ap (λ ls. line ∷ ls) (sym (append-nil (lines_in body)))
layer-parts (statement.Seq ss) = each-part ss
layer-parts (statement.Mark ls t) = sym (append-nil (lines_in t))
layer-parts _ = refl

pub by-parts : (t : Stmt) → lines_in t ≡ line_of (out-Stmt t) ++ flat_map lines_in (parts_of (out-Stmt t))
by-parts t = lines-made t ∙ layer-parts (out-Stmt t)

-- ---- FOR

middle : {xs ys : List ℕ} (a b : ℕ → Piece) → ((mark : ℕ) → Begins (a mark) xs) → ((mark : ℕ) → Begins (b mark) ys) → Begins (with_middle a b) (xs ++ ys)
middle a b ha hb = record { at = λ place next. (both (ended a ha) (hb next)).at place next }

module _ (s : Scope) (item : ℕ) where
  kept : (word : ℕ) → Silent (plain (keep_orders s.layout item word))
  kept word = plainly (keep_orders s.layout item word) (item-first s.layout item word (order.Store ∷ []) refl)

  numbered : (i : ℕ) → Silent (plain (number_orders s.layout item i))
  numbered i = plainly (number_orders s.layout item i) (item-first s.layout item 3 (order.Store ∷ []) refl)

  variable-set : Silent (plain (set_orders s.layout s.line item))
  variable-set = plainly (set_orders s.layout s.line item) (item-first s.layout item 0 (order.SetVariable s.line ∷ []) refl)

  bumped : Silent (plain (bump_orders s.layout s.line item))
  bumped = plainly (bump_orders s.layout s.line item) (item-first s.layout item 0 (order.AddStep s.line ∷ []) refl)

  turned : (body : ℕ) → Silent (turn_piece s.layout s.line item body)
  turned body =
      ended (λ next. plain (item_order s.layout item 0 ∷ order.PutVariable s.line ∷ order.Exhausted next ∷ order.Jump body ∷ []))
      (λ next. plainly (item_order s.layout item 0 ∷ order.PutVariable s.line ∷ order.Exhausted next ∷ order.Jump body ∷ []) (item-first s.layout item 0 (order.PutVariable s.line ∷ order.Exhausted next ∷ order.Jump body ∷ []) refl))

  while-silent : (f body next i : ℕ) (e : Expr) (c : Cond) → Silent (while_values s item f body next i e c)
  while-silent f body next i e c =
      both (numbered i) (both (expression-begins s e f) (both variable-set (both (condition-begins s c false next) (plainly (order.Jump body ∷ []) refl))))

  step-silent : (f turn i : ℕ) (a b d : Expr) → Silent (step_values s item f turn i a b d)
  step-silent f turn i a b d =
      both (numbered i)
      (both (expression-begins s a f)
      (both variable-set
      (both (expression-begins s b f)
      (both (kept 1)
      (both (expression-begins s d f) (plainly (keep_orders s.layout item 2 ++ order.Jump turn ∷ []) (item-first s.layout item 2 (order.Store ∷ order.Jump turn ∷ []) refl)))))))

  element-silent : (f set body i : ℕ) (e : Felem) → Silent (element_piece s item f set body i e)
  element-silent f set body i (element.One e) =
      ended (λ next. followed_by (plain (number_orders s.layout item i)) (followed_by (expression_piece s e f) (plain (order.Jump set ∷ []))))
      (λ next. both (numbered i) (both (expression-begins s e f) (plainly (order.Jump set ∷ []) refl)))
  element-silent f set body i (element.While e c) =
      middle (λ own. plain []) (λ own. with_end (λ next. while_values s item f body next i e c)) (λ own. plainly [] refl)
      (λ own. ended (λ next. while_values s item f body next i e c) (λ next. while-silent f body next i e c))
  element-silent f set body i (element.Step a b d) =
      middle (λ turn. followed_by (with_end (λ bump. step_values s item f turn i a b d)) (plain (bump_orders s.layout s.line item))) (λ turn. turn_piece s.layout s.line item body)
      (λ turn. both (ended (λ bump. step_values s item f turn i a b d) (λ bump. step-silent f turn i a b d)) bumped)
      (λ turn. turned body)

  elements-silent : (f set body i : ℕ) (es : List Felem) → Silent (elements_piece s item f set body i es)
  elements-silent f set body i [] = plainly [] refl
  elements-silent f set body i (e ∷ es) = both (element-silent f set body i e) (elements-silent f set body (i + 1) es)

  -- the elements begin none, and the body those of its lines
  ring-begins : (f : ℕ) (es : List Felem) (body : Piece) (xs : List ℕ) → Begins body xs → Begins (ring_piece s item f es body) xs
  ring-begins f es body xs h = record { at = λ place next. (laid (element_ways s item f (next + 1 + 1) (next + 1) 1 es place (next + 1 + 1 + 1))).at place next }
    where
      laid : (ways : List ℕ) → Begins (with_end (λ end. with_middle (λ start. followed_by (with_end (λ set. followed_by (elements_piece s item f set start 1 es) (plain (order.Jump end ∷ [])))) (plain (set_orders s.layout s.line item))) (λ start. followed_by body (plain (item_order s.layout item 3 ∷ order.Load ∷ order.LoopWay ways ∷ []))))) xs
      laid ways =
          ended (λ end. with_middle (λ start. followed_by (with_end (λ set. followed_by (elements_piece s item f set start 1 es) (plain (order.Jump end ∷ [])))) (plain (set_orders s.layout s.line item))) (λ start. followed_by body (plain (item_order s.layout item 3 ∷ order.Load ∷ order.LoopWay ways ∷ []))))
          (λ end. middle (λ start. followed_by (with_end (λ set. followed_by (elements_piece s item f set start 1 es) (plain (order.Jump end ∷ [])))) (plain (set_orders s.layout s.line item))) (λ start. followed_by body (plain (item_order s.layout item 3 ∷ order.Load ∷ order.LoopWay ways ∷ [])))
          (λ start. both (ended (λ set. followed_by (elements_piece s item f set start 1 es) (plain (order.Jump end ∷ []))) (λ set. both (elements-silent f set start 1 es) (plainly (order.Jump end ∷ []) refl))) variable-set)
          (λ start. before h (plainly (item_order s.layout item 3 ∷ order.Load ∷ order.LoopWay ways ∷ []) (item-first s.layout item 3 (order.Load ∷ order.LoopWay ways ∷ []) refl))))

  -- the one STEP element of a FOR
  first-turn-silent : (f end : ℕ) (a b d : Expr) → Silent (first_turn s item f a b d end)
  first-turn-silent f end a b d =
      let last : List Order = order.PutVariable s.line ∷ order.Exhausted end ∷ [] in
      both (numbered 1)
      (both (expression-begins s a f)
      (both variable-set
      (both (expression-begins s b f)
      (both (kept 1)
      (both (expression-begins s d f)
      (plainly (keep_orders s.layout item 2 ++ item_order s.layout item 0 ∷ last) (item-first s.layout item 2 (order.Store ∷ item_order s.layout item 0 ∷ last) (item-first s.layout item 0 last refl))))))))

  simple-silent : (x : SimpleStep) (end : ℕ) → Silent (plain (simple_beginning s.layout item x end))
  simple-silent x end = plainly (simple_beginning s.layout item x end) (beginning-silent s.layout item x end)

  stepped-begins : (beginning : ℕ → Piece) (body : Piece) (xs : List ℕ) → ((end : ℕ) → Silent (beginning end)) → Begins body xs → Begins (stepped_piece s item beginning body) xs
  stepped-begins beginning body xs hn h =
      let next : ℕ → Order = order.NextStep (loop_place s.layout item) s.line in
      ended (λ end. with_middle (λ start. beginning end) (λ start. followed_by body (plain (next start ∷ []))))
      (λ end. middle (λ start. beginning end) (λ start. followed_by body (plain (next start ∷ []))) (λ start. hn end) (λ start. before h (plainly (next start ∷ []) refl)))

  -- a FOR behind the address of its control variable
  addressed : (r : Ref) (xs : List ℕ) (p : Piece) → Begins p xs → Begins (followed_by (reference_of s r).address (followed_by (plain (keep_orders s.layout item 0)) p)) xs
  addressed r xs p h = both (address-begins s r) (both (kept 0) h)

  one-step-begins : (r : Ref) (a b d : Expr) (body : Piece) (xs : List ℕ) (x : Option SimpleStep) → Begins body xs → Begins (begun_loop s x item r (element.Step a b d ∷ []) body) xs
  one-step-begins r a b d body xs None h =
      let f = (out-Ref r).f in
      addressed r xs (stepped_piece s item (first_turn s item f a b d) body) (stepped-begins (first_turn s item f a b d) body xs (λ end. first-turn-silent f end a b d) h)
  one-step-begins r a b d body xs (Some x) h = stepped-begins (λ end. plain (simple_beginning s.layout item x end)) body xs (λ end. simple-silent x end) h

  loop-begins : (r : Ref) (es : List Felem) (body : Piece) (xs : List ℕ) → Begins body xs → Begins (begun_loop s (simple_step s.layout item r es) item r es body) xs
  loop-begins r (element.Step a b d ∷ []) body xs h = one-step-begins r a b d body xs (simple_step s.layout item r (element.Step a b d ∷ [])) h
  loop-begins r [] body xs h = addressed r xs (ring_piece s item (out-Ref r).f [] body) (ring-begins (out-Ref r).f [] body xs h)
  loop-begins r (element.One e ∷ es) body xs h = addressed r xs (ring_piece s item (out-Ref r).f (element.One e ∷ es) body) (ring-begins (out-Ref r).f (element.One e ∷ es) body xs h)
  loop-begins r (element.While e c ∷ es) body xs h = addressed r xs (ring_piece s item (out-Ref r).f (element.While e c ∷ es) body) (ring-begins (out-Ref r).f (element.While e c ∷ es) body xs h)
  loop-begins r (element.Step a b d ∷ e ∷ es) body xs h =
      addressed r xs (ring_piece s item (out-Ref r).f (element.Step a b d ∷ e ∷ es) body) (ring-begins (out-Ref r).f (element.Step a b d ∷ e ∷ es) body xs h)

-- ---- statements

switch-silent : (o : Option (List ℕ)) (n line : ℕ) → Silent (plain (switch_order o n line ∷ []))
switch-silent None n line = plainly (order.GoSwitch n line ∷ []) refl
switch-silent (Some ms) n line = plainly (order.SwitchWay ms line ∷ []) refl

module _ (s : Scope) (who : Option ℕ) (answer : ℕ) where
  jump-silent : (line : ℕ) (d : Dest) → Silent (jump_piece (at_line line s) who d)
  jump-silent line (dest.Goal g) = plainly (goal_order s.unit who g ∷ []) (none-first (goal_order s.unit who g) [] (goal-silent s.unit who g) refl)
  jump-silent line (dest.Special k) = plainly (order.GoSpecial (control_place s.parameters k) ∷ []) refl
  jump-silent line (dest.Switch n e) = both (expression-begins (at_line line s) e 0) (switch-silent (owned_marks s.unit who n) n line)
  jump-silent line (dest.CommonSwitch d e) = both (expression-begins (at_line line s) e 0) (plainly (order.GoSwitchCommon d line ∷ []) refl)
  jump-silent line (dest.SpecialSwitch k e) = both (expression-begins (at_line line s) e 0) (plainly (order.GoSwitchSpecial (control_place s.parameters k) line ∷ []) refl)

  module _ (n : ℕ) (below : (t : Stmt) → statement_size t < n → Begins (statement_piece s who answer t) (lines_in t)) where
    all-begin : (ss : List Stmt) → total (map statement_size ss) < n → Begins (sequence (map (statement_piece s who answer) ss)) (joined (map lines_in ss))
    all-begin [] lt = plainly [] refl
    all-begin (t ∷ ts) lt = both (below t (let z : statement_size t < n = omega (arith, lt) in z)) (all-begin ts (let z : total (map statement_size ts) < n = omega (arith, lt) in z))

    layer-begins : (x : Stmt-F Stmt) → size_layer x ≤ n → Begins (statement_layer s who answer x) (lines_layer x)
    layer-begins (statement.Put line r e) le =
        both (begun line)
        (both (expression-begins (at_line line s) e (out-Ref r).f)
        (both saved-silent (both (address-begins (at_line line s) r) (plainly (store_orders (out-Ref r).field) (store-silent (out-Ref r).field)))))
    layer-begins (statement.PutBits line t b r e) le =
        both (begun line) (both (expression-begins (at_line line s) e 0) (both saved-silent (both (address-begins (at_line line s) r) (plainly (order.StorePart t b ∷ []) refl))))
    layer-begins (statement.Go line d) le = both (begun line) (jump-silent line d)
    layer-begins (statement.Call line t args) le =
        both (begun line)
        (both (arguments-begin (at_line line s) args)
        (plainly (call_order (at_line line s) t ∷ after_statement_call t) (none-first (call_order (at_line line s) t) (after_statement_call t) (call-silent (at_line line s) t) (after-silent t))))
    layer-begins (statement.Answer line e) le = both (begun line) (both (expression-begins (at_line line s) e answer) (plainly (order.Return (argument_words s.parameters) true ∷ []) refl))
    layer-begins (statement.If line c a b) le =
        both (begun line)
        (parted-begins (condition_piece (at_line line s) c) (jump_past (comes_to_end a) b) (statement_piece s who answer a) (statement_piece s who answer b) (condition-begins (at_line line s) c)
        (jump-holds (λ os. begun_in os ≡ []) (λ end. refl) refl (comes_to_end a) b)
        (below a (let z : statement_size a < n = omega (arith, le) in z)) (below b (let z : statement_size b < n = omega (arith, le) in z)))
    layer-begins (statement.For line item r es t) le =
        both (begun line) (loop-begins (at_line line s) item r es (statement_piece s who answer t) (lines_in t) (below t (let z : statement_size t < n = omega (arith, le) in z)))
    layer-begins (statement.Seq ss) le = all-begin ss (let z : total (map statement_size ss) < n = omega (arith, le) in z)
    layer-begins (statement.Mark ls t) le = both (labelled ls) (below t (let z : statement_size t < n = omega (arith, le) in z))

  begins-below : (n : ℕ) (t : Stmt) → statement_size t < n → Begins (statement_piece s who answer t) (lines_in t)
  begins-below zero t lt = absurd (omega (arith, lt))
  begins-below (suc n) t lt =
      subst (λ p. Begins p (lines_in t)) (sym (statement-made s who answer t))
      (as-lines (layer-begins n (begins-below n) (out-Stmt t) (let z : size_layer (out-Stmt t) ≤ n = omega (arith, lt, statement-size t) in z)) (sym (lines-made t)))

  pub statement-begins : (t : Stmt) → Begins (statement_piece s who answer t) (lines_in t)
  statement-begins t = begins-below (suc (statement_size t)) t (let z : statement_size t < suc (statement_size t) = omega arith in z)
