-- What holds of the orders of every statement, procedure and unit, by the same properties.
use Rattle.std.proofs.Common.{ℕ, zero, suc, ◌+◌, ◌<◌, ◌≤◌, ℤ, pos, negsuc, List, [], ◌∷◌, ◌++◌, map, Bool, true, false, Option, Some, None, sym, subst, arith}
use Rattle.std.specs.Prelude.{slice_get, slice_index_or, if◌then◌else◌}
use Rattle.cw_unit.specs.declared.layout.Layout.{Layout}
use Rattle.cw_unit.specs.declared.layout.Family.{Family}
use Rattle.cw_unit.specs.declared.layout.Sort.{Sort}
use Rattle.cw_unit.specs.declared.layout.Sort.TheVariants as sort
use Rattle.cw_unit.specs.declared.unit.Unit.{Unit as SourceUnit}
use Rattle.cw_unit.specs.declared.unit.Field.{Field}
use Rattle.cw_unit.specs.declared.unit.Proc.{Proc}
use Rattle.cw_unit.specs.declared.unit.Param.{Param}
use Rattle.cw_unit.specs.declared.unit.Param.TheVariants as param
use Rattle.cw_unit.specs.declared.unit.Label.{Label}
use Rattle.cw_unit.specs.declared.unit.Target.{Target}
use Rattle.cw_unit.specs.declared.unit.Target.TheVariants as target
use Rattle.cw_unit.specs.declared.unit.Goal.{Goal}
use Rattle.cw_unit.specs.declared.unit.Goal.TheVariants as goal
use Rattle.cw_unit.specs.declared.unit.Dest.{Dest}
use Rattle.cw_unit.specs.declared.unit.Dest.TheVariants as dest
use Rattle.cw_unit.specs.declared.unit.Felem.{Felem}
use Rattle.cw_unit.specs.declared.unit.Felem.TheVariants as element
use Rattle.cw_unit.specs.declared.unit.Expr.{Expr}
use Rattle.cw_unit.specs.declared.unit.Cond.{Cond}
use Rattle.cw_unit.specs.declared.unit.Ref.{Ref, out-Ref}
use Rattle.cw_unit.specs.declared.unit.Stmt.{Stmt, Stmt-F, out-Stmt}
use Rattle.cw_unit.specs.declared.unit.Stmt.TheOpen as statement
use Rattle.cw_unit.specs.Storage.{layout_of}
use Rattle.cw_order.specs.declared.order.Order.{Order}
use Rattle.cw_order.specs.declared.order.Order.TheVariants as order
use Rattle.cw_gen_expr.specs.Pieces.{Piece, plain, followed_by, sequence, with_end, with_labels}
use Rattle.cw_gen_expr.specs.ReferenceExpressions.{Scope, at_line, item_order, number_order, store_orders, call_order, condition_piece, expression_piece, control_place, argument_words}
use Rattle.cw_gen_expr.specs.ReferenceEntries.{scope_of, bound_by, bound_in, bound_order, bind_orders}
use Rattle.cw_gen_expr.proofs.Layers.{total}
use Rattle.cw_gen_unit.specs.ReferenceStatements.{begin_orders, after_statement_call, goal_order, owned_marks, switch_order, jump_piece, with_middle, keep_orders, number_orders, set_orders, bump_orders, turn_piece, while_values, step_values, element_piece, elements_piece, element_ways, ring_piece, only_step, loop_place, value_orders, past_orders, turn_orders, simple_orders, simple_beginning, first_turn, stepped_piece, elements_loop, begun_loop, jump_past, statement_piece}
use Rattle.cw_gen_unit.specs.declared.simple.Simple.{Simple}
use Rattle.cw_gen_unit.specs.declared.simple.Simple.TheVariants as simple
use Rattle.cw_gen_unit.specs.declared.simple.SimpleStep.{SimpleStep}
use Rattle.cw_gen_unit.specs.SimpleLoops.{simple_step}
use Rattle.cw_unit.specs.Operation.{is_past}
use Rattle.cw_word.specs.Word.{unsigned}
use Rattle.cw_gen_unit.specs.ReferenceUnits.{answer_of, entry_orders, procedure_piece, procedures_piece, unit_piece}
use Rattle.cw_carry.proofs.Runs.Leading.{own_order-is, Leading, leads_before, chosen as chosen_leads, value_leads, condition_leads, jump_leads, call_statement_leads, loop_leads}
use Rattle.cw_gen_unit.specs.Endings.{comes_to_end}
use Rattle.cw_gen_unit.proofs.Layers.{statement_layer, statement-made, statement_size, size_layer, statement-size, jump-holds, leave-holds}
use Rattle.cw_carry.proofs.Runs.Generated.{IsPlain, ArePlain, ListProperty, Holds, lists, constant_first, both, ended, saves, chosen, item_plain, call_plain, value_holds, condition_holds, reference_holds, arguments_hold}

-- ---- orders of statements

goal_plain : (u : SourceUnit) (who : Option ℕ) (g : Goal) → IsPlain (goal_order u who g)
goal_plain u who (goal.Own l) = own_order-is IsPlain who (slice_get u.labels l) _ tt tt
goal_plain u who (goal.Common d) = tt

switch_plain : (o : Option (List ℕ)) (n line : ℕ) → IsPlain (switch_order o n line)
switch_plain None n line = tt
switch_plain (Some ms) n line = tt

store_plain : (x : Option Field) → ArePlain (store_orders x)
store_plain None = (tt, tt)
store_plain (Some x) = (tt, tt)

after_call_plain : (t : Target) → ArePlain (after_statement_call t)
after_call_plain target.Write = tt
after_call_plain _ = (tt, tt)

bound_plain : (y : Layout) (k i : ℕ) → IsPlain (bound_order y k i)
bound_plain y k i = of_family (slice_get y.families (slice_index_or y.homes i (0, 0)).0) (slice_index_or y.homes i (0, 0)).0 (slice_index_or y.homes i (0, 0)).1
  where
    of_sort : (x : Sort) (f o : ℕ) → IsPlain (bound_by k x f o)
    of_sort (sort.Common d) f o = tt
    of_sort _ f o = tt

    of_family : (x : Option Family) (f o : ℕ) → IsPlain (bound_in k x f o)
    of_family None f o = tt
    of_family (Some x) f o = of_sort x.sort f o

bind_plain : (y : Layout) (qs : List Param) → ArePlain (bind_orders y qs)
bind_plain y [] = tt
bind_plain y (param.Value i x ∷ qs) = (bound_plain y (argument_words qs) i, bind_plain y qs)
bind_plain y (param.Location i x ∷ qs) = (bound_plain y (argument_words qs) i, bind_plain y qs)
bind_plain y (param.Array i x ∷ qs) = (bound_plain y (argument_words qs) i, bind_plain y qs)
bind_plain y (param.Table i n ∷ qs) = (bound_plain y (argument_words qs) i, bind_plain y qs)
bind_plain y (param.Label i ∷ qs) = bind_plain y qs
bind_plain y (param.Switch i ∷ qs) = bind_plain y qs
bind_plain y (param.Proc i x ∷ qs) = bind_plain y qs

module _ (s : Scope) (c : ListProperty s.layout) where
  -- ---- loops

  middle : (a b : ℕ → Piece) → Holds c (with_end a) → ((k : ℕ) → Holds c (b k)) → Holds c (with_middle a b)
  middle a b x y = record { at = λ place next. (both c x (y next)).at place next }

  module _ (item : ℕ) where
    number_holds : (i : ℕ) → Holds c (plain (number_orders s.layout item i))
    number_holds i = constant_first c i (keep_orders s.layout item 3) (tt, (item_plain s.layout item 3, (tt, tt)))

    set_holds : Holds c (plain (set_orders s.layout s.line item))
    set_holds = lists c (set_orders s.layout s.line item) (tt, (item_plain s.layout item 0, (tt, tt)))

    bump_holds : Holds c (plain (bump_orders s.layout s.line item))
    bump_holds = lists c (bump_orders s.layout s.line item) (item_plain s.layout item 0, (tt, tt))

    keep_holds : (n : ℕ) → Holds c (plain (keep_orders s.layout item n))
    keep_holds n = lists c (keep_orders s.layout item n) (tt, (item_plain s.layout item n, (tt, tt)))

    jump_holds : (m : ℕ) → Holds c (plain (order.Jump m ∷ []))
    jump_holds m = lists c (order.Jump m ∷ []) (tt, tt)

    turn_holds : (body : ℕ) → Holds c (turn_piece s.layout s.line item body)
    turn_holds body =
        ended c (λ next. plain (item_order s.layout item 0 ∷ order.PutVariable s.line ∷ order.Exhausted next ∷ order.Jump body ∷ []))
        (λ k. lists c (item_order s.layout item 0 ∷ order.PutVariable s.line ∷ order.Exhausted k ∷ order.Jump body ∷ []) (item_plain s.layout item 0, (tt, (tt, (tt, tt)))))

    while_holds : (f body next i : ℕ) (e : Expr) (d : Cond) → Holds c (while_values s item f body next i e d)
    while_holds f body next i e d = both c (number_holds i) (both c (value_holds s c e f) (both c set_holds (both c (condition_holds s c d false next) (jump_holds body))))

    step_holds : (f turn i : ℕ) (a b d : Expr) → Holds c (step_values s item f turn i a b d)
    step_holds f turn i a b d =
        both c (number_holds i)
        (both c (value_holds s c a f)
        (both c set_holds
        (both c (value_holds s c b f)
        (both c (keep_holds 1) (both c (value_holds s c d f) (lists c (keep_orders s.layout item 2 ++ order.Jump turn ∷ []) (tt, (item_plain s.layout item 2, (tt, (tt, tt))))))))))

    element_holds : (f set body i : ℕ) (e : Felem) → Holds c (element_piece s item f set body i e)
    element_holds f set body i (element.One e) =
        ended c (λ next. followed_by (plain (number_orders s.layout item i)) (followed_by (expression_piece s e f) (plain (order.Jump set ∷ []))))
        (λ k. both c (number_holds i) (both c (value_holds s c e f) (jump_holds set)))
    element_holds f set body i (element.While e d) =
        middle (λ own. plain []) (λ own. with_end (λ next. while_values s item f body next i e d)) (ended c (λ own. plain []) (λ k. lists c [] tt))
        (λ k. ended c (λ next. while_values s item f body next i e d) (λ m. while_holds f body m i e d))
    element_holds f set body i (element.Step a b d) =
        let values = λ (turn : ℕ). followed_by (with_end (λ bump. step_values s item f turn i a b d)) (plain (bump_orders s.layout s.line item)) in
        middle values (λ turn. turn_piece s.layout s.line item body)
        (ended c values (λ k. both c (ended c (λ bump. step_values s item f k i a b d) (λ m. step_holds f k i a b d)) bump_holds))
        (λ k. turn_holds body)

    elements_hold : (f set body i : ℕ) (es : List Felem) → Holds c (elements_piece s item f set body i es)
    elements_hold f set body i [] = lists c [] tt
    elements_hold f set body i (e ∷ es) = both c (element_holds f set body i e) (elements_hold f set body (i + 1) es)

    ring_holds : (f : ℕ) (es : List Felem) (body : Piece) → Holds c body → Holds c (ring_piece s item f es body)
    ring_holds f es body h = record {
      at = λ place next.
          let ways = element_ways s item f (next + 1 + 1) (next + 1) 1 es place (next + 1 + 1 + 1) in
          let on = item_order s.layout item 3 ∷ order.Load ∷ order.LoopWay ways ∷ [] in
          let tail = λ (k j i : ℕ). followed_by (elements_piece s item f i j 1 es) (plain (order.Jump k ∷ [])) in
          let first = λ (k j : ℕ). followed_by (with_end (tail k j)) (plain (set_orders s.layout s.line item)) in
          let second = λ (j : ℕ). followed_by body (plain on) in
          (ended c (λ k. with_middle (first k) second)
          (λ k.
          middle (first k) second (ended c (first k) (λ j. both c (ended c (tail k j) (λ i. both c (elements_hold f i j 1 es) (jump_holds k))) set_holds))
          (λ j. both c h (lists c on (item_plain s.layout item 3, (tt, (tt, tt))))))).at
          place
          next;
    }

    -- ---- a FOR of one STEP element

    stepped_holds : (beginning : ℕ → Piece) (body : Piece) → ((end : ℕ) → Holds c (beginning end)) → Holds c body → Holds c (stepped_piece s item beginning body)
    stepped_holds beginning body h b =
        let on = λ (start : ℕ). order.NextStep (loop_place s.layout item) s.line start ∷ [] in
        ended c (λ end. with_middle (λ start. beginning end) (λ start. followed_by body (plain (on start))))
        (λ k. middle (λ start. beginning k) (λ start. followed_by body (plain (on start))) (ended c (λ start. beginning k) (λ j. h k)) (λ j. both c b (lists c (on j) (tt, tt))))

    first_turn_holds : (f : ℕ) (a b d : Expr) (end : ℕ) → Holds c (first_turn s item f a b d end)
    first_turn_holds f a b d end =
        both c (number_holds 1)
        (both c (value_holds s c a f)
        (both c set_holds
        (both c (value_holds s c b f)
        (both c (keep_holds 1)
        (both c (value_holds s c d f)
        (lists c (keep_orders s.layout item 2 ++ item_order s.layout item 0 ∷ order.PutVariable s.line ∷ order.Exhausted end ∷ []) (tt, (item_plain s.layout item 2, (tt, (item_plain s.layout item 0, (tt, (tt, tt))))))))))))

    plainly : (os : List Order) → ArePlain os → c.holds os
    plainly os h = (lists c os h).at 0 0

    numbered : (n : ℕ) (os : List Order) → c.holds os → c.holds (number_order n ∷ os)
    numbered n os h = c.joined (number_order n ∷ []) os ((constant_first c n [] tt).at 0 0) h

    kept : (i n : ℕ) (os : List Order) → c.holds os → c.holds (keep_orders s.layout i n ++ os)
    kept i n os h = c.joined (keep_orders s.layout i n) os (plainly (keep_orders s.layout i n) (tt, (item_plain s.layout i n, (tt, tt)))) h

    value_put : (x : Simple) (os : List Order) → c.holds os → c.holds (value_orders s.layout x ++ os)
    value_put (simple.Number z) os h = numbered (unsigned z) os h
    value_put (simple.Item i) os h = c.joined (item_order s.layout i 0 ∷ order.Load ∷ []) os (plainly (item_order s.layout i 0 ∷ order.Load ∷ []) (item_plain s.layout i 0, (tt, tt))) h

    past_plain : (j : ℕ) (z : ℤ) (end : ℕ) → ArePlain (past_orders s.layout item j z end)
    past_plain j (pos zero) end = tt
    past_plain j (pos (suc n)) end = (item_plain s.layout j 0, (tt, (tt, (item_plain s.layout item 2, (tt, (tt, tt))))))
    past_plain j (negsuc n) end = (item_plain s.layout j 0, (tt, (tt, (item_plain s.layout item 2, (tt, (tt, tt))))))

    known_plain : (b : Bool) (end : ℕ) → ArePlain (if b then (order.Jump end ∷ []) else [])
    known_plain true end = (tt, tt)
    known_plain false end = tt

    turn_plain : (j : ℕ) (a : Simple) (z : ℤ) (d : Simple) (end : ℕ) → ArePlain (turn_orders s.layout item j a z d end)
    turn_plain j (simple.Number a) z (simple.Number d) end = known_plain (is_past z a d) end
    turn_plain j (simple.Number a) z (simple.Item i) end = past_plain j z end
    turn_plain j (simple.Item i) z d end = past_plain j z end

    simple_holds : (x : SimpleStep) (end : ℕ) → Holds c (plain (simple_beginning s.layout item x end))
    simple_holds x end =
        let y = s.layout in
        let v5 = value_orders y x.limit ++ keep_orders y item 2 in
        let v4 = keep_orders y item 1 ++ v5 in
        let v3 = keep_orders y x.variable 0 ++ number_order (unsigned x.step) ∷ v4 in
        let v2 = value_orders y x.first ++ v3 in
        let v1 = number_orders y item 1 ++ v2 in
        let h5 : c.holds v5 = value_put x.limit (keep_orders y item 2) (plainly (keep_orders y item 2) (tt, (item_plain y item 2, (tt, tt)))) in
        let h3 : c.holds v3 = kept x.variable 0 (number_order (unsigned x.step) ∷ v4) (numbered (unsigned x.step) v4 (kept item 1 v5 h5)) in
        let h1 : c.holds v1 = numbered 1 (keep_orders y item 3 ++ v2) (kept item 3 v2 (value_put x.first v3 h3)) in
        let all : c.holds (simple_orders y item x) = c.joined (item_order y x.variable 0 ∷ []) (keep_orders y item 0 ++ v1) (plainly (item_order y x.variable 0 ∷ []) (item_plain y x.variable 0, tt)) (kept item 0 v1 h1) in
        let turn = turn_orders y item x.variable x.first x.step x.limit end in
        record { at = λ place next. c.joined (simple_orders y item x) turn all (plainly turn (turn_plain x.variable x.first x.step x.limit end)) }

    elements_loop_holds : (o : Option (Expr × Expr × Expr)) (f : ℕ) (es : List Felem) (body : Piece) → Holds c body → Holds c (elements_loop s o item f es body)
    elements_loop_holds None f es body h = ring_holds f es body h
    elements_loop_holds (Some e) f es body h = stepped_holds (first_turn s item f e.0 e.1 e.2) body (first_turn_holds f e.0 e.1 e.2) h

    begun_holds : (o : Option SimpleStep) (r : Ref) (es : List Felem) (body : Piece) → Holds c body → Holds c (begun_loop s o item r es body)
    begun_holds None r es body h = both c (reference_holds s c r) (both c (keep_holds 0) (elements_loop_holds (only_step es) (out-Ref r).f es body h))
    begun_holds (Some x) r es body h = stepped_holds (λ end. plain (simple_beginning s.layout item x end)) body (simple_holds x) h

  -- ---- jumps

  jump_piece_holds : (who : Option ℕ) (d : Dest) → Holds c (jump_piece s who d)
  jump_piece_holds who (dest.Goal g) = lists c (goal_order s.unit who g ∷ []) (goal_plain s.unit who g, tt)
  jump_piece_holds who (dest.Special k) = lists c (order.GoSpecial (control_place s.parameters k) ∷ []) (tt, tt)
  jump_piece_holds who (dest.Switch n e) = both c (value_holds s c e 0) (lists c (switch_order (owned_marks s.unit who n) n s.line ∷ []) (switch_plain (owned_marks s.unit who n) n s.line, tt))
  jump_piece_holds who (dest.CommonSwitch d e) = both c (value_holds s c e 0) (lists c (order.GoSwitchCommon d s.line ∷ []) (tt, tt))
  jump_piece_holds who (dest.SpecialSwitch k e) = both c (value_holds s c e 0) (lists c (order.GoSwitchSpecial (control_place s.parameters k) s.line ∷ []) (tt, tt))

-- ---- statements

module _ (s : Scope) (c : ListProperty s.layout) (who : Option ℕ) (answer : ℕ) where
  begun : (line : ℕ) {p : Piece} → Holds c p → Leading p → Holds c (followed_by (plain (begin_orders line)) p)
  begun line {p} h l = record { at = λ place next. c.begun line (p (place + 1) (next + 0)).orders (l.at (place + 1) (next + 0)) (h.at (place + 1) (next + 0)) }

  abbrev Below : ℕ → Type 0
  Below n = (t : Stmt) → statement_size t < n → Holds c (statement_piece s who answer t)

  list : (n : ℕ) → Below n → (ss : List Stmt) → total (map statement_size ss) < n → Holds c (sequence (map (statement_piece s who answer) ss))
  list n below [] lt = lists c [] tt
  list n below (t ∷ ss) lt = both c (below t (let z : statement_size t < n = omega (arith, lt) in z)) (list n below ss (let z : total (map statement_size ss) < n = omega (arith, lt) in z))

  layer : (n : ℕ) → Below n → (x : Stmt-F Stmt) → size_layer x ≤ n → Holds c (statement_layer s who answer x)
  layer n below (statement.Put line r e) le =
      let h = at_line line s in
      begun line (both c (value_holds h c e (out-Ref r).f) (both c (saves c) (both c (reference_holds h c r) (lists c (store_orders (out-Ref r).field) (store_plain (out-Ref r).field)))))
      (record { at = λ place next. leads_before _ _ ((value_leads h e (out-Ref r).f).at place next) })
  layer n below (statement.PutBits line t b r e) le =
      let h = at_line line s in
      begun line (both c (value_holds h c e 0) (both c (saves c) (both c (reference_holds h c r) (lists c (order.StorePart t b ∷ []) (tt, tt)))))
      (record { at = λ place next. leads_before _ _ ((value_leads h e 0).at place next) })
  layer n below (statement.Go line d) le = begun line (jump_piece_holds (at_line line s) c who d) (jump_leads (at_line line s) who d)
  layer n below (statement.Call line t args) le =
      let h = at_line line s in
      begun line (both c (arguments_hold h c args) (lists c (call_order h t ∷ after_statement_call t) (call_plain h t, after_call_plain t)))
      (call_statement_leads h t args (after_statement_call t))
  layer n below (statement.Answer line e) le =
      begun line (both c (value_holds (at_line line s) c e answer) (lists c (order.Return (argument_words s.parameters) true ∷ []) (tt, tt)))
      (record { at = λ place next. leads_before _ _ ((value_leads (at_line line s) e answer).at place next) })
  layer n below (statement.If line d a b) le =
      begun line
      (chosen c (condition_piece (at_line line s) d) (jump_past (comes_to_end a) b) (statement_piece s who answer a) (statement_piece s who answer b) (λ m. condition_holds (at_line line s) c d false m) (jump-holds ArePlain (λ end. (tt, tt)) tt (comes_to_end a) b) (below a (let z : statement_size a < n = omega (arith, le) in z)) (below b (let z : statement_size b < n = omega (arith, le) in z)))
      (chosen_leads (condition_piece (at_line line s) d) (jump_past (comes_to_end a) b) (statement_piece s who answer a) (statement_piece s who answer b) (λ m. condition_leads (at_line line s) d false m))
  layer n below (statement.For line item r es t) le =
      let h = at_line line s in
      begun line (begun_holds h c item (simple_step s.layout item r es) r es (statement_piece s who answer t) (below t (let z : statement_size t < n = omega (arith, le) in z)))
      (loop_leads h (simple_step s.layout item r es) item r es (statement_piece s who answer t))
  layer n below (statement.Seq ss) le = list n below ss (let z : total (map statement_size ss) < n = omega (arith, le) in z)
  layer n below (statement.Mark ls t) le =
      both c {p = with_labels ls} (record { at = λ place next. c.alone order.Mark tt }) (below t (let z : statement_size t < n = omega (arith, le) in z))

  all_below : (n : ℕ) → Below n
  all_below zero t lt = absurd (omega (arith, lt))
  all_below (suc n) t lt = subst (Holds c) (sym (statement-made s who answer t)) (layer n (all_below n) (out-Stmt t) (let z : size_layer (out-Stmt t) ≤ n = omega (arith, lt, statement-size t) in z))

  statement_holds : (t : Stmt) → Holds c (statement_piece s who answer t)
  statement_holds t = all_below (suc (statement_size t)) t (let z : statement_size t < suc (statement_size t) = omega arith in z)

-- ---- units

module _ (u : SourceUnit) (c : ListProperty (layout_of u)) where
  procedure : (p : ℕ) (q : Proc) → Holds c (procedure_piece u p q)
  procedure p q =
      both c (lists c (entry_orders u p q) (tt, bind_plain (layout_of u) q.params))
      (both c (statement_holds (scope_of u (Some p)) c (Some p) (answer_of u (Some p)) q.body)
      (leave-holds (λ os. Holds c (plain os)) q (constant_first c 0 (order.Return (argument_words q.params) true ∷ []) (tt, tt)) (lists c [] tt)))

  procedures : (p : ℕ) (qs : List Proc) → Holds c (procedures_piece u p qs)
  procedures p [] = lists c [] tt
  procedures p (q ∷ qs) = both c (procedure p q) (procedures (suc p) qs)

  pub unit_holds : Holds c (unit_piece u)
  unit_holds = both c (both c (statement_holds (scope_of u None) c None 0 u.body) (lists c (order.NextBody ∷ []) (tt, tt))) (procedures 0 u.procs)
