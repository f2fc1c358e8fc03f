-- The orders follow the source through the elements of a FOR.
use Rattle.std.proofs.Common.{◌≡◌, inl, ℕ, zero, suc, ◌+◌, ◌-◌, ◌*◌, ◌%◌, ◌<◌, ◌≤◌, ℤ, pos, List, [], ◌∷◌, ◌++◌, length, set, Bool, true, false, Option, Some, None, refl, sym, ap, ◌∙◌, subst, arith}
use Rattle.std.specs.Prelude.{slice_get, IsTrue, ◌&&◌}
use Rattle.std.proofs.lemmas.Bool.{lt-ltb}
use Rattle.std.proofs.lemmas.Option.{none-some, same_Some, slice_get_within}
use Rattle.std.proofs.lemmas.Int.{ints}
use Rattle.cw_track.proofs.Paths.{Path, next as move, join, weaken}
use Rattle.cw_word.specs.Word.{signed}
use Rattle.cw_unit.specs.declared.unit.Felem.{Felem}
use Rattle.cw_unit.specs.declared.unit.Felem.TheVariants as element
use Rattle.cw_unit.specs.declared.unit.Cond.{Cond}
use Rattle.cw_unit.specs.declared.unit.Expr.{Expr}
use Rattle.cw_unit.specs.Stop.{AddressRange, Running}
use Rattle.cw_unit.specs.Words.{Word, Words, Changed, Refused, with_memory, put, word_at, number_of, is_below, through}
use Rattle.cw_unit.specs.Operation.{AddStep, perform, is_past}
use Rattle.cw_unit.specs.Work.{Work, Run, Eval, Test, KeepAt, SetVar, Element, Turn, Bump, On, Loop, element_at, element_work, next_work, next_element}
use Rattle.cw_unit.specs.Configuration.{at as configuration, address_at}
use Rattle.cw_unit.specs.Step.{pick, element_step, turn_step}
use Rattle.cw_unit.specs.Behaviour.{shown}
use Rattle.cw_order.specs.declared.order.Order.{Order}
use Rattle.cw_order.specs.declared.order.Order.TheVariants as order
use Rattle.cw_order.specs.OrderChanges.{mark_of_number, to_mark_in, to_mark_if, way_past_limit}
use Rattle.cw_order.specs.OrderProgram.{order_at}
use Rattle.cw_order.specs.OrderState.{OrderState, at as state, stack_words}
use Rattle.cw_order.specs.OrderActions.{action_of}
use Rattle.cw_order.specs.OrderCosts.{weight_of, weight_at}
use Rattle.cw_order.specs.OrderMachine.{act, branch, go_at, carry_out}
use Rattle.cw_order.specs.Starting.{started_by}
use Rattle.cw_gen_expr.specs.Pieces.{Piece, plain, followed_by, with_end}
use Rattle.cw_gen_expr.specs.ReferenceExpressions.{Scope, at_line, item_order, expression_piece, condition_piece}
use Rattle.cw_gen_expr.specs.BuiltExpressions.{is_expression, is_condition, most_levels}
use Rattle.cw_safety.proofs.Truth.{both}
use Rattle.cw_carry.proofs.Expressions.Standing.{Stands, Made, both_made, one_made, end_made}
use Rattle.cw_carry.proofs.Expressions.Effects.{then_do, through_all, is_silent, total_weight, Ran}
use Rattle.cw_carry.proofs.Expressions.Carried.{Leads, here, past, over as leap, Via, wider, who_of}
use Rattle.cw_carry.proofs.Expressions.Operations.{keeps, bumps, behind_word, variable_put}
use Rattle.cw_carry.proofs.Expressions.Stepping.{Quiet, Compiled, source, target, B, work_size, Seen, order_here, mark_here, lands, silent, stops}
use Rattle.cw_carry.proofs.Expressions.Addresses.{item_and}
use Rattle.cw_carry.proofs.Expressions.Moments.{item_silent, item_light, item_loads, item_tells, IsLight, silent_and, Moment, here_in, layout, scope, has_words, code, marks, At, Leads_to, at_close, Steps, config, next, run, Facts, at_once, done_by, one_order, ran_on}
use Rattle.cw_gen_unit.specs.ReferenceStatements.{keep_orders, number_orders, set_orders, bump_orders, element_piece, way_mark}
use Rattle.cw_gen_unit.specs.BuiltStatements.{is_element, are_elements}
use Rattle.cw_carry.proofs.Statements.Sites.{LoopSite, ElementSite, TurnSite, BumpSite, OnSite, sites}
use Rattle.cw_gen_unit.specs.ReferenceUnits.{answer_of}

element_built : (f : ℕ) (check : ℕ → Felem → Bool) (all : ℕ → List Felem → Bool) → ((e : Felem) (es : List Felem) → all f (e ∷ es) ≡ (check f e && all f es)) → (es : List Felem) (i : ℕ) (e : Felem) → IsTrue (all f es) → element_at es i ≡ Some e → IsTrue (check f e)
element_built f check all split es zero e b h = absurd (none-some e h)
element_built f check all split es (suc n) e b h = by_place es n b h
  where
    by_place : (es : List Felem) (n : ℕ) → IsTrue (all f es) → slice_get es n ≡ Some e → IsTrue (check f e)
    by_place [] n b h = absurd (none-some e h)
    by_place (d ∷ es) zero b h = subst (λ x. IsTrue (check f x)) (same_Some d e h) (both (check f d) (all f es) (sym (split d es) ∙ b)).0
    by_place (d ∷ es) (suc n) b h = by_place es n (both (check f d) (all f es) (sym (split d es) ∙ b)).1 h

element_within : (es : List Felem) (i : ℕ) (e : Felem) → element_at es i ≡ Some e → (1 ≤ i) × (i ≤ length es)
element_within es zero e h = absurd (none-some e h)
element_within es (suc n) e h = let lt = slice_get_within es n e h in ((let z : 1 ≤ suc n = omega arith in z), (let z : suc n ≤ length es = omega (arith, lt) in z))

element_past : (es : List Felem) (i : ℕ) → 1 ≤ i → i ≤ length es + 1 → element_at es i ≡ None → i ≡ length es + 1
element_past es zero one le h = absurd (omega (arith, one))
element_past [] (suc zero) one le h = let z : 1 ≡ 0 + 1 = omega arith in z
element_past [] (suc (suc n)) one le h = absurd (omega (arith, le))
element_past (e ∷ es) (suc zero) one le h = absurd (none-some e (sym h))
element_past (e ∷ es) (suc (suc n)) one le h =
    let r = element_past es (suc n) (let z : 1 ≤ suc n = omega arith in z) (let z : suc n ≤ length es + 1 = omega (arith, le) in z) h in
    let z : suc (suc n) ≡ suc (length es) + 1 = omega (arith, r) in z

-- ---- where the parts of a STEP element stand

module _ (code : List Order) (marks : List ℕ) (s : Scope) (who : Option ℕ) (answer : ℕ) (item f : ℕ) (a b d : Expr) (i : ℕ) (tail : List Order) where
  abbrev pa : Piece
  pa = expression_piece s a f

  abbrev pb : Piece
  pb = expression_piece s b f

  abbrev pd : Piece
  pd = expression_piece s d f

  abbrev keep1 : List Order
  keep1 = keep_orders s.layout item 1

  -- the limit is kept, and what follows it
  abbrev keep2 : List Order
  keep2 = keep_orders s.layout item 2 ++ tail

  abbrev after_keep1 : Piece
  after_keep1 = followed_by pd (plain keep2)

  abbrev after_b : Piece
  after_b = followed_by (plain keep1) after_keep1

  abbrev after_set : Piece
  after_set = followed_by pb after_b

  abbrev after_a : Piece
  after_a = followed_by (plain (set_orders s.layout s.line item)) after_set

  abbrev after_number : Piece
  after_number = followed_by pa after_a

  abbrev pub first_piece : Piece
  first_piece = followed_by (plain (number_orders s.layout item i)) after_number

  pub record FirstMade (q n free last : ℕ) : Type 0 where
    pub n1 : ℕ
    pub numbers : Stands code q (number_orders s.layout item i) n1
    pub m1 : ℕ
    pub n2 : ℕ
    pub m2 : ℕ
    pub a_made : Made code marks (pa n1 m1) n1 n2 m1 m2
    pub n3 : ℕ
    pub sets : Stands code n2 (set_orders s.layout s.line item) n3
    pub m3 : ℕ
    pub n4 : ℕ
    pub m4 : ℕ
    pub b_made : Made code marks (pb n3 m3) n3 n4 m3 m4
    pub n5 : ℕ
    pub keeps1 : Stands code n4 keep1 n5
    pub m5 : ℕ
    pub n6 : ℕ
    pub m6 : ℕ
    pub d_made : Made code marks (pd n5 m5) n5 n6 m5 m6
    pub keeps2 : Stands code n6 keep2 n

  pub first_made : (q n free last : ℕ) → Made code marks (first_piece q free) q n free last → FirstMade q n free last
  first_made q n free last made =
      let p1 = both_made code marks (plain (number_orders s.layout item i)) after_number q n free last made in
      let p2 = both_made code marks pa after_a p1.0 n p1.1 last p1.3 in
      let p3 = both_made code marks (plain (set_orders s.layout s.line item)) after_set p2.0 n p2.1 last p2.3 in
      let p4 = both_made code marks pb after_b p3.0 n p3.1 last p3.3 in
      let p5 = both_made code marks (plain keep1) after_keep1 p4.0 n p4.1 last p4.3 in
      let p6 = one_made code marks pd keep2 p5.0 n p5.1 last p5.3 in
      record { n1 = p1.0; numbers = p1.2.0; m1 = p1.1; n2 = p2.0; m2 = p2.1; a_made = p2.2; n3 = p3.0; sets = p3.2.0; m3 = p3.1; n4 = p4.0; m4 = p4.1; b_made = p4.2; n5 = p5.0; keeps1 = p5.2.0; m5 = p5.1; n6 = p6.0; m6 = p6.1; d_made = p6.2; keeps2 = p6.3 }

module _ (code : List Order) (marks : List ℕ) (s : Scope) (who : Option ℕ) (answer : ℕ) (item f : ℕ) (a b d : Expr) (i : ℕ) where
  abbrev step_turn : (body mark : ℕ) → List Order
  step_turn body mark = item_order s.layout item 0 ∷ order.PutVariable s.line ∷ order.Exhausted mark ∷ order.Jump body ∷ []

  -- the values, behind which the turn is some jumps away
  abbrev to_turn : ℕ → List Order
  to_turn turn = order.Jump turn ∷ []

  abbrev values : ℕ → Piece
  values turn = first_piece code marks s who answer item f a b d i (to_turn turn)

  pub record StepMade (body q n free last : ℕ) : Type 0 where
    pub bump : ℕ
    pub first_last : ℕ
    pub first : FirstMade code marks s who answer item f a b d i (to_turn free) q bump (free + 1 + 1) first_last
    pub bump_is : slice_get marks (free + 1) ≡ Some bump
    pub bump_marks : slice_get code bump ≡ Some order.Mark
    pub bump_start : ℕ
    pub bump_next : bump + 1 ≡ bump_start
    pub turn : ℕ
    pub bumps : Stands code bump_start (bump_orders s.layout s.line item) turn
    pub turn_is : slice_get marks free ≡ Some turn
    pub turn_marks : slice_get code turn ≡ Some order.Mark
    pub turn_start : ℕ
    pub turn_next : turn + 1 ≡ turn_start
    pub next_mark : ℕ
    pub end : ℕ
    pub turns : Stands code turn_start (step_turn body next_mark) end
    pub end_is : slice_get marks next_mark ≡ Some end
    pub end_marks : slice_get code end ≡ Some order.Mark
    pub end_next : end + 1 ≡ n

  step_made : (set body q n free last : ℕ) → Made code marks (element_piece s item f set body i (element.Step a b d) q free) q n free last → StepMade body q n free last
  step_made set body q n free last made =
      let middle = λ (turn : ℕ). followed_by (with_end (λ bump. values turn)) (plain (bump_orders s.layout s.line item)) in
      let second = λ (mark : ℕ). plain (step_turn body mark) in
      let whole = both_made code marks (with_end middle) (with_end second) q n free last made in
      let turn = end_made code marks middle q whole.0 free whole.1 whole.2 in
      let halves = both_made code marks (with_end (λ bump. values free)) (plain (bump_orders s.layout s.line item)) q turn.0 (free + 1) whole.1 turn.1 in
      let bumped = end_made code marks (λ bump. values free) q halves.0 (free + 1) halves.1 halves.2 in
      let end = end_made code marks second whole.0 n whole.1 last whole.3 in
      record {
        bump = bumped.0;
        first_last = halves.1;
        first = first_made code marks s who answer item f a b d i (to_turn free) q bumped.0 (free + 1 + 1) halves.1 bumped.1;
        bump_is = bumped.4;
        bump_marks = bumped.2;
        bump_start = halves.0;
        bump_next = bumped.3;
        turn = turn.0;
        bumps = halves.3.0;
        turn_is = turn.4;
        turn_marks = turn.2;
        turn_start = whole.0;
        turn_next = turn.3;
        next_mark = whole.1;
        end = end.0;
        turns = end.1.0;
        end_is = end.4;
        end_marks = end.2;
        end_next = end.3;
      }

pub two_of_four : 2 < 4
two_of_four = omega arith

pub one_of_four : 1 < 4
one_of_four = omega arith

pub three_of_four : 3 < 4
three_of_four = omega arith

pub none_of_four : 0 < 4
none_of_four = omega arith

module _ (c : Compiled) (at_sites : (g : ℕ) (u : Rattle.cw_unit.specs.declared.unit.Unit.Unit) (who : Option ℕ) → c.places g u who ≡ sites c.orders_for u who (c.has_words g u who)) (t : Moment c) (x : Loop) (k : Work) (n j : ℕ) (fits_in : suc j ≤ 64) (after : Via (code c t) (marks c t) j n false (λ y m. At c t y m false k)) where
  abbrev who : Option ℕ
  who = who_of t.acts

  abbrev answer : ℕ
  answer = answer_of t.unit who

  abbrev Site : Type 0
  Site = LoopSite c.orders_for t.unit who (has_words c t) x n

  abbrev here_scope : Scope
  here_scope = at_line x.line (scope c t)

  -- what the parts of the loop carry out
  element_carried : (q i : ℕ) → ElementSite c.orders_for t.unit who (has_words c t) q i x n → At c t q false false (Element i x k)
  element_carried q i site = (n, j, subst (λ p. p.ElementAt q i x n) (sym (at_sites (here_in c t) t.unit who)) (inl site), fits_in, refl, after)

  turn_carried : (q i : ℕ) → TurnSite c.orders_for t.unit who (has_words c t) q i x n → At c t q false false (Turn i x k)
  turn_carried q i site = (n, j, subst (λ p. p.TurnAt q i x n) (sym (at_sites (here_in c t) t.unit who)) (inl site), fits_in, refl, after)

  bump_carried : (q i : ℕ) → BumpSite c.orders_for t.unit who (has_words c t) q i x n → At c t q false false (Bump i x k)
  bump_carried q i site = (n, j, subst (λ p. p.BumpAt q i x n) (sym (at_sites (here_in c t) t.unit who)) site, fits_in, refl, after)

  on_carried : (q : ℕ) → OnSite c.orders_for t.unit who (has_words c t) q x n → At c t q false false (On x k)
  on_carried q site = (n, j, subst (λ p. p.OnAt q x n) (sym (at_sites (here_in c t) t.unit who)) (inl site), fits_in, refl, after)

  -- the body, behind its mark
  body_start : (site : Site) → At c t (site.head + 1) false false (Run x.body (On x k))
  body_start site =
      (site.on, 64, 0, subst (λ p. p.StatementAt (site.head + 1) x.body 64 site.on) (sym (at_sites (here_in c t) t.unit who)) site.body_at, (let z : 0 + 64 ≤ 64 = omega arith in z), refl, (λ ends. (site.on, false, here refl refl, on_carried site.on (site, refl))))

  body_carried : (site : Site) → Leads_to c t site.head false false (Run x.body (On x k))
  body_carried site = (site.head + 1, false, past site.head_marks (here refl refl), body_start site)

  -- by a jump to the body's mark
  to_body : (site : Site) (q : ℕ) → slice_get (code c t) q ≡ Some (order.Jump site.body) → Leads_to c t q false false (Run x.body (On x k))
  to_body site q h = (site.head + 1, false, leap h site.head_is (let z : 64 ≡ suc 63 = refl in z) (past site.head_marks (here refl refl)), body_start site)

  -- past the last element
  to_end : (site : Site) (q : ℕ) → slice_get (code c t) q ≡ Some (order.Jump site.end) → Leads_to c t q false false k
  to_end site q h =
      (after.0, after.1, leap h site.end_is refl (wider (code c t) (marks c t) j 63 site.out false after.0 after.1 (let z : j ≤ 63 = omega (arith, fits_in) in z) (past site.out_marks (subst (λ y. Leads (code c t) (marks c t) j y false after.0 after.1) (sym site.next_is) after.2))), after.3)

  next_element_site : (site : Site) (i : ℕ) → i ≤ length x.elements → ElementSite c.orders_for t.unit who (has_words c t) (site.place (i + 1)) (i + 1) x n
  next_element_site site i le = (site, refl, (let z : 1 ≤ i + 1 = omega arith in z), (let z : i + 1 ≤ length x.elements + 1 = omega (arith, le) in z))

  -- ---- the number of an element

  number_light : (i : ℕ) → IsLight x.line false false (number_orders (layout c t) x.item i)
  number_light i =
      let w = item_light (layout c t) x.item 3 in
      record {
        quiet = silent_and (is_silent (item_order (layout c t) x.item 3)) true (item_silent (layout c t) x.item 3) refl;
        light = (let z : 2 + (1 + (weight_of (item_order (layout c t) x.item 3) + (8 + 0))) ≤ 159 = omega (arith, w.1) in z);
        some = (let z : 0 < 2 + (1 + (weight_of (item_order (layout c t) x.item 3) + (8 + 0))) = omega arith in z);
        short = (let z : 4 ≤ 12 = omega arith in z);
        at = (tt, (tt, (item_tells x.line (layout c t) x.item 3, (tt, tt))));
        turns = ap (λ y. through_all y (order.Store ∷ [])) (item_loads (layout c t) x.item 3);
      }

  numbered : (i : ℕ) (w : Words) → i < 32768 → IsTrue (has_words c t x.item 4) → run c t (number_orders (layout c t) x.item i) w ≡ Changed (with_memory w (set w.memory (address_at (source c) t.segment t.acts x.item + 3) (pos i)))
  numbered i w small words =
      let e : i % 65536 ≡ i = omega arith in
      let z : signed i ≡ pos i = omega (arith, ints) in
      ap (λ v. then_do (Changed (put v w)) (λ u. run c t (keep_orders (layout c t) x.item 3) u)) (ap signed e ∙ z)
      ∙ keeps (target c) (here_in c t) t.calls_below (source c) t.segment t.acts (layout c t) (has_words c t) t.in_words t.stand x.item 3 4 (Word (pos i) ∷ w.operands) w.memory w.input w.output words (let v : 3 < 4 = omega arith in v) tt

  -- behind a mark
  behind_mark : (now : Work) (q : ℕ) (l : Bool) (w : Words) → slice_get (code c t) q ≡ Some order.Mark → Steps c t now (q + 1) l w → Steps c t now q l w
  behind_mark now q l w h goes =
      let at_q = order_here c t.segment t.acts t.calls_below t.unit t.unit_is q order.Mark h in
      record {
        spent = goes.spent;
        reached = goes.reached;
        path = move (inl refl, ap (λ o. started_by o (here_in c t) w) at_q) (ap (λ o. carry_out (target c) o (here_in c t) q l t.calls_below w) at_q) (let z : goes.spent ≡ weight_at (order_at (target c) (here_in c t) q) + goes.spent = omega (arith, ap weight_at at_q) in z) goes.path;
        within = goes.within;
        belongs = goes.belongs;
        progress = goes.progress;
      }

  pub begins_element : (i : ℕ) (e : Felem) (q m : ℕ) (w : Words) → IsTrue (has_words c t x.item 4) → i < 32768 → element_at x.elements i ≡ Some e → Stands (code c t) q (number_orders (layout c t) x.item i) m → At c t m false false (element_work e i x k) → Facts c t (Element i x k) w → Steps c t (Element i x k) q false w
  begins_element i e q m w words small is stands carried facts =
      done_by c t (Element i x k) (element_work e i x k) x.line q m false false (number_orders (layout c t) x.item i) w false (Changed (with_memory w (set w.memory (address_at (source c) t.segment t.acts x.item + 3) (pos i)))) stands (number_light i) facts
      (ap (λ o. element_step (source c) o t.segment i x k t.acts w) is)
      (λ ok. numbered i w small words) (λ v h. tt) (at_once c t m false false (element_work e i x k) carried)

  -- ---- an element of each kind

  value_at : (e : Expr) (q m free last : ℕ) (k' : Work) → IsTrue (is_expression t.unit (has_words c t) e x.scale most_levels) → Made (code c t) (marks c t) (expression_piece here_scope e x.scale q free) q m free last → At c t m true false k' → At c t q false false (Eval e x.scale x.line k')
  value_at e q m free last k' b made carried = (m, 64, 0, free, last, b, made, (let z : 0 + 64 ≤ 64 = omega arith in z), refl, at_close c t m true false k' carried)

  -- the values of a STEP element, behind which the turn stands
  module _ (words : IsTrue (has_words c t x.item 4)) (i : ℕ) (a b d : Expr) (tail : List Order) (q m free last : ℕ) (made : FirstMade (code c t) (marks c t) here_scope who answer x.item x.scale a b d i tail q m free last)
      (behind : (y : ℕ) → Stands (code c t) y tail m → Leads_to c t y false false (Turn i x k)) (built : IsTrue (is_element t.unit (has_words c t) who answer x.scale (element.Step a b d))) where
    abbrev keep_limit : Work
    keep_limit = KeepAt 2 x (Turn i x k)

    abbrev keep_step : Work
    keep_step = KeepAt 1 x (Eval d x.scale x.line keep_limit)

    at_limit : At c t made.n6 true false keep_limit
    at_limit = (made.n6 + 1 + 1 + 1, words, two_of_four, (made.keeps2.0, (made.keeps2.1.0, (made.keeps2.1.1.0, refl))), refl, behind (made.n6 + 1 + 1 + 1) made.keeps2.1.1.1)

    at_step : IsTrue (is_expression t.unit (has_words c t) d x.scale most_levels) → At c t made.n4 true false keep_step
    at_step bd = (made.n5, words, one_of_four, made.keeps1, refl, at_once c t made.n5 false false (Eval d x.scale x.line keep_limit) (value_at d made.n5 made.n6 made.m5 made.m6 keep_limit bd made.d_made at_limit))

    at_set : IsTrue (is_expression t.unit (has_words c t) b x.scale most_levels) → IsTrue (is_expression t.unit (has_words c t) d x.scale most_levels) → At c t made.n2 true false (SetVar x (Eval b x.scale x.line keep_step))
    at_set bb bd = (made.n3, words, made.sets, refl, at_once c t made.n3 false false (Eval b x.scale x.line keep_step) (value_at b made.n3 made.n4 made.m3 made.m4 keep_step bb made.b_made (at_step bd)))

    pub step_carried : At c t made.n1 false false (element_work (element.Step a b d) i x k)
    step_carried =
        let b1 = both (is_expression t.unit (has_words c t) a x.scale most_levels) (is_expression t.unit (has_words c t) b x.scale most_levels && is_expression t.unit (has_words c t) d x.scale most_levels) built in
        let b2 = both (is_expression t.unit (has_words c t) b x.scale most_levels) (is_expression t.unit (has_words c t) d x.scale most_levels) b1.1 in
        value_at a made.n1 made.n2 made.m1 made.m2 (SetVar x (Eval b x.scale x.line keep_step)) b1.0 made.a_made (at_set b2.0 b2.1)

  -- where the way on leads, for an element of each kind: at its way mark
  abbrev Way : Site → ℕ → Felem → Type 0
  Way site i e = (y : ℕ) × (slice_get (marks c t) (way_mark e (site.free i)) ≡ Some y) × Leads_to c t y false false (next_work e i x k)

  abbrev Begin : Site → ℕ → Felem → Type 0
  Begin site i e = (w : Words) → Facts c t (Element i x k) w → Steps c t (Element i x k) (site.place i) false w

  module _ (site : Site) (i : ℕ) (below : i ≤ length x.elements) where
    small : i < 32768
    small = let f = site.few in let z : i < 32768 = omega (arith, below, f) in z

    following : (y : ℕ) → slice_get (code c t) y ≡ Some order.Mark → y + 1 ≡ site.place (i + 1) → Leads_to c t y false false (Element (i + 1) x k)
    following y h e = (site.place (i + 1), false, past h (here e refl), element_carried (site.place (i + 1)) (i + 1) (next_element_site site i below))

    of_value : (e : Expr) → element_at x.elements i ≡ Some (element.One e) → IsTrue (is_expression t.unit (has_words c t) e x.scale 63) → Begin site i (element.One e) × Way site i (element.One e)
    of_value e is b =
        let q = site.place i in
        let free = site.free i in
        let value = expression_piece here_scope e x.scale in
        let body = λ (mark : ℕ). followed_by (plain (number_orders (layout c t) x.item i)) (followed_by value (plain (order.Jump site.set ∷ []))) in
        let end = end_made (code c t) (marks c t) body q (site.place (i + 1)) free (site.free (i + 1)) (site.each i (element.One e) is) in
        let parts = both_made (code c t) (marks c t) (plain (number_orders (layout c t) x.item i)) (followed_by value (plain (order.Jump site.set ∷ []))) q end.0 (free + 1) (site.free (i + 1)) end.1 in
        let v = one_made (code c t) (marks c t) value (order.Jump site.set ∷ []) parts.0 end.0 parts.1 (site.free (i + 1)) parts.3 in
        let sets : At c t (site.tail + 1) true false (SetVar x (Run x.body (On x k))) = (site.head, site.words, site.sets, refl, body_carried site) in
        let carried : At c t parts.0 false false (element_work (element.One e) i x k) = (v.0, 63, 1, parts.1, v.1, b, v.2, (let z : 1 + 63 ≤ 64 = omega arith in z), refl, (site.tail + 1, true, leap v.3.0 site.tail_is refl (past site.tail_marks (here refl refl)), sets)) in (
          λ w facts. begins_element i (element.One e) q parts.0 w site.words small is parts.2.0 carried facts,
          (end.0, end.4, following end.0 end.2 end.3),
        )

    of_while : (e : Expr) (d : Cond) → element_at x.elements i ≡ Some (element.While e d) → IsTrue (is_expression t.unit (has_words c t) e x.scale most_levels && is_condition t.unit (has_words c t) d) → Begin site i (element.While e d) × Way site i (element.While e d)
    of_while e d is b =
        let bs = both (is_expression t.unit (has_words c t) e x.scale most_levels) (is_condition t.unit (has_words c t) d) b in
        let q = site.place i in
        let free = site.free i in
        let last = site.free (i + 1) in
        let value = expression_piece here_scope e x.scale in
        let number = number_orders (layout c t) x.item i in
        let setting = set_orders (layout c t) x.line x.item in
        let jump = order.Jump site.body ∷ [] in
        let r3 = λ (mark : ℕ). followed_by (condition_piece here_scope d false mark) (plain jump) in
        let r2 = λ (mark : ℕ). followed_by (plain setting) (r3 mark) in
        let r1 = λ (mark : ℕ). followed_by value (r2 mark) in
        let body = λ (mark : ℕ). followed_by (plain number) (r1 mark) in
        let own = both_made (code c t) (marks c t) (with_end (λ own. plain [])) (with_end body) q (site.place (i + 1)) free last (site.each i (element.While e d) is) in
        let mark = end_made (code c t) (marks c t) (λ own. plain []) q own.0 free own.1 own.2 in
        let at_mark : q ≡ mark.0 = mark.1.0 in
        let end = end_made (code c t) (marks c t) body own.0 (site.place (i + 1)) own.1 last own.3 in
        let p1 = both_made (code c t) (marks c t) (plain number) (r1 own.1) own.0 end.0 (own.1 + 1) last end.1 in
        let p2 = both_made (code c t) (marks c t) value (r2 own.1) p1.0 end.0 p1.1 last p1.3 in
        let p3 = both_made (code c t) (marks c t) (plain setting) (r3 own.1) p2.0 end.0 p2.1 last p2.3 in
        let p4 = one_made (code c t) (marks c t) (condition_piece here_scope d false own.1) jump p3.0 end.0 p3.1 last p3.3 in
        let test : At c t p3.0 false false (Test d x.line (Run x.body (On x k)) (Element (i + 1) x k)) = (false, own.1, end.0, p4.0, p3.1, p4.1, bs.1, p4.2, end.4, refl, to_body site p4.0 p4.3.0, following end.0 end.2 end.3) in
        let carried : At c t p1.0 false false (element_work (element.While e d) i x k) = value_at e p1.0 p2.0 p1.1 p2.1 (SetVar x (Test d x.line (Run x.body (On x k)) (Element (i + 1) x k))) bs.0 p2.2 (p3.0, site.words, p3.2.0, refl, at_once c t p3.0 false false (Test d x.line (Run x.body (On x k)) (Element (i + 1) x k)) test) in
        let mark_here' : slice_get (code c t) q ≡ Some order.Mark = subst (λ z. slice_get (code c t) z ≡ Some order.Mark) (sym at_mark) mark.2 in
        let next_here : q + 1 ≡ own.0 = ap (λ z. z + 1) at_mark ∙ mark.3 in (
          λ w facts. behind_mark (Element i x k) q false w mark_here' (subst (λ z. Steps c t (Element i x k) z false w) (sym next_here) (begins_element i (element.While e d) own.0 p1.0 w site.words small is p1.2.0 carried facts)),
          (q, mark.4 ∙ ap (λ z. Some z) (sym at_mark), at_once c t q false false (Element i x k) (element_carried q i (site, refl, (element_within x.elements i (element.While e d) is).0, (let z : i ≤ length x.elements + 1 = omega (arith, below) in z)))),
        )

    -- the test of the limit, and the step before it
    module _ (a b d : Expr) (made : StepMade (code c t) (marks c t) here_scope who answer x.item x.scale a b d i site.body (site.place i) (site.place (i + 1)) (site.free i) (site.free (i + 1))) where
      turning : TurnSite c.orders_for t.unit who (has_words c t) made.turn_start i x n
      turning = (site, made.next_mark, made.end, made.end, made.turns, made.end_is, past made.end_marks (here made.end_next refl), below)

      at_turn : At c t made.turn_start false false (Turn i x k)
      at_turn = turn_carried made.turn_start i turning

      bumping : BumpSite c.orders_for t.unit who (has_words c t) made.bump_start i x n
      bumping = (made.turn, made.bumps, made.turn_marks, subst (λ z. TurnSite c.orders_for t.unit who (has_words c t) z i x n) (sym made.turn_next) turning)

      at_bump : At c t made.bump_start false false (Bump i x k)
      at_bump = bump_carried made.bump_start i bumping

      to_turning : (y : ℕ) → Stands (code c t) y (order.Jump (site.free i) ∷ []) made.bump → Leads_to c t y false false (Turn i x k)
      to_turning y stands = (made.turn_start, false, leap stands.0 made.turn_is (let z : 64 ≡ suc 63 = refl in z) (past made.turn_marks (here made.turn_next refl)), at_turn)

      step_way : Way site i (element.Step a b d)
      step_way = (made.bump, made.bump_is, (made.bump_start, false, past made.bump_marks (here made.bump_next refl), at_bump))

    of_step : (a b d : Expr) → element_at x.elements i ≡ Some (element.Step a b d) → IsTrue (is_expression t.unit (has_words c t) a x.scale most_levels && (is_expression t.unit (has_words c t) b x.scale most_levels && is_expression t.unit (has_words c t) d x.scale most_levels)) → Begin site i (element.Step a b d) × Way site i (element.Step a b d)
    of_step a b d is built =
        let made = step_made (code c t) (marks c t) here_scope who answer x.item x.scale a b d i site.set site.body (site.place i) (site.place (i + 1)) (site.free i) (site.free (i + 1)) (site.each i (element.Step a b d) is) in (
          λ w facts. begins_element i (element.Step a b d) (site.place i) made.first.n1 w site.words small is made.first.numbers (step_carried site.words i a b d (order.Jump (site.free i) ∷ []) (site.place i) made.bump (site.free i + 1 + 1) made.first_last made.first (to_turning a b d made) built) facts,
          step_way a b d made,
        )

    of_element : (e : Felem) → element_at x.elements i ≡ Some e → IsTrue (is_element t.unit (has_words c t) who answer x.scale e) → Begin site i e × Way site i e
    of_element (element.One e) is b = of_value e is b
    of_element (element.While e d) is b = of_while e d is b
    of_element (element.Step a e d) is b = of_step a e d is b

  built_element : (site : Site) (i : ℕ) (e : Felem) → element_at x.elements i ≡ Some e → IsTrue (is_element t.unit (has_words c t) who answer x.scale e)
  built_element site i e is = element_built x.scale (λ f d. is_element t.unit (has_words c t) who answer f d) (λ f ds. are_elements t.unit (has_words c t) who answer f ds) (λ d ds. refl) x.elements i e site.built is

  -- ---- the element begins, or the FOR ends

  pub element_follows : (i q : ℕ) (w : Words) → ElementSite c.orders_for t.unit who (has_words c t) q i x n → Facts c t (Element i x k) w → Steps c t (Element i x k) q false w
  element_follows i q w (site, at_q, one, le) facts = by_element (element_at x.elements i) refl
    where
      by_element : (e : Option Felem) → element_at x.elements i ≡ e → Steps c t (Element i x k) q false w
      by_element (Some e) is =
          subst (λ z. Steps c t (Element i x k) z false w) (sym at_q) ((of_element site i (element_within x.elements i e is).1 e is (built_element site i e is)).0 w facts)
      by_element None is =
          let last = element_past x.elements i one le is in
          silent c t.segment t.acts t.calls_below t.unit t.unit_is t.calls (Element i x k) k q false false w (ap (λ o. element_step (source c) o t.segment i x k t.acts w) is) tt
          (to_end site q (subst (λ z. slice_get (code c t) z ≡ Some (order.Jump site.end)) (sym (at_q ∙ ap site.place last)) site.last))
          (let z : work_size c k < 1 + work_size c k = omega arith in z)

  -- the step is added
  pub bump_follows : (i q : ℕ) (w : Words) → BumpSite c.orders_for t.unit who (has_words c t) q i x n → Facts c t (Bump i x k) w → Steps c t (Bump i x k) q false w
  bump_follows i q w (y, stands, marked, turning) facts =
      let site = turning.0 in
      done_by c t (Bump i x k) (Turn i x k) x.line q y false false (bump_orders (layout c t) x.line x.item) w false (perform c.limits.area (AddStep (address_at (source c) t.segment t.acts x.item)) w) stands
      (item_and (layout c t) x.line false x.item (order.AddStep x.line ∷ []) refl (omega arith) (omega arith) (refl, tt) refl)
      facts refl
      (λ ok. bumps (target c) (here_in c t) t.calls_below (source c) t.segment t.acts (layout c t) (has_words c t) t.in_words t.stand x.line x.item 4 w.operands w.memory w.input w.output site.words (let z : 1 < 4 = omega arith in z))
      (λ v h. tt)
      (y + 1, false, past marked (here refl refl), turn_carried (y + 1) i turning)

  -- ---- some orders, and then one that chooses the way

  abbrev g : ℕ
  g = here_in c t

  abbrev at_state : (q : ℕ) → (l : Bool) → Words → OrderState
  at_state q l w = state g q l t.calls_below w Running

  abbrev loop_word : (n : ℕ) → Words → ℤ
  loop_word i w = word_at w.memory (address_at (source c) t.segment t.acts x.item + i)

  same_way : (ways : List ℕ) (z : ℤ) → mark_of_number ways z ≡ mark_of_number ways (pos (number_of z))
  same_way ways (pos zero) = refl
  same_way ways _ = refl

  -- ---- behind the body

  pub on_follows : (q : ℕ) (w : Words) → OnSite c.orders_for t.unit who (has_words c t) q x n → Facts c t (On x k) w → Steps c t (On x k) q false w
  on_follows q w (site, at_q) facts = subst (λ z. Steps c t (On x k) z false w) (sym at_q) (by_element (element_at x.elements i) refl)
    where
      z : ℤ
      z = loop_word 3 w

      i : ℕ
      i = number_of z

      v : Words
      v = put z w

      p : ℕ
      p = site.on + 1 + 1

      read : run c t (item_order (layout c t) x.item 3 ∷ order.Load ∷ []) w ≡ Changed v
      read = behind_word (target c) (here_in c t) t.calls_below (source c) t.segment t.acts (layout c t) (has_words c t) t.in_words t.stand x.item 3 4 [] w.operands w.memory w.input w.output site.words three_of_four

      weight : ℕ
      weight = weight_of (item_order (layout c t) x.item 3) + (8 + 0)

      read_on : Path (Seen c t.segment t.acts t.calls_below t.unit t.unit_is w) (B c) weight (at_state site.on false w) (at_state p true v)
      read_on =
          (subst (Ran (target c) g t.calls_below x.line site.on p false true (item_order (layout c t) x.item 3 ∷ order.Load ∷ []) w) read
          (ran_on c t x.line (item_order (layout c t) x.item 3 ∷ order.Load ∷ []) site.on p false true w (site.goes_on.0, (site.goes_on.1.0, refl)) (silent_and (is_silent (item_order (layout c t) x.item 3)) true (item_silent (layout c t) x.item 3) refl) (item_tells x.line (layout c t) x.item 3, (tt, tt)) (ap (λ y. through_all y (order.Load ∷ [])) (item_loads (layout c t) x.item 3)) (let y : 2 * 2 + stack_words w.operands t.calls_below ≤ c.room = omega (arith, facts.room) in y))).0

      goes : (y : ℕ) (k' : Work) → next_element (element_at x.elements i) i x k ≡ k' → act (target c) (action_of (target c) g t.calls_below (order.LoopWay site.ways)) g p false t.calls_below v ≡ at_state y false w → Leads_to c t y false false k' → Steps c t (On x k) site.on false w
      goes y k' e f carried =
          let seen = Seen c t.segment t.acts t.calls_below t.unit t.unit_is w in
          let chosen = one_order c t (order.LoopWay site.ways) p true false v (at_state y false w) (λ h z. refl) site.goes_on.1.1.0 refl f in
          let heavy = item_light (layout c t) x.item 3 in
          let all = join seen (B c) weight 12 (weight + 12) (at_state site.on false w) (at_state p true v) (at_state y false w) refl read_on chosen in
          lands c t.segment t.acts t.calls_below t.unit t.unit_is t.calls (On x k) k' site.on y false false false w w (weight + 12) (ap (λ m. configuration t.segment m t.acts w Running) e)
          (weaken seen (Quiet (shown (config c t (On x k) w)) (shown (configuration t.segment k' t.acts w Running))) (B c) (weight + 12) (at_state site.on false w) (at_state y false w) (λ o h. (inl h.0, h.1)) all)
          (let y' : weight + 12 ≤ 159 = omega (arith, heavy.1) in y') tt carried (inl (let y' : 0 < weight + 12 = omega arith in y'))

      way : (o : Option ℕ) → mark_of_number site.ways (pos i) ≡ o → act (target c) (action_of (target c) g t.calls_below (order.LoopWay site.ways)) g p false t.calls_below v ≡ branch (target c) 0 (to_mark_in o w) g p false t.calls_below v
      way o e = ap (λ m. branch (target c) 0 (to_mark_in m w) g p false t.calls_below v) (same_way site.ways z ∙ e)

      by_element : (e : Option Felem) → element_at x.elements i ≡ e → Steps c t (On x k) site.on false w
      by_element None is =
          goes (p + 1) k (ap (λ o. next_element o i x k) is) (way None (site.no_way i is))
          (after.0, after.1, wider (code c t) (marks c t) j most_levels (p + 1) false after.0 after.1 (let y : j ≤ 64 = omega (arith, fits_in) in y) (subst (λ y. Leads (code c t) (marks c t) j y false after.0 after.1) (sym site.goes_on.1.1.1) (past site.out_marks (subst (λ y. Leads (code c t) (marks c t) j y false after.0 after.1) (sym site.next_is) after.2))), after.3)
      by_element (Some e) is =
          let to = (of_element site i (element_within x.elements i e is).1 e is (built_element site i e is)).1 in
          goes to.0 (next_work e i x k) (ap (λ o. next_element o i x k) is)
          (way (Some (way_mark e (site.free i))) (site.way i e is) ∙ ap (λ o. go_at o g p false t.calls_below v w) (mark_here c t.segment t.acts t.calls_below t.unit t.unit_is (way_mark e (site.free i)) to.0 to.1))
          to.2

  -- ---- a turn

  pub turn_follows : (i q : ℕ) (w : Words) → TurnSite c.orders_for t.unit who (has_words c t) q i x n → Facts c t (Turn i x k) w → Steps c t (Turn i x k) q false w
  turn_follows i q w (site, mark, xx, y, stands, mark_is, way, below) facts = by_area (is_below z c.limits.area) refl
    where
      a : ℕ
      a = address_at (source c) t.segment t.acts x.item

      z : ℤ
      z = word_at w.memory a

      os : List Order
      os = item_order (layout c t) x.item 0 ∷ order.PutVariable x.line ∷ []

      p : ℕ
      p = q + 1 + 1

      ran : Ran (target c) g t.calls_below x.line q p false true os w (run c t os w)
      ran = ran_on c t x.line os q p false true w (stands.0, (stands.1.0, refl))
          (silent_and (is_silent (item_order (layout c t) x.item 0)) true (item_silent (layout c t) x.item 0) refl)
          (item_tells x.line (layout c t) x.item 0, (refl, tt)) (ap (λ y'. through_all y' (order.PutVariable x.line ∷ [])) (item_loads (layout c t) x.item 0))
          (let y' : 2 * 2 + stack_words w.operands t.calls_below ≤ c.room = omega (arith, facts.room) in y')

      read : run c t os w ≡ through (is_below z c.limits.area) (λ j' v. Changed (put (pos a) (put (word_at v.memory j') v))) z w
      read = variable_put (target c) (here_in c t) t.calls_below (source c) t.segment t.acts (layout c t) (has_words c t) t.in_words t.stand x.line x.item 4 w.operands w.memory w.input w.output site.words none_of_four

      heavy : (0 < weight_of (item_order (layout c t) x.item 0)) × (weight_of (item_order (layout c t) x.item 0) ≤ 4)
      heavy = item_light (layout c t) x.item 0

      value : ℤ
      value = word_at w.memory (number_of z)

      u : Words
      u = put (pos a) (put value w)

      next_on : Work
      next_on = Element (i + 1) x k

      body_on : Work
      body_on = Run x.body (On x k)

      in_area : is_below (pos a) (c.limits.area - 2) ≡ true
      in_area = let inside = t.stand.within x.item 2 4 site.words two_of_four in lt-ltb a (c.limits.area - 2) (let v : a < c.limits.area - 2 = omega (arith, inside) in v)

      cost : ℕ
      cost = total_weight os

      light : cost + 20 ≤ 159
      light = let v : weight_of (item_order (layout c t) x.item 0) + (24 + 0) + 20 ≤ 159 = omega (arith, heavy.1) in v

      to_way : is_below z c.limits.area ≡ true → Path (Seen c t.segment t.acts t.calls_below t.unit t.unit_is w) (B c) cost (at_state q false w) (at_state p true u)
      to_way is =
          let done : run c t os w ≡ Changed u = read ∙ ap (λ b. through b (λ j' v. Changed (put (pos a) (put (word_at v.memory j') v))) z w) is in
          (subst (Ran (target c) g t.calls_below x.line q p false true os w) done ran).0

      goes : (y' : ℕ) (k' : Work) → is_below z c.limits.area ≡ true → next c t (Turn i x k) w ≡ config c t k' w → act (target c) (action_of (target c) g t.calls_below (order.Exhausted mark)) g p false t.calls_below u ≡ at_state y' false w → Leads_to c t y' false false k' → Steps c t (Turn i x k) q false w
      goes y' k' is e f carried =
          let seen = Seen c t.segment t.acts t.calls_below t.unit t.unit_is w in
          let chosen = one_order c t (order.Exhausted mark) p true false u (at_state y' false w) (λ h z. refl) stands.1.1.0 refl f in
          let all = join seen (B c) cost 20 (cost + 20) (at_state q false w) (at_state p true u) (at_state y' false w) refl (to_way is) chosen in
          lands c t.segment t.acts t.calls_below t.unit t.unit_is t.calls (Turn i x k) k' q y' false false false w w (cost + 20) e
          (weaken seen (Quiet (shown (config c t (Turn i x k) w)) (shown (configuration t.segment k' t.acts w Running))) (B c) (cost + 20) (at_state q false w) (at_state y' false w) (λ o h. (inl h.0, h.1)) all)
          light tt carried (inl (let v : 0 < cost + 20 = omega arith in v))

      chooses : (b : Bool) → is_past (word_at w.memory (a + 1)) value (word_at w.memory (a + 2)) ≡ b → act (target c) (action_of (target c) g t.calls_below (order.Exhausted mark)) g p false t.calls_below u ≡ branch (target c) 0 (to_mark_if b mark w) g p false t.calls_below u
      chooses b e = ap (λ d. branch (target c) 0 (way_past_limit d mark value a w) g p false t.calls_below u) in_area ∙ ap (λ d. branch (target c) 0 (to_mark_if d mark w) g p false t.calls_below u) e

      picks : (b : Bool) → is_below z c.limits.area ≡ true → is_past (word_at w.memory (a + 1)) value (word_at w.memory (a + 2)) ≡ b → next c t (Turn i x k) w ≡ config c t (pick b next_on body_on) w
      picks b is e = ap (λ d. turn_step (source c) d t.segment a i x (Turn i x k) k t.acts w) is ∙ ap (λ d. config c t (pick d next_on body_on) w) e

      by_past : (b : Bool) → is_below z c.limits.area ≡ true → is_past (word_at w.memory (a + 1)) value (word_at w.memory (a + 2)) ≡ b → Steps c t (Turn i x k) q false w
      by_past true is e =
          goes y next_on is (picks true is e)
          (chooses true e ∙ ap (λ o. go_at o g p false t.calls_below u w) (mark_here c t.segment t.acts t.calls_below t.unit t.unit_is mark y mark_is))
          (site.place (i + 1), false, wider (code c t) (marks c t) 0 most_levels y false (site.place (i + 1)) false (let v : 0 ≤ 64 = omega arith in v) way, element_carried (site.place (i + 1)) (i + 1) (next_element_site site i below))
      by_past false is e = goes (p + 1) body_on is (picks false is e) (chooses false e) (to_body site (p + 1) stands.1.1.1.0)

      by_area : (b : Bool) → is_below z c.limits.area ≡ b → Steps c t (Turn i x k) q false w
      by_area true is = by_past (is_past (word_at w.memory (a + 1)) value (word_at w.memory (a + 2))) is refl
      by_area false is =
          let done : run c t os w ≡ Refused AddressRange = read ∙ ap (λ b. through b (λ j' v. Changed (put (pos a) (put (word_at v.memory j') v))) z w) is in
          let stop = subst (Ran (target c) g t.calls_below x.line q p false true os w) done ran in
          stops c t.segment t.acts t.calls_below t.unit t.unit_is t.calls (Turn i x k) q stop.1 false stop.2 w stop.3 AddressRange x.line stop.0 (ap (λ d. turn_step (source c) d t.segment a i x (Turn i x k) k t.acts w) is)
          stop.6 stop.7 (let v : stop.0 ≤ 224 = omega (arith, stop.5, light) in v) stop.4
