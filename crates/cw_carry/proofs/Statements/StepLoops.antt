-- The orders follow the source through a FOR of one STEP element: its values and its first turn by the general way, and the one order behind
-- its body, with which the source makes up to four steps.
use Rattle.std.proofs.Common.{◌≡◌, inl, inr, ⊎_elim, ℕ, zero, suc, ◌+◌, ◌-◌, ◌*◌, ◌%◌, ◌<◌, ◌≤◌, ℤ, pos, negsuc, List, [], ◌∷◌, Bool, true, false, Option, Some, None, refl, sym, ap, ap₂, ◌∙◌, subst, arith}
use Rattle.std.specs.Prelude.{nat_eq, nat_lt, slice_get, slice_index_or, if◌then◌else◌}
use Rattle.std.proofs.lemmas.Bool.{true≢false, lt-ltb, ltb-true, cases_lt}
use Rattle.std.proofs.lemmas.Bool.Decides.{nat_tests}
use Rattle.std.proofs.lemmas.Int.{ints}
use Rattle.cw_track.proofs.Paths.{Path, join}
use Rattle.cw_track.proofs.Watching.{only_step, step_then}
use Rattle.cw_word.specs.Word.{signed}
use Rattle.cw_unit.specs.declared.layout.Layout.{Layout}
use Rattle.cw_unit.specs.declared.layout.Family.{Family}
use Rattle.cw_unit.specs.declared.layout.Sort.{Sort}
use Rattle.cw_unit.specs.declared.layout.Sort.TheVariants as sort
use Rattle.cw_unit.specs.declared.unit.Unit.{Unit as SourceUnit}
use Rattle.cw_unit.specs.declared.unit.Felem.{Felem}
use Rattle.cw_unit.specs.declared.unit.Felem.TheVariants as element
use Rattle.cw_unit.specs.Stop.{AddressRange, Running, Stopped}
use Rattle.cw_unit.specs.Words.{Operand, Word, Held, Words, Outcome, Changed, Refused, Impossible, put, word_at, number_of, is_below, through}
use Rattle.cw_unit.specs.Operation.{AddStep, perform, store_sum, is_past}
use Rattle.cw_unit.specs.Work.{Work, Run, Element, Turn, Bump, On, Loop, element_at, next_element}
use Rattle.cw_unit.specs.Configuration.{at as configuration, address_at}
use Rattle.cw_unit.specs.Step.{pick, element_step, turn_step, after as source_after}
use Rattle.cw_unit.specs.Behaviour.{Observation, shown}
use Rattle.cw_unit.specs.Begun.{Begun}
use Rattle.cw_order.specs.declared.order.Order.{Order}
use Rattle.cw_order.specs.declared.order.Order.TheVariants as order
use Rattle.cw_order.specs.declared.order.Place.TheVariants as cell
use Rattle.cw_order.specs.OrderProgram.{OrderProgram}
use Rattle.cw_order.specs.OrderChanges.{Way, Onward, ToMark, Barred, to_mark_if, way_past_limit, way_behind, turn_if, turned, stepped_if, stepped_inside, stepped, next_step, put_address}
use Rattle.cw_order.specs.OrderState.{OrderActivation, OrderState, at as state, stack_words, frame_word}
use Rattle.cw_order.specs.OrderActions.{action_of, home_word, place_address}
use Rattle.cw_order.specs.OrderCosts.{weight_of}
use Rattle.cw_order.specs.OrderMachine.{act, branch, go_at, unrefused}
use Rattle.cw_gen_expr.specs.ReferenceExpressions.{at_line, placed_by, placed_in, item_order}
use Rattle.cw_carry.proofs.Expressions.Standing.{Stands}
use Rattle.cw_carry.proofs.Expressions.Effects.{through_all, is_silent, total_weight, effect, Ran}
use Rattle.cw_carry.proofs.Expressions.Carried.{Leads, here, past, Via, wider, who_of}
use Rattle.cw_carry.proofs.Expressions.Operations.{variable_put}
use Rattle.cw_carry.proofs.Expressions.Stepping.{Compiled, source, target, B, Seen, mark_here, leaps, stops, leap_stops}
use Rattle.cw_carry.proofs.Expressions.Moments.{item_silent, item_light, item_loads, item_tells, silent_and, Moment, here_in, layout, scope, has_words, code, marks, At, Leads_to, Steps, Leap, Comes, Goes, config, next, run, Facts, at_once, one_order, ran_on}
use Rattle.cw_gen_unit.specs.ReferenceStatements.{place_put, loop_place}
use Rattle.cw_carry.proofs.Statements.Sites.{SteppedSite, FirstSite, FirstTurnSite, NextSite, sites}
use Rattle.cw_carry.proofs.Statements.Loops.{first_made, begins_element, step_carried, none_of_four, three_of_four}
use Rattle.cw_gen_unit.specs.ReferenceUnits.{answer_of}

-- ---- the place of a loop's words

pub low_word : (n : ℕ) → n < 32768 → signed n ≡ pos n
low_word n lt = omega (arith, ints, lt)

high_word : (n m : ℕ) → 32768 ≤ n → n < 65536 → signed n ≡ pos m → ⊥
high_word n m le lt e = grind (arith, ints, nat_tests)

number_behind : (n m : ℕ) → n < 65536 → signed n ≡ pos m → n ≡ m
number_behind n m lt e = ⊎_elim (λ (small : n < 32768). ap number_of (sym (low_word n small) ∙ e)) (λ (big : 32768 ≤ n). absurd (high_word n m big lt e)) (cases_lt n 32768)

abbrev top_of : List Operand → ℤ
top_of [] = pos 0
top_of (Word z ∷ rest) = z
top_of (Held x ∷ rest) = pos 0

abbrev top_in : Outcome → ℤ
top_in (Changed v) = top_of v.operands
top_in (Refused kind) = negsuc 0
top_in Impossible = negsuc 0

-- where the order that puts the address of an item puts this one, it is that of the place
module _ (p : OrderProgram) (in_words : p.limits.area ≤ 32768) (g : ℕ) (bs : List OrderActivation) (w : Words) (a : ℕ) where
  home_placed : (f o : ℕ) → effect p g bs (order.Home f o) w ≡ Changed (put (pos a) w) → place_address p g bs (cell.Word f o) ≡ Some a
  home_placed f o e = ap (λ n. Some n) (number_behind (home_word p.addresses g f o) a (let z : home_word p.addresses g f o < 65536 = omega arith in z) (ap top_in e))

  found : (b : Bool) (n : ℕ) → nat_lt n p.limits.area ≡ b → unrefused (put_address (if b then Some n else None) w) ≡ Changed (put (pos a) w) → (if b then Some n else None) ≡ Some a
  found true n h e =
      let lt : n < p.limits.area = ltb-true n p.limits.area h in
      ap (λ m. Some m) (number_behind n a (let z : n < 65536 = omega (arith, lt, in_words) in z) (ap top_in e))
  found false n h e = let z : negsuc 0 ≡ pos a = ap top_in e in absurd (let y : ⊥ = cc in y)

  frame_placed : (acts : List OrderActivation) (n : ℕ) → unrefused (put_address (frame_word p.limits.area acts n) w) ≡ Changed (put (pos a) w)
      → frame_word p.limits.area acts n ≡ Some a
  frame_placed [] n e = let z : negsuc 0 ≡ pos a = ap top_in e in absurd (let y : ⊥ = cc in y)
  frame_placed (b ∷ acts) n e = found (nat_lt (b.frame_base + n) p.limits.area) (b.frame_base + n) refl e

  pub item_placed : (y : Layout) (i : ℕ) → effect p g bs (item_order y i 0) w ≡ Changed (put (pos a) w) → place_address p g bs (loop_place y i) ≡ Some a
  item_placed y i = of_family (slice_get y.families (slice_index_or y.homes i (0, 0)).0) (slice_index_or y.homes i (0, 0)).0 ((slice_index_or y.homes i (0, 0)).1 + 0)
    where
      of_sort : (x : Sort) (f o : ℕ) → effect p g bs (placed_by x f o) w ≡ Changed (put (pos a) w) → place_address p g bs (place_put (placed_by x f o)) ≡ Some a
      of_sort (sort.Common d) f o e = home_placed f (o % 65536) e
      of_sort sort.Own f o e = home_placed f (o % 65536) e
      of_sort (sort.Absolute b) f o e = home_placed f (o % 65536) e
      of_sort (sort.Frame b) f o e = frame_placed bs ((b + o) % 65536) e

      of_family : (x : Option Family) (f o : ℕ) → effect p g bs (placed_in x f o) w ≡ Changed (put (pos a) w) → place_address p g bs (place_put (placed_in x f o)) ≡ Some a
      of_family None f o e = home_placed f (o % 65536) e
      of_family (Some x) f o e = of_sort x.sort f o e

-- ---- numbers of elements

is_one : (n : ℕ) → nat_eq n 1 ≡ true → n ≡ 1
is_one n h = grind (arith, nat_tests)

not_one : (e : Felem) (n : ℕ) → nat_eq n 1 ≡ false → element_at (e ∷ []) n ≡ None
not_one e zero h = refl
not_one e (suc zero) h = absurd (true≢false h)
not_one e (suc (suc n)) h = refl

-- ---- the step is added, or that stops

abbrev Added : List ℕ → Outcome → Type 0
Added out (Changed v) = v.output ≡ out
Added out (Refused kind) = Unit {0}
Added out Impossible = ⊥

sum_added : (b : Bool) (i : ℕ) (z : ℤ) (w : Words) → Added w.output (store_sum b i z w)
sum_added true i z w = refl
sum_added false i z w = tt

through_added : (b : Bool) (f : ℕ → Words → Outcome) (a : ℤ) (w : Words) → ((i : ℕ) → Added w.output (f i w)) → Added w.output (through b f a w)
through_added true f a w h = h (number_of a)
through_added false f a w h = tt

step_added : (area loop : ℕ) (w : Words) → Added w.output (perform area (AddStep loop) w)
step_added area loop w = through_added (is_below (word_at w.memory loop) area) _ (word_at w.memory loop) w (λ i. sum_added _ i _ w)

module _ (c : Compiled) (at_sites : (g : ℕ) (u : SourceUnit) (who : Option ℕ) → c.places g u who ≡ sites c.orders_for u who (c.has_words g u who)) (t : Moment c) (x : Loop) (k : Work) (n j : ℕ) (fits_in : suc j ≤ 64) (after : Via (code c t) (marks c t) j n false (λ y m. At c t y m false k)) where
  abbrev who : Option ℕ
  who = who_of t.acts

  abbrev g : ℕ
  g = here_in c t

  abbrev Site : Type 0
  Site = SteppedSite c.orders_for t.unit who (has_words c t) x n

  -- the address of the loop's words
  abbrev a : ℕ
  a = address_at (source c) t.segment t.acts x.item

  abbrev area : ℕ
  area = c.limits.area

  abbrev at_state : (q : ℕ) → (l : Bool) → Words → OrderState
  at_state q l w = state g q l t.calls_below w Running

  abbrev seen_with : Words → Observation × List Begun → Type 0
  seen_with w = Seen c t.segment t.acts t.calls_below t.unit t.unit_is w

  abbrev body_on : Work
  body_on = Run x.body (On x k)

  -- ---- what the parts carry out

  turn_carried : (q i : ℕ) → FirstTurnSite c.orders_for t.unit who (has_words c t) q i x n → At c t q false false (Turn i x k)
  turn_carried q i site = (n, j, subst (λ p. p.TurnAt q i x n) (sym (at_sites g t.unit who)) (inr site), fits_in, refl, after)

  on_carried : (q : ℕ) → NextSite c.orders_for t.unit who (has_words c t) q x n → At c t q false false (On x k)
  on_carried q site = (n, j, subst (λ p. p.OnAt q x n) (sym (at_sites g t.unit who)) (inr site), fits_in, refl, after)

  -- the body, behind its mark
  pub body_carried : (site : Site) → Leads_to c t site.head false false body_on
  body_carried site = (
    site.head + 1,
    false,
    past site.head_marks (here refl refl),
    (site.on, 64, 0, subst (λ p. p.StatementAt (site.head + 1) x.body 64 site.on) (sym (at_sites g t.unit who)) site.body_at, (let z : 0 + 64 ≤ 64 = omega arith in z), refl, (λ ends. (site.on, false, here refl refl, on_carried site.on (site, refl)))),
  )

  -- behind the FOR
  pub out_carried : (site : Site) (m : ℕ) → m ≤ 64 → j ≤ m → Via (code c t) (marks c t) m site.out false (λ y l. At c t y l false k)
  out_carried site m le few = (after.0, after.1, wider (code c t) (marks c t) j m site.out false after.0 after.1 few (past site.out_marks (subst (λ y. Leads (code c t) (marks c t) j y false after.0 after.1) (sym site.next_is) after.2)), after.3)

  at_out : (site : Site) → Leads_to c t site.out false false k
  at_out site = out_carried site 64 (let z : 64 ≤ 64 = omega arith in z) (let z : j ≤ 64 = omega (arith, fits_in) in z)

  -- ---- a turn, as the source has it

  abbrev pub past_limit : Words → Bool
  past_limit w = is_past (word_at w.memory (a + 1)) (word_at w.memory (number_of (word_at w.memory a))) (word_at w.memory (a + 2))

  picked : (b : Bool) (w : Words) → is_below (word_at w.memory a) area ≡ true → past_limit w ≡ b → next c t (Turn 1 x k) w ≡ config c t (pick b (Element 2 x k) body_on) w
  picked b w inside e = ap (λ d. turn_step (source c) d t.segment a 1 x (Turn 1 x k) k t.acts w) inside ∙ ap (λ d. config c t (pick d (Element 2 x k) body_on) w) e

  -- there is no second element
  pub turns_out : (site : Site) (w : Words) → is_below (word_at w.memory a) area ≡ true → past_limit w ≡ true → Comes c t (Turn 1 x k) k w w
  turns_out site w inside e =
      step_then (picked true w inside e) refl refl (only_step (ap (λ o. element_step (source c) o t.segment 2 x k t.acts w) (ap (λ es. element_at es 2) site.elements)) refl)

  pub turns_in : (w : Words) → is_below (word_at w.memory a) area ≡ true → past_limit w ≡ false → Comes c t (Turn 1 x k) body_on w w
  turns_in w inside e = only_step (picked false w inside e) refl

  turn_stops : (w : Words) → is_below (word_at w.memory a) area ≡ false
      → next c t (Turn 1 x k) w ≡ configuration t.segment (Turn 1 x k) t.acts w (Stopped AddressRange (g + 1) x.line)
  turn_stops w outside = ap (λ d. turn_step (source c) d t.segment a 1 x (Turn 1 x k) k t.acts w) outside

  -- ---- the values by the general way

  pub first_follows : (i q : ℕ) (w : Words) → FirstSite c.orders_for t.unit who (has_words c t) q i x n → Facts c t (Element i x k) w → Steps c t (Element i x k) q false w
  first_follows i q w (site, first, free, last, made) facts =
      let tail = item_order (layout c t) x.item 0 ∷ order.PutVariable x.line ∷ order.Exhausted site.end ∷ [] in
      let e = element.Step site.first site.step site.limit in
      let values = first_made (code c t) (marks c t) (at_line x.line (scope c t)) who (answer_of t.unit who) x.item x.scale site.first site.step site.limit 1 tail q site.head free last made in
      let turning = λ (y : ℕ) (stands : Stands (code c t) y tail site.head). at_once c t y false false (Turn 1 x k) (turn_carried y 1 (site, refl, stands)) in
      let begin : Facts c t (Element 1 x k) w → Steps c t (Element 1 x k) q false w = λ f.
      begins_element c at_sites t x k n j fits_in after 1 e q values.n1 w site.words (let z : 1 < 32768 = omega arith in z) (ap (λ es. element_at es 1) site.elements) values.numbers
      (step_carried c at_sites t x k n j fits_in after site.words 1 site.first site.step site.limit tail q site.head free last values turning site.built) f in
      subst (λ m. Facts c t (Element m x k) w → Steps c t (Element m x k) q false w) (sym first) begin facts

  pub first_turn_follows : (i q : ℕ) (w : Words) → FirstTurnSite c.orders_for t.unit who (has_words c t) q i x n → Facts c t (Turn i x k) w → Goes c t (Turn i x k) q false w
  first_turn_follows i q w (site, first, stands) facts = subst (λ m. Goes c t (Turn m x k) q false w) (sym first) (by_area (is_below z area) refl)
    where
      z : ℤ
      z = word_at w.memory a

      value : ℤ
      value = word_at w.memory (number_of z)

      os : List Order
      os = item_order (layout c t) x.item 0 ∷ order.PutVariable x.line ∷ []

      p : ℕ
      p = q + 1 + 1

      u : Words
      u = put (pos a) (put value w)

      ran : Ran (target c) g t.calls_below x.line q p false true os w (run c t os w)
      ran =
          ran_on c t x.line os q p false true w (stands.0, (stands.1.0, refl)) (silent_and (is_silent (item_order (layout c t) x.item 0)) true (item_silent (layout c t) x.item 0) refl)
          (item_tells x.line (layout c t) x.item 0, (refl, tt)) (ap (λ y. through_all y (order.PutVariable x.line ∷ [])) (item_loads (layout c t) x.item 0))
          (let y : 2 * 2 + stack_words w.operands t.calls_below ≤ c.room = omega (arith, facts.room) in y)

      read : run c t os w ≡ through (is_below z area) (λ j' v. Changed (put (pos a) (put (word_at v.memory j') v))) z w
      read = variable_put (target c) g t.calls_below (source c) t.segment t.acts (layout c t) (has_words c t) t.in_words t.stand x.line x.item 4 w.operands w.memory w.input w.output site.words none_of_four

      in_area : is_below (pos a) (area - 2) ≡ true
      in_area = let inside = t.stand.within x.item 3 4 site.words three_of_four in lt-ltb a (area - 2) (let v : a < area - 2 = omega (arith, inside) in v)

      cost : ℕ
      cost = total_weight os + 20

      light : cost ≤ 159
      light = let heavy = item_light (layout c t) x.item 0 in let v : weight_of (item_order (layout c t) x.item 0) + (24 + 0) + 20 ≤ 159 = omega (arith, heavy.1) in v

      some : 0 < cost
      some = let v : 0 < total_weight os + 20 = omega arith in v

      done : (b : Bool) → is_below z area ≡ b → run c t os w ≡ through b (λ j' v. Changed (put (pos a) (put (word_at v.memory j') v))) z w
      done b is = read ∙ ap (λ d. through d (λ j' v. Changed (put (pos a) (put (word_at v.memory j') v))) z w) is

      chooses : (b : Bool) → past_limit w ≡ b
          → act (target c) (action_of (target c) g t.calls_below (order.Exhausted site.end)) g p false t.calls_below u ≡ branch (target c) 0 (to_mark_if b site.end w) g p false t.calls_below u
      chooses b e = ap (λ d. branch (target c) 0 (way_past_limit d site.end value a w) g p false t.calls_below u) in_area ∙ ap (λ d. branch (target c) 0 (to_mark_if d site.end w) g p false t.calls_below u) e

      path_to : (y : ℕ) (b : Bool) → is_below z area ≡ true → past_limit w ≡ b → branch (target c) 0 (to_mark_if b site.end w) g p false t.calls_below u ≡ at_state y false w
          → Path (seen_with w) (B c) cost (at_state q false w) (at_state y false w)
      path_to y b is e f =
          join (seen_with w) (B c) (total_weight os) 20 cost (at_state q false w) (at_state p true u) (at_state y false w) refl
          (subst (Ran (target c) g t.calls_below x.line q p false true os w) (done true is) ran).0
          (one_order c t (order.Exhausted site.end) p true false u (at_state y false w) (λ h v. refl) stands.1.1.0 refl (chooses b e ∙ f))

      by_past : (b : Bool) → is_below z area ≡ true → past_limit w ≡ b → Goes c t (Turn 1 x k) q false w
      by_past true is e =
          inr
          (leaps c t.segment t.acts t.calls_below t.unit t.unit_is t.calls (Turn 1 x k) k q site.out false false false w w cost (turns_out site w is e)
          (path_to site.out true is e (ap (λ o. go_at o g p false t.calls_below u w) (mark_here c t.segment t.acts t.calls_below t.unit t.unit_is site.end site.out site.end_is)))
          light some tt (at_out site))
      by_past false is e =
          inr
          (leaps c t.segment t.acts t.calls_below t.unit t.unit_is t.calls (Turn 1 x k) body_on q (p + 1) false false false w w cost (turns_in w is e) (path_to (p + 1) false is e refl) light some tt
          (subst (λ y. Leads_to c t y false false body_on) (sym stands.1.1.1) (body_carried site)))

      by_area : (b : Bool) → is_below z area ≡ b → Goes c t (Turn 1 x k) q false w
      by_area true is = by_past (past_limit w) is refl
      by_area false is =
          let stop = subst (Ran (target c) g t.calls_below x.line q p false true os w) (done false is) ran in
          inl
          (stops c t.segment t.acts t.calls_below t.unit t.unit_is t.calls (Turn 1 x k) q stop.1 false stop.2 w stop.3 AddressRange x.line stop.0 (turn_stops w is) stop.6 stop.7
          (let v : stop.0 ≤ 224 = omega (arith, stop.5, light) in v) stop.4)

  -- ---- behind the body: one step of the source where the number is not that of the element, and else up to four, or fewer where the sum
  -- does not fit or the control variable is not in the area

  module _ (site : Site) (w : Words) where
    abbrev number : ℕ
    number = number_of (word_at w.memory (a + 3))

    placed : place_address (target c) g t.calls_below (loop_place (layout c t) x.item) ≡ Some a
    placed =
        let puts = t.stand.puts x.item 0 4 w site.words none_of_four in
        let same : a + 0 ≡ a = omega arith in
        item_placed (target c) t.in_words g t.calls_below w a (layout c t) x.item (puts ∙ ap (λ i. Changed (put (pos i) w)) same)

    inside : nat_lt (a + 3) area ≡ true
    inside = lt-ltb (a + 3) area (t.stand.within x.item 3 4 site.words three_of_four)

    does : act (target c) (action_of (target c) g t.calls_below (order.NextStep (loop_place (layout c t) x.item) x.line site.body)) g site.on false t.calls_below w ≡ branch (target c) x.line (stepped area site.body a w) g site.on false t.calls_below w
    does =
        ap (λ o. branch (target c) x.line (next_step area site.body o w) g site.on false t.calls_below w) placed
        ∙ ap (λ b. branch (target c) x.line (stepped_inside b area site.body a w) g site.on false t.calls_below w) inside

    path_to : (r : Way) (v : OrderState) → stepped area site.body a w ≡ r → branch (target c) x.line r g site.on false t.calls_below w ≡ v
        → Path (seen_with w) (B c) 48 (at_state site.on false w) v
    path_to r v e f =
        one_order c t (order.NextStep (loop_place (layout c t) x.item) x.line site.body) site.on false false w v (λ h z. refl) site.goes_on.0 refl
        (does ∙ ap (λ d. branch (target c) x.line d g site.on false t.calls_below w) e ∙ f)

    to_bump : nat_eq number 1 ≡ true → next c t (On x k) w ≡ config c t (Bump 1 x k) w
    to_bump e = ap₂ (λ es m. config c t (next_element (element_at es m) m x k) w) site.elements (is_one number e)

    bumped : (o : Outcome) → perform area (AddStep a) w ≡ o → next c t (Bump 1 x k) w ≡ source_after o t.segment x.line (Bump 1 x k) (Turn 1 x k) t.acts w
    bumped o e = ap (λ r. source_after r t.segment x.line (Bump 1 x k) (Turn 1 x k) t.acts w) e

    way_bumped : (o : Outcome) → nat_eq number 1 ≡ true → perform area (AddStep a) w ≡ o → stepped area site.body a w ≡ way_behind o (turned area site.body a)
    way_bumped o is e = ap (λ d. stepped_if d area site.body a w) is ∙ ap (λ r. way_behind r (turned area site.body a)) e

    module _ (is : nat_eq number 1 ≡ true) (v : Words) (e : perform area (AddStep a) w ≡ Changed v) where
      same_output : v.output ≡ w.output
      same_output = subst (Added w.output) e (step_added area a w)

      same_shown : shown (config c t (Turn 1 x k) v) ≡ shown (config c t (Bump 1 x k) w)
      same_shown = ap (λ o. record { output = o; end = Running }) same_output

      lands_at : (y : ℕ) (r : Way) (k' : Work) → Comes c t (Turn 1 x k) k' v v → turned area site.body a v ≡ r
          → branch (target c) x.line r g site.on false t.calls_below w ≡ at_state y false v → Leads_to c t y false false k' → Leap c t (On x k) site.on false w
      lands_at y r k' way way_is f carried =
          leaps c t.segment t.acts t.calls_below t.unit t.unit_is t.calls (On x k) k' site.on y false false false w v 48 (step_then (to_bump is) refl refl (step_then (bumped (Changed v) e) refl same_shown way))
          (path_to r (at_state y false v) (way_bumped (Changed v) is e ∙ way_is) f) (let z : 48 ≤ 159 = omega arith in z) (let z : 0 < 48 = omega arith in z) tt carried

      way_on : (b : Bool) → is_below (word_at v.memory a) area ≡ true → past_limit v ≡ b → turned area site.body a v ≡ to_mark_if (Rattle.std.specs.Prelude.not b) site.body v
      way_on b in_area d = ap (λ y. turn_if y site.body a v) in_area ∙ ap (λ y. to_mark_if (Rattle.std.specs.Prelude.not y) site.body v) d

      by_past : (b : Bool) → is_below (word_at v.memory a) area ≡ true → past_limit v ≡ b → Leap c t (On x k) site.on false w
      by_past true in_area d =
          lands_at (site.on + 1) (Onward v) k (turns_out site v in_area d) (way_on true in_area d) refl (subst (λ z. Leads_to c t z false false k) (sym site.goes_on.1) (at_out site))
      by_past false in_area d =
          lands_at site.head (ToMark site.body v) body_on (turns_in v in_area d) (way_on false in_area d)
          (ap (λ o. go_at o g site.on false t.calls_below w v) (mark_here c t.segment t.acts t.calls_below t.unit t.unit_is site.body site.head site.head_is)) (body_carried site)

      by_area : (b : Bool) → is_below (word_at v.memory a) area ≡ b → Leap c t (On x k) site.on false w
      by_area true in_area = by_past (past_limit v) in_area refl
      by_area false outside =
          leap_stops c t.segment t.acts t.calls_below t.unit t.unit_is t.calls (On x k) (Turn 1 x k) site.on site.on false false w v w AddressRange x.line 48
          (step_then (to_bump is) refl refl (step_then (bumped (Changed v) e) refl same_shown (only_step (turn_stops v outside) refl)))
          (path_to (Barred AddressRange) (state g site.on false t.calls_below w (Stopped AddressRange (g + 1) x.line)) (way_bumped (Changed v) is e ∙ ap (λ y. turn_if y site.body a v) outside) refl)
          (sym same_output) (let z : 48 ≤ 224 = omega arith in z) (let z : 0 < 48 = omega arith in z)

    by_outcome : nat_eq number 1 ≡ true → (o : Outcome) → perform area (AddStep a) w ≡ o → Leap c t (On x k) site.on false w
    by_outcome is (Changed v) e = by_area is v e (is_below (word_at v.memory a) area) refl
    by_outcome is (Refused kind) e =
        leap_stops c t.segment t.acts t.calls_below t.unit t.unit_is t.calls (On x k) (Bump 1 x k) site.on site.on false false w w w kind x.line 48 (step_then (to_bump is) refl refl (only_step (bumped (Refused kind) e) refl))
        (path_to (Barred kind) (state g site.on false t.calls_below w (Stopped kind (g + 1) x.line)) (way_bumped (Refused kind) is e) refl)
        refl (let z : 48 ≤ 224 = omega arith in z) (let z : 0 < 48 = omega arith in z)
    by_outcome is Impossible e = absurd (subst (Added w.output) e (step_added area a w))

    by_number : (b : Bool) → nat_eq number 1 ≡ b → Leap c t (On x k) site.on false w
    by_number true is = by_outcome is (perform area (AddStep a) w) refl
    by_number false is =
        let none : element_at x.elements number ≡ None = ap (λ es. element_at es number) site.elements ∙ not_one (element.Step site.first site.step site.limit) number is in
        leaps c t.segment t.acts t.calls_below t.unit t.unit_is t.calls (On x k) k site.on (site.on + 1) false false false w w 48 (only_step (ap (λ o. config c t (next_element o number x k) w) none) refl)
        (path_to (Onward w) (at_state (site.on + 1) false w) (ap (λ d. stepped_if d area site.body a w) is) refl)
        (let z : 48 ≤ 159 = omega arith in z) (let z : 0 < 48 = omega arith in z) tt (subst (λ z. Leads_to c t z false false k) (sym site.goes_on.1) (at_out site))

  pub next_follows : (q : ℕ) (w : Words) → NextSite c.orders_for t.unit who (has_words c t) q x n → Leap c t (On x k) q false w
  next_follows q w (site, at_q) = subst (λ z. Leap c t (On x k) z false w) (sym at_q) (by_number site w (nat_eq (number_of (word_at w.memory (a + 3))) 1) refl)
