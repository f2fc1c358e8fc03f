-- The orders follow the source through the beginning of a FOR of one STEP element that begins without the library: one straight list of
-- orders, while the source makes eleven to eighteen steps that show nothing new.
use Rattle.std.proofs.Common.{◌≡◌, ℕ, zero, suc, ◌+◌, ◌*◌, ◌<◌, ◌≤◌, ℤ, pos, negsuc, List, [], ◌∷◌, ◌++◌, length, set, Bool, true, false, Option, Some, None, refl, sym, ap, ap₂, ◌∙◌, subst, arith, length-set}
use Rattle.std.specs.Prelude.{nat_le, slice_get, IsTrue, ◌&&◌, ◌==◌, if◌then◌else◌}
use Rattle.std.specs.List.{All}
use Rattle.std.proofs.lemmas.Bool.{true≢false, lt-ltb}
use Rattle.std.proofs.lemmas.Bool.Decides.{nat_tests}
use Rattle.std.proofs.lemmas.Int.{ints}
use Rattle.std.proofs.lemmas.Option.{none-some, same_Some}
use Rattle.std.proofs.lemmas.List.{get_or-set_same, get_or-set_other}
use Rattle.std.proofs.lemmas.List.Elements.{All-set}
use Rattle.cw_track.proofs.Paths.{Path, stay, join}
use Rattle.cw_track.proofs.Watching.{only_step, step_then}
use Rattle.cw_word.specs.FixedPoint.{FitsWord}
use Rattle.cw_word.specs.Word.{unsigned}
use Rattle.cw_unit.specs.declared.layout.Layout.{Layout}
use Rattle.cw_unit.specs.declared.unit.Unit.{Unit as SourceUnit}
use Rattle.cw_unit.specs.declared.unit.Field.{Field}
use Rattle.cw_unit.specs.declared.unit.Felem.TheVariants as element
use Rattle.cw_unit.specs.declared.unit.Cond.{Cond}
use Rattle.cw_unit.specs.declared.unit.Expr.{Expr, Expr-F, out-Expr}
use Rattle.cw_unit.specs.declared.unit.Arg.{Arg}
use Rattle.cw_unit.specs.declared.unit.Ref.{Ref, out-Ref}
use Rattle.cw_unit.specs.declared.unit.Spot.{Spot, out-Spot}
use Rattle.cw_unit.specs.declared.unit.Arg.TheOpen as layer
use Rattle.cw_unit.specs.declared.unit.Arg.TheOpen.{Spot-F}
use Rattle.cw_unit.specs.Stop.{Overflow, Running}
use Rattle.cw_unit.specs.Words.{Operand, Word, Words, Outcome, Changed, put, put_if, put_value, with_memory, word_at, number_of, is_below, through}
use Rattle.cw_unit.specs.Operation.{Rescale, Fetch, SetVariable, perform, is_past, holds}
use Rattle.cw_unit.specs.Work.{Work, Run, Eval, Address, Do, KeepAt, SetVar, Element, Turn, On, Loop, element_at, scale_of}
use Rattle.cw_unit.specs.Configuration.{address_at}
use Rattle.cw_unit.specs.Step.{pick, element_step, after as source_after}
use Rattle.cw_unit.specs.Behaviour.{Observation}
use Rattle.cw_unit.specs.Begun.{Begun}
use Rattle.cw_order.specs.declared.order.Order.{Order}
use Rattle.cw_order.specs.declared.order.Order.TheVariants as order
use Rattle.cw_order.specs.declared.order.Comparator.{Comparator}
use Rattle.cw_order.specs.declared.order.Comparator.TheVariants as comparator
use Rattle.cw_order.specs.OrderChanges.{to_mark_if, comparison}
use Rattle.cw_order.specs.OrderState.{OrderActivation, OrderState, at as state, stack_words}
use Rattle.cw_order.specs.OrderCosts.{weight_of}
use Rattle.cw_order.specs.OrderMachine.{branch, go_at}
use Rattle.cw_order.proofs.FittingWords.{word_at-fits, tested-fits}
use Rattle.cw_gen_expr.specs.KnownValues.{of_known, known_negative}
use Rattle.cw_gen_expr.specs.ReferenceExpressions.{Scope, at_line, item_order, number_order, value_of}
use Rattle.cw_gen_expr.specs.BuiltExpressions.{most_levels, is_expression, built_reference}
use Rattle.cw_gen_expr.proofs.Layers.{known_layer, value-made, built_value_layer, value-built, built_spot_layer}
use Rattle.cw_gen_unit.specs.declared.simple.Simple.{Simple}
use Rattle.cw_gen_unit.specs.declared.simple.Simple.TheVariants as simple
use Rattle.cw_gen_unit.specs.declared.simple.SimpleStep.{SimpleStep}
use Rattle.cw_gen_unit.specs.SimpleLoops.{are_apart, direct_item, variable_if, whole_item, item_read, unsigned_number, number_layer, known_number, as_item, item_layer, number_or, simple_of, simple_parts, simple_step}
use Rattle.cw_gen_unit.specs.ReferenceStatements.{keep_orders, number_orders, value_orders, limit_orders, past_orders, turn_orders, simple_orders}
use Rattle.cw_safety.proofs.Truth.{both}
use Rattle.cw_carry.proofs.Expressions.Standing.{Stands, parted}
use Rattle.cw_carry.proofs.Expressions.Effects.{is_silent, all_silent, total_weight, through_all, loaded_through, OnLine, Ran}
use Rattle.cw_carry.proofs.Expressions.Carried.{over as leap, Via, who_of}
use Rattle.cw_carry.proofs.Expressions.Operations.{tested, rescaled-same, keeps, behind_word, behind_item}
use Rattle.cw_carry.proofs.Expressions.Stepping.{Compiled, source, target, B, Seen, mark_here, leaps}
use Rattle.cw_carry.proofs.Expressions.Moments.{item_silent, item_light, item_loads, item_tells, silent_and, Moment, here_in, layout, scope, has_words, code, marks, At, Leads_to, Leap, Comes, config, next, run, Facts, one_order, ran_on}
use Rattle.cw_carry.proofs.Expressions.Addresses.{built_spot, addresses}
use Rattle.cw_carry.proofs.Expressions.Values.{constant-is, built_of, evaluates}
use Rattle.cw_carry.proofs.Expressions.Results.{of_one}
use Rattle.cw_carry.proofs.Expressions.Knowing.{then_come, done, evaluated, fits_known}
use Rattle.cw_carry.proofs.Statements.Sites.{SteppedSite, BeginningSite, sites}
use Rattle.cw_carry.proofs.Statements.StepLoops.{body_carried, out_carried, past_limit, turns_out, turns_in}

-- ---- what the generator tells

same_number : (a b : ℕ) → (a == b) ≡ true → a ≡ b
same_number a b h = grind (arith, nat_tests)

-- a reference that names a whole item at a scale
record NamesItem (r : Ref) (f i : ℕ) : Type 0 where
  scale : (out-Ref r).f ≡ f
  whole : (out-Ref r).field ≡ None
  direct : out-Spot (out-Ref r).at ≡ layer.Direct i

direct_is : (x : Spot-F Arg Cond Expr Spot Ref) (i : ℕ) → direct_item x ≡ Some i → x ≡ layer.Direct i
direct_is (layer.Direct j) i h = ap (λ n. layer.Direct n) (same_Some j i h)
direct_is _ i h = absurd (none-some i h)

names_item : (r : Ref) (f i : ℕ) → item_read r f ≡ Some i → NamesItem r f i
names_item r f i h = by_scale ((out-Ref r).f == f) refl ((out-Ref r).field) refl h
  where
    by_scale : (b : Bool) → ((out-Ref r).f == f) ≡ b → (d : Option Field) → (out-Ref r).field ≡ d
        → (if b then whole_item d (direct_item (out-Spot (out-Ref r).at)) else None) ≡ Some i → NamesItem r f i
    by_scale false e d is h = absurd (none-some i h)
    by_scale true e (Some part) is h = absurd (none-some i h)
    by_scale true e None is h = record { scale = same_number (out-Ref r).f f e; whole = is; direct = direct_is (out-Spot (out-Ref r).at) i h }

-- the parts of a simple beginning
record SimpleIs (y : Layout) (item : ℕ) (r : Ref) (f : ℕ) (a b d : Expr) (x : SimpleStep) : Type 0 where
  direct : out-Spot (out-Ref r).at ≡ layer.Direct x.variable
  apart : IsTrue (are_apart y item x.variable)
  first : simple_of a f ≡ Some x.first
  step : known_number b f ≡ Some x.step
  limit : simple_of d f ≡ Some x.limit

simple_is : (y : Layout) (item : ℕ) (r : Ref) (a b d : Expr) (x : SimpleStep) → simple_step y item r (element.Step a b d ∷ []) ≡ Some x → SimpleIs y item r (out-Ref r).f a b d x
simple_is y item r a b d x h =
    by_direct (direct_item (out-Spot (out-Ref r).at)) refl h
  where
    f : ℕ
    f = (out-Ref r).f

    by_parts : (v : ℕ) → direct_item (out-Spot (out-Ref r).at) ≡ Some v → IsTrue (are_apart y item v) → (p : Option Simple) (q : Option ℤ) (s : Option Simple) → simple_of a f ≡ p
        → known_number b f ≡ q → simple_of d f ≡ s → simple_parts (Some v) p q s ≡ Some x → SimpleIs y item r f a b d x
    by_parts v is apart (Some p) (Some q) (Some s) e1 e2 e3 h =
        let same = same_Some (record { variable = v; first = p; step = q; limit = s }) x h in
        subst (SimpleIs y item r f a b d) same (record { direct = direct_is (out-Spot (out-Ref r).at) v is; apart = apart; first = e1; step = e2; limit = e3 })
    by_parts v is apart (Some p) (Some q) None e1 e2 e3 h = absurd (none-some x h)
    by_parts v is apart (Some p) None s e1 e2 e3 h = absurd (none-some x h)
    by_parts v is apart None q s e1 e2 e3 h = absurd (none-some x h)

    by_apart : (v : ℕ) (b' : Bool) → direct_item (out-Spot (out-Ref r).at) ≡ Some v → are_apart y item v ≡ b'
        → simple_parts (if b' then Some v else None) (simple_of a f) (known_number b f) (simple_of d f) ≡ Some x → SimpleIs y item r f a b d x
    by_apart v true is e h = by_parts v is e (simple_of a f) (known_number b f) (simple_of d f) refl refl refl h
    by_apart v false is e h = absurd (none-some x h)

    by_direct : (o : Option ℕ) → direct_item (out-Spot (out-Ref r).at) ≡ o → simple_parts (variable_if y item o) (simple_of a f) (known_number b f) (simple_of d f) ≡ Some x
        → SimpleIs y item r f a b d x
    by_direct None is h = absurd (none-some x h)
    by_direct (Some v) is h = by_apart v (are_apart y item v) is refl h

-- ---- words of memory

pub set_there : (memory : List ℤ) (i : ℕ) (z : ℤ) → i < length memory → word_at (set memory i z) i ≡ z
set_there memory i z lt = get_or-set_same memory i z (pos 0) lt

pub set_elsewhere : (memory : List ℤ) (i k : ℕ) (z : ℤ) → (k ≡ i → ⊥) → word_at (set memory i z) k ≡ word_at memory k
set_elsewhere memory i k z other = get_or-set_other memory i k z (pos 0) other

-- the one or the other of two places
abbrev place_by : Bool → (out next : ℕ) → ℕ
place_by true out next = out
place_by false out next = next

-- one word more in hand
one_more : (z : ℤ) (hand : List Operand) (bs : List OrderActivation) → stack_words (Word z ∷ hand) bs ≤ 1 + stack_words hand bs
one_more z hand [] = let l : stack_words (Word z ∷ hand) [] ≤ 1 + stack_words hand [] = omega arith in l
one_more z hand (b ∷ bs) = let l : stack_words (Word z ∷ hand) (b ∷ bs) ≤ 1 + stack_words hand (b ∷ bs) = omega arith in l

module _ (c : Compiled) (t : Moment c) where
  abbrev addr : ℕ → ℕ
  addr i = address_at (source c) t.segment t.acts i

  -- ---- simple values

  -- a number, or the word of an item
  abbrev value_in : Simple → List ℤ → ℤ
  value_in (simple.Number z) memory = z
  value_in (simple.Item i) memory = word_at memory (addr i)

  abbrev IsGiven : Simple → Type 0
  IsGiven (simple.Number z) = FitsWord z
  IsGiven (simple.Item i) = IsTrue (has_words c t i 1)

  value_fits : (x : Simple) (memory : List ℤ) → IsGiven x → All FitsWord memory → FitsWord (value_in x memory)
  value_fits (simple.Number z) memory given all = given
  value_fits (simple.Item i) memory given all = word_at-fits memory (addr i) all

  module _ (line : ℕ) where
    abbrev sc : Scope
    sc = at_line line (scope c t)

    -- a number that the generator tells is one that is known
    unsigned_known : (x : Expr-F Arg Cond Expr Spot Ref) (f : ℕ) (z : ℤ) → unsigned_number x f ≡ Some z → known_layer sc x f ≡ Some z
    unsigned_known (layer.Num n) f z h = h
    unsigned_known (layer.Const y) f z h = h
    unsigned_known _ f z h = absurd (none-some z h)

    value_known : (e : Expr) (f : ℕ) (z : ℤ) → known_layer sc (out-Expr e) f ≡ Some z → (value_of sc e).known f ≡ Some z
    value_known e f z h = ap (λ v. v.known f) (value-made sc e) ∙ h

    layer_known : (x : Expr-F Arg Cond Expr Spot Ref) (f : ℕ) (z : ℤ) → number_layer x f ≡ Some z → known_layer sc x f ≡ Some z
    layer_known (layer.Minus e) f z h =
        let y = of_one known_negative (unsigned_number (out-Expr e) f) z h in
        ap (of_known known_negative) (value_known e f y.0 (unsigned_known (out-Expr e) f y.0 y.1)) ∙ y.2
    layer_known (layer.Num n) f z h = h
    layer_known (layer.Const y) f z h = h
    layer_known _ f z h = absurd (none-some z h)

    number_known : (e : Expr) (f : ℕ) (z : ℤ) → known_number e f ≡ Some z → (value_of sc e).known f ≡ Some z
    number_known e f z h = value_known e f z (layer_known (out-Expr e) f z h)

    built_parts : (e : Expr) (f : ℕ) → IsTrue (is_expression t.unit (has_words c t) e f most_levels) → IsTrue (nat_le f 15) × IsTrue ((built_of c t e).at f most_levels)
    built_parts e f b = both (nat_le f 15) ((built_of c t e).at f most_levels) b

    number_fits : (e : Expr) (f : ℕ) (z : ℤ) → known_number e f ≡ Some z → IsTrue (is_expression t.unit (has_words c t) e f most_levels) → FitsWord z
    number_fits e f z h b =
        tested-fits z (fits_known c t line (out-Expr e) f most_levels z (sym (ap (λ v. v.at f most_levels) (value-built t.unit (has_words c t) e)) ∙ (built_parts e f b).1) (layer_known (out-Expr e) f z h))

    number_comes : (e : Expr) (f : ℕ) (k : Work) (w : Words) (z : ℤ) → known_number e f ≡ Some z → IsTrue (is_expression t.unit (has_words c t) e f most_levels)
        → Comes c t (Eval e f line k) k w (put z w)
    number_comes e f k w z h b = let bs = built_parts e f b in evaluated c t line e f most_levels k w z bs.0 bs.1 (number_known e f z h)

    -- the address of an item that is named directly
    address_comes : (r : Ref) (i : ℕ) (k : Work) (w : Words) → out-Spot (out-Ref r).at ≡ layer.Direct i → Comes c t (Address r line k) k w (put (pos (addr i)) w)
    address_comes r i k w direct = only_step (addresses c t r (layer.Direct i) line k w direct) refl

    -- the words of an item that is named directly
    item_words : (r : Ref) (i : ℕ) → out-Spot (out-Ref r).at ≡ layer.Direct i → IsTrue (built_reference t.unit (has_words c t) r).good → IsTrue (has_words c t i 1)
    item_words r i direct good = subst (λ z. IsTrue (built_spot_layer t.unit (has_words c t) z)) direct (built_spot c t r good)

    -- its word
    item_comes : (e : Expr) (r : Ref) (f i : ℕ) (k : Work) (w : Words) → out-Expr e ≡ layer.Read r → NamesItem r f i → IsTrue (has_words c t i 1)
        → FitsWord (word_at w.memory (addr i)) → Comes c t (Eval e f line k) k w (put (word_at w.memory (addr i)) w)
    item_comes e r f i k w is names words fit =
        let z = word_at w.memory (addr i) in
        let scale = scale_of r in
        let k1 = Do (Rescale scale f) line k in
        let k2 = Do (Fetch (out-Ref r).field) line k1 in
        let inside : is_below (pos (addr i)) c.limits.area ≡ true = lt-ltb (addr i) c.limits.area (let y : addr i < c.limits.area = omega (arith, t.stand.within i 0 1 words (let l : 0 < 1 = omega arith in l)) in y) in
        let fetched : perform c.limits.area (Fetch (out-Ref r).field) (put (pos (addr i)) w) ≡ Changed (put z w) =
        ap (λ d. perform c.limits.area (Fetch d) (put (pos (addr i)) w)) names.whole
        ∙ ap (λ b. through b (λ j v. Changed (put (word_at v.memory j) v)) (pos (addr i)) w) inside in
        let kept : perform c.limits.area (Rescale scale f) (put z w) ≡ Changed (put z w) =
        ap (λ g. perform c.limits.area (Rescale g f) (put z w)) names.scale ∙ ap (λ y. put_value y w) (rescaled-same z f) ∙ ap (λ b. put_if b Overflow z w) (tested z fit) in
        step_then (evaluates c t e (layer.Read r) f line k w is) refl refl
        (then_come c t (Address r line k2) k2 k w (put (pos (addr i)) w) (put z w) refl (address_comes r i k2 w names.direct)
        (then_come c t k2 k1 k (put (pos (addr i)) w) (put z w) (put z w) refl (done c t line (Fetch (out-Ref r).field) k1 (put (pos (addr i)) w) (put z w) fetched) (done c t line (Rescale scale f) k (put z w) (put z w) kept)))

    -- a simple value comes
    abbrev Simply : Expr → ℕ → Simple → Type 0
    Simply e f x = IsGiven x × ((k : Work) (w : Words) → All FitsWord w.memory → Comes c t (Eval e f line k) k w (put (value_in x w.memory) w))

    item_simply : (e : Expr) (x : Expr-F Arg Cond Expr Spot Ref) (f : ℕ) (s : Simple) → out-Expr e ≡ x → item_layer x f ≡ Some s
        → IsTrue ((built_value_layer t.unit (has_words c t) x).at f most_levels) → Simply e f s
    item_simply e (layer.Read r) f s is h b = by_item (item_read r f) refl h
      where
        of_item : (i : ℕ) → item_read r f ≡ Some i → Simply e f (simple.Item i)
        of_item i named =
            let names = names_item r f i named in
            let words = item_words r i names.direct b in
            (words, λ k w all. item_comes e r f i k w is names words (word_at-fits w.memory (addr i) all))

        by_item : (o : Option ℕ) → item_read r f ≡ o → as_item o ≡ Some s → Simply e f s
        by_item None named h' = absurd (none-some s h')
        by_item (Some i) named h' = subst (Simply e f) (same_Some (simple.Item i) s h') (of_item i named)
    item_simply e _ f s is h b = absurd (none-some s h)

    simply : (e : Expr) (f : ℕ) (s : Simple) → simple_of e f ≡ Some s → IsTrue (is_expression t.unit (has_words c t) e f most_levels) → Simply e f s
    simply e f s h b = by_number (known_number e f) refl h
      where
        by_number : (o : Option ℤ) → known_number e f ≡ o → number_or o (item_layer (out-Expr e) f) ≡ Some s → Simply e f s
        by_number None is h' = item_simply e (out-Expr e) f s refl h' (sym (ap (λ v. v.at f most_levels) (value-built t.unit (has_words c t) e)) ∙ (built_parts e f b).1)
        by_number (Some z) is h' = subst (Simply e f) (same_Some (simple.Number z) s h') (number_fits e f z is b, λ k w all. number_comes e f k w z is b)

    -- ---- orders that put a word, and keep it

    module _ (w : Words) (room : 24 + stack_words w.operands t.calls_below ≤ c.room) where
      abbrev words_with : List ℤ → Words
      words_with m = with_memory w m

      abbrev at_state : (q : ℕ) → (l : Bool) → Words → OrderState
      at_state q l v = state (here_in c t) q l t.calls_below v Running

      abbrev seen_with : Observation × List Begun → Type 0
      seen_with = Seen c t.segment t.acts t.calls_below t.unit t.unit_is w

      abbrev ran_to : (q m : ℕ) → (l l' : Bool) → List Order → Words → Outcome → Type 0
      ran_to = Ran (target c) (here_in c t) t.calls_below line

      record Puts (os : List Order) (most : ℕ) (m : List ℤ) (z : ℤ) : Type 0 where
        quiet : IsTrue (all_silent os)
        at : OnLine line os
        turns : loaded_through os false ≡ Some true
        short : length os ≤ 2
        light : total_weight os ≤ most
        does : run c t os (words_with m) ≡ Changed (put z (words_with m))

      -- a number
      number_puts : (z : ℤ) (m : List ℤ) → FitsWord z → Puts (number_order (unsigned z) ∷ []) 2 m z
      number_puts z m fits = record {
        quiet = refl;
        at = (tt, tt);
        turns = refl;
        short = (let l : 1 ≤ 2 = omega arith in l);
        light = (let l : 2 + 0 ≤ 2 = omega arith in l);
        does = ap (λ y. Changed (put y (words_with m))) (constant-is z (tested z fits));
      }

      -- the address of an item
      address_puts : (i k : ℕ) (m : List ℤ) → IsTrue (has_words c t i k) → 0 < k → Puts (item_order (layout c t) i 0 ∷ []) 4 m (pos (addr i))
      address_puts i k m words some =
          let heavy = item_light (layout c t) i 0 in
          record {
            quiet = silent_and (is_silent (item_order (layout c t) i 0)) true (item_silent (layout c t) i 0) refl;
            at = (item_tells line (layout c t) i 0, tt);
            turns = ap (λ y. through_all y []) (item_loads (layout c t) i 0);
            short = (let l : 1 ≤ 2 = omega arith in l);
            light = (let l : weight_of (item_order (layout c t) i 0) + 0 ≤ 4 = omega (arith, heavy.1) in l);
            does = behind_item (target c) (here_in c t) t.calls_below (source c) t.segment t.acts (layout c t) (has_words c t) t.in_words t.stand i k [] (words_with m) words some;
          }

      -- its word
      word_puts : (i : ℕ) (m : List ℤ) → IsTrue (has_words c t i 1) → Puts (item_order (layout c t) i 0 ∷ order.Load ∷ []) 12 m (word_at m (addr i))
      word_puts i m words =
          let heavy = item_light (layout c t) i 0 in
          let same : addr i + 0 ≡ addr i = omega arith in
          record {
            quiet = silent_and (is_silent (item_order (layout c t) i 0)) true (item_silent (layout c t) i 0) refl;
            at = (item_tells line (layout c t) i 0, (tt, tt));
            turns = ap (λ y. through_all y (order.Load ∷ [])) (item_loads (layout c t) i 0);
            short = (let l : 2 ≤ 2 = omega arith in l);
            light = (let l : weight_of (item_order (layout c t) i 0) + (8 + 0) ≤ 12 = omega (arith, heavy.1) in l);
            does =
                behind_word (target c) (here_in c t) t.calls_below (source c) t.segment t.acts (layout c t) (has_words c t) t.in_words t.stand i 0 1 [] w.operands m w.input w.output words (let l : 0 < 1 = omega arith in l)
                ∙ ap (λ a. Changed (put (word_at m a) (words_with m))) same;
          }

      more_puts : (os : List Order) (most more : ℕ) (m : List ℤ) (z : ℤ) → most ≤ more → Puts os most m z → Puts os more m z
      more_puts os most more m z le p = record { quiet = p.quiet; at = p.at; turns = p.turns; short = p.short; light = (let h = p.light in let l : total_weight os ≤ more = omega (arith, h, le) in l); does = p.does }

      value_puts : (x : Simple) (m : List ℤ) → IsGiven x → Puts (value_orders (layout c t) x) 12 m (value_in x m)
      value_puts (simple.Number z) m given = more_puts (number_order (unsigned z) ∷ []) 2 12 m z (omega arith) (number_puts z m given)
      value_puts (simple.Item i) m given = word_puts i m given

      -- the word is kept in an item, and the orders behind it follow
      abbrev Kept : (q end most : ℕ) → (rest : List Order) → (m m' : List ℤ) → Type 0
      Kept q end most rest m m' = (p : ℕ) × (spent : ℕ) × (spent ≤ most) × (0 < spent) × Stands (code c t) p rest end × Path seen_with (B c) spent (at_state q false (words_with m)) (at_state p false (words_with m'))

      kept : (os : List Order) (most : ℕ) (m : List ℤ) (z : ℤ) (i n k a : ℕ) (q end : ℕ) (rest : List Order) → Puts os most m z → IsTrue (has_words c t i k) → n < k
          → addr i + n ≡ a → Stands (code c t) q (os ++ (keep_orders (layout c t) i n ++ rest)) end → Kept q end (most + 13) rest m (set m a z)
      kept os most m z i n k a q end rest puts words lt there stands =
          let y = layout c t in
          let keep = keep_orders y i n in
          let heavy = item_light y i n in
          let two = parted (code c t) q os (keep ++ rest) end stands in
          let three = parted (code c t) two.0 keep rest end two.2 in
          let x1 = words_with m in
          let x2 = put z x1 in
          let x3 = words_with (set m a z) in
          let first = ran_on c t line os q two.0 false true x1 two.1 puts.quiet puts.at puts.turns (let h = puts.short in let l : 2 * length os + stack_words w.operands t.calls_below ≤ c.room = omega (arith, room, h) in l) in
          let second = ran_on c t line keep two.0 three.0 true false x2 three.1 (silent_and (is_silent (item_order y i n)) true (item_silent y i n) refl) (tt, (item_tells line y i n, (tt, tt))) (ap (λ d. through_all d (order.Store ∷ [])) (item_loads y i n))
          (let more = one_more z w.operands t.calls_below in let l : 2 * 3 + stack_words (Word z ∷ w.operands) t.calls_below ≤ c.room = omega (arith, room, more) in l) in
          let stores : run c t keep x2 ≡ Changed x3 =
          keeps (target c) (here_in c t) t.calls_below (source c) t.segment t.acts y (has_words c t) t.in_words t.stand i n k (Word z ∷ w.operands) m w.input w.output words lt tt ∙ ap (λ b. Changed (words_with (set m b z))) there in
          let p1 = (subst (ran_to q two.0 false true os x1) puts.does first).0 in
          let p2 = (subst (ran_to two.0 three.0 true false keep x2) stores second).0 in
          let spent = total_weight os + total_weight keep in (
            three.0,
            spent,
            (let h = puts.light in let l : total_weight os + (1 + (weight_of (item_order y i n) + (8 + 0))) ≤ most + 13 = omega (arith, h, heavy.1) in l),
            (let l : 0 < total_weight os + (1 + (weight_of (item_order y i n) + (8 + 0))) = omega arith in l),
            three.2,
            join seen_with (B c) (total_weight os) (total_weight keep) spent (at_state q false x1) (at_state two.0 true x2) (at_state three.0 false x3) refl p1 p2,
          )

      -- ---- the control variable is compared with the limit

      module _ (item v : ℕ) (o : Comparator) (mark out q end : ℕ) (m : List ℤ) (words : IsTrue (has_words c t v 1)) (loop_words : IsTrue (has_words c t item 4)) (stands : Stands (code c t) q (limit_orders (layout c t) item v (order.JumpIf o mark)) end) (mark_is : slice_get (marks c t) mark ≡ Some out) where
        abbrev o1 : Order
        o1 = item_order (layout c t) v 0

        abbrev o2 : Order
        o2 = item_order (layout c t) item 2

        abbrev os : List Order
        os = o1 ∷ order.Load ∷ order.Save ∷ o2 ∷ order.Load ∷ []

        abbrev value : ℤ
        value = word_at m (addr v)

        abbrev limit : ℤ
        limit = word_at m (addr item + 2)

        abbrev both_put : Words
        both_put = put limit (put value (words_with m))

        abbrev last : ℕ
        last = q + 1 + 1 + 1 + 1 + 1

        ran_first : ran_to q last false true os (words_with m) (run c t os (words_with m))
        ran_first =
            ran_on c t line os q last false true (words_with m) (stands.0, (stands.1.0, (stands.1.1.0, (stands.1.1.1.0, (stands.1.1.1.1.0, refl)))))
            (silent_and (is_silent o1) (is_silent o2 && true) (item_silent (layout c t) v 0) (silent_and (is_silent o2) true (item_silent (layout c t) item 2) refl))
            (item_tells line (layout c t) v 0, (tt, (tt, (item_tells line (layout c t) item 2, (tt, tt)))))
            (ap (λ d. through_all d (order.Load ∷ order.Save ∷ o2 ∷ order.Load ∷ [])) (item_loads (layout c t) v 0) ∙ ap (λ d. through_all d (order.Load ∷ [])) (item_loads (layout c t) item 2))
            (let l : 2 * 5 + stack_words w.operands t.calls_below ≤ c.room = omega (arith, room) in l)

        reads : run c t os (words_with m) ≡ Changed both_put
        reads =
            let same : addr v + 0 ≡ addr v = omega arith in
            behind_word (target c) (here_in c t) t.calls_below (source c) t.segment t.acts (layout c t) (has_words c t) t.in_words t.stand v 0 1 (order.Save ∷ o2 ∷ order.Load ∷ []) w.operands m w.input w.output words (let l : 0 < 1 = omega arith in l)
            ∙ behind_word (target c) (here_in c t) t.calls_below (source c) t.segment t.acts (layout c t) (has_words c t) t.in_words t.stand item 2 4 [] (Word (word_at m (addr v + 0)) ∷ w.operands) m w.input w.output loop_words (let l : 2 < 4 = omega arith in l)
            ∙ ap (λ a. Changed (put limit (put (word_at m a) (words_with m)))) same

        path_first : Path seen_with (B c) (total_weight os) (at_state q false (words_with m)) (at_state last true both_put)
        path_first = (subst (ran_to q last false true os (words_with m)) reads ran_first).0

        chosen : (d : Bool) (z : OrderState) → holds (comparison o) value limit ≡ d
            → branch (target c) 0 (to_mark_if d mark (words_with m)) (here_in c t) last false t.calls_below both_put ≡ z → Path seen_with (B c) 12 (at_state last true both_put) z
        chosen d z e f =
            one_order c t (order.JumpIf o mark) last true false both_put z (λ h i. refl) stands.1.1.1.1.1.0 refl (ap (λ i. branch (target c) 0 (to_mark_if i mark (words_with m)) (here_in c t) last false t.calls_below both_put) e ∙ f)

        path_last : (d : Bool) → holds (comparison o) value limit ≡ d → Path seen_with (B c) 12 (at_state last true both_put) (at_state (place_by d out end) false (words_with m))
        path_last true e = chosen true (at_state out false (words_with m)) e (ap (λ i. go_at i (here_in c t) last false t.calls_below both_put (words_with m)) (mark_here c t.segment t.acts t.calls_below t.unit t.unit_is mark out mark_is))
        path_last false e = chosen false (at_state end false (words_with m)) e (ap (λ i. at_state i false (words_with m)) stands.1.1.1.1.1.1)

        compared : (b : Bool) → holds (comparison o) value limit ≡ b
            → (spent : ℕ) × (spent ≤ 37) × Path seen_with (B c) spent (at_state q false (words_with m)) (at_state (place_by b out end) false (words_with m))
        compared b is =
            let h1 = item_light (layout c t) v 0 in
            let h2 = item_light (layout c t) item 2 in
            let spent = total_weight os + 12 in (
              spent,
              (let l : weight_of o1 + (8 + (1 + (weight_of o2 + (8 + 0)))) + 12 ≤ 37 = omega (arith, h1.1, h2.1) in l),
              join seen_with (B c) (total_weight os) 12 spent (at_state q false (words_with m)) (at_state last true both_put) (at_state (place_by b out end) false (words_with m)) refl path_first (path_last b is),
            )

module _ (c : Compiled) (at_sites : (g : ℕ) (u : SourceUnit) (who : Option ℕ) → c.places g u who ≡ sites c.orders_for u who (c.has_words g u who)) (t : Moment c) (x : Loop) (k : Work) (n j : ℕ) (fits_in : suc j ≤ 64) (after : Via (code c t) (marks c t) j n false (λ y m. At c t y m false k)) where
  abbrev who : Option ℕ
  who = who_of t.acts

  abbrev Site : Type 0
  Site = SteppedSite c.orders_for t.unit who (has_words c t) x n

  abbrev loop_at : ℕ
  loop_at = addr c t x.item

  abbrev body_on : Work
  body_on = Run x.body (On x k)

  -- ---- the first turn

  module _ (site : Site) (w : Words) (room : 24 + stack_words w.operands t.calls_below ≤ c.room) where
    abbrev now_at : (q : ℕ) → List ℤ → OrderState
    now_at q m = state (here_in c t) q false t.calls_below (with_memory w m) Running

    -- the orders end at a place from where they go to the end, or into the body
    abbrev Ends : (q : ℕ) → List ℤ → Bool → Type 0
    Ends q m b = (spent : ℕ) × (spent ≤ 37) × (p : ℕ) × Path (Seen c t.segment t.acts t.calls_below t.unit t.unit_is w) (B c) spent (now_at q m) (now_at p m) × Leads_to c t p false false (pick b k body_on)

    at_once_ends : (q : ℕ) (m : List ℤ) (b : Bool) → Leads_to c t q false false (pick b k body_on) → Ends q m b
    at_once_ends q m b carried = (0, (let l : 0 ≤ 37 = omega arith in l), q, stay refl refl, carried)

    carried_from : (b : Bool) → Leads_to c t (place_by b site.out site.head) false false (pick b k body_on)
    carried_from true = out_carried c at_sites t x k n j fits_in after site 64 (let l : 64 ≤ 64 = omega arith in l) (let l : j ≤ 64 = omega (arith, fits_in) in l)
    carried_from false = body_carried c at_sites t x k n j fits_in after site

    -- two numbers
    known_turn : (q : ℕ) (m : List ℤ) (b : Bool) → Stands (code c t) q (if b then (order.Jump site.end ∷ []) else []) site.head → Ends q m b
    known_turn q m true stands =
        let out = out_carried c at_sites t x k n j fits_in after site 63 (let l : 63 ≤ 64 = omega arith in l) (let l : j ≤ 63 = omega (arith, fits_in) in l) in
        at_once_ends q m true (out.0, out.1, leap stands.0 site.end_is (let z : 64 ≡ suc 63 = refl in z) out.2, out.3)
    known_turn q m false stands = at_once_ends q m false (subst (λ z. Leads_to c t z false false body_on) (sym stands) (carried_from false))

    module _ (v q : ℕ) (m : List ℤ) (words : IsTrue (has_words c t v 1)) (value limit : ℤ) (value_is : word_at m (addr c t v) ≡ value) (limit_is : word_at m (loop_at + 2) ≡ limit) where
      by_comparison : (o : Comparator) (b : Bool) → Stands (code c t) q (limit_orders (layout c t) x.item v (order.JumpIf o site.end)) site.head
          → holds (comparison o) value limit ≡ b → Ends q m b
      by_comparison o b stands is =
          let e = ap₂ (λ y z. holds (comparison o) y z) value_is limit_is ∙ is in
          let done = compared c t x.line w room x.item v o site.end site.out q site.head m words site.words stands site.end_is b e in
          (done.0, done.1, place_by b site.out site.head, done.2, carried_from b)

      past_turn : (s : ℤ) (b : Bool) → Stands (code c t) q (past_orders (layout c t) x.item v s site.end) site.head → is_past s value limit ≡ b → Ends q m b
      past_turn (pos zero) true stands is = absurd (true≢false (sym is))
      past_turn (pos zero) false stands is = known_turn q m false stands
      past_turn (pos (suc i)) b stands is = by_comparison comparator.Greater b stands is
      past_turn (negsuc i) b stands is = by_comparison comparator.Less b stands is

    -- by what is known of the first value and the limit
    turn_ends : (v q : ℕ) (m m2 m4 : List ℤ) (first limit : Simple) (s : ℤ) (b : Bool) → IsTrue (has_words c t v 1) → word_at m (addr c t v) ≡ value_in c t first m2
        → word_at m (loop_at + 2) ≡ value_in c t limit m4 → Stands (code c t) q (turn_orders (layout c t) x.item v first s limit site.end) site.head
        → is_past s (value_in c t first m2) (value_in c t limit m4) ≡ b → Ends q m b
    turn_ends v q m m2 m4 (simple.Number y) (simple.Number z) s b words value_is limit_is stands is =
        known_turn q m b (subst (λ d. Stands (code c t) q (if d then (order.Jump site.end ∷ []) else []) site.head) is stands)
    turn_ends v q m m2 m4 (simple.Number y) (simple.Item i) s b words value_is limit_is stands is = past_turn v q m words y (word_at m4 (addr c t i)) value_is limit_is s b stands is
    turn_ends v q m m2 m4 (simple.Item i) limit s b words value_is limit_is stands is = past_turn v q m words (word_at m2 (addr c t i)) (value_in c t limit m4) value_is limit_is s b stands is

  -- ---- the whole beginning

  module _ (site : Site) (y : SimpleStep) (r : Ref) (si : SimpleIs (layout c t) x.item r x.scale site.first site.step site.limit y) (good : IsTrue (built_reference t.unit (has_words c t) r).good) (q : ℕ) (w : Words)
      (stands : Stands (code c t) q (simple_orders (layout c t) x.item y ++ turn_orders (layout c t) x.item y.variable y.first y.step y.limit site.end) site.head) (fits : All FitsWord w.memory) (whole : length w.memory ≡ c.limits.area) (room : 24 + stack_words w.operands t.calls_below ≤ c.room) where
    abbrev f : ℕ
    f = x.scale

    abbrev variable_at : ℕ
    variable_at = addr c t y.variable

    variable : IsTrue (has_words c t y.variable 1)
    variable = item_words c t x.line r y.variable si.direct good

    below : (i : ℕ) → i < 4 → loop_at + i < c.limits.area
    below i lt = t.stand.within x.item i 4 site.words lt

    variable_below : variable_at < c.limits.area
    variable_below = let z : variable_at < c.limits.area = omega (arith, t.stand.within y.variable 0 1 variable (let l : 0 < 1 = omega arith in l)) in z

    apart : (i : ℕ) → i < 4 → loop_at + i ≡ variable_at → ⊥
    apart i lt e = t.stand.apart x.item y.variable i 0 4 1 site.words variable lt (let l : 0 < 1 = omega arith in l) si.apart (let z : loop_at + i ≡ variable_at + 0 = omega (arith, e) in z)

    first_apart : loop_at ≡ variable_at → ⊥
    first_apart e = apart 0 (let l : 0 < 4 = omega arith in l) (let z : loop_at + 0 ≡ variable_at = omega (arith, e) in z)

    built_parts_of : IsTrue (is_expression t.unit (has_words c t) site.first f most_levels) × IsTrue (is_expression t.unit (has_words c t) site.step f most_levels && is_expression t.unit (has_words c t) site.limit f most_levels)
    built_parts_of = both (is_expression t.unit (has_words c t) site.first f most_levels) (is_expression t.unit (has_words c t) site.step f most_levels && is_expression t.unit (has_words c t) site.limit f most_levels) site.built

    built_rest : IsTrue (is_expression t.unit (has_words c t) site.step f most_levels) × IsTrue (is_expression t.unit (has_words c t) site.limit f most_levels)
    built_rest = both (is_expression t.unit (has_words c t) site.step f most_levels) (is_expression t.unit (has_words c t) site.limit f most_levels) built_parts_of.1

    first_simply : Simply c t x.line site.first f y.first
    first_simply = simply c t x.line site.first f y.first si.first built_parts_of.0

    limit_simply : Simply c t x.line site.limit f y.limit
    limit_simply = simply c t x.line site.limit f y.limit si.limit built_rest.1

    step_fits : FitsWord y.step
    step_fits = number_fits c t x.line site.step f y.step si.step built_rest.0

    -- ---- the words of memory, from one part to the next

    abbrev m1 : List ℤ
    m1 = set w.memory loop_at (pos variable_at)

    abbrev m2 : List ℤ
    m2 = set m1 (loop_at + 3) (pos 1)

    abbrev first_value : ℤ
    first_value = value_in c t y.first m2

    abbrev m3 : List ℤ
    m3 = set m2 variable_at first_value

    abbrev m4 : List ℤ
    m4 = set m3 (loop_at + 1) y.step

    abbrev limit_value : ℤ
    limit_value = value_in c t y.limit m4

    abbrev m5 : List ℤ
    m5 = set m4 (loop_at + 2) limit_value

    abbrev with_m : List ℤ → Words
    with_m m = with_memory w m

    length1 : length m1 ≡ c.limits.area
    length1 = length-set w.memory loop_at (pos variable_at) ∙ whole

    length2 : length m2 ≡ c.limits.area
    length2 = length-set m1 (loop_at + 3) (pos 1) ∙ length1

    length3 : length m3 ≡ c.limits.area
    length3 = length-set m2 variable_at first_value ∙ length2

    length4 : length m4 ≡ c.limits.area
    length4 = length-set m3 (loop_at + 1) y.step ∙ length3

    -- each is a word
    fits2 : All FitsWord m2
    fits2 =
        let words = t.in_words in
        let lt = variable_below in
        All-set FitsWord m1 (loop_at + 3) (pos 1) (let z : FitsWord (pos 1) = omega (arith, ints) in z) (All-set FitsWord w.memory loop_at (pos variable_at) (let z : FitsWord (pos variable_at) = omega (arith, ints, lt, words) in z) fits)

    fits4 : All FitsWord m4
    fits4 = All-set FitsWord m3 (loop_at + 1) y.step step_fits (All-set FitsWord m2 variable_at first_value (value_fits c t y.first m2 first_simply.0 fits2) fits2)

    -- the address of the control variable, as long as it is asked for
    there1 : word_at m1 loop_at ≡ pos variable_at
    there1 = set_there w.memory loop_at (pos variable_at) (let lt = below 0 (let l : 0 < 4 = omega arith in l) in let z : loop_at < length w.memory = omega (arith, lt, whole) in z)

    there2 : word_at m2 loop_at ≡ pos variable_at
    there2 = set_elsewhere m1 (loop_at + 3) loop_at (pos 1) (λ e. omega (arith, e)) ∙ there1

    there5 : word_at m5 loop_at ≡ pos variable_at
    there5 = set_elsewhere m4 (loop_at + 2) loop_at limit_value (λ e. omega (arith, e)) ∙ set_elsewhere m3 (loop_at + 1) loop_at y.step (λ e. omega (arith, e)) ∙ set_elsewhere m2 variable_at loop_at first_value first_apart ∙ there2

    value5 : word_at m5 variable_at ≡ first_value
    value5 =
        set_elsewhere m4 (loop_at + 2) variable_at limit_value (λ e. apart 2 (let l : 2 < 4 = omega arith in l) (sym e)) ∙ set_elsewhere m3 (loop_at + 1) variable_at y.step (λ e. apart 1 (let l : 1 < 4 = omega arith in l) (sym e))
        ∙ set_there m2 variable_at first_value (let lt = variable_below in let z : variable_at < length m2 = omega (arith, lt, length2) in z)

    step5 : word_at m5 (loop_at + 1) ≡ y.step
    step5 =
        set_elsewhere m4 (loop_at + 2) (loop_at + 1) limit_value (λ e. omega (arith, e)) ∙ set_there m3 (loop_at + 1) y.step (let lt = below 1 (let l : 1 < 4 = omega arith in l) in let z : loop_at + 1 < length m3 = omega (arith, lt, length3) in z)

    limit5 : word_at m5 (loop_at + 2) ≡ limit_value
    limit5 = set_there m4 (loop_at + 2) limit_value (let lt = below 2 (let l : 2 < 4 = omega arith in l) in let z : loop_at + 2 < length m4 = omega (arith, lt, length4) in z)

    -- ---- the source

    abbrev keep_limit : Work
    keep_limit = KeepAt 2 x (Turn 1 x k)

    abbrev keep_step : Work
    keep_step = KeepAt 1 x (Eval site.limit f x.line keep_limit)

    abbrev set_variable : Work
    set_variable = SetVar x (Eval site.step f x.line keep_step)

    abbrev begin_element : Work
    begin_element = Element 1 x k

    abbrev keep_address : Work
    keep_address = KeepAt 0 x begin_element

    kept_first : Comes c t keep_address begin_element (put (pos variable_at) w) (with_m m1)
    kept_first = let same : loop_at + 0 ≡ loop_at = omega arith in only_step (ap (λ i. config c t begin_element (with_m (set w.memory i (pos variable_at)))) same) refl

    element_begins : Comes c t begin_element (Eval site.first f x.line set_variable) (with_m m1) (with_m m2)
    element_begins = only_step (ap (λ o. element_step (source c) o t.segment 1 x k t.acts (with_m m1)) (ap (λ es. element_at es 1) site.elements)) refl

    variable_set : perform c.limits.area (SetVariable loop_at) (put first_value (with_m m2)) ≡ Changed (with_m m3)
    variable_set =
        ap (λ z. through (is_below z c.limits.area) (λ i v. Changed (with_memory v (set v.memory i first_value))) z (with_m m2)) there2
        ∙ ap (λ b. through b (λ i v. Changed (with_memory v (set v.memory i first_value))) (pos variable_at) (with_m m2)) (lt-ltb variable_at c.limits.area variable_below)

    set_done : Comes c t set_variable (Eval site.step f x.line keep_step) (put first_value (with_m m2)) (with_m m3)
    set_done = only_step (ap (λ o. source_after o t.segment x.line set_variable (Eval site.step f x.line keep_step) t.acts (put first_value (with_m m2))) variable_set) refl

    step_kept : Comes c t keep_step (Eval site.limit f x.line keep_limit) (put y.step (with_m m3)) (with_m m4)
    step_kept = only_step refl refl

    limit_kept : Comes c t keep_limit (Turn 1 x k) (put limit_value (with_m m4)) (with_m m5)
    limit_kept = only_step refl refl

    to_turn : Comes c t (Address r x.line keep_address) (Turn 1 x k) w (with_m m5)
    to_turn =
        let turn = Turn 1 x k in
        let first_work = Eval site.first f x.line set_variable in
        let step_work = Eval site.step f x.line keep_step in
        let limit_work = Eval site.limit f x.line keep_limit in
        let last_words = with_m m5 in
        then_come c t (Address r x.line keep_address) keep_address turn w (put (pos variable_at) w) last_words refl (address_comes c t x.line r y.variable keep_address w si.direct)
        (then_come c t keep_address begin_element turn (put (pos variable_at) w) (with_m m1) last_words refl kept_first
        (then_come c t begin_element first_work turn (with_m m1) (with_m m2) last_words refl element_begins
        (then_come c t first_work set_variable turn (with_m m2) (put first_value (with_m m2)) last_words refl (first_simply.1 set_variable (with_m m2) fits2)
        (then_come c t set_variable step_work turn (put first_value (with_m m2)) (with_m m3) last_words refl set_done
        (then_come c t step_work keep_step turn (with_m m3) (put y.step (with_m m3)) last_words refl (number_comes c t x.line site.step f keep_step (with_m m3) y.step si.step built_rest.0)
        (then_come c t keep_step limit_work turn (put y.step (with_m m3)) (with_m m4) last_words refl step_kept (then_come c t limit_work keep_limit turn (with_m m4) (put limit_value (with_m m4)) last_words refl (limit_simply.1 keep_limit (with_m m4) fits4) limit_kept)))))))

    inside5 : is_below (word_at m5 loop_at) c.limits.area ≡ true
    inside5 = ap (λ z. is_below z c.limits.area) there5 ∙ lt-ltb variable_at c.limits.area variable_below

    past5 : past_limit c at_sites t x k n j fits_in after (with_m m5) ≡ is_past y.step first_value limit_value
    past5 =
        ap (λ z. is_past z (word_at m5 (number_of (word_at m5 loop_at))) (word_at m5 (loop_at + 2))) step5
        ∙ ap (λ z. is_past y.step z (word_at m5 (loop_at + 2))) (ap (λ z. word_at m5 (number_of z)) there5 ∙ value5) ∙ ap (is_past y.step first_value) limit5

    comes_to : (b : Bool) → is_past y.step first_value limit_value ≡ b → Comes c t (Turn 1 x k) (pick b k body_on) (with_m m5) (with_m m5)
    comes_to true e = turns_out c at_sites t x k n j fits_in after site (with_m m5) inside5 (past5 ∙ e)
    comes_to false e = turns_in c at_sites t x k n j fits_in after (with_m m5) inside5 (past5 ∙ e)

    -- ---- the orders

    abbrev g : ℕ
    g = here_in c t

    abbrev seen : Observation × List Begun → Type 0
    seen = Seen c t.segment t.acts t.calls_below t.unit t.unit_is w

    abbrev place : (p : ℕ) → List ℤ → OrderState
    place = now_at site w room

    abbrev v5 : List Order
    v5 = value_orders (layout c t) y.limit ++ keep_orders (layout c t) x.item 2

    abbrev v4 : List Order
    v4 = number_order (unsigned y.step) ∷ (keep_orders (layout c t) x.item 1 ++ v5)

    abbrev v3 : List Order
    v3 = value_orders (layout c t) y.first ++ (keep_orders (layout c t) y.variable 0 ++ v4)

    abbrev v2 : List Order
    v2 = number_orders (layout c t) x.item 1 ++ v3

    -- up to the first turn
    path_to_turn : (p : ℕ) → Stands (code c t) q (simple_orders (layout c t) x.item y) p
        → (spent : ℕ) × (spent ≤ 97) × (0 < spent) × Path seen (B c) spent (place q w.memory) (place p m5)
    path_to_turn p stands' =
        let some : 0 < 1 = omega arith in
        let four : 0 < 4 = omega arith in
        let one : FitsWord (pos 1) = omega (arith, ints) in
        let here0 : loop_at + 0 ≡ loop_at = omega arith in
        let there0 : variable_at + 0 ≡ variable_at = omega arith in
        let line = x.line in
        let k1 = kept c t line w room (item_order (layout c t) y.variable 0 ∷ []) 4 w.memory (pos variable_at) x.item 0 4 loop_at q p v2 (address_puts c t line w room y.variable 1 w.memory variable some) site.words four here0 stands' in
        let k2 = kept c t line w room (number_order (unsigned (pos 1)) ∷ []) 2 m1 (pos 1) x.item 3 4 (loop_at + 3) k1.0 p v3 (number_puts c t line w room (pos 1) m1 one) site.words (let l : 3 < 4 = omega arith in l) refl k1.4 in
        let k3 = kept c t line w room (value_orders (layout c t) y.first) 12 m2 first_value y.variable 0 1 variable_at k2.0 p v4 (value_puts c t line w room y.first m2 first_simply.0) variable some there0 k2.4 in
        let k4 = kept c t line w room (number_order (unsigned y.step) ∷ []) 2 m3 y.step x.item 1 4 (loop_at + 1) k3.0 p v5 (number_puts c t line w room y.step m3 step_fits) site.words (let l : 1 < 4 = omega arith in l) refl k3.4 in
        let k5 = kept c t line w room (value_orders (layout c t) y.limit) 12 m4 limit_value x.item 2 4 (loop_at + 2) k4.0 p [] (value_puts c t line w room y.limit m4 limit_simply.0) site.words (let l : 2 < 4 = omega arith in l) refl k4.4 in
        let s5 = k5.1 in
        let s4 = k4.1 + s5 in
        let s3 = k3.1 + s4 in
        let s2 = k2.1 + s3 in
        let s1 = k1.1 + s2 in
        let last = subst (λ z. Path seen (B c) s5 (place k4.0 m4) (place z m5)) k5.4 k5.5 in (
          s1,
          (let l : k1.1 + (k2.1 + (k3.1 + (k4.1 + k5.1))) ≤ 97 = omega (arith, k1.2, k2.2, k3.2, k4.2, k5.2) in l),
          (let l : 0 < k1.1 + (k2.1 + (k3.1 + (k4.1 + k5.1))) = omega (arith, k1.3) in l),
          join seen (B c) k1.1 s2 s1 (place q w.memory) (place k1.0 m1) (place p m5) refl k1.5
              (join seen (B c) k2.1 s3 s2 (place k1.0 m1) (place k2.0 m2) (place p m5) refl k2.5
              (join seen (B c) k3.1 s4 s3 (place k2.0 m2) (place k3.0 m3) (place p m5) refl k3.5 (join seen (B c) k4.1 s5 s4 (place k3.0 m3) (place k4.0 m4) (place p m5) refl k4.5 last))),
        )

    begins_as : (b : Bool) → is_past y.step first_value limit_value ≡ b → Leap c t (Address r x.line keep_address) q false w
    begins_as b e =
        let two = parted (code c t) q (simple_orders (layout c t) x.item y) (turn_orders (layout c t) x.item y.variable y.first y.step y.limit site.end) site.head stands in
        let first = path_to_turn two.0 two.1 in
        let ends = turn_ends site w room y.variable two.0 m5 m2 m4 y.first y.limit y.step b variable value5 limit5 two.2 e in
        let spent = first.0 + ends.0 in
        leaps c t.segment t.acts t.calls_below t.unit t.unit_is t.calls (Address r x.line keep_address) (pick b k body_on) q ends.2 false false false w (with_m m5) spent
        (then_come c t (Address r x.line keep_address) (Turn 1 x k) (pick b k body_on) w (with_m m5) (with_m m5) refl to_turn (comes_to b e))
        (join seen (B c) first.0 ends.0 spent (place q w.memory) (place two.0 m5) (place ends.2 m5) refl first.3 ends.3)
        (let l : first.0 + ends.0 ≤ 159 = omega (arith, first.1, ends.1) in l) (let l : 0 < first.0 + ends.0 = omega (arith, first.2) in l) tt ends.4

    -- whatever is known of the limit
    begins_now : Leap c t (Address r x.line keep_address) q false w
    begins_now = begins_as (is_past y.step first_value limit_value) refl

  pub beginning_follows : (r : Ref) (q : ℕ) (w : Words) → BeginningSite c.orders_for t.unit who (has_words c t) q r x n
      → Facts c t (Address r x.line (KeepAt 0 x (Element 1 x k))) w
      → Leap c t (Address r x.line (KeepAt 0 x (Element 1 x k))) q false w
  beginning_follows r q w (site, y, good, scale, is, stands) facts =
      let si = simple_is (layout c t) x.item r site.first site.step site.limit y (ap (simple_step (layout c t) x.item r) (sym site.elements) ∙ is) in
      let parts = subst (λ f. SimpleIs (layout c t) x.item r f site.first site.step site.limit y) scale si in
      begins_now site y r parts good q w stands facts.fits.memory facts.memory facts.room
