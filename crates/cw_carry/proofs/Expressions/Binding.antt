-- The arguments of a call as they are bound to parameters.
use Rattle.std.proofs.Common.{◌≡◌, ℕ, zero, suc, ◌+◌, ◌*◌, ◌≤◌, ℤ, List, [], ◌∷◌, ◌++◌, length, set, false, Option, Some, None, refl, sym, ap, ◌∙◌, subst, arith, append_assoc, append-nil}
use Rattle.std.specs.Prelude.{slice_get, slice_index_or, IsTrue}
use Rattle.std.proofs.lemmas.Option.{none-some, same_Some}
use Rattle.cw_unit.specs.declared.layout.Layout.{Layout}
use Rattle.cw_unit.specs.declared.layout.Family.{Family}
use Rattle.cw_unit.specs.declared.layout.Sort.{Sort}
use Rattle.cw_unit.specs.declared.layout.Sort.TheVariants as sort
use Rattle.cw_unit.specs.declared.unit.Param.{Param}
use Rattle.cw_unit.specs.declared.unit.Param.TheVariants as param
use Rattle.cw_unit.specs.Words.{Control, Operand, Word, Held, Words, Changed, with_memory}
use Rattle.cw_unit.specs.Step.{Bound, bind_one, bind_all, reversed_onto}
use Rattle.cw_order.specs.OrderProgram.{OrderProgram}
use Rattle.cw_order.specs.OrderState.{OrderActivation, operand_words, argument_behind}
use Rattle.cw_order.specs.Loading.{loaded_after}
use Rattle.cw_order.specs.OrderCosts.{weight_of}
use Rattle.cw_gen_expr.specs.ReferenceExpressions.{parameter_words, argument_words, control_place_from, control_place}
use Rattle.cw_safety.proofs.Calling.{reversed-twice}
use Rattle.cw_carry.proofs.Expressions.Effects.{through_all, loaded_through, TellsLine, OnLine, then_do, is_silent, all_silent, total_weight, growth, total_growth, effect, run_orders}
use Rattle.cw_carry.proofs.Expressions.Operations.{words}
use Rattle.cw_carry.proofs.Expressions.Moments.{silent_and}
use Rattle.cw_gen_expr.specs.ReferenceEntries.{bound_by, bound_in, bound_order, parameter_orders, bind_orders}
use Rattle.cw_gen_expr.specs.NamedItems.{ItemFits, ItemsFit}

-- ---- stacks of arguments

words_in : Operand → ℕ
words_in (Word z) = 1
words_in (Held c) = 2

-- past one argument
past_one : (x : Operand) (k : ℕ) (ys : List Operand) → argument_behind (words_in x + k) (x ∷ ys) ≡ argument_behind k ys
unfolding words_in
past_one (Word z) k ys = let e : 1 + k ≡ suc k = omega arith in ap (λ n. argument_behind n (Word z ∷ ys)) e
past_one (Held c) k ys = let e : 2 + k ≡ suc (suc k) = omega arith in ap (λ n. argument_behind n (Held c ∷ ys)) e

one_words : (x : Operand) (xs : List Operand) → operand_words (x ∷ xs) ≡ words_in x + operand_words xs
unfolding words_in
one_words (Word z) xs = refl
one_words (Held c) xs = refl

-- past the arguments that came later
pub past_later : (xs ys : List Operand) (k : ℕ) → argument_behind (k + operand_words xs) (reversed_onto xs ys) ≡ argument_behind k ys
past_later [] ys k = let e : k + 0 ≡ k = omega arith in ap (λ n. argument_behind n ys) e
past_later (x ∷ xs) ys k =
    let e : k + operand_words (x ∷ xs) ≡ (words_in x + k) + operand_words xs = omega (arith, one_words x xs) in
    ap (λ n. argument_behind n (reversed_onto xs (x ∷ ys))) e ∙ past_later xs (x ∷ ys) (words_in x + k) ∙ past_one x k ys

pub found_behind : (xs : List Operand) (x : Operand) (ys : List Operand) (n : ℕ) → n ≡ operand_words xs → argument_behind n (reversed_onto xs (x ∷ ys)) ≡ Some x
found_behind xs x ys n e =
    let z : n ≡ 0 + operand_words xs = omega (arith, e) in
    ap (λ m. argument_behind m (reversed_onto xs (x ∷ ys))) z ∙ past_later xs (x ∷ ys) 0 ∙ first x ys
  where
    first : (x : Operand) (ys : List Operand) → argument_behind 0 (x ∷ ys) ≡ Some x
    first (Word z) ys = refl
    first (Held c) ys = refl

-- ---- what is bound

no_more : (f : ℕ → ℕ) (ps : List Param) (xs : List Operand) (b : Bound) → bind_all f ps xs None ≡ Some b → ⊥
no_more f ps xs b e = none-some b e

-- the control arguments in order
abbrev pub controls_in : List Operand → List Control
controls_in [] = []
controls_in (Word z ∷ xs) = controls_in xs
controls_in (Held c ∷ xs) = c ∷ controls_in xs

-- what a parameter takes: a word for an item, or a control argument
pub data Takes (V : ℕ → Type 0) (f : ℕ → ℕ) (y : Layout) (q : Param) (x : Operand) (b : Bound) : Type 0 where
  takes_word : (i : ℕ) (z : ℤ) → V i → x ≡ Word z → parameter_words q ≡ 1 → ((k : ℕ) → parameter_orders y q k ≡ bound_order y k i ∷ []) → ((k rest : ℕ) (g : ℕ → ℕ) → control_place_from q k rest g ≡ g k) → bind_one f q x b ≡ Some (record b { memory = set b.memory (f i) z }) → Takes V f y q x b
  takes_control : (c : Control) → x ≡ Held c → parameter_words q ≡ 2 → ((k : ℕ) → parameter_orders y q k ≡ []) → ((rest : ℕ) (g : ℕ → ℕ) → control_place_from q 0 rest g ≡ rest) → ((k rest : ℕ) (g : ℕ → ℕ) → control_place_from q (suc k) rest g ≡ g k) → bind_one f q x b ≡ Some (record b { controls = b.controls ++ c ∷ [] }) → Takes V f y q x b

abbrev IsSome : Option Bound → Type 0
IsSome None = ⊥
IsSome (Some b) = Unit {0}

takes : (V : ℕ → Type 0) (f : ℕ → ℕ) (y : Layout) (q : Param) (x : Operand) (b : Bound) → ItemFits V q → IsSome (bind_one f q x b) → Takes V f y q x b
takes V f y (param.Value i s) (Word z) b d h = takes_word i z d refl refl (λ k. refl) (λ k rest g. refl) refl
takes V f y (param.Location i s) (Word z) b d h = takes_word i z d refl refl (λ k. refl) (λ k rest g. refl) refl
takes V f y (param.Array i s) (Word z) b d h = takes_word i z d refl refl (λ k. refl) (λ k rest g. refl) refl
takes V f y (param.Table i n) (Word z) b d h = takes_word i z d refl refl (λ k. refl) (λ k rest g. refl) refl
takes V f y (param.Label j) (Held c) b d h = takes_control c refl refl (λ k. refl) (λ rest g. refl) (λ k rest g. refl) refl
takes V f y (param.Switch j) (Held c) b d h = takes_control c refl refl (λ k. refl) (λ rest g. refl) (λ k rest g. refl) refl
takes V f y (param.Proc j s) (Held c) b d h = takes_control c refl refl (λ k. refl) (λ rest g. refl) (λ k rest g. refl) refl
takes V f y (param.Value i s) (Held c) b d h = absurd h
takes V f y (param.Location i s) (Held c) b d h = absurd h
takes V f y (param.Array i s) (Held c) b d h = absurd h
takes V f y (param.Table i n) (Held c) b d h = absurd h
takes V f y (param.Label j) (Word z) b d h = absurd h
takes V f y (param.Switch j) (Word z) b d h = absurd h
takes V f y (param.Proc j s) (Word z) b d h = absurd h

takes_some : (f : ℕ → ℕ) (q : Param) (qs : List Param) (x : Operand) (xs : List Operand) (b b' : Bound) (o : Option Bound) → bind_one f q x b ≡ o → bind_all f qs xs o ≡ Some b' → IsSome (bind_one f q x b)
takes_some f q qs x xs b b' None e h = absurd (no_more f qs xs b' h)
takes_some f q qs x xs b b' (Some v) e h = subst IsSome (sym e) tt

-- ---- reversed

pub reversed_words : (xs ys : List Operand) → operand_words (reversed_onto xs ys) ≡ operand_words xs + operand_words ys
reversed_words [] ys = let e : operand_words ys ≡ 0 + operand_words ys = omega arith in e
reversed_words (x ∷ xs) ys = omega (arith, reversed_words xs (x ∷ ys), one_words x xs, one_words x ys)

pub reversed_back : (xs : List Operand) → reversed_onto (reversed_onto xs []) [] ≡ xs
reversed_back xs = reversed-twice xs [] [] ∙ append-nil xs

-- the orders of a body's entry put the words where the source puts them
module _ (p : OrderProgram) (g : ℕ) (bs : List OrderActivation) (y : Layout) (V : ℕ → Type 0) (f : ℕ → ℕ) (arguments : List Operand) (binds : (k i : ℕ) (z : ℤ) (w : Words) → V i → argument_behind k arguments ≡ Some (Word z) → effect p g bs (bound_order y k i) w ≡ Changed (with_memory w (set w.memory (f i) z))) where
  -- what is known of parameters and arguments that are bound, where the arguments stand on these others
  pub record AllBound (ps : List Param) (xs : List Operand) (b b' : Bound) : Type 0 where
    pub sizes : operand_words xs ≡ argument_words ps
    pub controls : b'.controls ≡ b.controls ++ controls_in xs
    pub places : (ys : List Operand) (k : ℕ) (c : Control) → slice_get (controls_in xs) k ≡ Some c → argument_behind (control_place ps k) (reversed_onto xs ys) ≡ Some (Held c)
    pub runs : (ys : List Operand) (hand : List Operand) (input output : List ℕ) → reversed_onto xs ys ≡ arguments → run_orders p g bs (bind_orders y ps) (words hand b.memory input output) ≡ Changed (words hand b'.memory input output)

  step_bound : (q : Param) (qs : List Param) (x : Operand) (xs : List Operand) (b b' : Bound) → bind_all f qs xs (bind_one f q x b) ≡ Some b' → Takes V f y q x b → ((b0 : Bound) → bind_all f qs xs (Some b0) ≡ Some b' → AllBound qs xs b0 b') → AllBound (q ∷ qs) (x ∷ xs) b b'
  step_bound q qs x xs b b' e (takes_word i z valid is size os from bound) rest =
      let b0 : Bound = record b { memory = set b.memory (f i) z } in
      let r = rest b0 (sym (ap (bind_all f qs xs) bound) ∙ e) in
      record {
        sizes = ap (λ v. operand_words (v ∷ xs)) is ∙ (let s : 1 + operand_words xs ≡ parameter_words q + argument_words qs = omega (arith, r.sizes, size) in s);
        controls = r.controls ∙ sym (ap (λ v. b.controls ++ controls_in (v ∷ xs)) is);
        places = λ ys k c h. ap (λ n. argument_behind n (reversed_onto xs (x ∷ ys))) (from k (argument_words qs) (control_place qs)) ∙ r.places (x ∷ ys) k c (sym (ap (λ v. slice_get (controls_in (v ∷ xs)) k) is) ∙ h);
        runs = λ ys hand input output e'.
            let here = found_behind xs x ys (argument_words qs) (sym r.sizes) in
            ap (λ l. run_orders p g bs (l ++ bind_orders y qs) (words hand b.memory input output)) (os (argument_words qs))
            ∙ ap (λ o. then_do o (λ v. run_orders p g bs (bind_orders y qs) v)) (binds (argument_words qs) i z (words hand b.memory input output) valid (ap (argument_behind (argument_words qs)) (sym e') ∙ here ∙ ap (λ v. Some v) is))
            ∙ r.runs (x ∷ ys) hand input output e';
      }
  step_bound q qs x xs b b' e (takes_control c is size os first later bound) rest =
      let b0 : Bound = record b { controls = b.controls ++ c ∷ [] } in
      let r = rest b0 (sym (ap (bind_all f qs xs) bound) ∙ e) in
      record {
        sizes = ap (λ v. operand_words (v ∷ xs)) is ∙ (let s : 2 + operand_words xs ≡ parameter_words q + argument_words qs = omega (arith, r.sizes, size) in s);
        controls = r.controls ∙ append_assoc b.controls (c ∷ []) (controls_in xs) ∙ sym (ap (λ v. b.controls ++ controls_in (v ∷ xs)) is);
        places = at_place r;
        runs = λ ys hand input output e'. ap (λ l. run_orders p g bs (l ++ bind_orders y qs) (words hand b.memory input output)) (os (argument_words qs)) ∙ r.runs (x ∷ ys) hand input output e';
      }
    where
      at_place : AllBound qs xs (record b { controls = b.controls ++ c ∷ [] }) b' → (ys : List Operand) (k : ℕ) (d : Control) → slice_get (controls_in (x ∷ xs)) k ≡ Some d → argument_behind (control_place (q ∷ qs) k) (reversed_onto xs (x ∷ ys)) ≡ Some (Held d)
      at_place r ys zero d h =
          let same = same_Some c d (sym (ap (λ v. slice_get (controls_in (v ∷ xs)) 0) is) ∙ h) in
          ap (λ n. argument_behind n (reversed_onto xs (x ∷ ys))) (first (argument_words qs) (control_place qs)) ∙ found_behind xs x ys (argument_words qs) (sym r.sizes) ∙ ap (λ v. Some v) (is ∙ ap Held same)
      at_place r ys (suc k) d h =
          ap (λ n. argument_behind n (reversed_onto xs (x ∷ ys))) (later k (argument_words qs) (control_place qs)) ∙ r.places (x ∷ ys) k d (sym (ap (λ v. slice_get (controls_in (v ∷ xs)) (suc k)) is) ∙ h)

  pub all_bound : (ps : List Param) (xs : List Operand) (b b' : Bound) → ItemsFit V ps → bind_all f ps xs (Some b) ≡ Some b' → AllBound ps xs b b'
  all_bound [] [] b b' d e =
      let same = same_Some b b' e in
      record {
        sizes = refl;
        controls = ap (λ v. v.controls) (sym same) ∙ sym (append-nil b.controls);
        places = λ ys k c h. absurd (none-some c h);
        runs = λ ys hand input output e'. ap (λ v. Changed (words hand v.memory input output)) same;
      }
  all_bound [] (x ∷ xs) b b' d e = absurd (none-some b' e)
  all_bound (q ∷ qs) [] b b' d e = absurd (none-some b' e)
  all_bound (q ∷ qs) (x ∷ xs) b b' d e =
      step_bound q qs x xs b b' e (takes V f y q x b d.0 (takes_some f q qs x xs b b' (bind_one f q x b) refl e)) (λ b0 h. all_bound qs xs b0 b' d.1 h)

-- at most four instructions and one order a parameter
pub bound_light : (y : Layout) (k i : ℕ) → IsTrue (is_silent (bound_order y k i)) × (weight_of (bound_order y k i) ≤ 4)
bound_light y k i = of_family (slice_get y.families (slice_index_or y.homes i (0, 0)).0) (slice_index_or y.homes i (0, 0)).0 (slice_index_or y.homes i (0, 0)).1
  where
    of_sort : (x : Sort) (f o : ℕ) → IsTrue (is_silent (bound_by k x f o)) × (weight_of (bound_by k x f o) ≤ 4)
    of_sort (sort.Common d) f o = (refl, omega arith)
    of_sort _ f o = (refl, omega arith)

    of_family : (x : Option Family) (f o : ℕ) → IsTrue (is_silent (bound_in k x f o)) × (weight_of (bound_in k x f o) ≤ 4)
    of_family None f o = (refl, omega arith)
    of_family (Some x) f o = of_sort x.sort f o

bound_flat : (y : Layout) (k i : ℕ) → growth (bound_order y k i) ≡ 0
bound_flat y k i = of_family (slice_get y.families (slice_index_or y.homes i (0, 0)).0) (slice_index_or y.homes i (0, 0)).0 (slice_index_or y.homes i (0, 0)).1
  where
    of_sort : (x : Sort) (f o : ℕ) → growth (bound_by k x f o) ≡ 0
    of_sort (sort.Common d) f o = refl
    of_sort _ f o = refl

    of_family : (x : Option Family) (f o : ℕ) → growth (bound_in k x f o) ≡ 0
    of_family None f o = refl
    of_family (Some x) f o = of_sort x.sort f o

-- they leave the operand stack as it is
pub bind_flat : (y : Layout) (ps : List Param) → total_growth (bind_orders y ps) ≡ 0
bind_flat y [] = refl
bind_flat y (param.Value i s ∷ qs) = omega (arith, bound_flat y (argument_words qs) i, bind_flat y qs)
bind_flat y (param.Location i s ∷ qs) = omega (arith, bound_flat y (argument_words qs) i, bind_flat y qs)
bind_flat y (param.Array i s ∷ qs) = omega (arith, bound_flat y (argument_words qs) i, bind_flat y qs)
bind_flat y (param.Table i n ∷ qs) = omega (arith, bound_flat y (argument_words qs) i, bind_flat y qs)
bind_flat y (param.Label k ∷ qs) = bind_flat y qs
bind_flat y (param.Switch k ∷ qs) = bind_flat y qs
bind_flat y (param.Proc k s ∷ qs) = bind_flat y qs

abbrev BindLight : Layout → List Param → Type 0
BindLight y ps = IsTrue (all_silent (bind_orders y ps)) × (total_weight (bind_orders y ps) ≤ 4 * length ps) × (length (bind_orders y ps) ≤ length ps)

with_word : (y : Layout) (i : ℕ) (qs : List Param) → BindLight y qs → IsTrue (all_silent (bound_order y (argument_words qs) i ∷ bind_orders y qs)) × (total_weight (bound_order y (argument_words qs) i ∷ bind_orders y qs) ≤ 4 * suc (length qs)) × (length (bound_order y (argument_words qs) i ∷ bind_orders y qs) ≤ suc (length qs))
with_word y i qs r =
    let one = bound_light y (argument_words qs) i in
    let four : 4 * suc (length qs) ≡ 4 + 4 * length qs = grind arith in
    (silent_and (is_silent (bound_order y (argument_words qs) i)) (all_silent (bind_orders y qs)) one.0 r.0, (let z : weight_of (bound_order y (argument_words qs) i) + total_weight (bind_orders y qs) ≤ 4 * suc (length qs) = omega (arith, one.1, r.1, four) in z), (let z : suc (length (bind_orders y qs)) ≤ suc (length qs) = omega (arith, r.2) in z))

without_word : (y : Layout) (qs : List Param) → BindLight y qs → IsTrue (all_silent (bind_orders y qs)) × (total_weight (bind_orders y qs) ≤ 4 * suc (length qs)) × (length (bind_orders y qs) ≤ suc (length qs))
without_word y qs r =
    let four : 4 * suc (length qs) ≡ 4 + 4 * length qs = grind arith in
    (r.0, (let z : total_weight (bind_orders y qs) ≤ 4 * suc (length qs) = omega (arith, r.1, four) in z), (let z : length (bind_orders y qs) ≤ suc (length qs) = omega (arith, r.2) in z))

pub bind_light : (y : Layout) (ps : List Param) → BindLight y ps
bind_light y [] = (refl, (let z : 0 ≤ 4 * 0 = omega arith in z), omega arith)
bind_light y (param.Value i s ∷ qs) = with_word y i qs (bind_light y qs)
bind_light y (param.Location i s ∷ qs) = with_word y i qs (bind_light y qs)
bind_light y (param.Array i s ∷ qs) = with_word y i qs (bind_light y qs)
bind_light y (param.Table i n ∷ qs) = with_word y i qs (bind_light y qs)
bind_light y (param.Label k ∷ qs) = without_word y qs (bind_light y qs)
bind_light y (param.Switch k ∷ qs) = without_word y qs (bind_light y qs)
bind_light y (param.Proc k s ∷ qs) = without_word y qs (bind_light y qs)

-- they find the accumulator free and leave it so, and none stops
bound_free : (line : ℕ) (y : Layout) (k i : ℕ) → (loaded_after (bound_order y k i) false ≡ Some false) × TellsLine line (bound_order y k i)
bound_free line y k i = of_family (slice_get y.families (slice_index_or y.homes i (0, 0)).0) (slice_index_or y.homes i (0, 0)).0 (slice_index_or y.homes i (0, 0)).1
  where
    of_sort : (x : Sort) (f o : ℕ) → (loaded_after (bound_by k x f o) false ≡ Some false) × TellsLine line (bound_by k x f o)
    of_sort (sort.Common d) f o = (refl, tt)
    of_sort _ f o = (refl, tt)

    of_family : (x : Option Family) (f o : ℕ) → (loaded_after (bound_in k x f o) false ≡ Some false) × TellsLine line (bound_in k x f o)
    of_family None f o = (refl, tt)
    of_family (Some x) f o = of_sort x.sort f o

pub bind_on_line : (line : ℕ) (y : Layout) (ps : List Param) → OnLine line (bind_orders y ps)
bind_on_line line y [] = tt
bind_on_line line y (param.Value i s ∷ qs) = ((bound_free line y (argument_words qs) i).1, bind_on_line line y qs)
bind_on_line line y (param.Location i s ∷ qs) = ((bound_free line y (argument_words qs) i).1, bind_on_line line y qs)
bind_on_line line y (param.Array i s ∷ qs) = ((bound_free line y (argument_words qs) i).1, bind_on_line line y qs)
bind_on_line line y (param.Table i n ∷ qs) = ((bound_free line y (argument_words qs) i).1, bind_on_line line y qs)
bind_on_line line y (param.Label k ∷ qs) = bind_on_line line y qs
bind_on_line line y (param.Switch k ∷ qs) = bind_on_line line y qs
bind_on_line line y (param.Proc k s ∷ qs) = bind_on_line line y qs

pub bind_free : (y : Layout) (ps : List Param) → loaded_through (bind_orders y ps) false ≡ Some false
bind_free y [] = refl
bind_free y (param.Value i s ∷ qs) = ap (λ x. through_all x (bind_orders y qs)) (bound_free 0 y (argument_words qs) i).0 ∙ bind_free y qs
bind_free y (param.Location i s ∷ qs) = ap (λ x. through_all x (bind_orders y qs)) (bound_free 0 y (argument_words qs) i).0 ∙ bind_free y qs
bind_free y (param.Array i s ∷ qs) = ap (λ x. through_all x (bind_orders y qs)) (bound_free 0 y (argument_words qs) i).0 ∙ bind_free y qs
bind_free y (param.Table i n ∷ qs) = ap (λ x. through_all x (bind_orders y qs)) (bound_free 0 y (argument_words qs) i).0 ∙ bind_free y qs
bind_free y (param.Label k ∷ qs) = bind_free y qs
bind_free y (param.Switch k ∷ qs) = bind_free y qs
bind_free y (param.Proc k s ∷ qs) = bind_free y qs
