-- Bodies as pieces, in which parameters stand in runs.
use Rattle.std.proofs.Common.{◌≡◌, ℕ, zero, suc, ◌+◌, ◌<◌, ◌≤◌, Bool, true, false, cond, List, [], ◌∷◌, ◌++◌, length, take, get_or, Option, Some, None, refl, sym, ap, ap₂, subst, ◌∙◌, arith, Result, Ok, Err}
use Rattle.std.specs.Prelude.{nat_le, OnOk}
use Rattle.std.specs.List.{flat_map, list_all, slice_get}
use Rattle.std.proofs.lemmas.List.{append-nil, length-append}
use Rattle.std.proofs.lemmas.Bool.{and_parts}
use Rattle.std.proofs.lemmas.Bool.Decides.{nat_tests}
use Rattle.std.proofs.lemmas.Grind.{flat_map-append}
use Rattle.cw_macro.specs.declared.fault.TheConstants.{MOST_REPLACED}
use Rattle.cw_macro.specs.Expansion.{Leveled, BodyPart, Parameter, tokens_of}
use Rattle.cw_macro.specs.Premises.{Each}
use Rattle.cw_macro.specs.Views.{picked, parts_at, is_nil, within_limit}
use Rattle.cw_macro.proofs.Lists.{each_append}

pub one_pick : (args : List (List Leveled)) (o : Option ℕ) (k : ℕ) → o ≡ Some k → tokens_of args (Parameter k) ≡ flat_map (tokens_of args) (picked o)
one_pick args None k h = absurd cc
one_pick args (Some j) k h = let e : k ≡ j = cc in ap (λ n. tokens_of args (Parameter n)) e ∙ sym (append-nil (tokens_of args (Parameter j)))

-- ---- a parameter more

pub get_within : (ns ms : List ℕ) (i : ℕ) → i < length ns → slice_get (ns ++ ms) i ≡ slice_get ns i
get_within [] ms i h = absurd (omega (arith, h))
get_within (n ∷ ns) ms zero h = refl
get_within (n ∷ ns) ms (suc i) h = get_within ns ms i (omega (arith, h))

get_last : (ns : List ℕ) (m : ℕ) → slice_get (ns ++ m ∷ []) (length ns) ≡ Some m
get_last [] m = refl
get_last (n ∷ ns) m = get_last ns m

parts_kept : (ns ms is : List ℕ) → Each (λ i. i < length ns) is → parts_at (ns ++ ms) is ≡ parts_at ns is
parts_kept ns ms [] h = refl
parts_kept ns ms (i ∷ is) h = ap (λ (o : Option ℕ). picked o ++ parts_at (ns ++ ms) is) (get_within ns ms i h.0) ∙ ap (λ (ps : List BodyPart). picked (slice_get ns i) ++ ps) (parts_kept ns ms is h.1)

pub new_number : (ns is : List ℕ) (m : ℕ) → Each (λ i. i < length ns) is → parts_at (ns ++ m ∷ []) (is ++ length ns ∷ []) ≡ parts_at ns is ++ Parameter m ∷ []
new_number ns is m h =
    flat_map-append (λ i. picked (slice_get (ns ++ m ∷ []) i)) is (length ns ∷ [])
    ∙ ap (λ (ps : List BodyPart). ps ++ (picked (slice_get (ns ++ m ∷ []) (length ns)) ++ [])) (parts_kept ns (m ∷ []) is h)
    ∙ ap (λ (o : Option ℕ). parts_at ns is ++ (picked o ++ [])) (get_last ns m)

each_more : (ns is : List ℕ) (m : ℕ) → Each (λ i. i < length ns) is → Each (λ i. i < length (ns ++ m ∷ [])) is
each_more ns [] m h = tt
each_more ns (i ∷ is) m h = (omega (arith, h.0, length-append ns (m ∷ [])), each_more ns is m h.1)

pub still_run : (ns is : List ℕ) (m : ℕ) → Each (λ i. i < length ns) is → Each (λ i. i < length (ns ++ m ∷ [])) (is ++ length ns ∷ [])
still_run ns is m h = each_append (λ i. i < length (ns ++ m ∷ [])) is (length ns ∷ []) (each_more ns is m h) (omega (arith, length-append ns (m ∷ [])), tt)

-- ---- runs that bring nothing

nil_is : {A : Type 0} (xs : List A) → is_nil xs ≡ true → xs ≡ []
nil_is [] h = refl
nil_is (x ∷ xs) h = absurd cc

nil_at : (p : ℕ → Bool) (ns : List ℕ) (i k : ℕ) → list_all p ns ≡ true → slice_get ns i ≡ Some k → p k ≡ true
nil_at p [] i k h g = absurd cc
nil_at p (n ∷ ns) zero k h g = let e : n ≡ k = cc in ap p (sym e) ∙ (and_parts (p n) (list_all p ns) h).0
nil_at p (n ∷ ns) (suc i) k h g = nil_at p ns i k (and_parts (p n) (list_all p ns) h).1 g

nothing_picked : (args : List (List Leveled)) (o : Option ℕ) → ((k : ℕ) → o ≡ Some k → tokens_of args (Parameter k) ≡ []) → flat_map (tokens_of args) (picked o) ≡ []
nothing_picked args None h = refl
nothing_picked args (Some k) h = ap (λ (z : List Leveled). z ++ []) (h k refl)

pub brings_none : (args : List (List Leveled)) (ns is : List ℕ) → list_all (λ k. is_nil (tokens_of args (Parameter k))) ns ≡ true → flat_map (tokens_of args) (parts_at ns is) ≡ []
brings_none args ns [] h = refl
brings_none args ns (i ∷ is) h =
    flat_map-append (tokens_of args) (picked (slice_get ns i)) (parts_at ns is)
    ∙ ap (λ (z : List Leveled). z ++ flat_map (tokens_of args) (parts_at ns is)) (nothing_picked args (slice_get ns i) (λ k g. nil_is (tokens_of args (Parameter k)) (nil_at (λ k. is_nil (tokens_of args (Parameter k))) ns i k h g)))
    ∙ brings_none args ns is h

-- ---- counts

pub more_than : {A B C : Type 0} (g : B → List C) (f : A → List B) (xs : List A) (i : ℕ) (d : A) → i < length xs
    → length (flat_map g (flat_map f (take i xs))) + length (flat_map g (f (get_or xs i d))) ≤ length (flat_map g (flat_map f xs))
more_than g f [] i d h = absurd (omega (arith, h))
more_than g f (x ∷ xs) zero d h = omega (arith, ap length (flat_map-append g (f x) (flat_map f xs)), length-append (flat_map g (f x)) (flat_map g (flat_map f xs)))
more_than g f (x ∷ xs) (suc i) d h =
    omega (
      arith,
      more_than g f xs i d (omega (arith, h)),
      ap length (flat_map-append g (f x) (flat_map f xs)),
      length-append (flat_map g (f x)) (flat_map g (flat_map f xs)),
      ap length (flat_map-append g (f x) (flat_map f (take i xs))),
      length-append (flat_map g (f x)) (flat_map g (flat_map f (take i xs))),
    )

not_within : (n : ℕ) → MOST_REPLACED < n → nat_le n MOST_REPLACED ≡ false
not_within n h = grind (arith, nat_tests)

pub is_over : (n : ℕ) → MOST_REPLACED < n → None ≡ within_limit n
is_over n h = ap (λ (b : Bool). cond b (Some n) None) (sym (not_within n h))

over_at : (b : Bool) (n : ℕ) → nat_le n MOST_REPLACED ≡ b → None ≡ cond b (Some n) None → MOST_REPLACED < n
over_at true n e h = absurd cc
over_at false n e h = grind (arith, nat_tests, e)

pub over_told : (n : ℕ) → None ≡ within_limit n → MOST_REPLACED < n
over_told n h = over_at (nat_le n MOST_REPLACED) n refl h

-- ---- in the code's words

pub on_ok : {A E : Type 0} {P Q : Type 0} (r : Result A E) → (P → Q) → OnOk r P → OnOk r Q
on_ok (Ok x) f h = f h
on_ok (Err e) f h = tt

pub added_parts : (ns more is picks : List ℕ) (m k : ℕ) → more ≡ ns ++ m ∷ [] → k ≡ length ns → picks ≡ is ++ k ∷ [] → Each (λ i. i < length ns) is → parts_at more picks ≡ parts_at ns is ++ Parameter m ∷ []
added_parts ns more is picks m k e f g h = ap₂ (λ a b. parts_at a b) e (g ∙ ap (λ (n : ℕ). is ++ n ∷ []) f) ∙ new_number ns is m h

pub added_run : (ns more is picks : List ℕ) (m k : ℕ) → more ≡ ns ++ m ∷ [] → k ≡ length ns → picks ≡ is ++ k ∷ [] → Each (λ i. i < length ns) is → Each (λ i. i < length more) picks
added_run ns more is picks m k e f g h =
    let P : List ℕ → Type 0 = λ z. Each (λ i. i < length more) z in
    let Q : List ℕ → Type 0 = λ z. Each (λ i. i < length z) (is ++ length ns ∷ []) in
    subst P (sym (g ∙ ap (λ (n : ℕ). is ++ n ∷ []) f)) (subst Q (sym e) (still_run ns is m h))

pub got : (ns : List ℕ) (i x : ℕ) → i < length ns → x ≡ get_or ns i x → slice_get ns i ≡ Some x
got [] i x h e = absurd (omega (arith, h))
got (n ∷ ns) zero x h e = ap Some (sym e)
got (n ∷ ns) (suc i) x h e = got ns i x (omega (arith, h)) e

pub same_count : (n : ℕ) (xs : List Leveled) → n ≤ MOST_REPLACED → xs ≡ [] → Some n ≡ within_limit (n + length xs)
same_count n xs h e = at (n + length xs) (omega (arith, ap length e))
  where
    is_within : nat_le n MOST_REPLACED ≡ true
    is_within = grind (arith, nat_tests)

    at : (m : ℕ) → m ≡ n → Some n ≡ within_limit m
    at m q = ap (λ (b : Bool). cond b (Some n) None) (sym is_within) ∙ ap within_limit (sym q)
