-- First fits depend only on the words that ranges take: their order is no matter, nor are ranges without words.
use Rattle.std.proofs.Common.{◌≡◌, ℕ, zero, suc, ◌+◌, ◌^◌, ◌<◌, ◌≤◌, max, min, Bool, true, false, ◌||◌, cond, nat_eq, List, [], ◌∷◌, ◌++◌, map, Some, length, take, get_or, slice_get, slice_index_or, refl, sym, ap, ap₂, subst, ◌∙◌, arith, inl, inr}
use Rattle.std.specs.List.{All, list_any, flat_map}
use Rattle.std.specs.List.Sorted.{IsPermutation, IsNonDecreasingBy}
use Rattle.std.proofs.lemmas.Bool.{cases_Bool, or_parts, or_from, le-ltb, eqb-true, true≢false}
use Rattle.std.proofs.lemmas.Option.{none-some, same_Some}
use Rattle.std.proofs.lemmas.List.Folds.{list_any-append, list_any_none, list_any_at}
use Rattle.std.proofs.lemmas.List.Elements.{All-push, All-head, All-tail}
use Rattle.std.proofs.lemmas.List.Sorted.{IsPermutation-sym, All-permutation}
use Rattle.std.proofs.lemmas.List.{take_more, flat_map_more}
use Rattle.cw_unit.specs.declared.layout.Family.{Family}
use Rattle.cw_unit.specs.declared.layout.Sort.{Sort}
use Rattle.cw_unit.specs.declared.layout.Sort.TheVariants as sort
use Rattle.cw_unit.specs.Allocation.{Range, meets, first_fit, absolute_range, absolute_ranges_in, absolute_ranges}
use Rattle.cw_unit.proofs.FirstFit.{first_fit-after, first_fit-clear, first_fit-least}
use Rattle.cw_comm.specs.declared.face.Agreed.{Agreed}
use Rattle.cw_place.specs.declared.space.Space.{Space}
use Rattle.cw_place.specs.declared.sweep.Span.{Span}
use Rattle.cw_place.specs.Sweep.{range_of, ranges_of, IsSpan, IsSwept, span_at, span_of, spans_in}
use Rattle.cw_place.specs.Segments.{storage_from, segment_storage, absolute_words}
use Rattle.cw_place.specs.Placing.{AreSweptFor}

-- whether these words meet one of the ranges
abbrev pub any_met : (address extent : ℕ) → List Range → Bool
any_met a x rs = list_any (meets a x) rs

-- ---- ranges that the same words meet

each-unmet : (a x : ℕ) (rs : List Range) → any_met a x rs ≡ false → (k : ℕ) (r : Range) → slice_get rs k ≡ Some r → meets a x r ≡ false
each-unmet a x [] h k r is = absurd (none-some r is)
each-unmet a x (s ∷ rs) h zero r is = ap (meets a x) (sym (same_Some s r is)) ∙ (or_parts (meets a x s) (any_met a x rs) h).0
each-unmet a x (s ∷ rs) h (suc k) r is = each-unmet a x rs (or_parts (meets a x s) (any_met a x rs) h).1 k r is

none-met : (a x : ℕ) (rs : List Range) → ((k : ℕ) (r : Range) → slice_get rs k ≡ Some r → meets a x r ≡ false) → any_met a x rs ≡ false
none-met a x [] h = refl
none-met a x (r ∷ rs) h = or_from (meets a x r) (any_met a x rs) (h 0 r refl) (none-met a x rs (λ k s is. h (suc k) s is))

antisymm : (a b : ℕ) → a ≤ b → b ≤ a → a ≡ b
antisymm a b h k = omega arith

not-behind : (rs ts : List Range) (x : ℕ) → ((a : ℕ) → any_met a x rs ≡ any_met a x ts) → (a : ℕ) → first_fit rs x a ≤ first_fit ts x a
not-behind rs ts x h a =
    let b = first_fit ts x a in
    first_fit-least rs x a b (first_fit-after ts x a) (each-unmet b x rs (h b ∙ none-met b x ts (first_fit-clear ts x a)))

pub same_fit : (rs ts : List Range) (x : ℕ) → ((a : ℕ) → any_met a x rs ≡ any_met a x ts) → (a : ℕ) → first_fit rs x a ≡ first_fit ts x a
same_fit rs ts x h a = antisymm _ _ (not-behind rs ts x h a) (not-behind ts rs x (λ b. sym (h b)) a)

-- ---- an order is no matter

any-map : {A B : Type 0} (p : B → Bool) (f : A → B) (xs : List A) → list_any p (map f xs) ≡ list_any (λ x. p (f x)) xs
any-map p f [] = refl
any-map p f (x ∷ xs) = ap (λ b. p (f x) || b) (any-map p f xs)

none-any : {X : Type 0} (p : X → Bool) (xs : List X) → list_any p xs ≡ false → All (λ x. p x ≡ false) xs
none-any p xs h k d lt =
    elim (cases_Bool (p (slice_index_or xs k d))) [ inl t ↦ absurd (true≢false (sym (list_any_at p xs k d lt t) ∙ h)) | inr f ↦ f ]

none-moved : {X : Type 0} (p : X → Bool) (xs ys : List X) → IsPermutation xs ys → list_any p xs ≡ false → list_any p ys ≡ false
none-moved p xs ys h none = list_any_none p ys (All-permutation (λ x. p x ≡ false) xs ys h (none-any p xs none))

same-test : (a b : Bool) → (a ≡ false → b ≡ false) → (b ≡ false → a ≡ false) → a ≡ b
same-test true true f g = refl
same-test true false f g = g refl
same-test false b f g = sym (f refl)

pub met_moved : (a x : ℕ) (ss ts : List Span) → IsPermutation ss ts → any_met a x (ranges_of ts) ≡ any_met a x (ranges_of ss)
met_moved a x ss ts h =
    let p : Span → Bool = λ s. meets a x (range_of s) in
    any-map (meets a x) range_of ts
    ∙ same-test _ _ (none-moved p ts ss (IsPermutation-sym ss ts h)) (none-moved p ss ts h)
    ∙ sym (any-map (meets a x) range_of ss)

-- ---- a range without words is met by none

met-if : (a x start extent : ℕ) (b : Bool) → nat_eq extent 0 ≡ b → any_met a x (record { start = start; end = start + extent } ∷ []) ≡ any_met a x (ranges_of (cond b [] (record { start = start; end = start + extent } ∷ [])))
met-if a x start extent true e =
    let none : extent ≡ 0 = eqb-true extent 0 e in
    or_from _ false (le-ltb (max a start) (min (a + x) (start + extent)) (omega (arith, none))) refl
met-if a x start extent false e = refl

met-at : (a x : ℕ) (s : Sort) (extent : ℕ) → any_met a x (absolute_range s extent) ≡ any_met a x (ranges_of (span_at s extent))
met-at a x (sort.Common d) extent = refl
met-at a x sort.Own extent = refl
met-at a x (sort.Absolute start) extent = met-if a x start extent (nat_eq extent 0) refl
met-at a x (sort.Frame o) extent = refl

ranges-append : (ss ts : List Span) → ranges_of (ss ++ ts) ≡ ranges_of ss ++ ranges_of ts
ranges-append [] ts = refl
ranges-append (s ∷ ss) ts = ap (λ rs. range_of s ∷ rs) (ranges-append ss ts)

met-joined : (a x : ℕ) (rs ts : List Range) (ss us : List Span) → any_met a x rs ≡ any_met a x (ranges_of ss) → any_met a x ts ≡ any_met a x (ranges_of us) → any_met a x (rs ++ ts) ≡ any_met a x (ranges_of (ss ++ us))
met-joined a x rs ts ss us h k =
    list_any-append (meets a x) rs ts ∙ ap₂ (λ b c. b || c) h k ∙ sym (list_any-append (meets a x) (ranges_of ss) (ranges_of us)) ∙ ap (any_met a x) (sym (ranges-append ss us))

met-families : (a x : ℕ) (fs : List Family) → any_met a x (absolute_ranges_in fs) ≡ any_met a x (ranges_of (flat_map span_of fs))
met-families a x [] = refl
met-families a x (f ∷ fs) = met-joined a x (absolute_range f.sort f.extent) (absolute_ranges_in fs) (span_of f) (flat_map span_of fs) (met-at a x f.sort f.extent) (met-families a x fs)

pub met_spaces : (a x : ℕ) (spaces : List Space) → any_met a x (absolute_words spaces) ≡ any_met a x (ranges_of (spans_in spaces))
met_spaces a x [] = refl
met_spaces a x (s ∷ ss) = met-joined a x (absolute_ranges_in s.families) (absolute_words ss) (flat_map span_of s.families) (spans_in ss) (met-families a x s.families) (met_spaces a x ss)

-- ---- the spans of segments in order

pub words_are : (g : ℕ) (agreed : Agreed) (spaces : List Space) → absolute_ranges (storage_from g agreed spaces) ≡ absolute_words spaces
words_are g agreed [] = refl
words_are g agreed (s ∷ ss) = ap (λ rs. absolute_ranges_in s.families ++ rs) (words_are (g + 1) agreed ss)

pub sorted_fits : (spaces : List Space) (ss : List Span) (x a : ℕ) → IsPermutation (spans_in spaces) ss → first_fit (ranges_of ss) x a ≡ first_fit (absolute_words spaces) x a
sorted_fits spaces ss x a h = same_fit (ranges_of ss) (absolute_words spaces) x (λ b. met_moved b x (spans_in spaces) ss h ∙ sym (met_spaces b x spaces)) a

-- each has words, and they stand by their starts
pub swept_by : (ss : List Span) → All IsSpan ss → IsNonDecreasingBy (λ (s : Span). s.start) ss → IsSwept ss
swept_by ss each up = record {
  some = λ k lt. (each k (record { start = 0; end = 0 }) lt).some;
  rising = λ j k le lt. up j k (record { start = 0; end = 0 }) le lt;
}

-- one family more
pub next_spans : (old now : List Span) (fs : List Family) (k : ℕ) (d : Family) → k < length fs → now ≡ old ++ flat_map span_of (take k fs) → now ++ span_of (get_or fs k d) ≡ old ++ flat_map span_of (take (k + 1) fs)
next_spans old now fs k d lt h =
    ap (λ ss. ss ++ span_of (get_or fs k d)) h ∙ flat_map_more span_of old (take k fs) (get_or fs k d) ∙ ap (λ gs. old ++ flat_map span_of gs) (sym (take_more fs k d lt))

pub more_spans : (ss : List Span) (s : Span) → All IsSpan ss → IsSpan s → All IsSpan (ss ++ s ∷ [])
more_spans ss s h k = All-push IsSpan ss s h k

-- ---- behind each span

far-unmet : (ss : List Span) (x a : ℕ) → All IsSpan ss → 2 ^ 33 ≤ a → (k : ℕ) (r : Range) → slice_get (ranges_of ss) k ≡ Some r → meets a x r ≡ false
far-unmet [] x a h far k r is = absurd (none-some r is)
far-unmet (s ∷ ss) x a h far zero r is =
    let near : s.end < 2 ^ 33 = (All-head IsSpan s ss h).near in
    ap (meets a x) (sym (same_Some (range_of s) r is)) ∙ le-ltb (max a s.start) (min (a + x) s.end) (omega arith)
far-unmet (s ∷ ss) x a h far (suc k) r is = far-unmet ss x a (All-tail IsSpan s ss h) far k r is

pub far_fit : (ss : List Span) (x a : ℕ) → All IsSpan ss → 2 ^ 33 ≤ a → first_fit (ranges_of ss) x a ≡ a
far_fit ss x a h far = antisymm _ _ (first_fit-least (ranges_of ss) x a a (omega arith) (far-unmet ss x a h far)) (first_fit-after (ranges_of ss) x a)

pub swept_for : (agreed : Agreed) (spaces : List Space) (ss xs : List Span) → xs ≡ ss → IsSwept ss → All IsSpan ss → ((x a : ℕ) → first_fit (ranges_of ss) x a ≡ first_fit (absolute_words spaces) x a) → AreSweptFor (segment_storage agreed spaces) xs
swept_for agreed spaces ss xs same swept each fits =
    subst (AreSweptFor (segment_storage agreed spaces)) (sym same)
    (record { swept = swept; each = each; fits = λ x a. fits x a ∙ ap (λ rs. first_fit rs x a) (sym (words_are 0 agreed spaces)) })
