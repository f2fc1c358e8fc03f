-- The keys of families, one more each time.
use Rattle.std.proofs.Common.{◌≡◌, ◌⊎◌, ℕ, ◌+◌, ◌<◌, ◌≤◌, Bool, true, false, ◌||◌, cond, List, [], ◌∷◌, ◌++◌, length, take, Option, Some, None, slice_get, refl, sym, ap, ◌∙◌, arith, inl, inr, append-nil, append_assoc, take_all}
use Rattle.std.specs.List.{list_any}
use Rattle.std.proofs.lemmas.Bool.{or_right, or_left, true≢false}
use Rattle.std.proofs.lemmas.List.{take_more, length-take-le, length-take}
use Rattle.std.proofs.lemmas.Option.{slice_get_within, get_or_from_slice_get}
use Rattle.cw_unit.specs.declared.layout.Family.{Family}
use Rattle.cw_unit.specs.declared.layout.Sort.{Sort}
use Rattle.cw_unit.specs.declared.layout.Sort.TheVariants as sort
use Rattle.cw_unit.specs.Allocation.{Name, FamilyKey, Shared, Private, is_same_key, SegmentStorage, placed_key, keys_in_segment, keys_from, without, first_keys}
use Rattle.cw_unit.proofs.Placing.{In, same-key, key-itself}
use Rattle.cw_place.specs.Placing.{keys_of_some, keys_before}

-- ---- first keys of joined lists

without-if : (b : Bool) (x : FamilyKey) (xs ys : List FamilyKey) → cond b (xs ++ ys) (x ∷ (xs ++ ys)) ≡ cond b xs (x ∷ xs) ++ ys
without-if true x xs ys = refl
without-if false x xs ys = refl

without-append : (k : FamilyKey) (xs ys : List FamilyKey) → without k (xs ++ ys) ≡ without k xs ++ without k ys
without-append k [] ys = refl
without-append k (x ∷ xs) ys =
    ap (λ zs. cond (is_same_key k x) zs (x ∷ zs)) (without-append k xs ys) ∙ without-if (is_same_key k x) x (without k xs) (without k ys)

-- those that are none of others
pub others : List FamilyKey → List FamilyKey → List FamilyKey
others [] ys = ys
others (x ∷ xs) ys = without x (others xs ys)

pub first_append : (xs ys : List FamilyKey) → first_keys (xs ++ ys) ≡ first_keys xs ++ others xs (first_keys ys)
unfolding others
first_append [] ys = refl
first_append (x ∷ xs) ys = ap (λ zs. x ∷ zs) (ap (without x) (first_append xs ys) ∙ without-append x (first_keys xs) (others xs (first_keys ys)))

abbrev pub has : List FamilyKey → FamilyKey → Bool
has xs k = list_any (λ x. is_same_key x k) xs

without-one : (x k : FamilyKey) (a b : Bool) → is_same_key x k ≡ a → without x (cond b [] (k ∷ [])) ≡ cond (a || b) [] (k ∷ [])
without-one x k true true e = refl
without-one x k true false e = ap (λ c. cond c [] (k ∷ [])) e
without-one x k false true e = refl
without-one x k false false e = ap (λ c. cond c [] (k ∷ [])) e

others-one : (xs : List FamilyKey) (k : FamilyKey) → others xs (k ∷ []) ≡ cond (has xs k) [] (k ∷ [])
unfolding others
others-one [] k = refl
others-one (x ∷ xs) k = ap (without x) (others-one xs k) ∙ without-one x k (is_same_key x k) (has xs k) refl

pub first_more : (xs : List FamilyKey) (k : FamilyKey) → first_keys (xs ++ k ∷ []) ≡ first_keys xs ++ cond (has xs k) [] (k ∷ [])
first_more xs k = first_append xs (k ∷ []) ∙ ap (λ zs. first_keys xs ++ zs) (others-one xs k)

pub has_from : (xs : List FamilyKey) (k : FamilyKey) → In k xs → has xs k ≡ true
has_from [] k h = absurd h
has_from (x ∷ xs) k (inl e) = or_left (is_same_key x k) (has xs k) (ap (is_same_key x) e ∙ key-itself x)
has_from (x ∷ xs) k (inr h) = or_right (is_same_key x k) (has xs k) (has_from xs k h)

in-either : (x k : FamilyKey) (xs : List FamilyKey) (a b : Bool) → is_same_key x k ≡ a → has xs k ≡ b → (a || b) ≡ true → (has xs k ≡ true → In k xs) → In k (x ∷ xs)
in-either x k xs true b e f h more = inl (sym (same-key x k e))
in-either x k xs false b e f h more = inr (more (f ∙ h))

pub from_has : (xs : List FamilyKey) (k : FamilyKey) → has xs k ≡ true → In k xs
from_has [] k h = absurd (true≢false (sym h))
from_has (x ∷ xs) k h = in-either x k xs (is_same_key x k) (has xs k) refl refl h (from_has xs k)

in-other : (key k x : FamilyKey) (xs : List FamilyKey) (b : Bool) → (In key (without k xs) → In key xs) → In key (cond b (without k xs) (x ∷ without k xs)) → In key (x ∷ xs)
in-other key k x xs true more h = inr (more h)
in-other key k x xs false more (inl e) = inl e
in-other key k x xs false more (inr h) = inr (more h)

in-without : (key k : FamilyKey) (xs : List FamilyKey) → In key (without k xs) → In key xs
in-without key k [] h = h
in-without key k (x ∷ xs) h = in-other key k x xs (is_same_key k x) (in-without key k xs) h

pub from_first : (key : FamilyKey) (xs : List FamilyKey) → In key (first_keys xs) → In key xs
from_first key [] h = h
from_first key (x ∷ xs) (inl e) = inl e
from_first key (x ∷ xs) (inr h) = inr (from_first key xs (in-without key x (first_keys xs) h))

-- ---- the keys of one family more

keys-end : (g : ℕ) (names : List Name) (n : ℕ) (fs : List Family) (f : Family) → keys_in_segment g names n (fs ++ f ∷ []) ≡ keys_in_segment g names n fs ++ placed_key g names (n + length fs) f.sort
keys-end g names n [] f = let e : n ≡ n + 0 = omega arith in append-nil _ ∙ ap (λ m. placed_key g names m f.sort) e
keys-end g names n (j ∷ fs) f =
    let e : n + 1 + length fs ≡ n + length (j ∷ fs) = omega arith in
    ap (λ ks. placed_key g names n j.sort ++ ks) (keys-end g names (n + 1) fs f ∙ ap (λ m. keys_in_segment g names (n + 1) fs ++ placed_key g names m f.sort) e)
    ∙ sym (append_assoc (placed_key g names n j.sort) (keys_in_segment g names (n + 1) fs) (placed_key g names (n + length (j ∷ fs)) f.sort))

pub taken : {A : Type 0} (xs : List A) (k : ℕ) (x : A) → slice_get xs k ≡ Some x → take (k + 1) xs ≡ take k xs ++ x ∷ []
taken xs k x is = take_more xs k x (slice_get_within xs k x is) ∙ ap (λ y. take k xs ++ y ∷ []) (get_or_from_slice_get xs k x x is)

pub count : {A : Type 0} (xs : List A) (k : ℕ) (x : A) → slice_get xs k ≡ Some x → 0 + length (take k xs) ≡ k
count xs k x is = let e = length-take-le k xs (omega (arith, slice_get_within xs k x is)) in omega (arith, e)

keys-some : (g : ℕ) (s : SegmentStorage) (n : ℕ) (f : Family) → slice_get s.families n ≡ Some f → keys_in_segment g s.names 0 (take (n + 1) s.families) ≡ keys_in_segment g s.names 0 (take n s.families) ++ placed_key g s.names n f.sort
keys-some g s n f is =
    ap (keys_in_segment g s.names 0) (taken s.families n f is) ∙ keys-end g s.names 0 (take n s.families) f
    ∙ ap (λ m. keys_in_segment g s.names 0 (take n s.families) ++ placed_key g s.names m f.sort) (count s.families n f is)

pub next_family : (ss : List SegmentStorage) (g n : ℕ) (s : SegmentStorage) (f : Family) → slice_get ss g ≡ Some s → slice_get s.families n ≡ Some f → keys_before ss g (n + 1) ≡ keys_before ss g n ++ placed_key g s.names n f.sort
next_family ss g n s f is it =
    ap (λ o. keys_from 0 (take g ss) ++ keys_of_some g (n + 1) o) is ∙ ap (λ ks. keys_from 0 (take g ss) ++ ks) (keys-some g s n f it)
    ∙ sym (append_assoc (keys_from 0 (take g ss)) (keys_in_segment g s.names 0 (take n s.families)) (placed_key g s.names n f.sort))
    ∙ ap (λ o. (keys_from 0 (take g ss) ++ keys_of_some g n o) ++ placed_key g s.names n f.sort) (sym is)

-- ---- the keys of one segment more

pub from_end : (g : ℕ) (ss : List SegmentStorage) (s : SegmentStorage) → keys_from g (ss ++ s ∷ []) ≡ keys_from g ss ++ keys_in_segment (g + length ss) s.names 0 s.families
from_end g [] s = let e : g ≡ g + 0 = omega arith in append-nil _ ∙ ap (λ m. keys_in_segment m s.names 0 s.families) e
from_end g (t ∷ ss) s =
    let e : g + 1 + length ss ≡ g + length (t ∷ ss) = omega arith in
    ap (λ ks. keys_in_segment g t.names 0 t.families ++ ks) (from_end (g + 1) ss s ∙ ap (λ m. keys_from (g + 1) ss ++ keys_in_segment m s.names 0 s.families) e)
    ∙ sym (append_assoc (keys_in_segment g t.names 0 t.families) (keys_from (g + 1) ss) (keys_in_segment (g + length (t ∷ ss)) s.names 0 s.families))

none-of : (g : ℕ) (o : Option SegmentStorage) → keys_of_some g 0 o ≡ []
none-of g None = refl
none-of g (Some s) = refl

pub whole_before : (ss : List SegmentStorage) (g : ℕ) → keys_before ss g 0 ≡ keys_from 0 (take g ss)
whole_before ss g = ap (λ ks. keys_from 0 (take g ss) ++ ks) (none-of g (slice_get ss g)) ∙ append-nil _

pub next_whole : (ss : List SegmentStorage) (g n : ℕ) (s : SegmentStorage) → slice_get ss g ≡ Some s → length s.families ≤ n → keys_before ss g n ≡ keys_before ss (g + 1) 0
next_whole ss g n s is le =
    ap (λ o. keys_from 0 (take g ss) ++ keys_of_some g n o) is
    ∙ ap (λ fs. keys_from 0 (take g ss) ++ keys_in_segment g s.names 0 fs) (take_all n s.families le)
    ∙ ap (λ m. keys_from 0 (take g ss) ++ keys_in_segment m s.names 0 s.families) (sym (count ss g s is))
    ∙ sym (from_end 0 (take g ss) s) ∙ ap (keys_from 0) (sym (taken ss g s is)) ∙ sym (whole_before ss (g + 1))

-- ---- a family that is a segment's own is placed once

private-segment : (g n h k : ℕ) → Private g n ≡ Private h k → g ≡ h
private-segment g n h k e = cc

private-family : (g n h k : ℕ) → Private g n ≡ Private h k → n ≡ k
private-family g n h k e = cc

shared-apart : (a : Name) (g n : ℕ) → Private g n ≡ Shared a → ⊥
shared-apart a g n e = cc

in-split : (x : FamilyKey) (xs ys : List FamilyKey) → In x (xs ++ ys) → In x xs ⊎ In x ys
in-split x [] ys h = inr h
in-split x (z ∷ xs) ys (inl e) = inl (inl e)
in-split x (z ∷ xs) ys (inr h) = elim (in-split x xs ys h) [ inl a ↦ inl (inr a) | inr b ↦ inr b ]

in-placed : (a b g : ℕ) (names : List Name) (n : ℕ) (s : Sort) → In (Private a b) (placed_key g names n s) → (a ≡ g) × (b ≡ n)
in-placed a b g names n (sort.Common d) (inl e) = absurd (shared-apart _ a b e)
in-placed a b g names n (sort.Common d) (inr h) = absurd h
in-placed a b g names n sort.Own (inl e) = (private-segment a b g n e, private-family a b g n e)
in-placed a b g names n sort.Own (inr h) = absurd h
in-placed a b g names n (sort.Absolute d) h = absurd h
in-placed a b g names n (sort.Frame o) h = absurd h

in-segment : (a b g : ℕ) (names : List Name) (n : ℕ) (fs : List Family) → In (Private a b) (keys_in_segment g names n fs) → (a ≡ g) × (b < n + length fs)
in-segment a b g names n [] h = absurd h
in-segment a b g names n (f ∷ fs) h =
    elim (in-split (Private a b) (placed_key g names n f.sort) (keys_in_segment g names (n + 1) fs) h) [
      | inl here ↦ let p = in-placed a b g names n f.sort here in (p.0, omega (arith, p.1))
      | inr there ↦ let p = in-segment a b g names (n + 1) fs there in (p.0, omega (arith, p.1))
    ]

in-whole : (a b g : ℕ) (ss : List SegmentStorage) → In (Private a b) (keys_from g ss) → a < g + length ss
in-whole a b g [] h = absurd h
in-whole a b g (s ∷ ss) h =
    elim (in-split (Private a b) (keys_in_segment g s.names 0 s.families) (keys_from (g + 1) ss) h) [
      | inl here ↦ let p = in-segment a b g s.names 0 s.families here in omega (arith, p.0)
      | inr there ↦ let p = in-whole a b (g + 1) ss there in omega (arith, p)
    ]

in-some : (g n : ℕ) (o : Option SegmentStorage) → In (Private g n) (keys_of_some g n o) → ⊥
in-some g n None h = h
in-some g n (Some s) h = let p = in-segment g n g s.names 0 (take n s.families) h in omega (arith, p.1, length-take n s.families)

pub own_is_new : (ss : List SegmentStorage) (g n : ℕ) → In (Private g n) (keys_before ss g n) → ⊥
own_is_new ss g n h =
    elim (in-split (Private g n) (keys_from 0 (take g ss)) (keys_of_some g n (slice_get ss g)) h) [
      | inl here ↦ let p = in-whole g n 0 (take g ss) here in omega (arith, p, length-take g ss)
      | inr there ↦ in-some g n (slice_get ss g) there
    ]
