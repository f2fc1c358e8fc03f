-- A stable sort by a number gives the list in order of that number.
use Rattle.std.proofs.Common.{◌≡◌, ◌≢◌, ℕ, suc, ◌<◌, ◌≤◌, List, [], ◌∷◌, ◌⊎◌, inl, inr, length, Bool, true, false, not, ◌&&◌, cond, nat_eq, nat_lt, get_or, refl, sym, ap, ap₂, subst, ◌∙◌, arith, eqb-true}
use Rattle.std.specs.List.{filter}
use Rattle.std.specs.List.Sorted.{IsNonDecreasingBy, IsSortedByKey, IsStableByKey}
use Rattle.std.specs.Ordering.{nat_cmp, is_lt}
use Rattle.std.proofs.lemmas.Bool.{eq-eqb, ltb-true, ltb-false, ne_eqb, cases_lt, cases_eq}
use Rattle.std.proofs.lemmas.List.Sorted.{IsNonDecreasingBy-from_sort}
use Rattle.std.specs.declared.cmp.Ordering.TheVariants.{Less, Equal, Greater}
use Rattle.cw_list.specs.Order.{put_in, in_order}

-- ---- lists in order

-- no number is below this one
abbrev Least : {X : Type 0} → (X → ℕ) → ℕ → List X → Type 0
Least number n [] = Unit {0}
Least number n (x ∷ xs) = (n ≤ number x) × Least number n xs

abbrev Up : {X : Type 0} → (X → ℕ) → List X → Type 0
Up number [] = Unit {0}
Up number (x ∷ xs) = Least number (number x) xs × Up number xs

least-more : {X : Type 0} (number : X → ℕ) (m n : ℕ) (xs : List X) → m ≤ n → Least number n xs → Least number m xs
least-more number m n [] le h = tt
least-more number m n (x ∷ xs) le h = (omega (arith, le, h.0), least-more number m n xs le h.1)

least-put-if : {X : Type 0} (number : X → ℕ) (n : ℕ) (x y : X) (ys : List X) (b : Bool) → n ≤ number x → Least number n (y ∷ ys) → Least number n (put_in number x ys) → Least number n (cond b (y ∷ put_in number x ys) (x ∷ (y ∷ ys)))
least-put-if number n x y ys true le h rest = (h.0, rest)
least-put-if number n x y ys false le h rest = (le, h)

least-put : {X : Type 0} (number : X → ℕ) (n : ℕ) (x : X) (xs : List X) → n ≤ number x → Least number n xs → Least number n (put_in number x xs)
least-put number n x [] le h = (le, tt)
least-put number n x (y ∷ ys) le h = least-put-if number n x y ys (nat_lt (number y) (number x)) le h (least-put number n x ys le h.1)

up-put-if : {X : Type 0} (number : X → ℕ) (x y : X) (ys : List X) (b : Bool) → nat_lt (number y) (number x) ≡ b → Up number (y ∷ ys) → Up number (put_in number x ys) → Up number (cond b (y ∷ put_in number x ys) (x ∷ (y ∷ ys)))
up-put-if number x y ys true e h rest =
    let lt : number y < number x = ltb-true (number y) (number x) e in
    (least-put number (number y) x ys (omega (arith, lt)) h.0, rest)
up-put-if number x y ys false e h rest =
    let le : number x ≤ number y = ltb-false (number y) (number x) e in
    ((le, least-more number (number x) (number y) ys le h.0), h)

up-put : {X : Type 0} (number : X → ℕ) (x : X) (xs : List X) → Up number xs → Up number (put_in number x xs)
up-put number x [] h = (tt, tt)
up-put number x (y ∷ ys) h = up-put-if number x y ys (nat_lt (number y) (number x)) refl h (up-put number x ys h.1)

up-order : {X : Type 0} (number : X → ℕ) (xs : List X) → Up number (in_order number xs)
up-order number [] = tt
up-order number (x ∷ xs) = up-put number x (in_order number xs) (up-order number xs)

-- ---- those of one number

abbrev of_number : {X : Type 0} → (X → ℕ) → ℕ → List X → List X
of_number number n xs = filter (λ x. nat_eq n (number x)) xs

swapped : {X : Type 0} (x y : X) (fs : List X) (a b : Bool) → (a ≡ true → b ≡ true → ⊥) → cond a (y ∷ cond b (x ∷ fs) fs) (cond b (x ∷ fs) fs) ≡ cond b (x ∷ cond a (y ∷ fs) fs) (cond a (y ∷ fs) fs)
swapped x y fs true true h = absurd (h refl refl)
swapped x y fs true false h = refl
swapped x y fs false true h = refl
swapped x y fs false false h = refl

of-put-if : {X : Type 0} (number : X → ℕ) (n : ℕ) (x y : X) (ys : List X) (b : Bool) → nat_lt (number y) (number x) ≡ b → of_number number n (put_in number x ys) ≡ of_number number n (x ∷ ys)
    → of_number number n (cond b (y ∷ put_in number x ys) (x ∷ (y ∷ ys))) ≡ of_number number n (x ∷ (y ∷ ys))
of-put-if number n x y ys true e rest =
    let lt : number y < number x = ltb-true (number y) (number x) e in
    let a = nat_eq n (number y) in
    ap (λ fs. cond a (y ∷ fs) fs) rest
    ∙ swapped x y (of_number number n ys) a (nat_eq n (number x))
    (λ f g. let p : n ≡ number y = eqb-true n (number y) f in let q : n ≡ number x = eqb-true n (number x) g in omega (arith, lt, p, q))
of-put-if number n x y ys false e rest = refl

of-put : {X : Type 0} (number : X → ℕ) (n : ℕ) (x : X) (xs : List X) → of_number number n (put_in number x xs) ≡ of_number number n (x ∷ xs)
of-put number n x [] = refl
of-put number n x (y ∷ ys) = of-put-if number n x y ys (nat_lt (number y) (number x)) refl (of-put number n x ys)

of-order : {X : Type 0} (number : X → ℕ) (n : ℕ) (xs : List X) → of_number number n (in_order number xs) ≡ of_number number n xs
of-order number n [] = refl
of-order number n (x ∷ xs) =
    of-put number n x (in_order number xs) ∙ ap (λ fs. cond (nat_eq n (number x)) (x ∷ fs) fs) (of-order number n xs)

-- ---- a list in order is known by those of each number

none-below : {X : Type 0} (number : X → ℕ) (n m : ℕ) (xs : List X) → n < m → Least number m xs → of_number number n xs ≡ []
none-below number n m [] lt h = refl
none-below number n m (x ∷ xs) lt h =
    let ne : n ≢ number x = omega (arith, lt, h.0) in
    ap (λ b. cond b (x ∷ of_number number n xs) (of_number number n xs)) (ne_eqb n (number x) ne) ∙ none-below number n m xs lt h.1

here : {X : Type 0} (number : X → ℕ) (n : ℕ) (x : X) (xs : List X) → n ≡ number x → of_number number n (x ∷ xs) ≡ x ∷ of_number number n xs
here number n x xs e = ap (λ b. cond b (x ∷ of_number number n xs) (of_number number n xs)) (eq-eqb n (number x) e)

elsewhere : {X : Type 0} (number : X → ℕ) (n : ℕ) (x : X) (xs : List X) → n ≢ number x → of_number number n (x ∷ xs) ≡ of_number number n xs
elsewhere number n x xs e = ap (λ b. cond b (x ∷ of_number number n xs) (of_number number n xs)) (ne_eqb n (number x) e)

abbrev IsCons : {X : Type 0} → List X → Type 0
IsCons [] = ⊥
IsCons (x ∷ xs) = Unit {0}

abbrev first : {X : Type 0} → X → List X → X
first d [] = d
first d (x ∷ xs) = x

abbrev rest : {X : Type 0} → List X → List X
rest [] = []
rest (x ∷ xs) = xs

-- the first number of one list is not below that of another with the same of each number
not-below : {X : Type 0} (number : X → ℕ) (y z : X) (ys zs : List X) → Up number (z ∷ zs) → of_number number (number y) (y ∷ ys) ≡ of_number number (number y) (z ∷ zs) → ((number y < number z) ⊎ (number z ≤ number y)) → number z ≤ number y
not-below number y z ys zs up e (inl lt) =
    let nothing : of_number number (number y) (z ∷ zs) ≡ [] = none-below number (number y) (number z) (z ∷ zs) lt (omega arith, up.0) in
    absurd (subst IsCons (sym (here number (number y) y ys refl) ∙ e ∙ nothing) tt)
not-below number y z ys zs up e (inr le) = le

both-rest : {X : Type 0} (number : X → ℕ) (n : ℕ) (y z : X) (ys zs : List X) → number y ≡ number z → of_number number n (y ∷ ys) ≡ of_number number n (z ∷ zs) → ((n ≡ number y) ⊎ (n ≢ number y)) → of_number number n ys ≡ of_number number n zs
both-rest number n y z ys zs same e (inl at) = ap rest (sym (here number n y ys at) ∙ e ∙ here number n z zs (at ∙ same))
both-rest number n y z ys zs same e (inr ne) = sym (elsewhere number n y ys ne) ∙ e ∙ elsewhere number n z zs (λ at. ne (at ∙ sym same))

unique : {X : Type 0} (number : X → ℕ) (ys zs : List X) → Up number ys → Up number zs → ((x : X) → of_number number (number x) ys ≡ of_number number (number x) zs) → ys ≡ zs
unique number [] [] up up' h = refl
unique number [] (z ∷ zs) up up' h = absurd (subst IsCons (sym (here number (number z) z zs refl) ∙ sym (h z)) tt)
unique number (y ∷ ys) [] up up' h = absurd (subst IsCons (sym (here number (number y) y ys refl) ∙ h y) tt)
unique number (y ∷ ys) (z ∷ zs) up up' h =
    let a : number z ≤ number y = not-below number y z ys zs up' (h y) (cases_lt (number y) (number z)) in
    let b : number y ≤ number z = not-below number z y zs ys up (sym (h z)) (cases_lt (number z) (number y)) in
    let same : number y ≡ number z = omega (arith, a, b) in
    let heads : y ≡ z = ap (first y) (sym (here number (number y) y ys refl) ∙ h y ∙ here number (number y) z zs same) in
    ap₂ (λ x xs. x ∷ xs) heads (unique number ys zs up.1 up'.1 (λ x. both-rest number (number x) y z ys zs same (h x) (cases_eq (number x) (number y))))

-- ---- what a stable sort ensures

least-from : {X : Type 0} (number : X → ℕ) (n : ℕ) (xs : List X) → ((k : ℕ) (d : X) → k < length xs → n ≤ number (get_or xs k d)) → Least number n xs
least-from number n [] h = tt
least-from number n (x ∷ xs) h = (h 0 x (omega arith), least-from number n xs (λ k d b. h (suc k) d (omega (arith, b))))

up-from : {X : Type 0} (number : X → ℕ) (xs : List X) → IsNonDecreasingBy number xs → Up number xs
up-from number [] h = tt
up-from number (x ∷ xs) h = (
  least-from number (number x) xs (λ k d b. h 0 (suc k) d (omega arith) (omega (arith, b))),
  up-from number xs (λ i j d le b. h (suc i) (suc j) d (omega (arith, le)) (omega (arith, b))),
)

less-if : (p q : Bool) → is_lt (cond p Less (cond q Equal Greater)) ≡ p
less-if true q = refl
less-if false true = refl
less-if false false = refl

tie-if : (a b : ℕ) (p q : Bool) → nat_lt a b ≡ p → nat_lt b a ≡ q → (not p && not q) ≡ nat_eq a b
tie-if a b true true e f = absurd (omega (arith, ltb-true a b e, ltb-true b a f))
tie-if a b true false e f = let lt = ltb-true a b e in sym (ne_eqb a b (omega (arith, lt)))
tie-if a b false true e f = let lt = ltb-true b a f in sym (ne_eqb a b (omega (arith, lt)))
tie-if a b false false e f = let le = ltb-false a b e in let ge = ltb-false b a f in sym (eq-eqb a b (omega (arith, le, ge)))

-- two tie where their numbers are equal
tie : (a b : ℕ) → (not (is_lt (nat_cmp a b)) && not (is_lt (nat_cmp b a))) ≡ nat_eq a b
tie a b =
    ap₂ (λ p q. not p && not q) (less-if (nat_lt a b) (nat_eq a b)) (less-if (nat_lt b a) (nat_eq b a)) ∙ tie-if a b (nat_lt a b) (nat_lt b a) refl refl

filter-same : {X : Type 0} (p q : X → Bool) (xs : List X) → ((x : X) → p x ≡ q x) → filter p xs ≡ filter q xs
filter-same p q [] h = refl
filter-same p q (x ∷ xs) h = ap₂ (λ b fs. cond b (x ∷ fs) fs) (h x) (filter-same p q xs h)

pub sorted_order : {X : Type 0} (number : X → ℕ) (xs ys : List X) → IsSortedByKey number nat_cmp ys → IsStableByKey number nat_cmp xs ys → ys ≡ in_order number xs
sorted_order number xs ys up stable =
    unique number ys (in_order number xs) (up-from number ys (IsNonDecreasingBy-from_sort number ys up)) (up-order number xs)
    (λ x.
    filter-same (λ y. nat_eq (number x) (number y)) _ ys (λ y. sym (tie (number x) (number y)))
    ∙ stable x
    ∙ filter-same _ (λ y. nat_eq (number x) (number y)) xs (λ y. tie (number x) (number y))
    ∙ sym (of-order number (number x) xs))
