-- The numbers that pass a test, by rising number.
use Rattle.std.proofs.Common.{◌≡◌, ℕ, zero, suc, ◌+◌, ◌<◌, Bool, true, false, cond, List, [], ◌∷◌, ◌++◌, length, get_or, refl, sym, ap, ap₂, subst, ◌∙◌, arith, inl, inr, add-one}
use Rattle.std.specs.Prelude.{Contains}
use Rattle.std.specs.List.Sorted.{IsStrictlyIncreasing}
use Rattle.std.proofs.lemmas.Bool.{cases_lt, false≢true}
use Rattle.std.proofs.lemmas.List.{length_push, get_or_append_left, get_or_push}
use Rattle.std.proofs.lemmas.List.Elements.{Contains-get_or, Contains-append_left, Contains-push, Contains-push_cases}
use Rattle.std.proofs.lemmas.List.Kept.{AllPairs-from_increasing}
use Rattle.cw_pick.specs.Picking.{numbers_below}
use Rattle.cw_pick.proofs.Members.{first, later, first_or_later, nothing}

abbrev IsBelow : List ℕ → ℕ → Type 0
IsBelow xs n = (k : ℕ) → Contains xs k → k < n

contained : (xs : List ℕ) (k : ℕ) → k < length xs → Contains xs (get_or xs k 0)
contained xs k lt = Contains-get_or xs k 0 lt

rising-push : (xs : List ℕ) (n : ℕ) → IsStrictlyIncreasing xs → IsBelow xs n → IsStrictlyIncreasing (xs ++ n ∷ [])
rising-push xs n up below k lt =
    let len = length_push xs n in
    let left : get_or (xs ++ n ∷ []) k 0 ≡ get_or xs k 0 = get_or_append_left xs (n ∷ []) 0 k (omega (arith, lt, len)) in
    elim (cases_lt (k + 1) (length xs)) [
      | inl inside ↦ let right = get_or_append_left xs (n ∷ []) 0 (k + 1) inside in let h = up k inside in omega (arith, left, right, h)
      | inr past ↦
          let at_end : k + 1 ≡ length xs = omega (arith, lt, len, past) in
          let right : get_or (xs ++ n ∷ []) (k + 1) 0 ≡ n = get_or_push xs n 0 (k + 1) (sym at_end) in
          let h = below (get_or xs k 0) (contained xs k (omega (arith, at_end))) in
          omega (arith, left, right, h)
    ]

below-if : (b : Bool) (xs : List ℕ) (n : ℕ) → IsBelow xs n → IsBelow (cond b (xs ++ n ∷ []) xs) (suc n)
below-if true xs n h k c = elim (Contains-push_cases xs n k c) [ inl a ↦ let lt = h k a in omega (arith, lt) | inr e ↦ omega (arith, e) ]
below-if false xs n h k c = let lt = h k c in omega (arith, lt)

pub below : (p : ℕ → Bool) (n : ℕ) → IsBelow (numbers_below p n) n
below p zero k c = absurd (nothing k c)
below p (suc n) k c = below-if (p n) (numbers_below p n) n (below p n) k c

rising-if : (b : Bool) (xs : List ℕ) (n : ℕ) → IsStrictlyIncreasing xs → IsBelow xs n → IsStrictlyIncreasing (cond b (xs ++ n ∷ []) xs)
rising-if true xs n up h = rising-push xs n up h
rising-if false xs n up h = up

pub rising : (p : ℕ → Bool) (n : ℕ) → IsStrictlyIncreasing (numbers_below p n)
rising p zero = λ k lt. absurd (omega (arith, lt))
rising p (suc n) = rising-if (p n) (numbers_below p n) n (rising p n) (below p n)

passes-if : (p : ℕ → Bool) (b : Bool) (xs : List ℕ) (n k : ℕ) → p n ≡ b → (Contains xs k → p k ≡ true) → Contains (cond b (xs ++ n ∷ []) xs) k → p k ≡ true
passes-if p true xs n k is h c = elim (Contains-push_cases xs n k c) [ inl a ↦ h a | inr e ↦ ap p (sym e) ∙ is ]
passes-if p false xs n k is h c = h c

pub passes : (p : ℕ → Bool) (n k : ℕ) → Contains (numbers_below p n) k → p k ≡ true
passes p zero k c = absurd (nothing k c)
passes p (suc n) k c = passes-if p (p n) (numbers_below p n) n k refl (passes p n k) c

keeps-if : (b : Bool) (xs : List ℕ) (n k : ℕ) → Contains xs k → Contains (cond b (xs ++ n ∷ []) xs) k
keeps-if true xs n k c = Contains-append_left xs (n ∷ []) k c
keeps-if false xs n k c = c

this-if : (b : Bool) (xs : List ℕ) (n : ℕ) → b ≡ true → Contains (cond b (xs ++ n ∷ []) xs) n
this-if true xs n h = Contains-push xs n
this-if false xs n h = absurd (false≢true h)

pub has : (p : ℕ → Bool) (n k : ℕ) → k < n → p k ≡ true → Contains (numbers_below p n) k
has p zero k lt h = absurd (omega (arith, lt))
has p (suc n) k lt h = elim (cases_lt k n) [
  | inl inside ↦ keeps-if (p n) (numbers_below p n) n k (has p n k inside h)
  | inr past ↦ let e : k ≡ n = omega (arith, lt, past) in subst (Contains (numbers_below p (suc n))) (sym e) (this-if (p n) (numbers_below p n) n (ap p (sym e) ∙ h))
]

-- ---- one more number

abbrev more : Bool → ℕ → List ℕ → List ℕ
more b n xs = cond b (xs ++ n ∷ []) xs

pub one_more : (p : ℕ → Bool) (n : ℕ) (xs ys : List ℕ) → xs ≡ numbers_below p n → p n ≡ true → ys ≡ xs ++ n ∷ [] → ys ≡ numbers_below p (n + 1)
one_more p n xs ys so is e = e ∙ ap (λ l. l ++ n ∷ []) so ∙ ap (λ b. more b n (numbers_below p n)) (sym is) ∙ ap (numbers_below p) (sym (add-one n))

pub none_more : (p : ℕ → Bool) (n : ℕ) (xs : List ℕ) → xs ≡ numbers_below p n → p n ≡ false → xs ≡ numbers_below p (n + 1)
none_more p n xs so is = so ∙ ap (λ b. more b n (numbers_below p n)) (sym is) ∙ ap (numbers_below p) (sym (add-one n))

-- ---- rising lists of the same numbers

data Rises : List ℕ → Type 0 where
  end : Rises []
  on : {x : ℕ} {xs : List ℕ} → ((k : ℕ) → Contains xs k → x < k) → Rises xs → Rises (x ∷ xs)

below-tail : (x : ℕ) (xs : List ℕ) → IsStrictlyIncreasing (x ∷ xs) → (k : ℕ) → Contains xs k → x < k
below-tail x xs up k (n, lt, is) =
    let h : x < get_or (x ∷ xs) (suc n) k = AllPairs-from_increasing (x ∷ xs) up 0 (suc n) k (omega arith) (omega (arith, lt)) in
    omega (arith, h, is)

rising-tail : (x : ℕ) (xs : List ℕ) → IsStrictlyIncreasing (x ∷ xs) → IsStrictlyIncreasing xs
rising-tail x xs up k lt =
    let h = up (suc k) (omega (arith, lt)) in
    let e : suc k + 1 ≡ suc (k + 1) = omega arith in
    let same : get_or (x ∷ xs) (suc k + 1) 0 ≡ get_or xs (k + 1) 0 = ap (λ n. get_or (x ∷ xs) n 0) e in
    omega (arith, h, same)

rises : (xs : List ℕ) → IsStrictlyIncreasing xs → Rises xs
rises [] up = end
rises (x ∷ xs) up = on (below-tail x xs up) (rises xs (rising-tail x xs up))

same-tail : (x : ℕ) (xs ys : List ℕ) (k : ℕ) → (Contains (x ∷ xs) k → Contains (x ∷ ys) k) → (Contains xs k → x < k) → Contains xs k → Contains ys k
same-tail x xs ys k f past c = elim (first_or_later x ys k (f (later x xs k c))) [ inl e ↦ (let lt = past c in absurd (omega (arith, lt, e))) | inr d ↦ d ]

heads : (x y : ℕ) (xs ys : List ℕ) → Contains (y ∷ ys) x → Contains (x ∷ xs) y → ((k : ℕ) → Contains xs k → x < k) → ((k : ℕ) → Contains ys k → y < k) → x ≡ y
heads x y xs ys f g up up' = elim (first_or_later y ys x f) [
  | inl e ↦ sym e
  | inr a ↦ elim (first_or_later x xs y g) [ inl e ↦ e | inr b ↦ (let p = up y b in let q = up' x a in absurd (omega (arith, p, q))) ]
]

equal : (xs ys : List ℕ) → Rises xs → Rises ys → ((k : ℕ) → Contains xs k → Contains ys k) → ((k : ℕ) → Contains ys k → Contains xs k) → xs ≡ ys
equal [] [] r s f g = refl
equal [] (y ∷ ys) r s f g = absurd (nothing y (g y (first y ys)))
equal (x ∷ xs) [] r s f g = absurd (nothing x (f x (first x xs)))
equal (x ∷ xs) (y ∷ ys) (on up r) (on up' s) f g =
    let e : x ≡ y = heads x y xs ys (f x (first x xs)) (g y (first y ys)) up up' in
    let f' : (k : ℕ) → Contains (x ∷ xs) k → Contains (x ∷ ys) k = λ k c. subst (λ z. Contains (z ∷ ys) k) (sym e) (f k c) in
    let g' : (k : ℕ) → Contains (x ∷ ys) k → Contains (x ∷ xs) k = λ k c. g k (subst (λ z. Contains (z ∷ ys) k) e c) in
    let up'' : (k : ℕ) → Contains ys k → x < k = λ k c. (let lt = up' k c in omega (arith, lt, e)) in
    ap₂ (λ z zs. z ∷ zs) e (equal xs ys r s (λ k c. same-tail x xs ys k (f' k) (up k) c) (λ k c. same-tail x ys xs k (g' k) (up'' k) c))

pub same_rising : (xs ys : List ℕ) → IsStrictlyIncreasing xs → IsStrictlyIncreasing ys → ((k : ℕ) → Contains xs k → Contains ys k) → ((k : ℕ) → Contains ys k → Contains xs k) → xs ≡ ys
same_rising xs ys r s f g = equal xs ys (rises xs r) (rises ys s) f g
