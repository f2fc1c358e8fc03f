-- What comes of files that are taken in order, where the store tells each: they have one fate.
use Rattle.std.proofs.Common.{◌≡◌, ℕ, suc, ◌+◌, ◌<◌, ◌≤◌, List, [], ◌∷◌, length, map, Option, Some, None, refl, sym, ap, ap₂, ◌∙◌, subst, ◌⊎◌, inl, inr, arith, slice_get}
use Rattle.cw_io.specs.File.{Told, Is}
use Rattle.cw_files.specs.Reading.{HaveBytes, HaveValues, AllTaken, IsLongerAt, IsBadAt}
use Rattle.cw_say.specs.declared.status.Bad.{Bad}
use Rattle.cw_say.specs.declared.status.Status.{Status}
use Rattle.cw_say.specs.declared.status.Status.TheVariants.{TooLong}
use Rattle.cw_say.specs.declared.status.Long.TheVariants.{File}

abbrev pub Found : Type 0
Found = Option (List ℕ)

abbrev pub all_told : List Found → List Told
all_told found = map Some found

some_none : {A : Type 0} (x : A) → Some x ≡ None → ⊥
some_none x e = absurd (cc)

-- the bytes of a file that is told
not_none : (bytes : List ℕ) → Is (Some None) bytes → ⊥
not_none bytes is = absurd (cc)

bytes_are : (bytes text : List ℕ) → Is (Some (Some bytes)) text → text ≡ bytes
bytes_are bytes text is = cc

abbrev pub RefusesAt : {W : Type 0} → (Refuses : List ℕ → W → Type 0) → Option (List ℕ) → W → Type 0
RefusesAt Refuses None w = ⊥
RefusesAt Refuses (Some text) w = Refuses text w

-- bytes that are bad as one of a kind are refused for it
pub bad_at : {W : Type 0} (Refuses : List ℕ → Bad → Type 0) (of : W → Bad) (o : Option (List ℕ)) (w : W) → IsBadAt Refuses o (of w) → RefusesAt (λ bytes v. Refuses bytes (of v)) o w
bad_at Refuses of None w x = x
bad_at Refuses of (Some bytes) w x = x

-- all bytes fit
abbrev pub AllFit : (Fits : List ℕ → Type 0) → List Found → Type 0
AllFit Fits [] = Unit {0}
AllFit Fits (None ∷ found) = AllFit Fits found
AllFit Fits (Some bytes ∷ found) = Fits bytes × AllFit Fits found

-- what kind of files they are: the limit, what they are accepted as, and what is wrong with those that are refused
module _ {X W : Type 0} (limit : ℕ) (Accepts : List ℕ → X → Type 0) (Refuses : List ℕ → W → Type 0) (status_of : ℕ → W → Status) where
  -- so many files were taken, from this number on, and the next one stops the reading
  abbrev pub StopsAt : (n : ℕ) → List Told → (texts : List (List ℕ)) → (taken : ℕ) → Status → Type 0
  StopsAt n files texts taken s =
      (IsLongerAt (slice_get files taken) limit × (s ≡ TooLong (File (n + taken))))
      ⊎ ((w : W) × RefusesAt Refuses (slice_get texts taken) w × (s ≡ status_of (n + taken) w))

  -- the values of those taken, and the status of the one that was not
  abbrev pub Runs : (n : ℕ) → List Found → List X → Option Status → Type 0
  Runs n [] xs s = (xs ≡ []) × (s ≡ None)
  Runs n (None ∷ found) xs s = ⊥
  Runs n (Some bytes ∷ found) xs s =
      ((limit < length bytes) × (xs ≡ []) × (s ≡ Some (TooLong (File n))))
      ⊎ ((length bytes ≤ limit) × ((w : W) × Refuses bytes w × (xs ≡ []) × (s ≡ Some (status_of n w))))
      ⊎ ((length bytes ≤ limit) × ((x : X) × (ys : List X) × Accepts bytes x × (xs ≡ x ∷ ys) × Runs (suc n) found ys s))

  add_zero : (n : ℕ) → n + 0 ≡ n
  add_zero n = omega arith

  add_suc : (n k : ℕ) → n + suc k ≡ suc n + k
  add_suc n k = omega arith

  here : (f : ℕ → Status) (n : ℕ) (s : Status) → s ≡ f (n + 0) → Some s ≡ Some (f n)
  here f n s e = ap Some (e ∙ ap f (add_zero n))

  next : (n : ℕ) (file : Told) (files : List Told) (text : List ℕ) (texts : List (List ℕ)) (k : ℕ) (s : Status) → StopsAt n (file ∷ files) (text ∷ texts) (suc k) s → StopsAt (suc n) files texts k s
  next n file files text texts k s (inl (x, e)) = inl (x, e ∙ ap (λ m. TooLong (File m)) (add_suc n k))
  next n file files text texts k s (inr (w, x, e)) = inr (w, x, e ∙ ap (λ m. status_of m w) (add_suc n k))

  pub of_stop : (n : ℕ) (found : List Found) (texts : List (List ℕ)) (xs : List X) (s : Status) → HaveBytes limit (all_told found) texts → HaveValues Accepts texts xs → StopsAt n (all_told found) texts (length xs) s → Runs n found xs (Some s)
  of_stop n [] texts [] s have values (inl (x, e)) = absurd x
  of_stop n [] [] [] s have values (inr (w, x, e)) = absurd x
  of_stop n [] (text ∷ texts) [] s have values (inr (w, x, e)) = absurd have
  of_stop n (None ∷ found) texts [] s have values (inl (x, e)) = absurd x
  of_stop n (None ∷ found) [] [] s have values (inr (w, x, e)) = absurd x
  of_stop n (None ∷ found) (text ∷ texts) [] s have values (inr (w, x, e)) = absurd (not_none text have.0)
  of_stop n (Some bytes ∷ found) texts [] s have values (inl (x, e)) = inl (x, refl, here (λ m. TooLong (File m)) n s e)
  of_stop n (Some bytes ∷ found) [] [] s have values (inr (w, x, e)) = absurd x
  of_stop n (Some bytes ∷ found) (text ∷ texts) [] s have values (inr (w, x, e)) =
      let same : text ≡ bytes = bytes_are bytes text have.0 in
      inr (inl (subst (λ t. length t ≤ limit) same have.1, (w, subst (λ t. Refuses t w) same x, refl, here (λ m. status_of m w) n s e)))
  of_stop n found [] (x ∷ xs) s have values stops = absurd values
  of_stop n [] (text ∷ texts) (x ∷ xs) s have values stops = absurd have
  of_stop n (None ∷ found) (text ∷ texts) (x ∷ xs) s have values stops = absurd (not_none text have.0)
  of_stop n (Some bytes ∷ found) (text ∷ texts) (x ∷ xs) s have values stops =
      let same : text ≡ bytes = bytes_are bytes text have.0 in
      let rest = of_stop (suc n) found texts xs s have.2 values.1 (next n (Some (Some bytes)) (all_told found) text texts (length xs) s stops) in
      inr (inr (subst (λ t. length t ≤ limit) same have.1, (x, xs, subst (λ t. Accepts t x) same values.0, refl, rest)))

  pub of_all : (n : ℕ) (found : List Found) (texts : List (List ℕ)) (xs : List X) → HaveBytes limit (all_told found) texts → HaveValues Accepts texts xs → length xs ≡ length (all_told found) → Runs n found xs None
  of_all n [] texts [] have values all = (refl, refl)
  of_all n [] [] (x ∷ xs) have values all = absurd values
  of_all n [] (text ∷ texts) (x ∷ xs) have values all = absurd have
  of_all n (f ∷ found) texts [] have values all = absurd (omega (arith, all))
  of_all n (f ∷ found) [] (x ∷ xs) have values all = absurd values
  of_all n (None ∷ found) (text ∷ texts) (x ∷ xs) have values all = absurd (not_none text have.0)
  of_all n (Some bytes ∷ found) (text ∷ texts) (x ∷ xs) have values all =
      let same : text ≡ bytes = bytes_are bytes text have.0 in
      let rest = of_all (suc n) found texts xs have.2 values.1 (omega (arith, all)) in
      inr (inr (subst (λ t. length t ≤ limit) same have.1, (x, xs, subst (λ t. Accepts t x) same values.0, refl, rest)))

  pub taken_runs : (found : List Found) (xs : List X) → AllTaken limit Accepts (all_told found) xs → Runs 0 found xs None
  taken_runs found xs x = of_all 0 found x.texts xs x.have_bytes x.have_values x.all

  -- ---- one fate

  none_some : (s : Status) (o : Option Status) → o ≡ None → o ≡ Some s → ⊥
  none_some s o e f = absurd (cc)

  -- what is accepted is not refused
  module _ (not_both : (bytes : List ℕ) (x : X) (w : W) → Accepts bytes x → Refuses bytes w → ⊥) where
    pub never : (n : ℕ) (found : List Found) (xs ys : List X) (s : Status) → Runs n found xs None → Runs n found ys (Some s) → ⊥
    never n [] xs ys s (e, f) (g, h) = some_none s h
    never n (None ∷ found) xs ys s x y = absurd x
    never n (Some bytes ∷ found) xs ys s (inl (a, e, f)) y = some_none (TooLong (File n)) (sym f)
    never n (Some bytes ∷ found) xs ys s (inr (inl (a, (w, r, e, f)))) y = some_none (status_of n w) (sym f)
    never n (Some bytes ∷ found) xs ys s (inr (inr (a, (x, zs, r, e, rest)))) (inl (b, g, h)) = absurd (omega (arith, a, b))
    never n (Some bytes ∷ found) xs ys s (inr (inr (a, (x, zs, r, e, rest)))) (inr (inl (b, (v, t, g, h)))) = not_both bytes x v r t
    never n (Some bytes ∷ found) xs ys s (inr (inr (a, (x, zs, r, e, rest)))) (inr (inr (b, (y, ws, t, g, more)))) = never (suc n) found zs ws s rest more

    -- bytes for which one thing is wrong at most
    module _ (Fits : List ℕ → Type 0) (one_wrong : (bytes : List ℕ) (v w : W) → Fits bytes → Refuses bytes v → Refuses bytes w → v ≡ w) where
      some_is : (s t : Status) → Some s ≡ Some t → s ≡ t
      some_is s t e = cc

      pub one_stop : (n : ℕ) (found : List Found) (xs ys : List X) (s t : Status) → AllFit Fits found → Runs n found xs (Some s) → Runs n found ys (Some t) → s ≡ t
      one_stop n [] xs ys s t fit (e, f) (g, h) = absurd (some_none s f)
      one_stop n (None ∷ found) xs ys s t fit x y = absurd x
      one_stop n (Some bytes ∷ found) xs ys s t fit (inl (a, e, f)) (inl (b, g, h)) = some_is s t (f ∙ sym h)
      one_stop n (Some bytes ∷ found) xs ys s t fit (inl (a, e, f)) (inr (inl (b, y))) = absurd (omega (arith, a, b))
      one_stop n (Some bytes ∷ found) xs ys s t fit (inl (a, e, f)) (inr (inr (b, y))) = absurd (omega (arith, a, b))
      one_stop n (Some bytes ∷ found) xs ys s t fit (inr (inl (a, x))) (inl (b, g, h)) = absurd (omega (arith, a, b))
      one_stop n (Some bytes ∷ found) xs ys s t fit (inr (inl (a, (w, r, e, f)))) (inr (inl (b, (v, q, g, h)))) =
          some_is s t (f ∙ ap (λ z. Some (status_of n z)) (one_wrong bytes w v fit.0 r q) ∙ sym h)
      one_stop n (Some bytes ∷ found) xs ys s t fit (inr (inl (a, (w, r, e, f)))) (inr (inr (b, (y, ws, q, g, more)))) = absurd (not_both bytes y w q r)
      one_stop n (Some bytes ∷ found) xs ys s t fit (inr (inr (a, x))) (inl (b, g, h)) = absurd (omega (arith, a, b))
      one_stop n (Some bytes ∷ found) xs ys s t fit (inr (inr (a, (x, zs, r, e, rest)))) (inr (inl (b, (v, q, g, h)))) = absurd (not_both bytes x v r q)
      one_stop n (Some bytes ∷ found) xs ys s t fit (inr (inr (a, (x, zs, r, e, rest)))) (inr (inr (b, (y, ws, q, g, more)))) = one_stop (suc n) found zs ws s t fit.1 rest more

  -- what is accepted is one thing
  module _ (one_value : (bytes : List ℕ) (x y : X) → Accepts bytes x → Accepts bytes y → x ≡ y) where
    pub same_values : (n : ℕ) (found : List Found) (xs ys : List X) → Runs n found xs None → Runs n found ys None → xs ≡ ys
    same_values n [] xs ys (e, f) (g, h) = e ∙ sym g
    same_values n (None ∷ found) xs ys x y = absurd x
    same_values n (Some bytes ∷ found) xs ys (inl (a, e, f)) y = absurd (some_none (TooLong (File n)) (sym f))
    same_values n (Some bytes ∷ found) xs ys (inr (inl (a, (w, r, e, f)))) y = absurd (some_none (status_of n w) (sym f))
    same_values n (Some bytes ∷ found) xs ys (inr (inr (a, (x, zs, r, e, rest)))) (inl (b, g, h)) = absurd (omega (arith, a, b))
    same_values n (Some bytes ∷ found) xs ys (inr (inr (a, (x, zs, r, e, rest)))) (inr (inl (b, (v, q, g, h)))) = absurd (some_none (status_of n v) (sym h))
    same_values n (Some bytes ∷ found) xs ys (inr (inr (a, (x, zs, r, e, rest)))) (inr (inr (b, (y, ws, q, g, more)))) =
        e ∙ ap₂ (λ z zz. z ∷ zz) (one_value bytes x y r q) (same_values (suc n) found zs ws rest more) ∙ sym g

pub map_twice : {A B C : Type 0} (g : B → C) (f : A → B) (xs : List A) → map (λ x. g (f x)) xs ≡ map g (map f xs)
map_twice g f [] = refl
map_twice g f (x ∷ xs) = ap (λ ys. g (f x) ∷ ys) (map_twice g f xs)

-- what is told of files that are there
pub tells : (texts : List (List ℕ)) → map (λ text. Some (Some text)) texts ≡ all_told (map Some texts)
tells texts = map_twice Some Some texts

-- from number 0 on
pub from_zero : (k : ℕ) → k ≡ 0 + k
from_zero k = omega arith
