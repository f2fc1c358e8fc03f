-- The mentions of one sort, beside what stands for each of them, and how many there are.
use Rattle.std.proofs.Common.{◌≡◌, ◌⊎◌, inl, inr, ℕ, zero, suc, ◌+◌, ◌<◌, ◌≤◌, min, List, [], ◌∷◌, ◌++◌, length, Bool, true, false, cond, IsTrue, Option, Some, None, slice_get, refl, sym, ap, ap₂, subst, ◌∙◌, arith, append_assoc}
use Rattle.cw_number.specs.declared.numbers.Counts.{Counts}
use Rattle.cw_number.specs.Numbers.{next_to}
use Rattle.cw_sound.specs.Uses.Mentions.{In, Mention, Here}
use Rattle.cw_sound.specs.Names.Standing.{counted_by, counted_from}

module _ (test : Mention → Bool) where
  abbrev pub pick : List Here → List Here
  pick [] = []
  pick (m ∷ ms) = cond (test m.mention) (m ∷ pick ms) (pick ms)

  taken : (b : Bool) (m : Here) (xs ys : List Here) → cond b (m ∷ xs ++ ys) (xs ++ ys) ≡ cond b (m ∷ xs) xs ++ ys
  taken true m xs ys = refl
  taken false m xs ys = refl

  pub pick_append : (xs ys : List Here) → pick (xs ++ ys) ≡ pick xs ++ pick ys
  pick_append [] ys = refl
  pick_append (x ∷ xs) ys = ap (λ zs. cond (test x.mention) (x ∷ zs) zs) (pick_append xs ys) ∙ taken (test x.mention) x (pick xs) (pick ys)

  pub picked_at : (before after : List Here) (m : Here) → test m.mention ≡ true → pick (before ++ m ∷ after) ≡ pick before ++ m ∷ pick after
  picked_at before after m e = pick_append before (m ∷ after) ∙ ap (λ b. pick before ++ cond b (m ∷ pick after) (pick after)) e

  none_taken : (b : Bool) (m : Here) (xs : List Here) → b ≡ false → xs ≡ [] → cond b (m ∷ xs) xs ≡ []
  none_taken true m xs e h = absurd (cc)
  none_taken false m xs e h = h

  pub none_picked : (ms : List Here) → ((m : Here) → In m ms → test m.mention ≡ false) → pick ms ≡ []
  none_picked [] h = refl
  none_picked (m ∷ ms) h = none_taken (test m.mention) m (pick ms) (h m (inl refl)) (none_picked ms (λ n i. h n (inr i)))

  -- a count of mentions of the sort, below its limit
  module _ (count : Counts → ℕ) (limit : ℕ) where
    abbrev pub Counts_it : Mention → Type 0
    Counts_it m = (c : Counts) → count (counted_by c m) ≡ cond (test m) (next_to limit (count c)) (count c)

    one_more : (b : Bool) (m : Here) (xs : List Here) (n k : ℕ) → n ≡ cond b (next_to limit k) k → k + length (cond b (m ∷ xs) xs) ≤ limit → n + length xs ≡ k + length (cond b (m ∷ xs) xs)
    one_more true m xs n k e h = omega (arith, e, h)
    one_more false m xs n k e h = ap (λ j. j + length xs) e

    pub counted_below : (c : Counts) (ms : List Here) → ((m : Here) → In m ms → Counts_it m.mention) → count c + length (pick ms) ≤ limit → count (counted_from c ms) ≡ count c + length (pick ms)
    counted_below c [] laws h = omega arith
    counted_below c (m ∷ ms) laws h =
        let step = one_more (test m.mention) m (pick ms) (count (counted_by c m.mention)) (count c) (laws m (inl refl) c) h in
        counted_below (counted_by c m.mention) ms (λ n i. laws n (inr i)) (omega (arith, step, h)) ∙ step

module _ {X : Type 0} (R : Here → X → Type 0) where
  abbrev pub Zip : List Here → List X → Type 0
  Zip [] [] = Unit {0}
  Zip [] (y ∷ ys) = ⊥
  Zip (m ∷ ms) [] = ⊥
  Zip (m ∷ ms) (y ∷ ys) = R m y × Zip ms ys

  pub zip_both : (xs ys : List Here) (vs bs : List X) → Zip xs vs → Zip ys bs → Zip (xs ++ ys) (vs ++ bs)
  zip_both [] ys [] bs h k = k
  zip_both [] ys (a ∷ vs) bs h k = absurd h
  zip_both (x ∷ xs) ys [] bs h k = absurd h
  zip_both (x ∷ xs) ys (a ∷ vs) bs h k = (h.0, zip_both xs ys vs bs h.1 k)

  pub zip_at : (before after : List Here) (m : Here) (ys : List X) → Zip (before ++ m ∷ after) ys → (y : X) × (slice_get ys (length before) ≡ Some y) × R m y
  zip_at [] after m [] h = absurd h
  zip_at [] after m (y ∷ ys) h = (y, refl, h.0)
  zip_at (x ∷ xs) after m [] h = absurd h
  zip_at (x ∷ xs) after m (y ∷ ys) h = zip_at xs after m ys h.1
