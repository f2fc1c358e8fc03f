-- Labels get the place where they first stand in their own body.
use Rattle.std.proofs.Common.{◌≡◌, ◌≢◌, ℕ, zero, suc, ◌+◌, ◌<◌, ◌≤◌, List, [], ◌∷◌, ◌++◌, length, set, replicate, get_or, drop, drop-cons, Bool, true, false, Option, Some, None, refl, sym, ap, ap₂, ◌∙◌, arith}
use Rattle.std.specs.Prelude.{nat_eq, slice_get}
use Rattle.std.proofs.lemmas.Bool.{false≢true}
use Rattle.std.proofs.lemmas.Bool.Decides.{nat_tests}
use Rattle.std.proofs.lemmas.List.{drop_all}
use Rattle.std.proofs.lemmas.Option.{slice_get_past}
use Rattle.cw_unit.specs.declared.unit.Label.{Label}
use Rattle.cw_gen_unit.specs.ReferenceUnits.{place_if, place_of, labels_in, place_or_none, label_places}
use Rattle.cw_gen_unit.specs.LabelPlaces.{same_body, placed_or, labels_placed, belongs_to}

same_number : (l : ℕ) → nat_eq l l ≡ true
same_number l = grind (arith, nat_tests)

other_number : (l k : ℕ) → l ≢ k → nat_eq l k ≡ false
other_number l k h = grind (arith, nat_tests)

numbers : (l k : ℕ) → nat_eq l k ≡ true → l ≡ k
numbers l k h = grind (arith, nat_tests)

abbrev lists : Option (List (ℕ × ℕ)) → List (ℕ × ℕ)
lists o = elim o [ None ↦ [] | Some xs ↦ xs ]

get_last : {A : Type 0} (xs : List A) (y : A) → slice_get (xs ++ y ∷ []) (length xs) ≡ Some y
get_last [] y = refl
get_last (x ∷ xs) y = get_last xs y

get_other : {A : Type 0} (xs : List A) (y : A) (r : ℕ) → r ≢ length xs → slice_get xs r ≡ slice_get (xs ++ y ∷ []) r
get_other [] y zero ne = absurd (ne refl)
get_other [] y (suc r) ne = refl
get_other (x ∷ xs) y zero ne = refl
get_other (x ∷ xs) y (suc r) ne = get_other xs y r (λ e. ne (ap suc e))

nowhere : (b : Bool) (z : ℕ) → placed_or b None z ≡ z
nowhere true z = refl
nowhere false z = refl

module _ (who : Option ℕ) where
  -- none stands anywhere
  pub placed-none : (l : ℕ) (ms : List Label) (zs : List ℕ) → labels_placed l ms who [] zs ≡ zs
  placed-none l [] zs = refl
  placed-none l (m ∷ ms) [] = refl
  placed-none l (m ∷ ms) (z ∷ zs) = ap₂ (λ a b. a ∷ b) (nowhere (same_body m.proc who) z) (placed-none (suc l) ms zs)

  -- one that is before all of these
  before : (l : ℕ) (ms : List Label) (i q : ℕ) (ps : List (ℕ × ℕ)) (zs : List ℕ) → i < l → labels_placed l ms who ((i, q) ∷ ps) zs ≡ labels_placed l ms who ps zs
  before l [] i q ps zs lt = refl
  before l (m ∷ ms) i q ps [] lt = refl
  before l (m ∷ ms) i q ps (z ∷ zs) lt =
      let ne : l ≢ i = omega (arith, lt) in
      ap₂ (λ t r. placed_or (same_body m.proc who) (place_if t q (place_of l ps)) z ∷ r) (other_number l i ne) (before (suc l) ms i q ps zs (let z' : i < suc l = omega (arith, lt) in z'))

  -- one that is behind the first of these
  later : (l : ℕ) (d : Label) (ms : List Label) (i q : ℕ) (ps : List (ℕ × ℕ)) (z : ℕ) (zs rest : List ℕ) → rest ≡ labels_placed (suc l) ms who ((suc l + i, q) ∷ ps) zs
      → placed_or (same_body d.proc who) (place_of l ps) z ∷ rest ≡ labels_placed l (d ∷ ms) who ((l + suc i, q) ∷ ps) (z ∷ zs)
  later l d ms i q ps z zs rest is =
      let ne : l ≢ l + suc i = omega arith in
      let next : suc l + i ≡ l + suc i = omega arith in
      ap₂ (λ t r. placed_or (same_body d.proc who) (place_if t q (place_of l ps)) z ∷ r) (sym (other_number l (l + suc i) ne))
      (is ∙ ap (λ k. labels_placed (suc l) ms who ((k, q) ∷ ps) zs) next)

  -- one of the body
  pub placed-one : (l : ℕ) (ms : List Label) (i q : ℕ) (ps : List (ℕ × ℕ)) (zs : List ℕ) → belongs_to (slice_get ms i) who ≡ true → set (labels_placed l ms who ps zs) i q ≡ labels_placed l ms who ((l + i, q) ∷ ps) zs
  placed-one l [] i q ps zs h = absurd (false≢true h)
  placed-one l (d ∷ ms) i q ps [] h = refl
  placed-one l (d ∷ ms) zero q ps (z ∷ zs) h =
      let here : l + 0 ≡ l = omega arith in
      ap₂ (λ a b. a ∷ b)
      (sym (ap₂ (λ b t. placed_or b (place_if t q (place_of l ps)) z) h (ap (nat_eq l) here ∙ same_number l)))
      (sym (before (suc l) ms (l + 0) q ps zs (let lt : l + 0 < suc l = omega arith in lt)))
  placed-one l (d ∷ ms) (suc i) q ps (z ∷ zs) h = later l d ms i q ps z zs _ (placed-one (suc l) ms i q ps zs h)

  -- one of another body, or none
  pub placed-other : (l : ℕ) (ms : List Label) (i q : ℕ) (ps : List (ℕ × ℕ)) (zs : List ℕ) → belongs_to (slice_get ms i) who ≡ false → labels_placed l ms who ps zs ≡ labels_placed l ms who ((l + i, q) ∷ ps) zs
  placed-other l [] i q ps zs h = refl
  placed-other l (d ∷ ms) i q ps [] h = refl
  placed-other l (d ∷ ms) zero q ps (z ∷ zs) h =
      ap₂ (λ a b. a ∷ b)
      (ap (λ b. placed_or b (place_of l ps) z) h ∙ sym (ap (λ b. placed_or b (place_if (nat_eq l (l + 0)) q (place_of l ps)) z) h))
      (sym (before (suc l) ms (l + 0) q ps zs (let lt : l + 0 < suc l = omega arith in lt)))
  placed-other l (d ∷ ms) (suc i) q ps (z ∷ zs) h = later l d ms i q ps z zs _ (placed-other (suc l) ms i q ps zs h)

  -- from a label to the one before it
  listed : (ms : List Label) (found : List (ℕ × ℕ)) (i : ℕ) (zs : List ℕ) → i < length found → labels_placed 0 ms who ((0 + (get_or found i (0, 0)).0, (get_or found i (0, 0)).1) ∷ drop (suc i) found) zs ≡ labels_placed 0 ms who (drop i found) zs
  listed ms found i zs lt =
      let none : 0 + (get_or found i (0, 0)).0 ≡ (get_or found i (0, 0)).0 = omega arith in
      ap (λ n. labels_placed 0 ms who ((n, (get_or found i (0, 0)).1) ∷ drop (suc i) found) zs) none
      ∙ ap (λ l. labels_placed 0 ms who l zs) (sym (drop-cons found i (0, 0) lt))

  pub kept-one : (ms : List Label) (found : List (ℕ × ℕ)) (j i : ℕ) (places zs : List ℕ) → j ≡ suc i → i < length found → belongs_to (slice_get ms (get_or found i (0, 0)).0) who ≡ true → places ≡ labels_placed 0 ms who (drop j found) zs → set places (get_or found i (0, 0)).0 (get_or found i (0, 0)).1 ≡ labels_placed 0 ms who (drop i found) zs
  kept-one ms found j i places zs now lt h kept =
      ap (λ ps. set ps (get_or found i (0, 0)).0 (get_or found i (0, 0)).1) (kept ∙ ap (λ n. labels_placed 0 ms who (drop n found) zs) now)
      ∙ placed-one 0 ms (get_or found i (0, 0)).0 (get_or found i (0, 0)).1 (drop (suc i) found) zs h
      ∙ listed ms found i zs lt

  pub kept-other : (ms : List Label) (found : List (ℕ × ℕ)) (j i : ℕ) (places zs : List ℕ) → j ≡ suc i → i < length found → belongs_to (slice_get ms (get_or found i (0, 0)).0) who ≡ false → places ≡ labels_placed 0 ms who (drop j found) zs → places ≡ labels_placed 0 ms who (drop i found) zs
  kept-other ms found j i places zs now lt h kept =
      kept ∙ ap (λ n. labels_placed 0 ms who (drop n found) zs) now
      ∙ placed-other 0 ms (get_or found i (0, 0)).0 (get_or found i (0, 0)).1 (drop (suc i) found) zs h
      ∙ listed ms found i zs lt

  pub kept-start : (ms : List Label) (found : List (ℕ × ℕ)) (zs : List ℕ) → zs ≡ labels_placed 0 ms who (drop (length found) found) zs
  kept-start ms found zs = sym (ap (λ l. labels_placed 0 ms who l zs) (drop_all (length found) found (let le : length found ≤ length found = omega arith in le)) ∙ placed-none 0 ms zs)

-- ---- body after body

first_place : (o : Option ℕ) → placed_or true o 0 ≡ place_or_none o
first_place None = refl
first_place (Some q) = refl

-- the segment's
pub placed-body : (l : ℕ) (ms : List Label) (b : List (ℕ × ℕ)) → labels_placed l ms None b (replicate (length ms) 0) ≡ label_places l ms b []
placed-body l [] b = refl
placed-body l (m ∷ ms) b = ap₂ (λ a r. a ∷ r) (of_body m.proc) (placed-body (suc l) ms b)
  where
    of_body : (o : Option ℕ) → placed_or (same_body o None) (place_of l b) 0 ≡ place_or_none (place_of l (labels_in b [] o))
    of_body None = first_place (place_of l b)
    of_body (Some p) = refl

-- the next procedure's
pub placed-procedure : (l : ℕ) (ms : List Label) (b ls : List (ℕ × ℕ)) (done : List (List (ℕ × ℕ))) (p : ℕ) → length done ≡ p → labels_placed l ms (Some p) ls (label_places l ms b done) ≡ label_places l ms b (done ++ ls ∷ [])
placed-procedure l [] b ls done p e = refl
placed-procedure l (m ∷ ms) b ls done p e = ap₂ (λ a r. a ∷ r) (of_body m.proc) (placed-procedure (suc l) ms b ls done p e)
  where
    last : slice_get (done ++ ls ∷ []) (length done) ≡ Some ls
    last = get_last done ls

    tested : (r : ℕ) (t : Bool) → nat_eq r p ≡ t → placed_or (nat_eq r p) (place_of l ls) (place_or_none (place_of l (labels_in b done (Some r)))) ≡ place_or_none (place_of l (labels_in b (done ++ ls ∷ []) (Some r)))
    tested r true h =
        let same : r ≡ length done = numbers r p h ∙ sym e in
        let none : slice_get done r ≡ None = ap (slice_get done) same ∙ slice_get_past done (length done) (omega arith) in
        let here : slice_get (done ++ ls ∷ []) r ≡ Some ls = ap (slice_get (done ++ ls ∷ [])) same ∙ last in
        ap₂ (λ c o. placed_or c (place_of l ls) (place_or_none (place_of l (lists o)))) h none
        ∙ first_place (place_of l ls)
        ∙ sym (ap (λ o. place_or_none (place_of l (lists o))) here)
    tested r false h =
        let ne : r ≢ length done = λ same. false≢true (sym h ∙ ap₂ nat_eq same (sym e) ∙ same_number (length done)) in
        ap (λ c. placed_or c (place_of l ls) (place_or_none (place_of l (labels_in b done (Some r))))) h
        ∙ ap (λ o. place_or_none (place_of l (lists o))) (get_other done ls r ne)

    of_body : (o : Option ℕ) → placed_or (same_body o (Some p)) (place_of l ls) (place_or_none (place_of l (labels_in b done o))) ≡ place_or_none (place_of l (labels_in b (done ++ ls ∷ []) o))
    of_body None = refl
    of_body (Some r) = tested r (nat_eq r p) refl
