-- Families that are placed meet no absolute family, and no two of them share a word.
use Rattle.std.proofs.Common.{◌≡◌, ◌⊎◌, ℕ, suc, ◌+◌, ◌≤◌, List, [], ◌∷◌, ◌++◌, Bool, true, false, ◌&&◌, cond, nat_eq, Some, slice_get, refl, sym, ap, ap₂, ◌∙◌, arith, inl, inr, eqb-true, true≢false}
use Rattle.std.proofs.lemmas.Bool.{cases_Bool, eq-eqb}
use Rattle.std.proofs.lemmas.Slice.Eq.{bytes_eq-Decides}
use Rattle.cw_unit.specs.Allocation.{FamilyKey, Shared, Private, is_same_key, SegmentStorage, Range, key_extent, without, first_keys, meets, first_fit, Placed, placed_from, last_end_of, start_of}
use Rattle.cw_unit.proofs.FirstFit.{first_fit-after, first_fit-clear}

-- ---- membership

abbrev pub In : {A : Type 0} → A → List A → Type 0
In x [] = ⊥
In x (y ∷ ys) = (x ≡ y) ⊎ In x ys

pub in-left : {A : Type 0} (x : A) (xs ys : List A) → In x xs → In x (xs ++ ys)
in-left x [] ys h = absurd h
in-left x (y ∷ xs) ys (inl h) = inl h
in-left x (y ∷ xs) ys (inr h) = inr (in-left x xs ys h)

pub in-right : {A : Type 0} (x : A) (xs ys : List A) → In x ys → In x (xs ++ ys)
in-right x [] ys h = h
in-right x (y ∷ xs) ys h = inr (in-right x xs ys h)

pub in-place : {A : Type 0} (x : A) (xs : List A) → In x xs → (k : ℕ) × (slice_get xs k ≡ Some x)
in-place x [] h = absurd h
in-place x (y ∷ xs) (inl h) = (0, ap Some (sym h))
in-place x (y ∷ xs) (inr h) = let r : (k : ℕ) × (slice_get xs k ≡ Some x) = in-place x xs h in (suc r.0, r.1)

-- ---- keys

both : (a b : Bool) → (a && b) ≡ true → (a ≡ true) × (b ≡ true)
both true b h = (refl, h)
both false b h = absurd (true≢false (sym h))

pub same-key : (a b : FamilyKey) → is_same_key a b ≡ true → a ≡ b
same-key (Shared a) (Shared b) h = ap Shared ((bytes_eq-Decides a b).0 h)
same-key (Shared a) (Private h k) e = absurd (true≢false (sym e))
same-key (Private g n) (Shared b) e = absurd (true≢false (sym e))
same-key (Private g n) (Private h k) e =
    let p : (nat_eq g h ≡ true) × (nat_eq n k ≡ true) = both (nat_eq g h) (nat_eq n k) e in
    ap₂ Private (eqb-true g h p.0) (eqb-true n k p.1)

pub key-itself : (a : FamilyKey) → is_same_key a a ≡ true
key-itself (Shared a) = (bytes_eq-Decides a a).1 refl
key-itself (Private g n) = ap₂ (λ a b. a && b) (eq-eqb g g refl) (eq-eqb n n refl)

in-kept : (key k j : FamilyKey) (ks : List FamilyKey) (b : Bool) → In key (without k ks) → In key (cond b (without k ks) (j ∷ without k ks))
in-kept key k j ks true h = h
in-kept key k j ks false h = inr h

in-without : (key k : FamilyKey) (ks : List FamilyKey) → In key ks → is_same_key k key ≡ false → In key (without k ks)
in-without key k [] h f = absurd h
in-without key k (j ∷ ks) (inl h) f =
    rw (ap (is_same_key k) (sym h) ∙ f) (inl h)
in-without key k (j ∷ ks) (inr h) f =
    in-kept key k j ks (is_same_key k j) (in-without key k ks h f)

pub in-first_keys : (key : FamilyKey) (ks : List FamilyKey) → In key ks → In key (first_keys ks)
in-first_keys key [] h = absurd h
in-first_keys key (k ∷ ks) (inl h) = inl h
in-first_keys key (k ∷ ks) (inr h) =
    elim (cases_Bool (is_same_key k key)) [
      | inl t ↦ inl (sym (same-key k key t))
      | inr f ↦ inr (in-without key k (first_keys ks) (in-first_keys key ks h) f)
    ]

other-key : (key k : FamilyKey) → is_same_key key k ≡ false → ¬ (key ≡ k)
other-key key k f e = true≢false (sym (key-itself key) ∙ ap (is_same_key key) e ∙ f)

-- ---- where a family is placed

module _ (ss : List SegmentStorage) (rs : List Range) where
  last-after : (e : ℕ) (ks : List FamilyKey) → e ≤ last_end_of e (placed_from ss rs e ks)
  last-after e [] = omega arith
  last-after e (k ∷ ks) =
      let x : ℕ = key_extent ss k in
      omega (arith, first_fit-after rs x e, last-after (first_fit rs x e + x) ks)

  -- what holds of a family that is placed
  pub record Fits (key : FamilyKey) (e : ℕ) (ps : List Placed) : Type 0 where
    pub after : e ≤ start_of key ps
    pub before : start_of key ps + key_extent ss key ≤ last_end_of e ps
    pub clear : (r : Range) → In r rs → meets (start_of key ps) (key_extent ss key) r ≡ false

  start-same : (key : FamilyKey) (e : ℕ) (k : FamilyKey) (ks : List FamilyKey) → is_same_key key k ≡ true → start_of key (placed_from ss rs e (k ∷ ks)) ≡ first_fit rs (key_extent ss k) e
  start-same key e k ks t =
      let x : ℕ = key_extent ss k in
      ap (λ b. cond b (first_fit rs x e) (start_of key (placed_from ss rs (first_fit rs x e + x) ks))) t

  start-other : (key : FamilyKey) (e : ℕ) (k : FamilyKey) (ks : List FamilyKey) → is_same_key key k ≡ false → start_of key (placed_from ss rs e (k ∷ ks)) ≡ start_of key (placed_from ss rs (first_fit rs (key_extent ss k) e + key_extent ss k) ks)
  start-other key e k ks f =
      let x : ℕ = key_extent ss k in
      ap (λ b. cond b (first_fit rs x e) (start_of key (placed_from ss rs (first_fit rs x e + x) ks))) f

  in-rest : (key k : FamilyKey) (ks : List FamilyKey) → In key (k ∷ ks) → is_same_key key k ≡ false → In key ks
  in-rest key k ks (inl h) f = absurd (other-key key k f h)
  in-rest key k ks (inr h) f = h

  fits-first : (key : FamilyKey) (e : ℕ) (k : FamilyKey) (ks : List FamilyKey) → is_same_key key k ≡ true → Fits key e (placed_from ss rs e (k ∷ ks))
  fits-first key e k ks t =
      let x : ℕ = key_extent ss k in
      let s : start_of key (placed_from ss rs e (k ∷ ks)) ≡ first_fit rs x e = start-same key e k ks t in
      let y : key_extent ss key ≡ x = ap (key_extent ss) (same-key key k t) in
      record {
        after = omega (arith, s, first_fit-after rs x e);
        before = omega (arith, s, y, last-after (first_fit rs x e + x) ks);
        clear = λ r h.
            let p : (k : ℕ) × (slice_get rs k ≡ Some r) = in-place r rs h in
            ap₂ (λ a n. meets a n r) s y ∙ first_fit-clear rs x e p.0 r p.1;
      }

  fits-rest : (key : FamilyKey) (e : ℕ) (k : FamilyKey) (ks : List FamilyKey) → is_same_key key k ≡ false → Fits key (first_fit rs (key_extent ss k) e + key_extent ss k) (placed_from ss rs (first_fit rs (key_extent ss k) e + key_extent ss k) ks) → Fits key e (placed_from ss rs e (k ∷ ks))
  fits-rest key e k ks f h =
      let x : ℕ = key_extent ss k in
      let s : start_of key (placed_from ss rs e (k ∷ ks)) ≡ start_of key (placed_from ss rs (first_fit rs x e + x) ks) = start-other key e k ks f in
      record {
        after = omega (arith, s, first_fit-after rs x e, h.after);
        before = omega (arith, s, h.before);
        clear = λ r m. ap (λ a. meets a (key_extent ss key) r) s ∙ h.clear r m;
      }

  pub fits : (e : ℕ) (ks : List FamilyKey) (key : FamilyKey) → In key ks → Fits key e (placed_from ss rs e ks)
  fits e [] key h = absurd h
  fits e (k ∷ ks) key h =
      elim (cases_Bool (is_same_key key k)) [
        | inl t ↦ fits-first key e k ks t
        | inr f ↦ fits-rest key e k ks f (fits (first_fit rs (key_extent ss k) e + key_extent ss k) ks key (in-rest key k ks h f))
      ]

  -- one of two families is before the other
  abbrev pub AreApart : (a b : FamilyKey) → List Placed → Type 0
  AreApart a b ps = (start_of a ps + key_extent ss a ≤ start_of b ps) ⊎ (start_of b ps + key_extent ss b ≤ start_of a ps)

  before-rest : (a b : FamilyKey) (e : ℕ) (k : FamilyKey) (ks : List FamilyKey) → is_same_key a k ≡ true → is_same_key b k ≡ false → In b ks → start_of a (placed_from ss rs e (k ∷ ks)) + key_extent ss a ≤ start_of b (placed_from ss rs e (k ∷ ks))
  before-rest a b e k ks t f h =
      let x : ℕ = key_extent ss k in
      let s : start_of a (placed_from ss rs e (k ∷ ks)) ≡ first_fit rs x e = start-same a e k ks t in
      let y : key_extent ss a ≡ x = ap (key_extent ss) (same-key a k t) in
      let r : start_of b (placed_from ss rs e (k ∷ ks)) ≡ start_of b (placed_from ss rs (first_fit rs x e + x) ks) = start-other b e k ks f in
      let after : first_fit rs x e + x ≤ start_of b (placed_from ss rs (first_fit rs x e + x) ks) = (fits (first_fit rs x e + x) ks b h).after in
      omega (arith, s, y, r, after)

  apart-rest : (a b : FamilyKey) (e : ℕ) (k : FamilyKey) (ks : List FamilyKey) → is_same_key a k ≡ false → is_same_key b k ≡ false → AreApart a b (placed_from ss rs (first_fit rs (key_extent ss k) e + key_extent ss k) ks) → AreApart a b (placed_from ss rs e (k ∷ ks))
  apart-rest a b e k ks f g (inl h) = inl (omega (arith, start-other a e k ks f, start-other b e k ks g, h))
  apart-rest a b e k ks f g (inr h) = inr (omega (arith, start-other a e k ks f, start-other b e k ks g, h))

  pub apart : (e : ℕ) (ks : List FamilyKey) (a b : FamilyKey) → ¬ (a ≡ b) → In a ks → In b ks → AreApart a b (placed_from ss rs e ks)
  apart e [] a b d h g = absurd h
  apart e (k ∷ ks) a b d h g =
      elim (cases_Bool (is_same_key a k)) [
        | inl t ↦ elim (cases_Bool (is_same_key b k)) [
          | inl u ↦ absurd (d (same-key a k t ∙ sym (same-key b k u)))
          | inr f ↦ inl (before-rest a b e k ks t f (in-rest b k ks g f))
        ]
        | inr f ↦ elim (cases_Bool (is_same_key b k)) [
          | inl u ↦ inr (before-rest b a e k ks u f (in-rest a k ks h f))
          | inr v ↦
              apart-rest a b e k ks f v
              (apart (first_fit rs (key_extent ss k) e + key_extent ss k) ks a b d (in-rest a k ks h f) (in-rest b k ks g v))
        ]
      ]
