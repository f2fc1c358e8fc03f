-- Families that are placed, one more each time.
use Rattle.std.proofs.Common.{◌≡◌, ℕ, ◌+◌, ◌<◌, Bool, true, false, cond, nat_eq, List, [], ◌∷◌, ◌++◌, length, set, get_or, Option, Some, None, refl, sym, ap, ◌∙◌, arith, inl, inr, append-nil}
use Rattle.std.specs.Prelude.{unwrap_or}
use Rattle.std.proofs.lemmas.Bool.{cases_Bool, cases_eq, ne_eqb, false_from_ne_true, true≢false}
use Rattle.std.proofs.lemmas.List.{get_or-set_same, get_or-set_other}
use Rattle.std.proofs.lemmas.Option.{none-some}
use Rattle.cw_unit.specs.Allocation.{name_at, FamilyKey, Shared, Private, is_same_key, SegmentStorage, Range, absolute_ranges, key_extent, first_keys, first_fit, Placed, placed_from, last_end_of, start_of}
use Rattle.cw_unit.proofs.Placing.{In, same-key, key-itself, in-first_keys}
use Rattle.cw_comm.specs.declared.face.Agreed.{Agreed}
use Rattle.cw_place.specs.declared.space.Space.{Space}
use Rattle.cw_place.specs.Segments.{AreOf}
use Rattle.cw_place.specs.Placing.{placed_by, told_address, with_told_start, told, start_if_placed}
use Rattle.cw_place.proofs.Keys.{first_more, has, has_from, from_has, from_first}
use Rattle.cw_place.proofs.Numbers.{same_number}

-- ---- joined lists

pub placed_append : (ss : List SegmentStorage) (rs : List Range) (e : ℕ) (xs ys : List FamilyKey) → placed_from ss rs e (xs ++ ys) ≡ placed_from ss rs e xs ++ placed_from ss rs (last_end_of e (placed_from ss rs e xs)) ys
placed_append ss rs e [] ys = refl
placed_append ss rs e (x ∷ xs) ys =
    let a = first_fit rs (key_extent ss x) e in
    ap (λ ps. record { key = x; start = a; extent = key_extent ss x } ∷ ps) (placed_append ss rs (a + key_extent ss x) xs ys)

pub last_append : (e : ℕ) (ps qs : List Placed) → last_end_of e (ps ++ qs) ≡ last_end_of (last_end_of e ps) qs
last_append e [] qs = refl
last_append e (p ∷ ps) qs = last_append (p.start + p.extent) ps qs

pub told_append : (ps qs : List Placed) → told (ps ++ qs) ≡ told ps ++ told qs
told_append [] qs = refl
told_append (p ∷ ps) qs = ap (λ xs. with_told_start p ∷ xs) (told_append ps qs)

found-if : (b : Bool) (a x : ℕ) (o o' : Option ℕ) → (o ≡ Some x → o' ≡ Some x) → cond b (Some a) o ≡ Some x → cond b (Some a) o' ≡ Some x
found-if true a x o o' h e = e
found-if false a x o o' h e = h e

pub found_first : (key : FamilyKey) (ps qs : List Placed) (x : ℕ) → start_if_placed key ps ≡ Some x → start_if_placed key (ps ++ qs) ≡ Some x
found_first key [] qs x e = absurd (none-some x e)
found_first key (p ∷ ps) qs x e = found-if (is_same_key key p.key) p.start x _ _ (found_first key ps qs x) e

absent-if : (b : Bool) (a : ℕ) (o o' z : Option ℕ) → (o ≡ None → o' ≡ z) → cond b (Some a) o ≡ None → cond b (Some a) o' ≡ z
absent-if true a o o' z h e = absurd (none-some a (sym e))
absent-if false a o o' z h e = h e

found-second : (key : FamilyKey) (ps qs : List Placed) → start_if_placed key ps ≡ None → start_if_placed key (ps ++ qs) ≡ start_if_placed key qs
found-second key [] qs e = refl
found-second key (p ∷ ps) qs e = absent-if (is_same_key key p.key) p.start _ _ (start_if_placed key qs) (found-second key ps qs) e

start-if : (b : Bool) (a n : ℕ) (o : Option ℕ) → n ≡ unwrap_or o 0 → cond b a n ≡ unwrap_or (cond b (Some a) o) 0
start-if true a n o h = refl
start-if false a n o h = h

start-is : (key : FamilyKey) (ps : List Placed) → start_of key ps ≡ unwrap_or (start_if_placed key ps) 0
start-is key [] = refl
start-is key (p ∷ ps) = start-if (is_same_key key p.key) p.start (start_of key ps) (start_if_placed key ps) (start-is key ps)

pub start_found : (key : FamilyKey) (ps : List Placed) (a : ℕ) → start_if_placed key ps ≡ Some a → a ≡ start_of key ps
start_found key ps a e = sym (start-is key ps ∙ ap (λ o. unwrap_or o 0) e)

-- ---- what is placed

abbrev some : ℕ → Option ℕ
some x = Some x

there-if : (b : Bool) (a : ℕ) (o : Option ℕ) → (b ≡ false → (x : ℕ) × (o ≡ Some x)) → (x : ℕ) × (cond b (Some a) o ≡ Some x)
there-if true a o h = (a, refl)
there-if false a o h = h refl

pub there : (ss : List SegmentStorage) (rs : List Range) (e : ℕ) (ks : List FamilyKey) (key : FamilyKey) → In key ks → (x : ℕ) × (start_if_placed key (told (placed_from ss rs e ks)) ≡ Some x)
there ss rs e [] key h = absurd h
there ss rs e (k ∷ ks) key (inl is) =
    let a = first_fit rs (key_extent ss k) e in
    there-if (is_same_key key k) (told_address a) _ (λ f. absurd (true≢false (sym (ap (is_same_key key) (sym is) ∙ key-itself key) ∙ f)))
there ss rs e (k ∷ ks) key (inr h) =
    let a = first_fit rs (key_extent ss k) e in
    there-if (is_same_key key k) (told_address a) _ (λ f. there ss rs (a + key_extent ss k) ks key h)

absent-one : (b : Bool) (a : ℕ) (o : Option ℕ) → b ≡ false → o ≡ None → cond b (Some a) o ≡ None
absent-one true a o f e = absurd (true≢false f)
absent-one false a o f e = e

pub absent : (ss : List SegmentStorage) (rs : List Range) (e : ℕ) (ks : List FamilyKey) (key : FamilyKey) → (In key ks → ⊥) → start_if_placed key (told (placed_from ss rs e ks)) ≡ None
absent ss rs e [] key h = refl
absent ss rs e (k ∷ ks) key h =
    let a = first_fit rs (key_extent ss k) e in
    absent-one (is_same_key key k) (told_address a) _ (false_from_ne_true (is_same_key key k) (λ t. h (inl (same-key key k t)))) (absent ss rs (a + key_extent ss k) ks key (λ i. h (inr i)))

pub not_placed : (ss : List SegmentStorage) (ks : List FamilyKey) (key : FamilyKey) → (In key ks → ⊥) → start_if_placed key (told (placed_by ss ks)) ≡ None
not_placed ss ks key h = absent ss (absolute_ranges ss) 0 (first_keys ks) key (λ i. h (from_first key ks i))

-- the family of a new key in its place
abbrev pub next_placed : List SegmentStorage → List Placed → FamilyKey → Placed
next_placed ss ps k = record { key = k; start = first_fit (absolute_ranges ss) (key_extent ss k) (last_end_of 0 ps); extent = key_extent ss k }

pub new_key : (ss : List SegmentStorage) (ks : List FamilyKey) (k : FamilyKey) → start_if_placed k (told (placed_by ss ks)) ≡ None → placed_by ss (ks ++ k ∷ []) ≡ placed_by ss ks ++ next_placed ss (placed_by ss ks) k ∷ []
new_key ss ks k none =
    let rs = absolute_ranges ss in
    elim (cases_Bool (has ks k)) [
      | inl t ↦
          let p = there ss rs 0 (first_keys ks) k (in-first_keys k ks (from_has ks k t)) in
          absurd (none-some p.0 (sym none ∙ p.1))
      | inr f ↦ ap (placed_from ss rs 0) (first_more ks k ∙ ap (λ b. first_keys ks ++ cond b [] (k ∷ [])) f) ∙ placed_append ss rs 0 (first_keys ks) (k ∷ [])
    ]

pub old_key : (ss : List SegmentStorage) (ks : List FamilyKey) (k : FamilyKey) (a : ℕ) → start_if_placed k (told (placed_by ss ks)) ≡ Some a → placed_by ss (ks ++ k ∷ []) ≡ placed_by ss ks
old_key ss ks k a e =
    let rs = absolute_ranges ss in
    elim (cases_Bool (has ks k)) [
      | inl t ↦ ap (placed_from ss rs 0) (first_more ks k ∙ ap (λ b. first_keys ks ++ cond b [] (k ∷ [])) t ∙ append-nil (first_keys ks))
      | inr f ↦ absurd (none-some a (sym (not_placed ss ks k (λ i. true≢false (sym (has_from ks k i) ∙ f))) ∙ e))
    ]

-- ---- the starts of names

unchanged : (key : FamilyKey) (ps : List Placed) (q : Placed) → is_same_key key q.key ≡ false → start_if_placed key (told (ps ++ q ∷ [])) ≡ start_if_placed key (told ps)
unchanged key [] q f = ap (λ b. cond b (some (told_address q.start)) None) f
unchanged key (p ∷ ps) q f = ap (λ o. cond (is_same_key key p.key) (some (told_address p.start)) o) (unchanged key ps q f)

placed-last : (key : FamilyKey) (ps : List Placed) (q : Placed) → start_if_placed key (told ps) ≡ None → is_same_key key q.key ≡ true → start_if_placed key (told (ps ++ q ∷ [])) ≡ Some (told_address q.start)
placed-last key ps q none t =
    ap (start_if_placed key) (told_append ps (q ∷ [])) ∙ found-second key (told ps) (told (q ∷ [])) none ∙ ap (λ b. cond b (some (told_address q.start)) None) t

pub start_last : (key : FamilyKey) (ps : List Placed) (q : Placed) → start_if_placed key (told ps) ≡ None → q.key ≡ key → told_address q.start ≡ start_of key (told (ps ++ q ∷ []))
start_last key ps q none is = start_found key (told (ps ++ q ∷ [])) (told_address q.start) (placed-last key ps q none (ap (is_same_key key) is ∙ key-itself key))

abbrev pub AreStarts : Agreed → List Placed → List (Option ℕ) → Type 0
AreStarts agreed ps starts = (k : ℕ) → k < length agreed.names → get_or starts k None ≡ start_if_placed (Shared (name_at agreed.names k)) (told ps)

pub starts_own : (agreed : Agreed) (ps : List Placed) (starts : List (Option ℕ)) (q : Placed) (g n : ℕ) → q.key ≡ Private g n → AreStarts agreed ps starts → AreStarts agreed (ps ++ q ∷ []) starts
starts_own agreed ps starts q g n is h k lt = h k lt ∙ sym (unchanged (Shared (name_at agreed.names k)) ps q (ap (is_same_key (Shared (name_at agreed.names k))) is))

pub starts_common : (agreed : Agreed) (spaces : List Space) → AreOf agreed spaces → (ps : List Placed) (starts starts' : List (Option ℕ)) (q : Placed) (number : ℕ) → number < length agreed.names → length starts ≡ length agreed.names → q.key ≡ Shared (name_at agreed.names number)
    → starts' ≡ set starts number (Some (told_address q.start)) → AreStarts agreed ps starts → get_or starts number None ≡ None → AreStarts agreed (ps ++ q ∷ []) starts'
starts_common agreed spaces of ps starts starts' q number below count is new h none k lt =
    let key : FamilyKey = Shared (name_at agreed.names k) in
    let same : is_same_key key q.key ≡ nat_eq k number = ap (is_same_key key) is ∙ same_number agreed spaces of k number lt below in
    elim (cases_eq k number) [
      | inl e ↦
          let at : number < length starts = omega (arith, below, count) in
          let absent_ : start_if_placed key (told ps) ≡ None = sym (h k lt) ∙ ap (λ j. get_or starts j None) e ∙ none in
          ap (λ (xs : List (Option ℕ)). get_or xs k None) new ∙ ap (λ j. get_or (set starts number (some (told_address q.start))) j None) e ∙ get_or-set_same starts number (some (told_address q.start)) None at
          ∙ sym (placed-last key ps q absent_ (ap (is_same_key key) is ∙ ap (λ j. is_same_key (Shared (name_at agreed.names j)) (Shared (name_at agreed.names number))) e ∙ key-itself (Shared (name_at agreed.names number))))
      | inr ne ↦
          ap (λ (xs : List (Option ℕ)). get_or xs k None) new ∙ get_or-set_other starts number k (some (told_address q.start)) None ne ∙ h k lt
          ∙ sym (unchanged key ps q (same ∙ ne_eqb k number ne))
    ]
