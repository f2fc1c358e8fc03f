-- Names by their numbers.
use Rattle.std.proofs.Common.{◌≡◌, ℕ, zero, suc, ◌+◌, ◌<◌, ◌≤◌, max, cond, nat_eq, List, [], ◌∷◌, map, length, Option, Some, option_map, slice_get, get_or, drop, refl, sym, ap, ap₂, subst, ◌∙◌, arith, inl, inr}
use Rattle.std.proofs.lemmas.Bool.{cases_eq, eq-eqb, ne_eqb, false_from_ne_true}
use Rattle.std.proofs.lemmas.List.{get_or_read, drop_all, drop_more}
use Rattle.std.proofs.lemmas.Option.{none-some, same_Some, slice_get_within, get_or_from_slice_get, slice_get-map, slice_get-get_or, slice_get_read}
use Rattle.std.proofs.lemmas.Slice.Eq.{bytes_eq-Decides}
use Rattle.cw_unit.specs.declared.layout.Family.{Family}
use Rattle.cw_unit.specs.declared.layout.Sort.{Sort}
use Rattle.cw_unit.specs.declared.layout.Sort.TheVariants as sort
use Rattle.cw_unit.specs.Allocation.{Name, is_same_name, name_or_none, name_at, extent_of_name, extent_in_segment, common_extent, SegmentStorage}
use Rattle.cw_comm.specs.declared.face.Agreed.{Agreed}
use Rattle.cw_place.specs.declared.space.Space.{Space}
use Rattle.cw_place.specs.Segments.{numbers_of, names_of, storage_from, segment_storage, IsOfDescriptor, AreOf}

abbrev some : {A : Type 0} → A → Option A
some x = Some x

-- names are the same exactly where their numbers are
pub same_number : (agreed : Agreed) (spaces : List Space) → AreOf agreed spaces → (j k : ℕ) → j < length agreed.names → k < length agreed.names → is_same_name (name_at agreed.names j) (name_at agreed.names k) ≡ nat_eq j k
same_number agreed spaces of j k lj lk =
    let a = name_at agreed.names j in
    let b = name_at agreed.names k in
    elim (cases_eq j k) [
      | inl e ↦ (bytes_eq-Decides a b).1 (ap (name_at agreed.names) e) ∙ sym (eq-eqb j k e)
      | inr ne ↦ false_from_ne_true (is_same_name a b) (λ t. ne (of.once j k lj lk ((bytes_eq-Decides a b).0 t))) ∙ sym (ne_eqb j k ne)
    ]

-- the name of a descriptor is that of its number
pub name_is : (agreed : Agreed) (g d : ℕ) → d < length (numbers_of agreed g) → name_at (names_of agreed g) d ≡ name_at agreed.names (get_or (numbers_of agreed g) d 0)
name_is agreed g d lt =
    ap name_or_none (slice_get-map (name_at agreed.names) (numbers_of agreed g) d ∙ ap (option_map (name_at agreed.names)) (slice_get-get_or (numbers_of agreed g) d 0 lt))

pub number_below : (agreed : Agreed) (spaces : List Space) → AreOf agreed spaces → (g d : ℕ) → d < length (numbers_of agreed g) → get_or (numbers_of agreed g) d 0 < length agreed.names
number_below agreed spaces of g d lt = of.numbers g d 0 lt

of-common : (count : ℕ) (s : Sort) (d : ℕ) → s ≡ sort.Common d → IsOfDescriptor count s → d < count
of-common count s d e h = subst (IsOfDescriptor count) e h

pub descriptor_below : (agreed : Agreed) (spaces : List Space) → AreOf agreed spaces → (g : ℕ) (s : Space) → g < length spaces → s ≡ get_or spaces g s → (n d : ℕ) (f : Family) → n < length s.families → (get_or s.families n f).sort ≡ sort.Common d → d < length (numbers_of agreed g)
descriptor_below agreed spaces of g s lt is n d f ln e =
    of-common _ (get_or s.families n f).sort d e (of.own g s (slice_get_read spaces (length spaces) g s refl lt is) n f ln)

-- ---- extents of names

-- one family more
pub next_extent : (name : Name) (names : List Name) (fs : List Family) (n : ℕ) (d : Family) (before after whole : ℕ) → n < length fs
    → after ≡ max before (extent_of_name name names (get_or fs n d).sort (get_or fs n d).extent)
    → max before (extent_in_segment name names (drop n fs)) ≡ whole → max after (extent_in_segment name names (drop (n + 1) fs)) ≡ whole
next_extent name names fs n d before after whole lt is h =
    let split : extent_in_segment name names (drop n fs) ≡ max (extent_of_name name names (get_or fs n d).sort (get_or fs n d).extent) (extent_in_segment name names (drop (n + 1) fs)) = ap (extent_in_segment name names) (drop_more fs n d lt) in
    omega (arith, split, is, h)

-- what a common family gives a name
pub common_gives : (agreed : Agreed) (spaces : List Space) → AreOf agreed spaces → (g d k x : ℕ) (s : Sort) → s ≡ sort.Common d → d < length (numbers_of agreed g) → k < length agreed.names → extent_of_name (name_at agreed.names k) (names_of agreed g) s x ≡ cond (nat_eq k (get_or (numbers_of agreed g) d 0)) x 0
common_gives agreed spaces of g d k x s e ld lk =
    ap (λ t. extent_of_name (name_at agreed.names k) (names_of agreed g) t x) e
    ∙ ap (λ m. cond (is_same_name (name_at agreed.names k) m) x 0) (name_is agreed g d ld)
    ∙ ap (λ b. cond b x 0) (same_number agreed spaces of k (get_or (numbers_of agreed g) d 0) lk (number_below agreed spaces of g d ld))

-- what is read is these
pub numbers_read : (agreed : Agreed) (spaces : List Space) → AreOf agreed spaces → (g : ℕ) (numbers : List ℕ) → g < length spaces → numbers ≡ get_or agreed.of g numbers → numbers ≡ numbers_of agreed g
numbers_read agreed spaces of g numbers lt is = get_or_read agreed.of g numbers (omega (arith, lt, of.segments)) is []

pub other_gives : (name : Name) (names : List Name) (s : Sort) (x : ℕ) → ((d : ℕ) → s ≡ sort.Common d → ⊥) → extent_of_name name names s x ≡ 0
other_gives name names (sort.Common d) x h = absurd (h d refl)
other_gives name names _ x h = refl

same_max : (a b : ℕ) → b ≡ 0 → a ≡ max a b
same_max a b h = omega arith

pub unchanged : (name : Name) (names : List Name) (f : Family) (before after : ℕ) → after ≡ before → ((d : ℕ) → f.sort ≡ sort.Common d → ⊥) → after ≡ max before (extent_of_name name names f.sort f.extent)
unchanged name names f before after e h = e ∙ same_max before _ (other_gives name names f.sort f.extent h)

pub common_read : (agreed : Agreed) (spaces : List Space) → AreOf agreed spaces → (g d k x : ℕ) (s : Sort) (numbers : List ℕ) → numbers ≡ numbers_of agreed g → s ≡ sort.Common d → d < length (numbers_of agreed g) → k < length agreed.names
    → extent_of_name (name_at agreed.names k) (map (name_at agreed.names) numbers) s x ≡ cond (nat_eq k (get_or numbers d 0)) x 0
common_read agreed spaces of g d k x s numbers are e ld lk =
    subst (λ (ns : List ℕ). extent_of_name (name_at agreed.names k) (map (name_at agreed.names) ns) s x ≡ cond (nat_eq k (get_or ns d 0)) x 0) (sym are) (common_gives agreed spaces of g d k x s e ld lk)

pub raised_all : (name : Name) (names names' : List Name) (fs fs' : List Family) (n before after : ℕ) → names ≡ names' → fs ≡ fs' → length fs ≤ n
    → max after (extent_in_segment name names (drop n fs)) ≡ max before (extent_in_segment name names fs) → after ≡ max before (extent_in_segment name names' fs')
raised_all name names names' fs fs' n before after e f le h =
    let none : extent_in_segment name names (drop n fs) ≡ 0 = ap (extent_in_segment name names) (drop_all n fs le) in
    let same : extent_in_segment name names fs ≡ extent_in_segment name names' fs' = ap₂ (extent_in_segment name) e f in
    omega (arith, none, same, h)

-- ---- extents of all segments

pub storage_at : (g k : ℕ) (agreed : Agreed) (spaces : List Space) (s : Space) → slice_get spaces k ≡ Some s → slice_get (storage_from g agreed spaces) k ≡ Some (record { names = names_of agreed (g + k); families = s.families })
storage_at g k agreed [] s is = absurd (none-some s is)
storage_at g zero agreed (t ∷ ss) s is = let at : g ≡ g + 0 = omega arith in ap₂ (λ m (x : Space). some (record { names = names_of agreed m; families = x.families })) at (same_Some t s is)
storage_at g (suc k) agreed (t ∷ ss) s is = let at : g + 1 + k ≡ g + suc k = omega arith in storage_at (g + 1) k agreed ss s is ∙ ap (λ m. some (record { names = names_of agreed m; families = s.families })) at

pub storage_length : (g : ℕ) (agreed : Agreed) (spaces : List Space) → length (storage_from g agreed spaces) ≡ length spaces
storage_length g agreed [] = refl
storage_length g agreed (s ∷ ss) = ap suc (storage_length (g + 1) agreed ss)

pub storage_read : (agreed : Agreed) (spaces : List Space) (k : ℕ) (s : Space) → slice_get spaces k ≡ Some s → slice_get (segment_storage agreed spaces) k ≡ Some (record { names = names_of agreed k; families = s.families })
storage_read agreed spaces k s is = let at : 0 + k ≡ k = omega arith in storage_at 0 k agreed spaces s is ∙ ap (λ m. some (record { names = names_of agreed m; families = s.families })) at

drop-read : (ss : List SegmentStorage) (k : ℕ) (s : SegmentStorage) → slice_get ss k ≡ Some s → drop k ss ≡ s ∷ drop (k + 1) ss
drop-read ss k s is =
    let lt = slice_get_within ss k s is in
    drop_more ss k s lt ∙ ap (λ x. x ∷ drop (k + 1) ss) (get_or_from_slice_get ss k s s is)

-- one segment more
pub next_segment : (agreed : Agreed) (spaces : List Space) (name : Name) (g before after whole : ℕ) → g < length spaces
    → ((s : Space) → slice_get spaces g ≡ Some s → after ≡ max before (extent_in_segment name (names_of agreed g) s.families))
    → max before (common_extent name (drop g (segment_storage agreed spaces))) ≡ whole → max after (common_extent name (drop (g + 1) (segment_storage agreed spaces))) ≡ whole
next_segment agreed spaces name g before after whole lt is h =
    let none : Space = record { families = []; need = 0 } in
    let s : Space = get_or spaces g none in
    let found : slice_get spaces g ≡ Some s = slice_get-get_or spaces g none lt in
    let split : common_extent name (drop g (segment_storage agreed spaces)) ≡ max (extent_in_segment name (names_of agreed g) s.families) (common_extent name (drop (g + 1) (segment_storage agreed spaces))) =
    ap (common_extent name) (drop-read (segment_storage agreed spaces) g _ (storage_read agreed spaces g s found)) in
    omega (arith, is s found, split, h)

pub all_segments : (agreed : Agreed) (spaces : List Space) (name : Name) (g now : ℕ) → length spaces ≤ g → max now (common_extent name (drop g (segment_storage agreed spaces))) ≡ common_extent name (segment_storage agreed spaces) → now ≡ common_extent name (segment_storage agreed spaces)
all_segments agreed spaces name g now le h =
    let none : common_extent name (drop g (segment_storage agreed spaces)) ≡ 0 = ap (common_extent name) (drop_all g (segment_storage agreed spaces) (omega (arith, le, storage_length 0 agreed spaces))) in
    omega (arith, none, h)
