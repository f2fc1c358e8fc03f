-- The families before one of a segment, and those before the next.
use Rattle.std.proofs.Common.{◌≡◌, ℕ, ◌+◌, ◌<◌, ◌≤◌, List, [], ◌∷◌, ◌++◌, length, set, get_or, Option, Some, None, slice_get, Vec, Global, refl, sym, ap, ap₂, ◌∙◌, append-nil, arith}
use Rattle.std.proofs.lemmas.List.{length-set, get_or_default}
use Rattle.std.proofs.lemmas.Option.{slice_get-get_or, slice_get_read, get_or_from_slice_get}
use Rattle.cw_unit.specs.declared.layout.Family.{Family}
use Rattle.cw_unit.specs.declared.layout.Sort.{Sort}
use Rattle.cw_unit.specs.declared.layout.Sort.TheVariants as sort
use Rattle.cw_unit.specs.Allocation.{Name, name_at, FamilyKey, Shared, Private, absolute_ranges, extent_of_family, extent_in_storage, key_extent, first_fit, Placed, last_end_of, start_of, placed_key, family_address}
use Rattle.cw_comm.specs.declared.face.Agreed.{Agreed}
use Rattle.cw_place.specs.declared.space.Space.{Space}
use Rattle.cw_place.specs.declared.sweep.Span.{Span}
use Rattle.cw_place.specs.declared.sweep.Sweep.{Sweep}
use Rattle.cw_place.specs.declared.placing.Placing.{Placing}
use Rattle.cw_place.specs.Sweep.{ranges_of, ArePassed}
use Rattle.cw_place.specs.Segments.{numbers_of, names_of, segment_storage, AreOf}
use Rattle.cw_place.specs.Placement.{told_words}
use Rattle.cw_place.specs.Placing.{AreSweptFor, keys_before, placed_by, placed_before, told_address, told, start_if_placed, HasPlaced}
use Rattle.cw_place.proofs.Keys.{next_family, own_is_new}
use Rattle.cw_place.proofs.Numbers.{name_is, numbers_read, number_below, descriptor_below, storage_read}
use Rattle.cw_place.proofs.Placed.{last_append, not_placed, next_placed, new_key, old_key, start_last, starts_own, starts_common}

-- ---- a family of a segment

pub record Here (spaces : List Space) (g n : ℕ) (s : Space) (f : Family) : Type 0 where
  pub segment : slice_get spaces g ≡ Some s
  pub family : slice_get s.families n ≡ Some f

-- what is read is this one
pub read_here : (spaces : List Space) (g n : ℕ) (s : Space) (f : Family) → Here spaces g n s f → (t : Space) (fs : List Family) (d : Family) → t ≡ get_or spaces g t → fs ≡ t.families → get_or fs n d ≡ f
read_here spaces g n s f here t fs d is are =
    let same : t ≡ s = is ∙ get_or_from_slice_get spaces g s t here.segment in
    ap (λ (xs : List Family). get_or xs n d) (are ∙ ap (λ (x : Space). x.families) same) ∙ get_or_from_slice_get s.families n f d here.family

pub is_here : (spaces : List Space) (g n : ℕ) (t : Space) (d : Family) → g < length spaces → t ≡ get_or spaces g t → ((s : Space) → slice_get spaces g ≡ Some s → n < length s.families) → Here spaces g n t (get_or t.families n d)
is_here spaces g n t d lt is within =
    let found : slice_get spaces g ≡ Some t = slice_get_read spaces (length spaces) g t refl lt is in
    record { segment = found; family = slice_get-get_or t.families n d (within t found) }

-- a family that is not there
abbrev pub no_family : Family
no_family = record { sort = sort.Common 0; extent = 0 }

-- a family of this sort, at its place
pub record OfSort (spaces : List Space) (g n : ℕ) (fs : List Family) (s : Space) (f : Family) (x : Sort) : Type 0 where
  pub here : Here spaces g n s f
  pub read : get_or fs n no_family ≡ f
  pub sorted : f.sort ≡ x

-- What was read of the family is so of it where it is known by its place.
pub known_read : (spaces : List Space) (g n : ℕ) (s : Space) (f : Family) (t : Space) (fs : List Family) (x : Sort) → Here spaces g n s f → t ≡ get_or spaces g t → fs ≡ t.families → (get_or fs n no_family).sort ≡ x → OfSort spaces g n fs s f x
known_read spaces g n s f t fs x here is are e =
    let read = read_here spaces g n s f here t fs no_family is are in
    record { here = here; read = read; sorted = ap (λ (y : Family). y.sort) (sym read) ∙ e }

-- The same of the family that was read.
pub first_read : (spaces : List Space) (g n : ℕ) (t : Space) (fs : List Family) (x : Sort) → g < length spaces → t ≡ get_or spaces g t → ((s : Space) → slice_get spaces g ≡ Some s → n < length s.families) → fs ≡ t.families → (get_or fs n no_family).sort ≡ x
    → OfSort spaces g n fs t (get_or t.families n no_family) x
first_read spaces g n t fs x lt is within are e = known_read spaces g n t (get_or t.families n no_family) t fs x (is_here spaces g n t no_family lt is within) is are e

-- ---- a common family that is looked up

-- its number, and where it begins, if it is placed
pub record Looked (agreed : Agreed) (g d : ℕ) (ps : List Placed) (numbers : List ℕ) (table : List (Option ℕ)) (start : Option ℕ) : Type 0 where
  pub below : d < length (numbers_of agreed g)
  pub named : get_or numbers d 0 ≡ get_or (numbers_of agreed g) d 0
  pub known : get_or (numbers_of agreed g) d 0 < length agreed.names
  pub told_at : get_or table (get_or (numbers_of agreed g) d 0) None ≡ start
  pub placed : start_if_placed (Shared (name_at agreed.names (get_or (numbers_of agreed g) d 0))) (told ps) ≡ start

pub looked_up : (agreed : Agreed) (spaces : List Space) (of : AreOf agreed spaces) (spans : List Span) (ps : List Placed) (old : Placing) (has : HasPlaced agreed spans ps old) (g n d : ℕ) (t : Space) (fs : List Family) (numbers : List ℕ) (start : Option ℕ)
    → g < length spaces → t ≡ get_or spaces g t → ((s : Space) → slice_get spaces g ≡ Some s → n < length s.families) → fs ≡ t.families → (get_or fs n no_family).sort ≡ sort.Common d → numbers ≡ get_or agreed.of g numbers
    → start ≡ get_or old.starts.items (get_or numbers d 0) start → Looked agreed g d ps numbers old.starts.items start
looked_up agreed spaces of spans ps old has g n d t fs numbers start lt is within same e are at =
    let q = first_read spaces g n t fs (sort.Common d) lt is within same e in
    let below = descriptor_below agreed spaces of g t lt is n d no_family (within t q.here.segment) q.sorted in
    let known = number_below agreed spaces of g d below in
    let named = ap (λ (ns : List ℕ). get_or ns d 0) (numbers_read agreed spaces of g numbers lt are) in
    let read = get_or_default old.starts.items (get_or (numbers_of agreed g) d 0) None start (omega (arith, known, has.count)) ∙ sym (at ∙ ap (λ k. get_or old.starts.items k start) named) in
    record { below = below; named = named; known = known; told_at = read; placed = sym (has.starts (get_or (numbers_of agreed g) d 0) known) ∙ read }

module _ (agreed : Agreed) (spaces : List Space) (of : AreOf agreed spaces) (g n : ℕ) (s : Space) (f : Family) (here : Here spaces g n s f) where
  next : (x : Sort) → f.sort ≡ x → placed_before agreed spaces g (n + 1) ≡ placed_by (segment_storage agreed spaces) (keys_before (segment_storage agreed spaces) g n ++ placed_key g (names_of agreed g) n x)
  next x e =
      ap (placed_by (segment_storage agreed spaces))
      (next_family (segment_storage agreed spaces) g n (record { names = names_of agreed g; families = s.families }) f (storage_read agreed spaces g s here.segment) here.family
      ∙ ap (λ y. keys_before (segment_storage agreed spaces) g n ++ placed_key g (names_of agreed g) n y) e)

  pub at_absolute : (a : ℕ) → f.sort ≡ sort.Absolute a → placed_before agreed spaces g (n + 1) ≡ placed_before agreed spaces g n
  at_absolute a e = next (sort.Absolute a) e ∙ ap (placed_by (segment_storage agreed spaces)) (append-nil (keys_before (segment_storage agreed spaces) g n))

  pub at_frame : (o : ℕ) → f.sort ≡ sort.Frame o → placed_before agreed spaces g (n + 1) ≡ placed_before agreed spaces g n
  at_frame o e = next (sort.Frame o) e ∙ ap (placed_by (segment_storage agreed spaces)) (append-nil (keys_before (segment_storage agreed spaces) g n))

  pub own_absent : start_if_placed (Private g n) (told (placed_before agreed spaces g n)) ≡ None
  own_absent = not_placed (segment_storage agreed spaces) (keys_before (segment_storage agreed spaces) g n) (Private g n) (own_is_new (segment_storage agreed spaces) g n)

  pub at_own : f.sort ≡ sort.Own → placed_before agreed spaces g (n + 1) ≡ placed_before agreed spaces g n ++ next_placed (segment_storage agreed spaces) (placed_before agreed spaces g n) (Private g n) ∷ []
  at_own e = next sort.Own e ∙ new_key (segment_storage agreed spaces) (keys_before (segment_storage agreed spaces) g n) (Private g n) own_absent

  pub own_extent : key_extent (segment_storage agreed spaces) (Private g n) ≡ f.extent
  own_extent = ap (λ o. extent_in_storage o n) (storage_read agreed spaces g s here.segment) ∙ ap extent_of_family here.family

  -- the name of a common family
  abbrev pub name_of : (d : ℕ) → Name
  name_of d = name_at agreed.names (get_or (numbers_of agreed g) d 0)

  common-key : (d : ℕ) → f.sort ≡ sort.Common d → d < length (numbers_of agreed g) → placed_before agreed spaces g (n + 1) ≡ placed_by (segment_storage agreed spaces) (keys_before (segment_storage agreed spaces) g n ++ Shared (name_of d) ∷ [])
  common-key d e lt = next (sort.Common d) e ∙ ap (λ m. placed_by (segment_storage agreed spaces) (keys_before (segment_storage agreed spaces) g n ++ Shared m ∷ [])) (name_is agreed g d lt)

  pub at_old : (d a : ℕ) → f.sort ≡ sort.Common d → d < length (numbers_of agreed g) → start_if_placed (Shared (name_of d)) (told (placed_before agreed spaces g n)) ≡ Some a → placed_before agreed spaces g (n + 1) ≡ placed_before agreed spaces g n
  at_old d a e lt old = common-key d e lt ∙ old_key (segment_storage agreed spaces) (keys_before (segment_storage agreed spaces) g n) (Shared (name_of d)) a old

  pub at_new : (d : ℕ) → f.sort ≡ sort.Common d → d < length (numbers_of agreed g) → start_if_placed (Shared (name_of d)) (told (placed_before agreed spaces g n)) ≡ None → placed_before agreed spaces g (n + 1) ≡ placed_before agreed spaces g n ++ next_placed (segment_storage agreed spaces) (placed_before agreed spaces g n) (Shared (name_of d)) ∷ []
  at_new d e lt none = common-key d e lt ∙ new_key (segment_storage agreed spaces) (keys_before (segment_storage agreed spaces) g n) (Shared (name_of d)) none

  -- the address of a common family
  pub common_address : (d : ℕ) (qs : List Placed) → f.sort ≡ sort.Common d → d < length (numbers_of agreed g) → family_address qs g (names_of agreed g) n f.sort ≡ start_of (Shared (name_of d)) qs
  common_address d qs e lt = ap (family_address qs g (names_of agreed g) n) e ∙ ap (λ m. start_of (Shared m) qs) (name_is agreed g d lt)

-- ---- one more is placed

module _ (agreed : Agreed) (spaces : List Space) (of : AreOf agreed spaces) (spans : List Span) (sw : AreSweptFor (segment_storage agreed spaces) spans) (ps : List Placed) (old : Placing) (has : HasPlaced agreed spans ps old) where
  fitted : (x : ℕ) (k : FamilyKey) → x ≡ key_extent (segment_storage agreed spaces) k → first_fit (ranges_of spans) x (last_end_of 0 ps) ≡ (next_placed (segment_storage agreed spaces) ps k).start
  fitted x k e = sw.fits x (last_end_of 0 ps) ∙ ap (λ y. first_fit (absolute_ranges (segment_storage agreed spaces)) y (last_end_of 0 ps)) e

  ended : (x : ℕ) (k : FamilyKey) → x ≡ key_extent (segment_storage agreed spaces) k → first_fit (ranges_of spans) x (last_end_of 0 ps) + x ≡ last_end_of 0 (ps ++ next_placed (segment_storage agreed spaces) ps k ∷ [])
  ended x k e = ap₂ (λ a b. a + b) (fitted x k e) e ∙ sym (last_append 0 ps (next_placed (segment_storage agreed spaces) ps k ∷ []))

  pub placed_own : (g n x : ℕ) (sweep : Sweep) → x ≡ key_extent (segment_storage agreed spaces) (Private g n) → sweep.address ≡ told_words (first_fit (ranges_of spans) x (last_end_of 0 ps) + x) → sweep.passed ≤ length spans → ArePassed spans sweep.passed sweep.address
      → HasPlaced agreed spans (ps ++ next_placed (segment_storage agreed spaces) ps (Private g n) ∷ []) (record { starts = old.starts; sweep = sweep })
  placed_own g n x sweep e end within passed = record {
    count = has.count;
    starts = starts_own agreed ps old.starts.items (next_placed (segment_storage agreed spaces) ps (Private g n)) g n refl has.starts;
    end = end ∙ ap told_words (ended x (Private g n) e);
    within = within;
    passed = passed;
  }

  pub placed_common : (number x : ℕ) (starts : Vec (Option ℕ) Global) (sweep : Sweep) → number < length agreed.names → x ≡ key_extent (segment_storage agreed spaces) (Shared (name_at agreed.names number)) → starts.items ≡ set old.starts.items number (Some (told_address (first_fit (ranges_of spans) x (last_end_of 0 ps)))) → get_or old.starts.items number None ≡ None
      → sweep.address ≡ told_words (first_fit (ranges_of spans) x (last_end_of 0 ps) + x) → sweep.passed ≤ length spans → ArePassed spans sweep.passed sweep.address
      → HasPlaced agreed spans (ps ++ next_placed (segment_storage agreed spaces) ps (Shared (name_at agreed.names number)) ∷ []) (record { starts = starts; sweep = sweep })
  placed_common number x starts sweep below e new none end within passed =
      let k : FamilyKey = Shared (name_at agreed.names number) in
      let q : Placed = next_placed (segment_storage agreed spaces) ps k in
      let are : starts.items ≡ set old.starts.items number (Some (told_address q.start)) = new ∙ ap (λ a. set old.starts.items number (Some (told_address a))) (fitted x k e) in
      record {
        count = ap length are ∙ length-set old.starts.items number (Some (told_address q.start)) ∙ has.count;
        starts = starts_common agreed spaces of ps old.starts.items starts.items q number below has.count refl are has.starts none;
        end = end ∙ ap told_words (ended x k e);
        within = within;
        passed = passed;
      }

  -- where it begins
  pub start_placed : (k : FamilyKey) (x a : ℕ) → x ≡ key_extent (segment_storage agreed spaces) k → start_if_placed k (told ps) ≡ None → a ≡ told_address (first_fit (ranges_of spans) x (last_end_of 0 ps)) → a ≡ start_of k (told (ps ++ next_placed (segment_storage agreed spaces) ps k ∷ []))
  start_placed k x a e none is = is ∙ ap told_address (fitted x k e) ∙ start_last k ps (next_placed (segment_storage agreed spaces) ps k) none refl
