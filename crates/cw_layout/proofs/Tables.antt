-- The tables of the passes, where they have come one item further.
use Rattle.std.proofs.Common.{◌≡◌, ◌≢◌, ℕ, zero, suc, ◌+◌, ◌<◌, ◌≤◌, max, List, [], ◌∷◌, ◌++◌, ◌⊎◌, inl, inr, length, take, set, true, false, ◌&&◌, cond, nat_eq, Option, Some, None, is_none, slice_get, get_or, refl, sym, ap, ap₂, subst, ◌∙◌, arith, take_all, append-nil}
use Rattle.std.specs.Option.{ForSome}
use Rattle.std.proofs.lemmas.Bool.{eq-eqb, ne_eqb, cases_eq, cases_lt, false≢true}
use Rattle.std.proofs.lemmas.List.{get_or-set_same, get_or-set_other, length-set, ext_get_or}
use Rattle.std.proofs.lemmas.Option.{slice_get_read, slice_get-get_or, slice_get_within}
use Rattle.cw_unit.specs.declared.unit.Unit.{Unit as SourceUnit}
use Rattle.cw_unit.specs.declared.unit.Item.{Item}
use Rattle.cw_unit.specs.declared.unit.Proc.{Proc}
use Rattle.cw_unit.specs.declared.unit.Home.{Home}
use Rattle.cw_unit.specs.declared.unit.Home.TheVariants as home
use Rattle.cw_unit.specs.declared.layout.Family.{Family}
use Rattle.cw_unit.specs.declared.layout.Sort.TheVariants as sort
use Rattle.cw_unit.specs.Storage.{base_of_home, base_of_item, base_of, root_of, family_offset, family_of, family_extent, extent_from, roots_in, is_frame_home, is_owner, frame_words_from, frame_size, frame_sizes_from, positions_from, sort_of, frame_offset, families_from, family_at}
use Rattle.cw_unit.specs.ValidStorage.{IsStorable}
use Rattle.cw_unit.specs.HasLayout.{HasLayout}
use Rattle.cw_unit.proofs.Families.{Root, root_at, root_alone, base_family, inside_family, inside_frame}
use Rattle.cw_layout.specs.Tables.{TellsExtents, frame_at, grown_frame, sort_with, grown_frames}
use Rattle.cw_layout.proofs.Passes.{IsAt, position, home_read, positions_length, positions_next, position_read, roots_past, roots_few, extent_next, frame_next, length_taken, families_length, families_next, family_if}

pub found : (u : SourceUnit) (k : ℕ) (i : Item) → IsAt u k i → slice_get u.items k ≡ Some i
found u k i at = slice_get_read u.items (length u.items) k i refl at.within at.read

base_is : (u : SourceUnit) (k : ℕ) (i : Item) → IsAt u k i → base_of u k ≡ base_of_home u i.home
base_is u k i at = ap (base_of_item u) (found u k i at)

-- an item ends before the last word that a layout can name
pub ends_within : (u : SourceUnit) (k : ℕ) (i : Item) → HasLayout u → IsAt u k i → family_offset u k + i.words < 65536
ends_within u k i h at =
    let e = inside_family u k i (found u k i at) in
    let f = h.extents (root_of u k) in
    omega (arith, e, f)

-- ---- the place of an item

family_at_root : (u : SourceUnit) (n m : ℕ) → root_of u n ≡ m → family_of u n ≡ roots_in u (take m u.items)
family_at_root u n m e = ap (λ r. roots_in u (take r u.items)) e

pub record BasePlace (u : SourceUnit) (k : ℕ) (b : ℕ × ℕ) : Type 0 where
  pub before : b.0 < k
  pub read : (d : ℕ × ℕ) → get_or (positions_from 0 u (take k u.items)) b.0 d ≡ position u b.0
  pub family : family_of u k ≡ family_of u b.0
  pub offset : family_offset u k ≡ family_offset u b.0 + b.1

pub base_place : (u : SourceUnit) (k : ℕ) (i : Item) (b : ℕ × ℕ) → HasLayout u → IsAt u k i → base_of_home u i.home ≡ Some b → BasePlace u k b
base_place u k i b h at e =
    let found_base : base_of u k ≡ Some b = base_is u k i at ∙ e in
    let lt : b.0 < k = h.storable.base_before k b found_base in
    let same = base_family u h.storable k b found_base in
    let len : length (take k u.items) ≡ k = length_taken u.items k (omega (arith, at.within)) in
    let zero_more : 0 + b.0 ≡ b.0 = omega arith in
    record {
      before = lt;
      read = λ d. position_read 0 u (take k u.items) b.0 d (omega (arith, len, lt)) ∙ ap (position u) zero_more;
      family = ap (λ r. roots_in u (take r u.items)) same.0;
      offset = let s = same.1 in omega (arith, s);
    }

pub base_within : (u : SourceUnit) (k : ℕ) (i : Item) (b : ℕ × ℕ) (homes : List (ℕ × ℕ)) → HasLayout u → IsAt u k i → base_of_home u i.home ≡ Some b → homes ≡ positions_from 0 u (take k u.items) → b.0 < length homes
base_within u k i b homes h at based e =
    let len : length homes ≡ k = ap length e ∙ positions_length 0 u (take k u.items) ∙ length_taken u.items k (omega (arith, at.within)) in
    omega (arith, len, (base_place u k i b h at based).before)

pub next_by_base : (u : SourceUnit) (k : ℕ) (i : Item) (b : ℕ × ℕ) (homes homes' : List (ℕ × ℕ)) → HasLayout u → IsAt u k i → base_of_home u i.home ≡ Some b → homes ≡ positions_from 0 u (take k u.items)
    → homes' ≡ homes ++ ((get_or homes b.0 (0, 0)).0, (get_or homes b.0 (0, 0)).1 + b.1) ∷ [] → homes' ≡ positions_from 0 u (take (k + 1) u.items)
next_by_base u k i b homes homes' h at e before pushed =
    let place = base_place u k i b h at e in
    let read : get_or homes b.0 (0, 0) ≡ position u b.0 = ap (λ hs. get_or hs b.0 (0, 0)) before ∙ place.read (0, 0) in
    let this : ((get_or homes b.0 (0, 0)).0, (get_or homes b.0 (0, 0)).1 + b.1) ≡ position u k =
    ap (λ p. (p.0, p.1 + b.1)) read ∙ ap₂ (λ f o. (f, o)) (sym place.family) (sym place.offset) in
    pushed ∙ ap₂ (λ hs p. hs ++ p ∷ []) before this ∙ sym (positions_next u k i at)

root_place : (u : SourceUnit) (k : ℕ) (i : Item) → IsAt u k i → base_of_home u i.home ≡ None → position u k ≡ (roots_in u (take k u.items), 0)
root_place u k i at e =
    let alone = root_alone u k (base_is u k i at ∙ e) in
    ap₂ (λ f o. (f, o)) (family_at_root u k k alone.0) alone.1

pub next_by_root : (u : SourceUnit) (k : ℕ) (i : Item) (roots : ℕ) (homes homes' : List (ℕ × ℕ)) → IsAt u k i → base_of_home u i.home ≡ None → homes ≡ positions_from 0 u (take k u.items) → roots ≡ roots_in u (take k u.items)
    → homes' ≡ homes ++ (roots, 0) ∷ [] → homes' ≡ positions_from 0 u (take (k + 1) u.items)
next_by_root u k i roots homes homes' at e before counted pushed =
    pushed ∙ ap₂ (λ hs p. hs ++ p ∷ []) before (ap (λ n. (n, 0)) counted ∙ sym (root_place u k i at e)) ∙ sym (positions_next u k i at)

-- ---- extents

-- for each family how many words its first k items take
pub record ExtentsTo (u : SourceUnit) (k : ℕ) (extents : List ℕ) : Type 0 where
  pub len : length extents ≡ length u.items
  pub at : (r : ℕ) → r < length u.items → base_of u r ≡ None → get_or extents (family_of u r) 0 ≡ extent_from 0 u r (take k u.items)

-- two roots have two families
first-apart : (u : SourceUnit) (r s : ℕ) (i j : Item) → slice_get u.items r ≡ Some i → base_of_home u i.home ≡ None → slice_get u.items s ≡ Some j → base_of_home u j.home ≡ None → s ≢ r → ((r < s) ⊎ (s ≤ r)) → roots_in u (take r u.items) ≢ roots_in u (take s u.items)
first-apart u r s i j er br es bs ne (inl lt) same = let past = roots_past u u.items r s i lt er br in omega (arith, past, same)
first-apart u r s i j er br es bs ne (inr le) same = let past = roots_past u u.items s r j (omega (arith, le, ne)) es bs in omega (arith, past, same)

root-there : (u : SourceUnit) (r : ℕ) (i : Item) → slice_get u.items r ≡ Some i → base_of u r ≡ None → base_of_home u i.home ≡ None
root-there u r i e b = sym (ap (base_of_item u) e) ∙ b

apart : (u : SourceUnit) (k r : ℕ) (i : Item) → IsStorable u → IsAt u k i → r < length u.items → base_of u r ≡ None → root_of u k ≢ r → family_of u r ≢ family_of u k
apart u k r i h at within e ne same =
    let root : Root u k = root_at u h k i (found u k i at) in
    let alone = root_alone u r e in
    let here : family_of u r ≡ roots_in u (take r u.items) = family_at_root u r r alone.0 in
    let j : Item = get_or u.items r i in
    let found_r : slice_get u.items r ≡ Some j = slice_get-get_or u.items r i within in
    first-apart u r (root_of u k) j root.item found_r (root-there u r j found_r e) root.found root.baseless ne (cases_lt r (root_of u k)) (sym here ∙ same)

extent-step : (u : SourceUnit) (h : IsStorable u) (xs ys : List ℕ) (k : ℕ) (i : Item) → IsAt u k i → ExtentsTo u k xs
    → get_or ys (family_of u k) 0 ≡ max (get_or xs (family_of u k) 0) (family_offset u k + i.words)
    → ((m : ℕ) → m ≢ family_of u k → get_or ys m 0 ≡ get_or xs m 0)
    → (r : ℕ) → r < length u.items → base_of u r ≡ None → ((root_of u k ≡ r) ⊎ (root_of u k ≢ r)) → get_or ys (family_of u r) 0 ≡ extent_from 0 u r (take (k + 1) u.items)
extent-step u h xs ys k i at before here others r within e (inl same) =
    let alone = root_alone u r e in
    let f : family_of u r ≡ family_of u k = family_at_root u r r alone.0 ∙ sym (family_at_root u k r same) in
    let old : get_or xs (family_of u k) 0 ≡ extent_from 0 u r (take k u.items) = ap (λ m. get_or xs m 0) (sym f) ∙ before.at r within e in
    let yes : nat_eq (root_of u k) r ≡ true = eq-eqb (root_of u k) r same in
    ap (λ m. get_or ys m 0) f ∙ here ∙ ap (λ m. max m (family_offset u k + i.words)) old
    ∙ ap (λ b. max (extent_from 0 u r (take k u.items)) (cond b (family_offset u k + i.words) 0)) (sym yes)
    ∙ sym (extent_next u r k i at)
extent-step u h xs ys k i at before here others r within e (inr ne) =
    let no : nat_eq (root_of u k) r ≡ false = ne_eqb (root_of u k) r ne in
    let least : extent_from 0 u r (take k u.items) ≡ max (extent_from 0 u r (take k u.items)) 0 = omega arith in
    others (family_of u r) (apart u k r i h at within e ne) ∙ before.at r within e ∙ least
    ∙ ap (λ b. max (extent_from 0 u r (take k u.items)) (cond b (family_offset u k + i.words) 0)) (sym no)
    ∙ sym (extent_next u r k i at)

pub extents_next : (u : SourceUnit) (h : IsStorable u) (xs ys : List ℕ) (k : ℕ) (i : Item) → IsAt u k i → ExtentsTo u k xs → length ys ≡ length xs
    → get_or ys (family_of u k) 0 ≡ max (get_or xs (family_of u k) 0) (family_offset u k + i.words)
    → ((m : ℕ) → m ≢ family_of u k → get_or ys m 0 ≡ get_or xs m 0) → ExtentsTo u (k + 1) ys
extents_next u h xs ys k i at before same here others = record {
  len = same ∙ before.len;
  at = λ r within e. extent-step u h xs ys k i at before here others r within e (cases_eq (root_of u k) r);
}

-- the greater of two at one place
pub kept_extent : (u : SourceUnit) (h : IsStorable u) (xs : List ℕ) (k f e : ℕ) (i : Item) → IsAt u k i → ExtentsTo u k xs → f ≡ family_of u k → e ≡ family_offset u k + i.words → e ≤ get_or xs f 0 → ExtentsTo u (k + 1) xs
kept_extent u h xs k f e i at before this end le =
    extents_next u h xs xs k i at before refl
    (let le' : family_offset u k + i.words ≤ get_or xs (family_of u k) 0 = subst (λ m. family_offset u k + i.words ≤ get_or xs m 0) this (subst (λ m. m ≤ get_or xs f 0) end le) in omega (arith, le'))
    (λ m ne. refl)

pub raised_extent : (u : SourceUnit) (h : IsStorable u) (xs : List ℕ) (k f e : ℕ) (i : Item) → IsAt u k i → ExtentsTo u k xs → f ≡ family_of u k → f < length xs → e ≡ family_offset u k + i.words → get_or xs f 0 < e → ExtentsTo u (k + 1) (set xs f e)
raised_extent u h xs k f e i at before this inside end lt =
    extents_next u h xs (set xs f e) k i at before (length-set xs f e)
    (let now : get_or (set xs f e) f 0 ≡ e = get_or-set_same xs f e 0 inside in
    let goal : get_or (set xs f e) f 0 ≡ max (get_or xs f 0) e = omega (arith, now, lt) in
    ap (λ m. get_or (set xs f e) m 0) (sym this) ∙ goal ∙ ap₂ (λ m n. max (get_or xs m 0) n) this end)
    (λ m ne. get_or-set_other xs f m e 0 (λ same. ne (same ∙ this)))

-- a family's number is below the number of items
pub family_within : (u : SourceUnit) (k : ℕ) (i : Item) → IsStorable u → IsAt u k i → family_of u k < length u.items
family_within u k i h at =
    let root : Root u k = root_at u h k i (found u k i at) in
    let few = roots_few u (root_of u k) u.items in
    let within = slice_get_within u.items (root_of u k) root.item root.found in
    omega (arith, few, within)

pub family_index : (u : SourceUnit) (k : ℕ) (i : Item) (homes : List (ℕ × ℕ)) → IsStorable u → IsAt u k i → homes ≡ positions_from 0 u u.items → (get_or homes k (0, 0)).0 < length u.items
family_index u k i homes h at e = omega (arith, ap (λ (p : ℕ × ℕ). p.0) (home_read u k homes at.within e), family_within u k i h at)

-- ---- frames

pub record FramesTo (u : SourceUnit) (k : ℕ) (frames : List ℕ) : Type 0 where
  pub len : length frames ≡ length u.procs
  pub at : (q : ℕ) → q < length u.procs → get_or frames q 0 ≡ frame_words_from 0 u q (take k u.items)

-- what a root asks of the frames
pub frame_room : (u : SourceUnit) (h : HasLayout u) (k q e : ℕ) (i : Item) (frames : List ℕ) → IsAt u k i → FramesTo u k frames → e ≡ family_extent u k → i.home ≡ home.Frame → i.owner ≡ Some q → (q < length frames) × (get_or frames q 0 + e < 65536)
frame_room u h k q e i frames at to extent in_frame owner =
    let below : q < length u.procs = h.frame_owners k q i (found u k i at) in_frame owner in
    let reaches = inside_frame u q k i (found u k i at) in_frame owner in
    let few = h.frames q in
    let now = to.at q below in
    (omega (arith, below, to.len), omega (arith, reaches, few, now, extent))

owner-known : (u : SourceUnit) (h : HasLayout u) (k : ℕ) (i : Item) → IsAt u k i → i.home ≡ home.Frame → (q : ℕ) × (i.owner ≡ Some q)
owner-known u h k i at e = h.storable.frame_owned k i (found u k i at) e

pub frame_fits : (u : SourceUnit) (h : HasLayout u) (k e : ℕ) (i : Item) (frames : List ℕ) → IsAt u k i → FramesTo u k frames → e ≡ family_extent u k → i.home ≡ home.Frame → ForSome i.owner (λ q. (q < length frames) × (get_or frames q 0 + e < 65536))
frame_fits u h k e i frames at to extent in_frame = λ q owner. frame_room u h k q e i frames at to extent in_frame owner

same-sort : (u : SourceUnit) (h : HasLayout u) (k : ℕ) (i : Item) (frames : List ℕ) → IsAt u k i → FramesTo u k frames → (x : Home) → i.home ≡ x → sort_with frames i.owner x ≡ sort_of u k i.owner x
same-sort u h k i frames at to (home.Common d) e = refl
same-sort u h k i frames at to home.Own e = refl
same-sort u h k i frames at to (home.Absolute a) e = refl
same-sort u h k i frames at to (home.Over b o) e = refl
same-sort u h k i frames at to home.Frame e =
    let o = owner-known u h k i at e in
    let below : o.0 < length u.procs = h.frame_owners k o.0 i (found u k i at) e o.1 in
    subst (λ owner. sort.Frame (frame_at frames owner) ≡ sort.Frame (frame_offset u owner k)) (sym o.1) (ap sort.Frame (to.at o.0 below))

pub sort_is : (u : SourceUnit) (h : HasLayout u) (k : ℕ) (i : Item) (frames : List ℕ) → IsAt u k i → FramesTo u k frames → sort_with frames i.owner i.home ≡ sort_of u k i.owner i.home
sort_is u h k i frames at to = same-sort u h k i frames at to i.home refl

-- an item that is not of a frame leaves the frames
pub frames_kept : (u : SourceUnit) (k : ℕ) (i : Item) (frames : List ℕ) → IsAt u k i → is_frame_home i.home ≡ false → FramesTo u k frames → FramesTo u (k + 1) frames
frames_kept u k i frames at e to = record {
  len = to.len;
  at = λ q within.
      let nothing : frame_words_from 0 u q (take k u.items) ≡ frame_words_from 0 u q (take k u.items) + 0 = omega arith in
      to.at q within ∙ nothing ∙ ap (λ b. frame_words_from 0 u q (take k u.items) + cond (b && is_owner q i.owner) (family_extent u k) 0) (sym e) ∙ sym (frame_next u q k i at);
}

frame-step : (u : SourceUnit) (k p q e : ℕ) (i : Item) (frames : List ℕ) → IsAt u k i → FramesTo u k frames → e ≡ family_extent u k → i.home ≡ home.Frame → i.owner ≡ Some p → p < length frames → q < length u.procs → ((q ≡ p) ⊎ (q ≢ p)) → get_or (set frames p (get_or frames p 0 + e)) q 0 ≡ frame_words_from 0 u q (take (k + 1) u.items)
frame-step u k p q e i frames at to extent in_frame owner inside within (inl same) =
    let yes : (is_frame_home i.home && is_owner q i.owner) ≡ true = ap₂ (λ a b. is_frame_home a && is_owner q b) in_frame owner ∙ eq-eqb q p same in
    ap (λ m. get_or (set frames p (get_or frames p 0 + e)) m 0) same ∙ get_or-set_same frames p _ 0 inside
    ∙ ap₂ (λ m n. get_or frames m 0 + n) (sym same) extent ∙ ap (λ m. m + family_extent u k) (to.at q within)
    ∙ ap (λ b. frame_words_from 0 u q (take k u.items) + cond b (family_extent u k) 0) (sym yes) ∙ sym (frame_next u q k i at)
frame-step u k p q e i frames at to extent in_frame owner inside within (inr ne) =
    let no : (is_frame_home i.home && is_owner q i.owner) ≡ false = ap₂ (λ a b. is_frame_home a && is_owner q b) in_frame owner ∙ ne_eqb q p ne in
    let nothing : frame_words_from 0 u q (take k u.items) ≡ frame_words_from 0 u q (take k u.items) + 0 = omega arith in
    get_or-set_other frames p q _ 0 ne ∙ to.at q within ∙ nothing
    ∙ ap (λ b. frame_words_from 0 u q (take k u.items) + cond b (family_extent u k) 0) (sym no) ∙ sym (frame_next u q k i at)

frames-step : (u : SourceUnit) (h : HasLayout u) (k e : ℕ) (i : Item) (frames : List ℕ) → IsAt u k i → FramesTo u k frames → e ≡ family_extent u k → (x : Home) → i.home ≡ x → FramesTo u (k + 1) (grown_frames frames i.owner x e)
frames-step u h k e i frames at to extent (home.Common d) is = frames_kept u k i frames at (ap is_frame_home is) to
frames-step u h k e i frames at to extent home.Own is = frames_kept u k i frames at (ap is_frame_home is) to
frames-step u h k e i frames at to extent (home.Absolute a) is = frames_kept u k i frames at (ap is_frame_home is) to
frames-step u h k e i frames at to extent (home.Over b o) is = frames_kept u k i frames at (ap is_frame_home is) to
frames-step u h k e i frames at to extent home.Frame is =
    let o = owner-known u h k i at is in
    let room = frame_room u h k o.0 e i frames at to extent is o.1 in
    subst (λ owner. FramesTo u (k + 1) (grown_frame frames owner e)) (sym o.1)
    record {
      len = length-set frames o.0 _ ∙ to.len;
      at = λ q within. frame-step u k o.0 q e i frames at to extent is o.1 room.0 within (cases_eq q o.0);
    }

pub frames_next : (u : SourceUnit) (h : HasLayout u) (k e : ℕ) (i : Item) (frames : List ℕ) → IsAt u k i → FramesTo u k frames → e ≡ family_extent u k → FramesTo u (k + 1) (grown_frames frames i.owner i.home e)
frames_next u h k e i frames at to extent = frames-step u h k e i frames at to extent i.home refl

sizes_length : (n : ℕ) (u : SourceUnit) (ps : List Proc) → length (frame_sizes_from n u ps) ≡ length ps
sizes_length n u [] = refl
sizes_length n u (p ∷ ps) = omega (arith, sizes_length (n + 1) u ps)

size_read : (n : ℕ) (u : SourceUnit) (ps : List Proc) (q : ℕ) → q < length ps → get_or (frame_sizes_from n u ps) q 0 ≡ frame_size u (n + q)
size_read n u [] q b = absurd (omega (arith, b))
size_read n u (p ∷ ps) zero b = let e : n ≡ n + 0 = omega arith in ap (frame_size u) e
size_read n u (p ∷ ps) (suc q) b = let e : n + 1 + q ≡ n + suc q = omega arith in size_read (n + 1) u ps q (omega (arith, b)) ∙ ap (frame_size u) e

pub whole_frames : (u : SourceUnit) (n : ℕ) (frames : List ℕ) → FramesTo u n frames → n ≡ length u.items → frames ≡ frame_sizes_from 0 u u.procs
whole_frames u n frames to e =
    ext_get_or 0 frames (frame_sizes_from 0 u u.procs) (to.len ∙ sym (sizes_length 0 u u.procs))
    (λ q within.
    let below : q < length u.procs = omega (arith, within, to.len) in
    let z : q ≡ 0 + q = omega arith in
    to.at q below ∙ ap (frame_words_from 0 u q) (take_all n u.items (omega (arith, e))) ∙ ap (frame_size u) z ∙ sym (size_read 0 u u.procs q below))

-- ---- preset words

pub preset_room : (u : SourceUnit) (h : HasLayout u) (n : ℕ) (i : Item) (place : ℕ) → IsAt u n i → place ≡ family_offset u n → (k : ℕ) → k < length i.presets → place + (get_or i.presets k (0, 0)).0 < 65536
preset_room u h n i place at e k b =
    let end = ends_within u n i h at in
    let inside = h.preset_places n k i _ (found u n i at) (slice_get-get_or i.presets k (0, 0) b) in
    omega (arith, end, inside, e)

-- ---- families

-- a root's number in the list of families
pub root_number : (u : SourceUnit) (k n : ℕ) (i : Item) → IsAt u k i → base_of_home u i.home ≡ None → n ≡ length (families_from 0 u (take k u.items)) → n ≡ family_of u k
root_number u k n i at root e = e ∙ families_length 0 u (take k u.items) ∙ sym (family_at_root u k k (root_alone u k (base_is u k i at ∙ root)).0)

pub root_extent : (u : SourceUnit) (k n : ℕ) (i : Item) (extents : List ℕ) → IsAt u k i → base_of_home u i.home ≡ None → n ≡ length (families_from 0 u (take k u.items)) → TellsExtents u extents → get_or extents n 0 ≡ family_extent u k
root_extent u k n i extents at root e tells = ap (λ m. get_or extents m 0) (root_number u k n i at root e) ∙ tells.at k at.within (base_is u k i at ∙ root)

root-from : (o : Option (ℕ × ℕ)) → is_none o ≡ true → o ≡ None
root-from None e = refl
root-from (Some b) e = absurd (false≢true e)

pub is_root_home : (u : SourceUnit) (x : Home) → is_none (base_of_home u x) ≡ true → base_of_home u x ≡ None
is_root_home u x e = root-from (base_of_home u x) e

-- an item with a base is of no frame of its own
pub based_home : (u : SourceUnit) (x : Home) → is_none (base_of_home u x) ≡ false → is_frame_home x ≡ false
based_home u (home.Common d) e = refl
based_home u home.Own e = refl
based_home u (home.Absolute a) e = refl
based_home u (home.Over b o) e = refl
based_home u home.Frame e = absurd (false≢true (sym e))

pub families_on : (u : SourceUnit) (h : HasLayout u) (k e : ℕ) (i : Item) (frames : List ℕ) (before after : List Family) → IsAt u k i → FramesTo u k frames → base_of_home u i.home ≡ None → e ≡ family_extent u k
    → before ≡ families_from 0 u (take k u.items) → after ≡ before ++ record { sort = sort_with frames i.owner i.home; extent = e } ∷ [] → after ≡ families_from 0 u (take (k + 1) u.items)
families_on u h k e i frames before after at to root extent was is =
    let family : Family = record { sort = sort_with frames i.owner i.home; extent = e } in
    let same : family ≡ family_at u k i = ap₂ (λ s n. record { sort = s; extent = n }) (sort_is u h k i frames at to) extent in
    is ∙ ap₂ (λ fs f. fs ++ f ∷ []) was same ∙ ap (λ o. families_from 0 u (take k u.items) ++ family_if (is_none o) (family_at u k i)) (sym root) ∙ sym (families_next u k i at)

pub families_same : (u : SourceUnit) (k : ℕ) (i : Item) → IsAt u k i → is_none (base_of_home u i.home) ≡ false → families_from 0 u (take k u.items) ≡ families_from 0 u (take (k + 1) u.items)
families_same u k i at e =
    sym (append-nil (families_from 0 u (take k u.items))) ∙ ap (λ b. families_from 0 u (take k u.items) ++ family_if b (family_at u k i)) (sym e) ∙ sym (families_next u k i at)
