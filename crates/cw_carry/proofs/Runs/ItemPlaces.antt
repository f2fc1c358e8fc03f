-- The orders that put and bind items find them where a valid storage map says.
use Rattle.std.proofs.Common.{◌≡◌, ℕ, zero, suc, ◌+◌, ◌-◌, ◌<◌, ◌≤◌, ℤ, pos, List, [], ◌∷◌, set, true, false, IsTrue, Option, Some, None, refl, sym, ap, ap₂, ◌∙◌, subst, arith, nat_le, leb-true}
use Rattle.std.proofs.lemmas.Bool.Decides.{nat_tests}
use Rattle.std.specs.Prelude.{◌%◌, ◌==◌, not, ◌&&◌, slice_get, slice_index, slice_index_or, if◌then◌else◌}
use Rattle.std.proofs.lemmas.Bool.{lt-ltb}
use Rattle.std.proofs.lemmas.Option.{none-some}
use Rattle.cw_word.specs.Word.{signed}
use Rattle.cw_unit.specs.declared.unit.Unit.{Unit as SourceUnit}
use Rattle.cw_unit.specs.declared.unit.Item.{Item}
use Rattle.cw_unit.specs.declared.unit.Proc.{Proc}
use Rattle.cw_unit.specs.declared.layout.Family.{Family}
use Rattle.cw_unit.specs.declared.layout.Limits.{Limits}
use Rattle.cw_unit.specs.declared.layout.Map.{Map}
use Rattle.cw_unit.specs.declared.layout.Sort.{Sort}
use Rattle.cw_unit.specs.declared.layout.Sort.TheVariants as sort
use Rattle.cw_unit.specs.Storage.{root_of, family_of, family_offset, positions_from, frame_size, frame_sizes_from, layout_of}
use Rattle.cw_unit.specs.ValidStorage.{StoredItem, key_of, sort_in, owner_in, sort_of_family, as_stored, word_of, IsAbsolute, IsInFrame, frame_size_in, InPlace, ValidStorageMap}
use Rattle.cw_unit.specs.Allocation.{Name, Private, storage_of}
use Rattle.cw_unit.specs.Program.{Program, is_frame_family, item_address}
use Rattle.cw_unit.specs.Words.{Operand, Word, Words, Changed, with_memory, put, through}
use Rattle.cw_unit.specs.Configuration.{frame_size_of}
use Rattle.cw_order.specs.declared.order.Order.TheVariants as order
use Rattle.cw_order.specs.OrderState.{OrderActivation, argument_behind, word_of_area}
use Rattle.cw_order.specs.OrderActions.{home_word}
use Rattle.cw_order.specs.OrderChanges.{bind, put_address}
use Rattle.cw_order.specs.OrderMachine.{unrefused}
use Rattle.cw_gen_expr.specs.ReferenceExpressions.{placed_by, placed_in, item_order, item_span}
use Rattle.cw_gen_expr.specs.ReferenceEntries.{bound_by, bound_in, bound_order}
use Rattle.cw_gen_unit.specs.SimpleLoops.{is_own, is_static, are_apart}
use Rattle.cw_gen_expr.specs.NamedItems.{is_same_procedure, may_name, item_has, has_words}
use Rattle.cw_safety.proofs.Truth.{no, both, nat_same}
use Rattle.cw_carry.proofs.Expressions.Effects.{effect}
use Rattle.cw_carry.proofs.Expressions.Stepping.{Compiled, source, target}
use Rattle.cw_carry.proofs.Statements.Following.{compiled}
use Rattle.cw_carry.proofs.Runs.Spans.{Covers}
use Rattle.cw_carry.proofs.Expressions.Calls.{layout_is}
use Rattle.cw_carry.proofs.Statements.StepLoops.{low_word}

-- ---- words

-- an address below the area is that of a word there
word-there : (area k n : ℕ) → k ≡ n → n < area → word_of_area area k ≡ Some n
word-there area k n e lt = ap (word_of_area area) e ∙ ap (λ b. if b then Some n else None) (lt-ltb n area lt)

-- ---- layouts

position-from : (u : SourceUnit) (n : ℕ) (is : List Item) (k : ℕ) (i : Item) → slice_get is k ≡ Some i → slice_index_or (positions_from n u is) k (0, 0) ≡ (family_of u (n + k), family_offset u (n + k))
position-from u n [] k i e = absurd (none-some i e)
position-from u n (j ∷ js) zero i e = let at : n ≡ n + 0 = omega arith in ap (λ k. (family_of u k, family_offset u k)) at
position-from u n (j ∷ js) (suc k) i e =
    let at : n + 1 + k ≡ n + suc k = omega arith in position-from u (n + 1) js k i e ∙ ap (λ k. (family_of u k, family_offset u k)) at

position-of : (u : SourceUnit) (k : ℕ) (i : Item) → slice_get u.items k ≡ Some i → slice_index_or (layout_of u).homes k (0, 0) ≡ (family_of u k, family_offset u k)
position-of u k i e = let at : 0 + k ≡ k = omega arith in position-from u 0 u.items k i e ∙ ap (λ k. (family_of u k, family_offset u k)) at

frame-from : (u : SourceUnit) (n : ℕ) (ps : List Proc) (k : ℕ) (q : Proc) → slice_get ps k ≡ Some q → slice_index (frame_sizes_from n u ps) k ≡ frame_size u (n + k)
frame-from u n [] k q e = absurd (none-some q e)
frame-from u n (p ∷ ps) zero q e = let at : n ≡ n + 0 = omega arith in ap (frame_size u) at
frame-from u n (p ∷ ps) (suc k) q e = let at : n + 1 + k ≡ n + suc k = omega arith in frame-from u (n + 1) ps k q e ∙ ap (frame_size u) at

-- ---- sorts

data Sorted (s : Sort) : Type 0 where
  in_a_frame : (d : ℕ) → s ≡ sort.Frame d → Sorted s
  elsewhere : ¬ IsInFrame s → Sorted s

sorted : (s : Sort) → Sorted s
sorted (sort.Frame d) = in_a_frame d refl
sorted _ = elsewhere (λ h. h)

in-frame : (s : Sort) (d : ℕ) → s ≡ sort.Frame d → IsInFrame s
in-frame s d e = subst IsInFrame (sym e) tt

placed-elsewhere : (x : Option Family) (f o : ℕ) → ¬ IsInFrame (sort_in x) → placed_in x f o ≡ order.Home f (o % 65536)
placed-elsewhere None f o h = refl
placed-elsewhere (Some x) f o h = by_sort x.sort h
  where
    by_sort : (s : Sort) → ¬ IsInFrame s → placed_by s f o ≡ order.Home f (o % 65536)
    by_sort (sort.Frame d) h = absurd (h tt)
    by_sort (sort.Common d) h = refl
    by_sort sort.Own h = refl
    by_sort (sort.Absolute a) h = refl

bound-elsewhere : (j : ℕ) (x : Option Family) (f o : ℕ) → ¬ IsInFrame (sort_in x) → bound_in j x f o ≡ order.Bind j f (o % 65536)
bound-elsewhere j None f o h = refl
bound-elsewhere j (Some x) f o h = by_sort x.sort h
  where
    by_sort : (s : Sort) → ¬ IsInFrame s → bound_by j s f o ≡ order.Bind j f (o % 65536)
    by_sort (sort.Frame d) h = absurd (h tt)
    by_sort (sort.Common d) h = refl
    by_sort sort.Own h = refl
    by_sort (sort.Absolute a) h = refl

family-elsewhere : (x : Option Family) → ¬ IsInFrame (sort_in x) → is_frame_family x ≡ false
family-elsewhere None h = refl
family-elsewhere (Some x) h = by_sort x.sort h
  where
    by_sort : (s : Sort) → ¬ IsInFrame s → Rattle.cw_unit.specs.Program.is_frame_sort s ≡ false
    by_sort (sort.Frame d) h = absurd (h tt)
    by_sort _ h = refl

placed-in-frame : (x : Option Family) (d f o : ℕ) → sort_in x ≡ sort.Frame d → placed_in x f o ≡ order.FrameHome ((d + o) % 65536)
placed-in-frame None d f o e = absurd (in-frame sort.Own d e)
placed-in-frame (Some x) d f o e = ap (λ s. placed_by s f o) e

bound-in-frame : (j : ℕ) (x : Option Family) (d f o : ℕ) → sort_in x ≡ sort.Frame d → bound_in j x f o ≡ order.BindFrame j ((d + o) % 65536)
bound-in-frame j None d f o e = absurd (in-frame sort.Own d e)
bound-in-frame j (Some x) d f o e = ap (λ s. bound_by j s f o) e

family-in-frame : (x : Option Family) (d : ℕ) → sort_in x ≡ sort.Frame d → is_frame_family x ≡ true
family-in-frame None d e = absurd (in-frame sort.Own d e)
family-in-frame (Some x) d e = ap Rattle.cw_unit.specs.Program.is_frame_sort e

-- ---- names

same-procedure : (who owner : Option ℕ) → IsTrue (is_same_procedure who owner) → (p : ℕ) × (who ≡ Some p) × (owner ≡ Some p)
same-procedure None owner h = no h
same-procedure (Some p) None h = no h
same-procedure (Some p) (Some q) h = (p, refl, ap (λ n. Some n) (sym (nat_same p q h)))

record Named (u : SourceUnit) (who : Option ℕ) (i n : ℕ) : Type 0 where
  item : Item
  found : slice_get u.items i ≡ Some item
  words : n ≤ item.words
  named : IsTrue (may_name who (owner_in (slice_get u.items (root_of u i))) (sort_of_family u (family_of u i)))

named-item : (u : SourceUnit) (who : Option ℕ) (i n : ℕ) → IsTrue (has_words u who i n) → Named u who i n
named-item u who i n h = by_item (slice_get u.items i) refl h
  where
    by_item : (x : Option Item) → slice_get u.items i ≡ x → IsTrue (item_has u who i x n) → Named u who i n
    by_item None e h = no h
    by_item (Some x) e h =
        let parts = both (nat_le n x.words) (may_name who (owner_in (slice_get u.items (root_of u i))) (sort_of_family u (family_of u i))) h in
        record { item = x; found = e; words = leb-true n x.words parts.0; named = parts.1 }

module _ (us : List SourceUnit) (m : Map) (limits : Limits) (room : ℕ) where
  abbrev pub c : Compiled
  c = compiled us m limits room (λ g u who. has_words u who)

  -- the address of a family of a segment, in a frame its offset
  abbrev family_start : (segment family : ℕ) → ℕ
  family_start g f = slice_index (slice_index_or m.homes g []) f

  -- where an item stands, as the orders have it, and as the source has it
  data Placed (g : ℕ) (u : SourceUnit) (who : Option ℕ) (base i k : ℕ) : Type 0 where
    at_home : (f o : ℕ) → ((n : ℕ) → item_order (layout_of u) i n ≡ order.Home f ((o + n) % 65536)) → ((j : ℕ) → bound_order (layout_of u) j i ≡ order.Bind j f (o % 65536)) → item_address (source c) g i base ≡ family_start g f + o → family_start g f + (o + k) ≤ limits.area → Placed g u who base i k
    in_frame : (p d o : ℕ) → who ≡ Some p → ((n : ℕ) → item_order (layout_of u) i n ≡ order.FrameHome ((d + (o + n)) % 65536)) → ((j : ℕ) → bound_order (layout_of u) j i ≡ order.BindFrame j ((d + o) % 65536)) → item_address (source c) g i base ≡ base + (d + o) → d + (o + k) ≤ frame_size_in us g (Some p) → Placed g u who base i k

  pub frame-size : (g p : ℕ) (u : SourceUnit) (q : Proc) → slice_get us g ≡ Some u → slice_get u.procs p ≡ Some q → frame_size_of (source c) g p ≡ frame_size_in us g (Some p)
  frame-size g p u q u-is q-is =
      let at : 0 + p ≡ p = omega arith in
      ap (λ y. slice_index y.frames p) (layout_is us g u u-is) ∙ frame-from u 0 u.procs p q q-is ∙ ap (frame_size u) at
      ∙ sym (ap (λ x. elim x [ None ↦ 0 | Some v ↦ frame_size v p ]) u-is)

  module _ (valid : ValidStorageMap us limits m) (in_words : limits.area ≤ 32768) where
    module _ (g : ℕ) (u : SourceUnit) (who : Option ℕ) (base i k : ℕ) (u-is : slice_get us g ≡ Some u) (h : IsTrue (has_words u who i k)) where
      abbrev x : Named u who i k
      x = named-item u who i k h

      abbrev f : ℕ
      f = family_of u i

      abbrev o : ℕ
      o = family_offset u i

      abbrev family : Option Family
      family = slice_get (layout_of u).families f

      at_map : slice_index_or (layout_of u).homes i (0, 0) ≡ (f, o)
      at_map = position-of u i x.item x.found

      abbrev stored : StoredItem
      stored = as_stored g u (slice_index_or m.homes g []) i x.item

      place : InPlace us limits stored
      place = valid.each stored (g, i, u, x.item, u-is, x.found, refl)

      ordered : (n : ℕ) → item_order (layout_of u) i n ≡ placed_in family f (o + n)
      ordered n = ap (λ home. placed_in (slice_get (layout_of u).families home.0) home.0 (home.1 + n)) at_map

      bound : (j : ℕ) → bound_order (layout_of u) j i ≡ bound_in j family f o
      bound j = ap (λ home. bound_in j (slice_get (layout_of u).families home.0) home.0 home.1) at_map

      address : item_address (source c) g i base ≡ (if is_frame_family family then base else 0) + (family_start g f + o)
      address =
          ap (λ y. let r = slice_index_or y.homes i (0, 0) in (if is_frame_family (slice_get y.families r.0) then base else 0) + (family_start g r.0 + r.1)) (layout_is us g u u-is)
          ∙ ap (λ r. (if is_frame_family (slice_get (layout_of u).families r.0) then base else 0) + (family_start g r.0 + r.1)) at_map

      by_sort : Sorted (sort_of_family u f) → Placed g u who base i k
      by_sort (elsewhere away) =
          let none : 0 + (family_start g f + o) ≡ family_start g f + o = omega arith in
          at_home f o (λ n. ordered n ∙ placed-elsewhere family f (o + n) away) (λ j. bound j ∙ bound-elsewhere j family f o away)
          (address ∙ ap (λ b. (if b then base else 0) + (family_start g f + o)) (family-elsewhere family away) ∙ none)
          (let le : family_start g f + (o + x.item.words) ≤ limits.area - limits.frames = place.below_frames away in let z : family_start g f + (o + k) ≤ limits.area = omega (arith, le, x.words) in z)
      by_sort (in_a_frame d is) =
          let p = same-procedure who (owner_in (slice_get u.items (root_of u i))) (subst (λ s. IsTrue (may_name who (owner_in (slice_get u.items (root_of u i))) s)) is x.named) in
          let offset : family_start g f ≡ d = place.at_offset d is in
          let inside : family_start g f + (o + x.item.words) ≤ frame_size_in us g (owner_in (slice_get u.items (root_of u i))) = place.inside_frame (in-frame (sort_of_family u f) d is) in
          let size : frame_size_in us g (owner_in (slice_get u.items (root_of u i))) ≡ frame_size_in us g (Some p.0) = ap (frame_size_in us g) p.2 in
          Placed.in_frame p.0 d o p.1 (λ n. ordered n ∙ placed-in-frame family d f (o + n) is) (λ j. bound j ∙ bound-in-frame j family d f o is)
          (address ∙ ap (λ b. (if b then base else 0) + (family_start g f + o)) (family-in-frame family d is) ∙ ap (λ a. base + (a + o)) offset)
          (let z : d + (o + k) ≤ frame_size_in us g (Some p.0) = omega (arith, offset, inside, size, x.words) in z)

      placement : Placed g u who base i k
      placement = by_sort (sorted (sort_of_family u f))

    -- the frame at work is that of this procedure, and ends in the area
    abbrev pub FrameHere : (g : ℕ) → (who : Option ℕ) → (base : ℕ) → List OrderActivation → Type 0
    FrameHere g who base bs = (p : ℕ) → who ≡ Some p → (b : OrderActivation) × (rest : List OrderActivation) × (bs ≡ b ∷ rest) × (b.frame_base ≡ base) × (base + frame_size_in us g (Some p) ≤ limits.area)

    pub item-put : (g : ℕ) (u : SourceUnit) (who : Option ℕ) (base : ℕ) (bs : List OrderActivation) (i n k : ℕ) (w : Words) → slice_get us g ≡ Some u → FrameHere g who base bs → IsTrue (has_words u who i k) → n < k → (effect (target c) g bs (item_order (layout_of u) i n) w ≡ Changed (put (pos (item_address (source c) g i base + n)) w)) × (item_address (source c) g i base + n < limits.area)
    item-put g u who base bs i n k w u-is frame h lt = of (placement g u who base i k u-is h)
      where
        of : Placed g u who base i k → (effect (target c) g bs (item_order (layout_of u) i n) w ≡ Changed (put (pos (item_address (source c) g i base + n)) w)) × (item_address (source c) g i base + n < limits.area)
        of (at_home f o orders binds address within) =
            let a : ℕ = family_start g f in
            let word : (a + (o + n) % 65536) % 65536 ≡ a + (o + n) = omega (arith, within, lt, in_words) in
            let small : a + (o + n) < 32768 = omega (arith, within, lt, in_words) in
            let same : a + (o + n) ≡ item_address (source c) g i base + n = omega (arith, address) in (
              ap (λ x. effect (target c) g bs x w) (orders n) ∙ ap (λ x. Changed (put (signed x) w)) word ∙ ap (λ z. Changed (put z w)) (low_word (a + (o + n)) small) ∙ ap (λ x. Changed (put (pos x) w)) same,
              (let z : item_address (source c) g i base + n < limits.area = omega (arith, address, within, lt) in z),
            )
        of (in_frame p d o who-is orders binds address within) =
            let here = frame p who-is in
            let b : OrderActivation = here.0 in
            let base-is : b.frame_base ≡ base = here.3 in
            let ends : base + frame_size_in us g (Some p) ≤ limits.area = here.4 in
            let at : b.frame_base + (d + (o + n)) % 65536 ≡ base + (d + (o + n)) = omega (arith, base-is, ends, within, lt, in_words) in
            let below : base + (d + (o + n)) < limits.area = omega (arith, ends, within, lt) in
            let word : word_of_area limits.area (b.frame_base + (d + (o + n)) % 65536) ≡ Some (base + (d + (o + n))) = word-there limits.area (b.frame_base + (d + (o + n)) % 65536) (base + (d + (o + n))) at below in
            let small : base + (d + (o + n)) < 32768 = omega (arith, ends, within, lt, in_words) in
            let same : base + (d + (o + n)) ≡ item_address (source c) g i base + n = omega (arith, address) in (
              ap₂ (λ xs x. effect (target c) g xs x w) here.2 (orders n) ∙ ap (λ x. unrefused (put_address x w)) word ∙ ap (λ z. Changed (put z w)) (low_word (base + (d + (o + n))) small) ∙ ap (λ x. Changed (put (pos x) w)) same,
              (let z : item_address (source c) g i base + n < limits.area = omega (arith, address, ends, within, lt) in z),
            )

    -- a word behind an item that is known to be in the area is found there
    pub item-reached : (g : ℕ) (u : SourceUnit) (who : Option ℕ) (base : ℕ) (bs : List OrderActivation) (i n : ℕ) (w : Words) → slice_get us g ≡ Some u → IsTrue (has_words u who i 1)
        → Covers (λ f o k. home_word m g f o + k < limits.area) (item_order (layout_of u) i 0) (item_span (layout_of u) i) → n < item_span (layout_of u) i
        → (effect (target c) g bs (item_order (layout_of u) i n) w ≡ Changed (put (pos (item_address (source c) g i base + n)) w)) × (item_address (source c) g i base + n < limits.area)
    item-reached g u who base bs i n w u-is h covers lt = of (placement g u who base i 1 u-is h)
      where
        of : Placed g u who base i 1 → (effect (target c) g bs (item_order (layout_of u) i n) w ≡ Changed (put (pos (item_address (source c) g i base + n)) w)) × (item_address (source c) g i base + n < limits.area)
        of (at_home f o orders binds address within) =
            let a : ℕ = family_start g f in
            let reaches : home_word m g f ((o + 0) % 65536) + n < limits.area = (subst (λ x. Covers (λ f' o' k'. home_word m g f' o' + k' < limits.area) x (item_span (layout_of u) i)) (orders 0) covers) n lt in
            let inside : a + (o + n) < limits.area = omega (arith, reaches, within, in_words) in
            let word : (a + (o + n) % 65536) % 65536 ≡ a + (o + n) = omega (arith, inside, in_words) in
            let small : a + (o + n) < 32768 = omega (arith, inside, in_words) in
            let same : a + (o + n) ≡ item_address (source c) g i base + n = omega (arith, address) in (
              ap (λ x. effect (target c) g bs x w) (orders n) ∙ ap (λ x. Changed (put (signed x) w)) word ∙ ap (λ z. Changed (put z w)) (low_word (a + (o + n)) small) ∙ ap (λ x. Changed (put (pos x) w)) same,
              (let z : item_address (source c) g i base + n < limits.area = omega (arith, same, inside) in z),
            )
        of (in_frame p d o who-is orders binds address within) =
            let none : item_span (layout_of u) i ≡ 0 = subst (λ x. Covers (λ f' o' k'. home_word m g f' o' + k' < limits.area) x (item_span (layout_of u) i)) (orders 0) covers in
            absurd (omega (arith, none, lt))

    -- a word argument is stored at an address in the area
    bound-at : (a : Option ℕ) (z-at : ℕ) (z : ℤ) (x : Words) (argument : Option Operand) → argument ≡ Some (Word z) → a ≡ Some z-at → z-at < limits.area → unrefused (bind limits.area argument a x) ≡ Changed (with_memory x (set x.memory z-at z))
    bound-at a z-at z x argument arg-is e lt =
        ap₂ (λ v y. unrefused (bind limits.area v y x)) arg-is e
        ∙ ap (λ b. unrefused (through b (λ i v. Changed (with_memory v (set v.memory i z))) (pos z-at) x)) (lt-ltb z-at limits.area lt)

    pub item-bound : (g : ℕ) (u : SourceUnit) (who : Option ℕ) (base : ℕ) (b : OrderActivation) (bs : List OrderActivation) (j i : ℕ) (z : ℤ) (x : Words) → slice_get us g ≡ Some u → FrameHere g who base (b ∷ bs) → IsTrue (has_words u who i 1) → argument_behind j b.arguments ≡ Some (Word z) → effect (target c) g (b ∷ bs) (bound_order (layout_of u) j i) x ≡ Changed (with_memory x (set x.memory (item_address (source c) g i base) z))
    item-bound g u who base b bs j i z x u-is frame h arg-is = of (placement g u who base i 1 u-is h)
      where
        of : Placed g u who base i 1 → effect (target c) g (b ∷ bs) (bound_order (layout_of u) j i) x ≡ Changed (with_memory x (set x.memory (item_address (source c) g i base) z))
        of (at_home f o orders binds address within) =
            let a : ℕ = family_start g f in
            let word : (a + o % 65536) % 65536 ≡ item_address (source c) g i base = omega (arith, within, in_words, address) in
            ap (λ y. effect (target c) g (b ∷ bs) y x) (binds j)
            ∙ bound-at (Some ((a + o % 65536) % 65536)) (item_address (source c) g i base) z x (argument_behind j b.arguments) arg-is (ap (λ n. Some n) word) (let y : item_address (source c) g i base < limits.area = omega (arith, address, within) in y)
        of (in_frame p d o who-is orders binds address within) =
            let here = frame p who-is in
            let base-is : b.frame_base ≡ base = ap (λ xs. elim xs [ [] ↦ 0 | y ∷ ys ↦ y.frame_base ]) here.2 ∙ here.3 in
            let ends : base + frame_size_in us g (Some p) ≤ limits.area = here.4 in
            let at : b.frame_base + (d + o) % 65536 ≡ item_address (source c) g i base = omega (arith, base-is, ends, within, in_words, address) in
            let below : item_address (source c) g i base < limits.area = omega (arith, address, ends, within) in
            let word : word_of_area limits.area (b.frame_base + (d + o) % 65536) ≡ Some (item_address (source c) g i base) = word-there limits.area (b.frame_base + (d + o) % 65536) (item_address (source c) g i base) at below in
            ap (λ y. effect (target c) g (b ∷ bs) y x) (binds j)
            ∙ bound-at (word_of_area limits.area (b.frame_base + (d + o) % 65536)) (item_address (source c) g i base) z x (argument_behind j b.arguments) arg-is word below

    -- ---- items that share no word

    own_is : (x : Option Family) → IsTrue (is_own x) → sort_in x ≡ sort.Own
    own_is None h = no h
    own_is (Some x) h = by_sort x.sort h
      where
        by_sort : (s : Sort) → IsTrue (elim s [ sort.Own ↦ true | _ ↦ false ]) → s ≡ sort.Own
        by_sort sort.Own h = refl
        by_sort (sort.Frame d) h = no h
        by_sort (sort.Common d) h = no h
        by_sort (sort.Absolute a) h = no h

    static_is : (x : Option Family) → IsTrue (is_static x) → ¬ IsInFrame (sort_in x)
    static_is None h = λ e. e
    static_is (Some x) h = by_sort x.sort h
      where
        by_sort : (s : Sort) → IsTrue (elim s [ sort.Frame d ↦ false | _ ↦ true ]) → ¬ IsInFrame s
        by_sort sort.Own h = λ e. e
        by_sort (sort.Frame d) h = no h
        by_sort (sort.Common d) h = λ e. e
        by_sort (sort.Absolute a) h = λ e. e

    other_is : (a b : ℕ) → IsTrue (not (a == b)) → a ≡ b → ⊥
    other_is a b h e = grind (arith, nat_tests)

    key-apart : (g a b : ℕ) (names : List Name) (s : Sort) → (a ≡ b → ⊥) → Private g a ≡ key_of g names b s → ⊥
    key-apart g a b names (sort.Common d) other e = cc
    key-apart g a b names _ other e = let same : a ≡ b = cc in other same

    static-address : (g : ℕ) (u : SourceUnit) (who : Option ℕ) (base i k : ℕ) (u-is : slice_get us g ≡ Some u) (h : IsTrue (has_words u who i k)) → ¬ IsInFrame (sort_of_family u (family_of u i)) → item_address (source c) g i base ≡ family_start g (family_of u i) + family_offset u i
    static-address g u who base i k u-is h away =
        let none : 0 + (family_start g (family_of u i) + family_offset u i) ≡ family_start g (family_of u i) + family_offset u i = omega arith in
        address g u who base i k u-is h ∙ ap (λ b. (if b then base else 0) + (family_start g (family_of u i) + family_offset u i)) (family-elsewhere (slice_get (layout_of u).families (family_of u i)) away) ∙ none

    -- an item of a family of the unit's own, and one of another family that stands in no frame
    own-apart : (g : ℕ) (u : SourceUnit) (who : Option ℕ) (base i j n1 n2 k1 k2 : ℕ) → slice_get us g ≡ Some u → IsTrue (has_words u who i k1) → IsTrue (has_words u who j k2) → n1 < k1 → n2 < k2
        → sort_of_family u (family_of u i) ≡ sort.Own → ¬ IsInFrame (sort_of_family u (family_of u j)) → (family_of u i ≡ family_of u j → ⊥) → item_address (source c) g i base + n1 ≡ item_address (source c) g j base + n2 → ⊥
    own-apart g u who base i j n1 n2 k1 k2 u-is h1 h2 lt1 lt2 own away other same =
        let x1 = named-item u who i k1 h1 in
        let x2 = named-item u who j k2 h2 in
        let homes = slice_index_or m.homes g [] in
        let s1 = as_stored g u homes i x1.item in
        let s2 = as_stored g u homes j x2.item in
        let pair = valid.pairs s1 s2 (g, i, u, x1.item, u-is, x1.found, refl) (g, j, u, x2.item, u-is, x2.found, refl) in
        let own-away : ¬ IsInFrame (sort_of_family u (family_of u i)) = λ e. subst IsInFrame own e in
        let a1 = static-address g u who base i k1 u-is h1 own-away in
        let a2 = static-address g u who base j k2 u-is h2 away in
        let names = (storage_of u).names in
        let keys : s1.family ≡ s2.family → ⊥ = λ e. key-apart g (family_of u i) (family_of u j) names (sort_of_family u (family_of u j)) other (sym (ap (key_of g names (family_of u i)) own) ∙ e) in
        let words : word_of s1 n1 ≡ word_of s2 n2 = omega (arith, a1, a2, same) in
        let absolute = (pair.apart keys own-away away n1 n2 (let z : n1 < x1.item.words = omega (arith, lt1, x1.words) in z) (let z : n2 < x2.item.words = omega (arith, lt2, x2.words) in z) words).0 in
        subst IsAbsolute own absolute

    -- as the generator tells
    pub items-apart : (g : ℕ) (u : SourceUnit) (who : Option ℕ) (base i j n1 n2 k1 k2 : ℕ) → slice_get us g ≡ Some u → IsTrue (has_words u who i k1) → IsTrue (has_words u who j k2) → n1 < k1 → n2 < k2
        → IsTrue (are_apart (layout_of u) i j) → item_address (source c) g i base + n1 ≡ item_address (source c) g j base + n2 → ⊥
    items-apart g u who base i j n1 n2 k1 k2 u-is h1 h2 lt1 lt2 told same =
        let y = layout_of u in
        let p1 = ap (λ r. r.0) (at_map g u who base i k1 u-is h1) in
        let p2 = ap (λ r. r.0) (at_map g u who base j k2 u-is h2) in
        let f1 = (slice_index_or y.homes i (0, 0)).0 in
        let f2 = (slice_index_or y.homes j (0, 0)).0 in
        let t1 = both (is_own (slice_get y.families f1)) (is_static (slice_get y.families f2) && not (f1 == f2)) told in
        let t2 = both (is_static (slice_get y.families f2)) (not (f1 == f2)) t1.1 in
        own-apart g u who base i j n1 n2 k1 k2 u-is h1 h2 lt1 lt2
        (subst (λ f. sort_in (slice_get y.families f) ≡ sort.Own) p1 (own_is (slice_get y.families f1) t1.0))
        (subst (λ f. ¬ IsInFrame (sort_in (slice_get y.families f))) p2 (static_is (slice_get y.families f2) t2.0))
        (λ e. other_is f1 f2 t2.1 (p1 ∙ e ∙ sym p2))
        same
