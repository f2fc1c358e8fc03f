-- Objects link, or have one first fault of linking.
use Rattle.std.proofs.Common.{◌≡◌, ◌≢◌, ◌⊎◌, ℕ, ◌+◌, ◌<◌, List, [], Option, Some, None, refl, sym, ap, ◌∙◌, inl, inr, arith, slice_get}
use Rattle.std.proofs.lemmas.Bool.{cases_order}
use Rattle.cw_unit.specs.declared.layout.Limits.{Limits}
use Rattle.cw_unit.specs.Allocation.{SegmentStorage}
use Rattle.cw_comm.specs.declared.face.Face.{Face}
use Rattle.cw_comm.specs.declared.clash.Clash.{Clash}
use Rattle.cw_comm.specs.declared.clash.Clash.TheVariants as clashes
use Rattle.cw_comm.specs.Agreement.{Name, first_twice}
use Rattle.cw_comm.specs.Clashes.{Names, IsDifference, IsSecondDefinition, IsUndefined, Kind, NotBehind, IsFirst, HasNone, IsFirstClash, Agree}
use Rattle.cw_comm.specs.Clashes as clash
use Rattle.cw_place.specs.declared.space.Space.{Space}
use Rattle.cw_place.specs.declared.space.PlaceFault.{PlaceFault}
use Rattle.cw_place.specs.declared.space.PlaceFault.TheVariants as places
use Rattle.cw_place.specs.Placement.{NoneOutside, FitsData, FitsControl, told_words, IsFirstFault}
use Rattle.cw_link.specs.Contents.{Contents}
use Rattle.cw_link.specs.Presets.{FilledWord, clash_at, NoPresetClash, IsPresetClash}
use Rattle.cw_link.specs.LinkedImage.{faces_of, spaces_of, linked_presets, linked_size}
use Rattle.cw_link.specs.LinkFaults.{HavePlace, HaveWords, storages_of, of_clash, of_place_fault}
use Rattle.cw_link.specs.declared.fault.LinkFault.{LinkFault}
use Rattle.cw_link.specs.declared.fault.LinkFault.TheVariants.{SegmentTwice, Differs, DefinedTwice, Undefined, AbsoluteOutside, DataTooBig, ControlTooBig, PresetClash, CodeTooBig, NoMemory}
use Rattle.cw_build.specs.Linking.{AreLinked, IsFault}

some_and_none : {A : Type 0} (o : Option A) (x : A) → o ≡ Some x → o ≡ None → ⊥
some_and_none o x e f = absurd (cc (e, f))

one_some : {A : Type 0} (o : Option A) (x y : A) → o ≡ Some x → o ≡ Some y → x ≡ y
one_some o x y e f = let same : Some x ≡ Some y = sym e ∙ f in cc (same)

-- ---- clashes

-- three numbers, of which neither is behind the other
module _ (j d i j' d' i' : ℕ) where
  same_later : NotBehind j d i j' d' i' → NotBehind j' d' i' j d i → j ≡ j'
  same_later (inl h) (inl k) = absurd (omega (arith, h, k))
  same_later (inl h) (inr (e, k)) = sym e
  same_later (inr (e, h)) k = e

  same_earlier : NotBehind j d i j' d' i' → NotBehind j' d' i' j d i → i ≡ i'
  same_earlier (inl h) (inl k) = absurd (omega (arith, h, k))
  same_earlier (inl h) (inr (e, k)) = absurd (omega (arith, h, e))
  same_earlier (inr (e, h)) (inl k) = absurd (omega (arith, k, e))
  same_earlier (inr (e, inl h)) (inr (f, inl k)) = absurd (omega (arith, h, k))
  same_earlier (inr (e, inl h)) (inr (f, inr (g, k))) = absurd (omega (arith, h, g))
  same_earlier (inr (e, inr (g, h))) (inr (f, inl k)) = absurd (omega (arith, k, g))
  same_earlier (inr (e, inr (g, h))) (inr (f, inr (l, k))) = omega (arith, h, k)

  same_descriptor : NotBehind j d i j' d' i' → NotBehind j' d' i' j d i → d ≡ d'
  same_descriptor (inl h) (inl k) = absurd (omega (arith, h, k))
  same_descriptor (inl h) (inr (e, k)) = absurd (omega (arith, h, e))
  same_descriptor (inr (e, h)) (inl k) = absurd (omega (arith, k, e))
  same_descriptor (inr (e, inl h)) (inr (f, inl k)) = absurd (omega (arith, h, k))
  same_descriptor (inr (e, inl h)) (inr (f, inr (g, k))) = sym g
  same_descriptor (inr (e, inr (g, h))) k = g

-- a descriptor has one name
one_name : (faces : List Face) (j d j' d' : ℕ) (n m : Name) → j ≡ j' → d ≡ d' → Names faces j d n → Names faces j' d' m → n ≡ m
one_name faces j d j' d' n m e f x y =
    let face : x.face ≡ y.face = one_some (slice_get faces j') x.face y.face (ap (slice_get faces) (sym e) ∙ x.segment_is) y.segment_is in
    let there : slice_get y.face.descs d' ≡ Some x.desc = ap (λ k. slice_get y.face.descs k) (sym f) ∙ ap (λ z. slice_get z.descs d) (sym face) ∙ x.descriptor_is in
    let desc : x.desc ≡ y.desc = one_some (slice_get y.face.descs d') x.desc y.desc there y.descriptor_is in
    sym x.name_is ∙ ap (λ z. z.name) desc ∙ y.name_is

-- the first clash of a kind is one
module _ (faces : List Face) (P : Kind) (named : (j d i : ℕ) (n : Name) → P j d i n → Names faces j d n) where
  one_first : (j d i j' d' i' : ℕ) (n m : Name) → IsFirst P j d i n → IsFirst P j' d' i' m → (j ≡ j') × (i ≡ i') × (n ≡ m)
  one_first j d i j' d' i' n m x y =
      let a = x.least j' d' i' m y.holds in
      let b = y.least j d i n x.holds in
      let later = same_later j d i j' d' i' a b in
      (later, same_earlier j d i j' d' i' a b, one_name faces j d j' d' n m later (same_descriptor j d i j' d' i' a b) (named j d i n x.holds) (named j' d' i' m y.holds))

  none_first : (j d i : ℕ) (n : Name) → HasNone P → IsFirst P j d i n → ⊥
  none_first j d i n none x = none j d i n x.holds

module _ (faces : List Face) where
  of_difference : (j d i : ℕ) (n : Name) → IsDifference faces j d i n → Names faces j d n
  of_difference j d i n x = x.names

  of_definition : (j d i : ℕ) (n : Name) → IsSecondDefinition faces j d i n → Names faces j d n
  of_definition j d i n x = x.names

  of_undefined : (j d i : ℕ) (n : Name) → IsUndefined faces j d i n → Names faces j d n
  of_undefined j d i n x = x.names

  agree_not_clash : (f : Clash) → Agree faces → IsFirstClash faces f → ⊥
  agree_not_clash f agree (clash.twice {name} e) = some_and_none (first_twice [] faces) name e agree.once
  agree_not_clash f agree (clash.differs e first) = agree.same _ _ _ _ first.holds
  agree_not_clash f agree (clash.defined_twice e none first) = agree.one_definition _ _ _ _ first.holds
  agree_not_clash f agree (clash.undefined e none no_second first) = agree.all_defined _ _ _ _ first.holds

  same_differs : (j d i j' d' i' : ℕ) (n m : Name) → IsFirst (IsDifference faces) j d i n → IsFirst (IsDifference faces) j' d' i' m → clashes.Differs n (i + 1) (j + 1) ≡ clashes.Differs m (i' + 1) (j' + 1)
  same_differs j d i j' d' i' n m x y =
      let (later, earlier, name) = one_first faces (IsDifference faces) of_difference j d i j' d' i' n m x y in
      cc (later, earlier, name)

  same_twice : (j d i j' d' i' : ℕ) (n m : Name) → IsFirst (IsSecondDefinition faces) j d i n → IsFirst (IsSecondDefinition faces) j' d' i' m → clashes.DefinedTwice n (i + 1) (j + 1) ≡ clashes.DefinedTwice m (i' + 1) (j' + 1)
  same_twice j d i j' d' i' n m x y =
      let (later, earlier, name) = one_first faces (IsSecondDefinition faces) of_definition j d i j' d' i' n m x y in
      cc (later, earlier, name)

  same_undefined : (j d i j' d' i' : ℕ) (n m : Name) → IsFirst (IsUndefined faces) j d i n → IsFirst (IsUndefined faces) j' d' i' m → clashes.Undefined n ≡ clashes.Undefined m
  same_undefined j d i j' d' i' n m x y = ap clashes.Undefined (one_first faces (IsUndefined faces) of_undefined j d i j' d' i' n m x y).2

  one_clash : (f g : Clash) → IsFirstClash faces f → IsFirstClash faces g → f ≡ g
  one_clash f g (clash.twice {name} e) (clash.twice {name = other} h) = ap clashes.SegmentTwice (one_some (first_twice [] faces) name other e h)
  one_clash f g (clash.twice {name} e) (clash.differs h y) = absurd (some_and_none (first_twice [] faces) name e h)
  one_clash f g (clash.twice {name} e) (clash.defined_twice h alike y) = absurd (some_and_none (first_twice [] faces) name e h)
  one_clash f g (clash.twice {name} e) (clash.undefined h alike none y) = absurd (some_and_none (first_twice [] faces) name e h)
  one_clash f g (clash.differs e x) (clash.twice {name} h) = absurd (some_and_none (first_twice [] faces) name h e)
  one_clash f g (clash.differs e x) (clash.differs h y) = same_differs _ _ _ _ _ _ _ _ x y
  one_clash f g (clash.differs e x) (clash.defined_twice h alike y) = absurd (alike _ _ _ _ x.holds)
  one_clash f g (clash.differs e x) (clash.undefined h alike none y) = absurd (alike _ _ _ _ x.holds)
  one_clash f g (clash.defined_twice e none x) (clash.twice {name} h) = absurd (some_and_none (first_twice [] faces) name h e)
  one_clash f g (clash.defined_twice e none x) (clash.differs h y) = absurd (none _ _ _ _ y.holds)
  one_clash f g (clash.defined_twice e none x) (clash.defined_twice h alike y) = same_twice _ _ _ _ _ _ _ _ x y
  one_clash f g (clash.defined_twice e none x) (clash.undefined h alike second y) = absurd (second _ _ _ _ x.holds)
  one_clash f g (clash.undefined e none second x) (clash.twice {name} h) = absurd (some_and_none (first_twice [] faces) name h e)
  one_clash f g (clash.undefined e none second x) (clash.differs h y) = absurd (none _ _ _ _ y.holds)
  one_clash f g (clash.undefined e none second x) (clash.defined_twice h alike y) = absurd (second _ _ _ _ y.holds)
  one_clash f g (clash.undefined e none second x) (clash.undefined h alike twice y) = same_undefined _ _ _ _ _ _ _ _ x y

-- ---- places

module _ (ss : List SegmentStorage) (spaces : List Space) (limits : Limits) where
  place_not_faulty : (f : PlaceFault) (other : f ≢ places.NoMemory) → NoneOutside spaces limits → FitsData ss limits → FitsControl spaces limits → IsFirstFault ss spaces limits f → ⊥
  place_not_faulty (places.AbsoluteOutside segment address) other outside fits control x = some_and_none _ (segment, address) x outside
  place_not_faulty (places.DataTooBig need) other outside fits control x = absurd (omega (arith, x.1, fits))
  place_not_faulty (places.ControlTooBig need) other outside fits control x = absurd (omega (arith, x.2, control))
  place_not_faulty places.NoMemory other outside fits control x = other refl

  one_place : (f g : PlaceFault) → f ≢ places.NoMemory → g ≢ places.NoMemory → IsFirstFault ss spaces limits f → IsFirstFault ss spaces limits g → f ≡ g
  one_place (places.AbsoluteOutside s a) (places.AbsoluteOutside t b) m n x y =
      let pair : ◌≡◌ {A = ℕ × ℕ} (s, a) (t, b) = one_some _ (s, a) (t, b) x y in
      ap (λ (p : ℕ × ℕ). places.AbsoluteOutside p.0 p.1) pair
  one_place (places.AbsoluteOutside s a) (places.DataTooBig k) m n x y = absurd (some_and_none _ (s, a) x y.0)
  one_place (places.AbsoluteOutside s a) (places.ControlTooBig k) m n x y = absurd (some_and_none _ (s, a) x y.0)
  one_place (places.DataTooBig k) (places.AbsoluteOutside t b) m n x y = absurd (some_and_none _ (t, b) y x.0)
  one_place (places.DataTooBig k) (places.DataTooBig l) m n x y = ap places.DataTooBig (x.2 ∙ sym y.2)
  one_place (places.DataTooBig k) (places.ControlTooBig l) m n x y = absurd (omega (arith, x.1, y.1))
  one_place (places.ControlTooBig k) (places.AbsoluteOutside t b) m n x y = absurd (some_and_none _ (t, b) y x.0)
  one_place (places.ControlTooBig k) (places.DataTooBig l) m n x y = absurd (omega (arith, y.1, x.1))
  one_place (places.ControlTooBig k) (places.ControlTooBig l) m n x y = ap places.ControlTooBig (x.3 ∙ sym y.3)
  one_place places.NoMemory g m n x y = absurd (m refl)
  one_place f places.NoMemory m n x y = absurd (n refl)

-- ---- presets

same_address : (ps : List FilledWord) (a b f g s t : ℕ) → IsPresetClash ps a f s → IsPresetClash ps b g t → a ≡ b
same_address ps a b f g s t x y = at (cases_order a b)
  where
    at : (a ≡ b) ⊎ ((a < b) ⊎ (b < a)) → a ≡ b
    at (inl e) = e
    at (inr (inl h)) = absurd (some_and_none (clash_at a ps) (f, s) x.here (y.lowest a h))
    at (inr (inr k)) = absurd (some_and_none (clash_at b ps) (g, t) y.here (x.lowest b k))

one_preset : (ps : List FilledWord) (a b f g s t : ℕ) → IsPresetClash ps a f s → IsPresetClash ps b g t → PresetClash a f s ≡ PresetClash b g t
one_preset ps a b f g s t x y =
    let at = same_address ps a b f g s t x y in
    let pair : ◌≡◌ {A = ℕ × ℕ} (f, s) (g, t) = one_some (clash_at b ps) (f, s) (g, t) (ap (λ k. clash_at k ps) (sym at) ∙ x.here) y.here in
    ap (λ k. PresetClash k f s) at ∙ ap (λ (p : ℕ × ℕ). PresetClash b p.0 p.1) pair

-- ---- all faults: of what segments agree on, of their places, of their presets, of their code

module _ (cs : List Contents) (limits : Limits) where
  -- by what is in the way
  abbrev Way : LinkFault → Type 0
  Way f =
      ((clash : Clash) × IsFirstClash (faces_of cs) clash × (f ≡ of_clash clash))
      ⊎ (Agree (faces_of cs) × ((place : PlaceFault) × (place ≢ places.NoMemory) × IsFirstFault (storages_of cs) (spaces_of cs) limits place × (f ≡ of_place_fault place)))
      ⊎ (Agree (faces_of cs) × HavePlace cs limits × ((a x y : ℕ) × IsPresetClash (linked_presets cs) a x y × (f ≡ PresetClash a x y)))
      ⊎ (HaveWords cs limits × (65536 < linked_size cs) × (f ≡ CodeTooBig (told_words (linked_size cs))))

  way : (f : LinkFault) → IsFault cs limits f → Way f
  way (SegmentTwice name) x = inl (clashes.SegmentTwice name, x.first, refl)
  way (Differs name first second) x = inl (clashes.Differs name first second, x.first, refl)
  way (DefinedTwice name first second) x = inl (clashes.DefinedTwice name first second, x.first, refl)
  way (Undefined name) x = inl (clashes.Undefined name, x.first, refl)
  way (AbsoluteOutside segment address) x = inr (inl (x.first.0, (places.AbsoluteOutside segment address, λ e. absurd (cc), x.first.1, refl)))
  way (DataTooBig need) x = inr (inl (x.first.0, (places.DataTooBig need, λ e. absurd (cc), x.first.1, refl)))
  way (ControlTooBig need) x = inr (inl (x.first.0, (places.ControlTooBig need, λ e. absurd (cc), x.first.1, refl)))
  way (PresetClash address first second) x = inr (inr (inl (x.first.0, x.first.1, (address, first, second, x.first.2, refl))))
  way (CodeTooBig bytes) x = inr (inr (inr (x.first.0, x.first.1, ap CodeTooBig x.first.2)))
  way NoMemory x = absurd (x.is_fault refl)

  no_place : (place : PlaceFault) → place ≢ places.NoMemory → HavePlace cs limits → IsFirstFault (storages_of cs) (spaces_of cs) limits place → ⊥
  no_place place other have x = place_not_faulty (storages_of cs) (spaces_of cs) limits place other have.0 have.1 have.2 x

  no_preset : (a x y : ℕ) → NoPresetClash (linked_presets cs) → IsPresetClash (linked_presets cs) a x y → ⊥
  no_preset a x y none clash = some_and_none (clash_at a (linked_presets cs)) (x, y) clash.here (none a)

  not_in_the_way : (f : LinkFault) → AreLinked cs limits → Way f → ⊥
  not_in_the_way f links (inl (clash, x, e)) = agree_not_clash (faces_of cs) clash links.words.agree x
  not_in_the_way f links (inr (inl (agree, (place, other, x, e)))) = no_place place other links.words.place x
  not_in_the_way f links (inr (inr (inl (agree, have, (a, x, y, clash, e))))) = no_preset a x y links.words.no_clash clash
  not_in_the_way f links (inr (inr (inr (words, long, e)))) = absurd (omega (arith, long, links.code))

  pub links_not_faulty : (f : LinkFault) → AreLinked cs limits → IsFault cs limits f → ⊥
  links_not_faulty f links x = not_in_the_way f links (way f x)

  one_way : (f g : LinkFault) → Way f → Way g → f ≡ g
  one_way f g (inl (clash, x, e)) (inl (other, y, h)) = e ∙ ap of_clash (one_clash (faces_of cs) clash other x y) ∙ sym h
  one_way f g (inl (clash, x, e)) (inr (inl (agree, y))) = absurd (agree_not_clash (faces_of cs) clash agree x)
  one_way f g (inl (clash, x, e)) (inr (inr (inl (agree, have, y)))) = absurd (agree_not_clash (faces_of cs) clash agree x)
  one_way f g (inl (clash, x, e)) (inr (inr (inr (words, long, h)))) = absurd (agree_not_clash (faces_of cs) clash words.agree x)
  one_way f g (inr (inl (agree, x))) (inl (other, y, h)) = absurd (agree_not_clash (faces_of cs) other agree y)
  one_way f g (inr (inl (agree, (place, m, x, e)))) (inr (inl (also, (other, n, y, h)))) = e ∙ ap of_place_fault (one_place (storages_of cs) (spaces_of cs) limits place other m n x y) ∙ sym h
  one_way f g (inr (inl (agree, (place, m, x, e)))) (inr (inr (inl (also, have, y)))) = absurd (no_place place m have x)
  one_way f g (inr (inl (agree, (place, m, x, e)))) (inr (inr (inr (words, long, h)))) = absurd (no_place place m words.place x)
  one_way f g (inr (inr (inl (agree, have, x)))) (inl (other, y, h)) = absurd (agree_not_clash (faces_of cs) other agree y)
  one_way f g (inr (inr (inl (agree, have, x)))) (inr (inl (also, (other, n, y, h)))) = absurd (no_place other n have y)
  one_way f g (inr (inr (inl (agree, have, (a, p, q, x, e))))) (inr (inr (inl (also, too, (b, r, s, y, h))))) = e ∙ one_preset (linked_presets cs) a b p r q s x y ∙ sym h
  one_way f g (inr (inr (inl (agree, have, (a, p, q, x, e))))) (inr (inr (inr (words, long, h)))) = absurd (no_preset a p q words.no_clash x)
  one_way f g (inr (inr (inr (words, long, e)))) (inl (other, y, h)) = absurd (agree_not_clash (faces_of cs) other words.agree y)
  one_way f g (inr (inr (inr (words, long, e)))) (inr (inl (also, (other, n, y, h)))) = absurd (no_place other n words.place y)
  one_way f g (inr (inr (inr (words, long, e)))) (inr (inr (inl (also, too, (b, r, s, y, h))))) = absurd (no_preset b r s words.no_clash y)
  one_way f g (inr (inr (inr (words, long, e)))) (inr (inr (inr (others, longer, h)))) = e ∙ sym h

  pub one_fault : (f g : LinkFault) → IsFault cs limits f → IsFault cs limits g → f ≡ g
  one_fault f g x y = one_way f g (way f x) (way g y)
