-- A unit whose storage stands passes the test of it.
use Rattle.std.proofs.Common.{◌≡◌, ℕ, suc, ◌+◌, ◌<◌, ◌≤◌, List, [], ◌∷◌, length, true, ◌&&◌, IsTrue, Option, Some, None, slice_get, nat_le, nat_lt, refl, sym, ap, subst, ◌∙◌, arith}
use Rattle.std.specs.List.{list_all}
use Rattle.std.proofs.lemmas.Bool.Decides.{nat_tests}
use Rattle.cw_unit.specs.declared.unit.Unit.{Unit as SourceUnit}
use Rattle.cw_unit.specs.declared.unit.Item.{Item}
use Rattle.cw_unit.specs.declared.unit.Proc.{Proc}
use Rattle.cw_unit.specs.declared.unit.Home.{Home}
use Rattle.cw_unit.specs.declared.unit.Home.TheVariants as home
use Rattle.cw_unit.specs.Storage.{base_of_home, base_of_item, family_offset, frame_size}
use Rattle.cw_built.specs.Stored.{is_owned, is_before, is_home, ends_in_reach, is_preset, is_item, are_items, are_frames, are_bases, is_stored}
use Rattle.cw_sound.specs.Items.Items.{StorageStands}
use Rattle.cw_sound.specs.Storage.Frames.{FramesOwned, FramesFit}
use Rattle.cw_sound.proofs.Storage.SameKinds.{and_true}

lt_true : (a b : ℕ) → a < b → nat_lt a b ≡ true
lt_true a b h = grind (arith, nat_tests)

le_true : (a b : ℕ) → a ≤ b → nat_le a b ≡ true
le_true a b h = grind (arith, nat_tests)

before_true : (i : ℕ) (o : Option (ℕ × ℕ)) → ((b : ℕ × ℕ) → o ≡ Some b → b.0 < i) → IsTrue (is_before i o)
before_true i None h = refl
before_true i (Some b) h = lt_true b.0 i (h b refl)

module _ (u : SourceUnit) (stands : StorageStands u) (owned : FramesOwned u) (fit : FramesFit u) where
  base_below : (i : ℕ) (x : Item) (h : Home) → slice_get u.items i ≡ Some x → x.home ≡ h → (b : ℕ × ℕ) → base_of_home u h ≡ Some b → b.0 < i
  base_below i x h e k b f = stands.storable.base_before i b (ap (base_of_item u) e ∙ ap (base_of_home u) k ∙ f)

  home_true : (i : ℕ) (x : Item) (h : Home) → slice_get u.items i ≡ Some x → x.home ≡ h → IsTrue (is_home u i x.owner h)
  home_true i x (home.Common d) e k = before_true i (base_of_home u (home.Common d)) (base_below i x (home.Common d) e k)
  home_true i x home.Own e k = refl
  home_true i x (home.Absolute a) e k = refl
  home_true i x home.Frame e k =
      let q = stands.storable.frame_owned i x e k in
      subst (λ o. IsTrue (is_owned (length u.procs) o)) (sym q.1) (lt_true q.0 (length u.procs) (owned i x q.0 e k q.1))
  home_true i x (home.Over b offset) e k = lt_true b i (base_below i x (home.Over b offset) e k (b, offset) refl)

  item_true : (i : ℕ) (x : Item) → slice_get u.items i ≡ Some x → IsTrue (is_item u i x)
  item_true i x e =
      let reach = stands.reach i x e in
      and_true (is_home u i x.owner x.home) (ends_in_reach u i x.words && list_all (is_preset x.words) x.presets) (home_true i x x.home e refl)
      (and_true (ends_in_reach u i x.words) (list_all (is_preset x.words) x.presets) (lt_true (family_offset u i + x.words) 65536 (omega (arith, reach))) (stands.presets i x e))

  items_true : (i : ℕ) (xs : List Item) → ((j : ℕ) (x : Item) → slice_get xs j ≡ Some x → slice_get u.items (i + j) ≡ Some x) → IsTrue (are_items u i xs)
  items_true i [] at = refl
  items_true i (x ∷ xs) at =
      let here : i + 0 ≡ i = omega arith in
      let behind = λ (j : ℕ). (let same : suc i + j ≡ i + suc j = omega arith in same) in
      and_true (is_item u i x) (are_items u (suc i) xs) (item_true i x (ap (slice_get u.items) (sym here) ∙ at 0 x refl))
      (items_true (suc i) xs (λ j y e. ap (slice_get u.items) (behind j) ∙ at (suc j) y e))

  frames_true : (q : ℕ) (ps : List Proc) → q + length ps ≤ length u.procs → IsTrue (are_frames u q ps)
  frames_true q [] few = refl
  frames_true q (p ∷ ps) few =
      let most = fit q (omega (arith, few)) in
      and_true (nat_lt (frame_size u q) 65536) (are_frames u (suc q) ps) (lt_true (frame_size u q) 65536 (omega (arith, most))) (frames_true (suc q) ps (omega (arith, few)))

  pub passes : IsTrue (is_stored u)
  passes =
      let none = λ (j : ℕ). (let same : 0 + j ≡ j = omega arith in same) in
      and_true (nat_le (length u.items) 65535) (are_bases u && (are_items u 0 u.items && are_frames u 0 u.procs)) (le_true (length u.items) 65535 stands.few)
      (and_true (are_bases u) (are_items u 0 u.items && are_frames u 0 u.procs) stands.bases
      (and_true (are_items u 0 u.items) (are_frames u 0 u.procs) (items_true 0 u.items (λ j x e. ap (slice_get u.items) (none j) ∙ e)) (frames_true 0 u.procs (omega arith))))
