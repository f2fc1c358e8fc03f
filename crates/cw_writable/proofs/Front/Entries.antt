-- The items of a unit as entries of its object.
use Rattle.std.proofs.Common.{◌≡◌, ℕ, zero, suc, ◌+◌, ◌<◌, ◌≤◌, List, [], ◌∷◌, length, ◌&&◌, ◌||◌, IsTrue, nat_lt, nat_eq, Option, Some, slice_get, refl, sym, ap, subst, ◌∙◌, arith}
use Rattle.std.specs.Prelude.{slice_index_or}
use Rattle.cw_unit.specs.declared.unit.Unit.{Unit as SourceUnit}
use Rattle.cw_unit.specs.declared.unit.Item.{Item}
use Rattle.cw_unit.specs.declared.layout.Family.{Family}
use Rattle.cw_unit.specs.Storage.{root_of, family_offset, family_extent, family_of, family_at, positions_from, layout_of}
use Rattle.cw_unit.proofs.Families.{Root, root_at, family_found, inside_family}
use Rattle.cw_fields.specs.Names.{is_empty, is_name_or_empty}
use Rattle.cw_view.specs.Payloads.{ItemEntry}
use Rattle.cw_view.specs.ObjectFormat.{is_named, has_words}
use Rattle.cw_obj.specs.ReferenceObject.{entry_of}
use Rattle.cw_object.specs.Fits.{is_word, is_long, fits_item}
use Rattle.cw_object.specs.IsWritable.{is_entry, are_entries}
use Rattle.cw_writable.specs.Front.Front.{ItemsFit, ItemsNamed}
use Rattle.cw_writable.proofs.Front.Truth.{lt_true, le_true, both, first_of_two, second_of_two}
use Rattle.cw_writable.proofs.Front.Families.{family_word}

module _ (u : SourceUnit) (fit : ItemsFit u) (named : ItemsNamed u) where
  place_at : (n : ℕ) (is : List Item) (k : ℕ) → k < length is → slice_index_or (positions_from n u is) k (0, 0) ≡ (family_of u (n + k), family_offset u (n + k))
  place_at n [] k h = absurd (omega (arith, h))
  place_at n (x ∷ xs) zero h = let here : n ≡ n + 0 = omega arith in ap (λ (m : ℕ). (family_of u m, family_offset u m)) here
  place_at n (x ∷ xs) (suc k) h = let next : n + 1 + k ≡ n + suc k = omega arith in place_at (n + 1) xs k (omega (arith, h)) ∙ ap (λ (m : ℕ). (family_of u m, family_offset u m)) next

  entry : (n : ℕ) (x : Item) → slice_get u.items n ≡ Some x → IsTrue (is_entry (layout_of u).families (entry_of u (family_of u n, family_offset u n) x))
  entry n x e =
      let i : ItemEntry = entry_of u (family_of u n, family_offset u n) x in
      let t = named.titled n x e in
      let r : Root u n = root_at u fit.storable n x e in
      let reach = fit.reach n x e in
      let ends = inside_family u n x e in
      let owned = first_of_two (is_name_or_empty i.owner) (is_name_or_empty i.name && (nat_lt i.line 65536 && (is_empty i.name || nat_eq i.line 0))) t in
      let more = second_of_two (is_name_or_empty i.owner) (is_name_or_empty i.name && (nat_lt i.line 65536 && (is_empty i.name || nat_eq i.line 0))) t in
      let called = first_of_two (is_name_or_empty i.name) (nat_lt i.line 65536 && (is_empty i.name || nat_eq i.line 0)) more in
      let lines = second_of_two (is_name_or_empty i.name) (nat_lt i.line 65536 && (is_empty i.name || nat_eq i.line 0)) more in
      let line = first_of_two (nat_lt i.line 65536) (is_empty i.name || nat_eq i.line 0) lines in
      let either = second_of_two (nat_lt i.line 65536) (is_empty i.name || nat_eq i.line 0) lines in
      let last : IsTrue (is_word i.family && (is_word i.offset && is_long i.words)) =
      both (is_word i.family) (is_word i.offset && is_long i.words) (lt_true (family_of u n) 65536 (family_word u fit n))
      (both (is_word i.offset) (is_long i.words) (lt_true (family_offset u n) 65536 (omega (arith, reach))) (lt_true x.words 4294967296 (omega (arith, reach)))) in
      let room : IsTrue (has_words i.offset i.words (Some (family_at u (root_of u n) r.item))) = le_true (family_offset u n + x.words) (family_extent u (root_of u n)) ends in
      both (fits_item i) (is_named i && has_words i.offset i.words (slice_get (layout_of u).families i.family))
      (both (is_name_or_empty i.owner) (is_name_or_empty i.name && (is_word i.line && ((is_empty i.name || nat_eq i.line 0) && (is_word i.family && (is_word i.offset && is_long i.words))))) owned
      (both (is_name_or_empty i.name) (is_word i.line && ((is_empty i.name || nat_eq i.line 0) && (is_word i.family && (is_word i.offset && is_long i.words)))) called
      (both (is_word i.line) ((is_empty i.name || nat_eq i.line 0) && (is_word i.family && (is_word i.offset && is_long i.words))) line
      (both (is_empty i.name || nat_eq i.line 0) (is_word i.family && (is_word i.offset && is_long i.words)) either last))))
      (both (is_named i) (has_words i.offset i.words (slice_get (layout_of u).families i.family)) (named.called n x e)
      (subst (λ (o : Option Family). IsTrue (has_words i.offset i.words o)) (sym (family_found u n r)) room))

  entries : (n : ℕ) (is : List Item) → n + length is ≤ length u.items → ((k : ℕ) (x : Item) → slice_get is k ≡ Some x → slice_get u.items (n + k) ≡ Some x) → IsTrue (are_entries n u (layout_of u) is)
  entries n [] few at = refl
  entries n (x ∷ xs) few at =
      let here : n + 0 ≡ n = omega arith in
      let e : slice_get u.items n ≡ Some x = ap (slice_get u.items) (sym here) ∙ at 0 x refl in
      let next = λ (k : ℕ). (let same : n + 1 + k ≡ n + suc k = omega arith in same) in
      let start : 0 + n ≡ n = omega arith in
      let place : slice_index_or (layout_of u).homes n (0, 0) ≡ (family_of u n, family_offset u n) = place_at 0 u.items n (omega (arith, few)) ∙ ap (λ (m : ℕ). (family_of u m, family_offset u m)) start in
      both (is_entry (layout_of u).families (entry_of u (slice_index_or (layout_of u).homes n (0, 0)) x)) (are_entries (n + 1) u (layout_of u) xs)
      (subst (λ (p : ℕ × ℕ). IsTrue (is_entry (layout_of u).families (entry_of u p x))) (sym place) (entry n x e))
      (entries (n + 1) xs (omega (arith, few)) (λ k y f. ap (slice_get u.items) (next k) ∙ at (suc k) y f))

  pub entries_stand : IsTrue (are_entries 0 u (layout_of u) u.items)
  entries_stand = entries 0 u.items (omega arith) (λ k x e. (let same : 0 + k ≡ k = omega arith in ap (slice_get u.items) same ∙ e))
