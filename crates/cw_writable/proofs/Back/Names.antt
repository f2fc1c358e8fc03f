-- What a body of a unit that is built names: items in families of its layout, and descriptors that it has.
use Rattle.std.proofs.Common.{◌≡◌, ℕ, suc, ◌+◌, ◌%◌, ◌<◌, ◌≤◌, nat_lt, List, [], ◌∷◌, map, length, Bool, true, false, IsTrue, ◌&&◌, not, cond, if◌then◌else◌, Option, Some, None, is_some, is_none, slice_get, slice_index_or, refl, sym, ap, ◌∙◌, subst, arith}
use Rattle.std.proofs.lemmas.Option.{slice_get_within}
use Rattle.std.specs.List.{list_all}
use Rattle.std.specs.Str.{bytes_eq}
use Rattle.cw_unit.specs.declared.unit.Unit.{Unit as SourceUnit}
use Rattle.cw_unit.specs.declared.unit.Item.{Item}
use Rattle.cw_unit.specs.declared.unit.Param.{Param}
use Rattle.cw_unit.specs.declared.unit.Param.TheVariants as param
use Rattle.cw_unit.specs.declared.unit.Def.{Def}
use Rattle.cw_unit.specs.declared.unit.Def.TheVariants as def
use Rattle.cw_unit.specs.declared.descriptor.Desc.{Desc}
use Rattle.cw_unit.specs.declared.descriptor.DescBody.{DescBody}
use Rattle.cw_unit.specs.declared.descriptor.DescBody.TheVariants as bodies
use Rattle.cw_unit.specs.declared.layout.Family.{Family}
use Rattle.cw_unit.specs.declared.layout.Sort.{Sort}
use Rattle.cw_unit.specs.declared.layout.Sort.TheVariants as sort
use Rattle.cw_unit.specs.Storage.{base_of_home, family_at, families_from, layout_of, family_of, family_offset, root_of}
use Rattle.cw_unit.specs.Program.{name_in, definition_in, found_in, definition_from, definition_of}
use Rattle.cw_unit.specs.ValidStorage.{IsStorable}
use Rattle.cw_unit.proofs.Families.{root_at, family_found}
use Rattle.cw_order.specs.declared.order.Order.{Order}
use Rattle.cw_order.specs.declared.order.Order.TheVariants as order
use Rattle.cw_gen_expr.specs.NamedItems.{item_has, has_words}
use Rattle.cw_gen_expr.specs.ReferenceExpressions.{argument_words, placed_by, placed_in, item_order, table_orders}
use Rattle.cw_gen_expr.specs.ReferenceEntries.{bound_by, bound_in, bound_order, parameter_orders, bind_orders}
use Rattle.cw_gen_unit.specs.ReferenceStatements.{place_put}
use Rattle.cw_gen_unit.specs.BuiltUnits.{item_fits, items_fit}
use Rattle.cw_built.specs.Listed.{is_empty, are_named, lists_name, definition_as, defining}
use Rattle.cw_built.specs.Built.{alone}
use Rattle.cw_writable.proofs.Coded.Frames.{position-of}
use Rattle.cw_writable.proofs.Coded.Fine.{no, both, parts}
use Rattle.cw_writable.proofs.Coded.Numbers.{lt_true}
use Rattle.cw_writable.proofs.Back.Fit.{is_place, is_cell, names_well, passed}

-- ---- families

families-few : (u : SourceUnit) (n : ℕ) (is : List Item) → length (families_from n u is) ≤ length is
families-few u n [] = omega arith
families-few u n (i ∷ is) = by_base (is_none (base_of_home u i.home)) (families-few u (n + 1) is)
  where
    by_base : (b : Bool) → length (families_from (n + 1) u is) ≤ length is → length (cond b (family_at u n i ∷ families_from (n + 1) u is) (families_from (n + 1) u is)) ≤ suc (length is)
    by_base true h = omega (arith, h)
    by_base false h = omega (arith, h)

-- ---- items

module _ (u : SourceUnit) (stored : IsStorable u) (few : length u.items ≤ 65535) where
  abbrev Names : Order → Bool
  Names = names_well (length u.descs) (layout_of u).families

  first : (o : Order) (os : List Order) → IsTrue (Names o) → IsTrue (list_all Names os) → IsTrue (list_all Names (o ∷ os))
  first o os h k = both (Names o) (list_all Names os) h k

  word-small : (n : ℕ) → IsTrue (nat_lt (n % 65536) 65536)
  word-small n = let lt : n % 65536 < 65536 = omega arith in lt_true (n % 65536) 65536 lt

  record Found (i : ℕ) : Type 0 where
    item : Item
    is : slice_get u.items i ≡ Some item
    family : Family
    there : slice_get (layout_of u).families (family_of u i) ≡ Some family
    small : IsTrue (nat_lt (family_of u i) 65536)

  found : (who : Option ℕ) (i n : ℕ) → IsTrue (has_words u who i n) → Found i
  found who i n h = by_item (slice_get u.items i) refl h
    where
      by_item : (x : Option Item) → slice_get u.items i ≡ x → IsTrue (item_has u who i x n) → Found i
      by_item None e h = no h
      by_item (Some x) e h =
          let r = root_at u stored i x e in
          let there = family_found u i r in
          let within = slice_get_within (layout_of u).families (family_of u i) (family_at u (root_of u i) r.item) there in
          let all = families-few u 0 u.items in
          let lt : family_of u i < 65536 = omega (arith, within, all, few) in
          record { item = x; is = e; family = family_at u (root_of u i) r.item; there = there; small = lt_true (family_of u i) 65536 lt }

  in-family : (i : ℕ) (f : Found i) (o : ℕ) → IsTrue (is_place (layout_of u).families (family_of u i) (o % 65536))
  in-family i f o =
      both (is_some (slice_get (layout_of u).families (family_of u i))) (nat_lt (family_of u i) 65536 && nat_lt (o % 65536) 65536) (subst (λ x. IsTrue (is_some x)) (sym f.there) refl)
      (both (nat_lt (family_of u i) 65536) (nat_lt (o % 65536) 65536) f.small (word-small o))

  at-place : (i : ℕ) → Found i → slice_index_or (layout_of u).homes i (0, 0) ≡ (family_of u i, family_offset u i)
  at-place i f = position-of u i f.item f.is

  pub item-named : (who : Option ℕ) (i n word : ℕ) → IsTrue (has_words u who i n) → IsTrue (Names (item_order (layout_of u) i word))
  item-named who i n word h =
      let f = found who i n h in
      subst (λ (at : ℕ × ℕ). IsTrue (Names (placed_in (slice_get (layout_of u).families at.0) at.0 (at.1 + word)))) (sym (at-place i f)) (by_family f (slice_get (layout_of u).families (family_of u i)))
    where
      by_sort : (f : Found i) (s : Sort) → IsTrue (Names (placed_by s (family_of u i) (family_offset u i + word)))
      by_sort f (sort.Frame base) = refl
      by_sort f (sort.Common d) = in-family i f (family_offset u i + word)
      by_sort f sort.Own = in-family i f (family_offset u i + word)
      by_sort f (sort.Absolute a) = in-family i f (family_offset u i + word)

      by_family : (f : Found i) (x : Option Family) → IsTrue (Names (placed_in x (family_of u i) (family_offset u i + word)))
      by_family f None = in-family i f (family_offset u i + word)
      by_family f (Some x) = by_sort f x.sort

  -- so does the place whose address such an order puts
  sort-put : (s : Sort) (f o : ℕ) → IsTrue (Names (placed_by s f o)) → IsTrue (is_cell (layout_of u).families (place_put (placed_by s f o)))
  sort-put (sort.Frame base) f o h = refl
  sort-put (sort.Common d) f o h = h
  sort-put sort.Own f o h = h
  sort-put (sort.Absolute a) f o h = h

  family-put : (x : Option Family) (f o : ℕ) → IsTrue (Names (placed_in x f o)) → IsTrue (is_cell (layout_of u).families (place_put (placed_in x f o)))
  family-put None f o h = h
  family-put (Some x) f o h = sort-put x.sort f o h

  pub place-named : (who : Option ℕ) (i n word : ℕ) → IsTrue (has_words u who i n) → IsTrue (is_cell (layout_of u).families (place_put (item_order (layout_of u) i word)))
  place-named who i n word h =
      let y = layout_of u in
      let at = slice_index_or y.homes i (0, 0) in
      family-put (slice_get y.families at.0) at.0 (at.1 + word) (item-named who i n word h)

  pub bound-named : (who : Option ℕ) (k i n : ℕ) → IsTrue (has_words u who i n) → IsTrue (Names (bound_order (layout_of u) k i))
  bound-named who k i n h =
      let f = found who i n h in
      subst (λ (at : ℕ × ℕ). IsTrue (Names (bound_in k (slice_get (layout_of u).families at.0) at.0 at.1))) (sym (at-place i f)) (by_family f (slice_get (layout_of u).families (family_of u i)))
    where
      by_sort : (f : Found i) (s : Sort) → IsTrue (Names (bound_by k s (family_of u i) (family_offset u i)))
      by_sort f (sort.Frame base) = refl
      by_sort f (sort.Common d) = in-family i f (family_offset u i)
      by_sort f sort.Own = in-family i f (family_offset u i)
      by_sort f (sort.Absolute a) = in-family i f (family_offset u i)

      by_family : (f : Found i) (x : Option Family) → IsTrue (Names (bound_in k x (family_of u i) (family_offset u i)))
      by_family f None = in-family i f (family_offset u i)
      by_family f (Some x) = by_sort f x.sort

  pub table-named : (who : Option ℕ) (t : Bool) (i n : ℕ) → IsTrue (has_words u who i n) → IsTrue (list_all Names (table_orders (layout_of u) t i))
  table-named who true i n h = first (item_order (layout_of u) i 0) (order.Load ∷ []) (item-named who i n 0 h) refl
  table-named who false i n h = first (item_order (layout_of u) i 0) [] (item-named who i n 0 h) refl

  -- the parameters of a procedure

  parameter-named : (who : Option ℕ) (q : Param) (k : ℕ) → IsTrue (item_fits (λ i. has_words u who i 1) q) → IsTrue (list_all Names (parameter_orders (layout_of u) q k))
  parameter-named who (param.Value i s) k h = first (bound_order (layout_of u) k i) [] (bound-named who k i 1 h) refl
  parameter-named who (param.Location i s) k h = first (bound_order (layout_of u) k i) [] (bound-named who k i 1 h) refl
  parameter-named who (param.Array i s) k h = first (bound_order (layout_of u) k i) [] (bound-named who k i 1 h) refl
  parameter-named who (param.Table i m) k h = first (bound_order (layout_of u) k i) [] (bound-named who k i 1 h) refl
  parameter-named who (param.Label j) k h = refl
  parameter-named who (param.Switch j) k h = refl
  parameter-named who (param.Proc j s) k h = refl

  pub bind-named : (who : Option ℕ) (ps : List Param) → IsTrue (items_fit (λ i. has_words u who i 1) ps) → IsTrue (list_all Names (bind_orders (layout_of u) ps))
  bind-named who [] h = refl
  bind-named who (q ∷ qs) h =
      let t = parts (item_fits (λ i. has_words u who i 1) q) (items_fit (λ i. has_words u who i 1) qs) h in
      passed (length u.descs) (layout_of u).families (parameter_orders (layout_of u) q (argument_words qs)) (bind_orders (layout_of u) qs) (parameter-named who q (argument_words qs) t.0) (bind-named who qs t.1)

-- ---- descriptors

-- no segment defines the empty name
named-apart : (g : ℕ) (d : Desc) (other : Option (ℕ × Def)) → IsTrue (not (is_empty d.name)) → other ≡ None → found_in g (definition_in (defining d) [] (defining d).defined) other ≡ None
named-apart g d other h e = by_body d.body
  where
    apart : (name : List ℕ) → IsTrue (not (is_empty name)) → bytes_eq [] name ≡ false
    apart [] h = no h
    apart (c ∷ cs) h = refl

    one : (x : Def) → found_in g (definition_in (defining d) [] ((0, x) ∷ [])) other ≡ None
    one x = ap (λ b. found_in g (if b then Some x else None) other) (apart d.name h) ∙ e

    by_body : (b : DescBody) → found_in g (definition_in (defining d) [] (map (λ x. (0, x)) (definition_as b))) other ≡ None
    by_body (bodies.Word s) = e
    by_body (bodies.Array s dims) = e
    by_body (bodies.Table width len elems) = e
    by_body bodies.Label = one (def.Label 0)
    by_body bodies.Switch = one (def.Switch 0)
    by_body (bodies.Proc s) = one (def.Proc 0)

undefined : (g : ℕ) (ds : List Desc) → IsTrue (are_named ds) → definition_from [] g (map defining ds) ≡ None
undefined g [] h = refl
undefined g (d ∷ ds) h =
    let p = parts (not (is_empty d.name) && not (lists_name d.name ds)) (are_named ds) h in
    named-apart g d (definition_from [] (g + 1) (map defining ds)) (parts (not (is_empty d.name)) (not (lists_name d.name ds)) p.0).0 (undefined (g + 1) ds p.1)

-- what is asked of the definition of a descriptor's name shows that there is the descriptor
pub listed : (u : SourceUnit) → IsTrue (are_named u.descs) → (d : ℕ) (asked : Option (ℕ × Def) → Bool) → asked None ≡ false → IsTrue (asked (definition_of (alone u) 0 d)) → IsTrue (nat_lt d (length u.descs))
listed u named d asked fails h = by_descriptor (slice_get u.descs d) refl h
  where
    by_descriptor : (x : Option Desc) → slice_get u.descs d ≡ x → IsTrue (asked (definition_of (alone u) 0 d)) → IsTrue (nat_lt d (length u.descs))
    by_descriptor (Some x) e h = lt_true d (length u.descs) (slice_get_within u.descs d x e)
    by_descriptor None e h =
        let absent : definition_of (alone u) 0 d ≡ None = ap (λ x. definition_from (name_in x) 0 ((alone u).units)) e ∙ undefined 1 u.descs named in
        no (subst IsTrue (ap asked absent ∙ fails) h)
