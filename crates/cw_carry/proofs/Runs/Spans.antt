-- What the orders of references count on is in the data area.
use Rattle.std.proofs.Common.{◌≡◌, ℕ, zero, suc, ◌+◌, ◌-◌, ◌%◌, ◌<◌, ◌≤◌, List, [], ◌∷◌, ◌++◌, take, Bool, true, false, cond, Option, Some, None, is_none, refl, sym, ap, ◌∙◌, subst, arith}
use Rattle.std.specs.Prelude.{option_map, slice_get, slice_index, slice_index_or}
use Rattle.std.proofs.lemmas.Option.{none-some, same_Some, slice_get-map}
use Rattle.cw_unit.specs.declared.unit.Unit.{Unit as SourceUnit}
use Rattle.cw_unit.specs.declared.unit.Item.{Item}
use Rattle.cw_unit.specs.declared.unit.Arg.TheOpen as layer
use Rattle.cw_unit.specs.declared.unit.Arg.TheOpen.{Spot-F}
use Rattle.cw_unit.specs.declared.layout.Layout.{Layout}
use Rattle.cw_unit.specs.declared.layout.Family.{Family}
use Rattle.cw_unit.specs.declared.layout.Limits.{Limits}
use Rattle.cw_unit.specs.declared.layout.Map.{Map}
use Rattle.cw_unit.specs.declared.layout.Sort.{Sort}
use Rattle.cw_unit.specs.declared.layout.Sort.TheVariants as sort
use Rattle.cw_unit.specs.Storage.{base_of_home, root_of, family_of, family_offset, roots_in, family_at, families_from, layout_of}
use Rattle.cw_unit.specs.ValidStorage.{sort_in, as_stored, IsInFrame, InPlace}
use Rattle.cw_unit.proofs.Families.{least_extent}
use Rattle.cw_order.specs.declared.order.Order.{Order}
use Rattle.cw_order.specs.declared.order.Order.TheVariants as order
use Rattle.cw_order.specs.OrderProgram.{order_in}
use Rattle.cw_order.specs.OrderActions.{home_word}
use Rattle.cw_order.specs.Spans.{span_of, SpansInside}
use Rattle.cw_gen_expr.specs.Pieces.{Piece}
use Rattle.cw_gen_expr.specs.ReferenceExpressions.{Value, Reference, ConditionPiece, placed_by, placed_in, item_order, span_by, span_in, item_span, row_order, form_orders}
use Rattle.cw_gen_expr.specs.KnownValues.{all_inside}
use Rattle.cw_gen_expr.specs.UnitTables.{first_mark}
use Rattle.cw_gen_unit.specs.BuiltUnits.{Suits}
use Rattle.cw_gen_unit.specs.ReferenceUnits.{unit_orders, orders_program}
use Rattle.cw_carry.proofs.Runs.Generated.{IsPlain, ListProperty, item_plain}
use Rattle.cw_carry.proofs.Runs.GeneratedUnits.{unit_holds}

-- ---- families

-- the root of a family, where these are the items from number n on
record FamilyRoot (u : SourceUnit) (n : ℕ) (is : List Item) (f : ℕ) (x : Family) : Type 0 where
  number : ℕ
  item : Item
  family : x ≡ family_at u (n + number) item
  count : roots_in u (take number is) ≡ f

family-root : (u : SourceUnit) (n : ℕ) (is : List Item) (f : ℕ) (x : Family) → slice_get (families_from n u is) f ≡ Some x → FamilyRoot u n is f x
family-root u n [] f x e = absurd (none-some x e)
family-root u n (i ∷ is) f x e = by_base (λ g h. family-root u (n + 1) is g x h) (is_none (base_of_home u i.home)) refl f e
  where
    later : (b : Bool) → is_none (base_of_home u i.home) ≡ b → (g : ℕ) → FamilyRoot u (n + 1) is g x → FamilyRoot u n (i ∷ is) (cond b 1 0 + g) x
    later b same g r =
        let at : n + 1 + r.number ≡ n + suc r.number = omega arith in
        record { number = suc r.number; item = r.item; family = r.family ∙ ap (λ k. family_at u k r.item) at; count = ap (λ c. cond c 1 0 + roots_in u (take r.number is)) same ∙ ap (λ k. cond b 1 0 + k) r.count }

    by_base : ((g : ℕ) → slice_get (families_from (n + 1) u is) g ≡ Some x → FamilyRoot u (n + 1) is g x) → (b : Bool) → is_none (base_of_home u i.home) ≡ b → (g : ℕ) → slice_get (cond b (family_at u n i ∷ families_from (n + 1) u is) (families_from (n + 1) u is)) g ≡ Some x → FamilyRoot u n (i ∷ is) g x
    by_base rest true same zero h = let at : n ≡ n + 0 = omega arith in record { number = 0; item = i; family = sym (same_Some (family_at u n i) x h) ∙ ap (λ k. family_at u k i) at; count = refl }
    by_base rest true same (suc g) h = let at : 1 + g ≡ suc g = omega arith in subst (λ k. FamilyRoot u n (i ∷ is) k x) at (later true same g (rest g h))
    by_base rest false same g h = let at : 0 + g ≡ g = omega arith in subst (λ k. FamilyRoot u n (i ∷ is) k x) at (later false same g (rest g h))

-- ---- spans in lists

module _ (Inside : (family offset k : ℕ) → Type 0) where
  -- so many words from the address on that the order puts
  abbrev pub Covers : Order → (span : ℕ) → Type 0
  Covers (order.Home f n) s = (k : ℕ) → k < s → Inside f n k
  Covers _ s = s ≡ 0

  nothing : (o : Order) (s : ℕ) → s ≡ 0 → Covers o s
  nothing (order.Home f n) s e = λ k lt. absurd (omega (arith, e, lt))
  nothing _ s e = e

  -- what each order counts on, where this one stands before the list
  abbrev Covered : (previous : Order) → List Order → Type 0
  Covered p [] = Unit {0}
  Covered p (o ∷ os) = Covers p (span_of o) × Covered o os

  -- a list of its own counts on nothing before it
  behind : (p : Order) (os : List Order) → Covered order.Mark os → Covered p os
  behind p [] h = tt
  behind p (o ∷ os) h = (nothing p (span_of o) h.0, h.1)

  joined : (p : Order) (a b : List Order) → Covered p a → Covered order.Mark b → Covered p (a ++ b)
  joined p [] b h g = behind p b g
  joined p (o ∷ os) b h g = (h.0, joined o os b h.1 g)

  found : (p : Order) (os : List Order) (place f n k : ℕ) (o : Order) → Covered p os → slice_get os place ≡ Some (order.Home f n) → slice_get os (place + 1) ≡ Some o → k < span_of o → Inside f n k
  found p [] place f n k o h first second lt = absurd (none-some (order.Home f n) first)
  found p (x ∷ []) zero f n k o h first second lt = absurd (none-some o second)
  found p (x ∷ y ∷ os) zero f n k o h first second lt =
      (subst (λ v. Covers v (span_of o)) (same_Some x (order.Home f n) first) (subst (λ v. Covers x (span_of v)) (same_Some y o second) h.1.0)) k lt
  found p (x ∷ os) (suc place) f n k o h first second lt =
      let at : suc place + 1 ≡ suc (place + 1) = omega arith in found x os place f n k o h.1 first (sym (ap (slice_get (x ∷ os)) at) ∙ second) lt

  spanless : (o : Order) → IsPlain o → span_of o ≡ 0
  spanless (order.Const w) h = refl
  spanless (order.Element lower span line) h = absurd h
  spanless (order.ElementInside lower second width span) h = absurd h
  spanless (order.Entry width word span line) h = absurd h
  spanless _ h = refl

  module _ (y : Layout) (items : (i : ℕ) → Covers (item_order y i 0) (item_span y i)) where
    item_spanless : (i : ℕ) → span_of (item_order y i 0) ≡ 0
    item_spanless i = spanless (item_order y i 0) (item_plain y i 0)

    before_load : (i : ℕ) → Covers (item_order y i 0) 0
    before_load i = nothing (item_order y i 0) 0 refl

    formed : (compared : Bool) (line : ℕ) (x : Spot-F Piece ConditionPiece Value Piece Reference) → Covered order.Mark (form_orders y compared line x)
    formed c line (layer.Direct i) = (item_spanless i, tt)
    formed c line (layer.Through i) = (item_spanless i, (before_load i, (refl, tt)))
    formed c line (layer.One i l u e) = (refl, (item_spanless i, (items i, tt)))
    formed c line (layer.Two i l1 u1 l2 u2 n e g) = (refl, (item_spanless i, (row (all_inside c (item_span y i) l1 u1 l2 u2 n), tt)))
      where
        row : (b : Bool) → Covers (item_order y i 0) (span_of (row_order b l1 l2 n (item_span y i) line))
        row true = items i
        row false = before_load i
    formed c line (layer.ParamArray i e) = (refl, (item_spanless i, (before_load i, (refl, tt))))
    formed c line (layer.Word i true n e) = (refl, (item_spanless i, (before_load i, (refl, tt))))
    formed c line (layer.Word i false n e) = (refl, (item_spanless i, (items i, tt)))
    formed c line (layer.Elem i true n m w e) = (refl, (item_spanless i, (before_load i, (refl, tt))))
    formed c line (layer.Elem i false n m w e) = (refl, (item_spanless i, (items i, tt)))
    formed c line (layer.Bare e) = (refl, tt)

    abbrev property : ListProperty y
    property = record {
      holds = Covered order.Mark;
      none = tt;
      joined = joined order.Mark;
      alone = λ o h. (spanless o h, tt);
      constant = λ w h. (refl, tt);
      begun = λ line b l h. (refl, behind (order.Start line) b h);
      formed = formed;
    }

-- ---- programs

module _ (us : List SourceUnit) (m : Map) (limits : Limits) (room : ℕ) (suits : Suits us m limits room) (g : ℕ) where
  abbrev start : (family : ℕ) → ℕ
  start f = slice_index (slice_index_or m.homes g []) f

  abbrev Inside : (family offset k : ℕ) → Type 0
  Inside f n k = home_word m g f n + k < limits.area

  module _ (u : SourceUnit) (u-is : slice_get us g ≡ Some u) where
    -- a family outside frames ends in the area: each of its items does
    family-inside : (f : ℕ) (x : Family) → slice_get (layout_of u).families f ≡ Some x → ¬ IsInFrame x.sort → x.extent ≤ limits.area - start f
    family-inside f x x-is away =
        subst (λ e. e ≤ limits.area - start f) (sym (ap (λ v. v.extent) root.family))
        (least_extent u (0 + root.number) (limits.area - start f) each)
      where
        root : FamilyRoot u 0 u.items f x
        root = family-root u 0 u.items f x x-is

        each : (k : ℕ) (i : Item) → slice_get u.items k ≡ Some i → root_of u k ≡ 0 + root.number → family_offset u k + i.words ≤ limits.area - start f
        each k i i-is same =
            let at : 0 + root.number ≡ root.number = omega arith in
            let family : family_of u k ≡ f = ap (λ r. roots_in u (take r u.items)) (same ∙ at) ∙ root.count in
            let place : InPlace us limits (as_stored g u (slice_index_or m.homes g []) k i) = suits.valid.each (as_stored g u (slice_index_or m.homes g []) k i) (g, k, u, i, u-is, i-is, refl) in
            let sort-is = ap (λ n. sort_in (slice_get (layout_of u).families n)) family ∙ ap sort_in x-is in
            let le : start (family_of u k) + (family_offset u k + i.words) ≤ limits.area - limits.frames = place.below_frames (λ h. away (subst IsInFrame sort-is h)) in
            let home : start (family_of u k) ≡ start f = ap start family in
            omega (arith, le, home)

    home-inside : (f e o : ℕ) → e ≤ limits.area - start f → (k : ℕ) → k < (e - o) % 65536 → Inside f ((o + 0) % 65536) k
    home-inside f e o le k lt = omega (arith, le, lt, suits.area)

    by_sort : (s : Sort) (f e o : ℕ) → (¬ IsInFrame s → e ≤ limits.area - start f) → Covers Inside (placed_by s f (o + 0)) (span_by s e o)
    by_sort (sort.Frame b) f e o h = refl
    by_sort _ f e o h = home-inside f e o (h (λ v. v))

    by_family : (x : Option Family) (f o : ℕ) → slice_get (layout_of u).families f ≡ x → Covers Inside (placed_in x f (o + 0)) (span_in x o)
    by_family None f o h = λ k lt. absurd (omega (arith, lt))
    by_family (Some x) f o h = by_sort x.sort f x.extent o (family-inside f x h)

    pub items : (i : ℕ) → Covers Inside (item_order (layout_of u) i 0) (item_span (layout_of u) i)
    items i = let home = slice_index_or (layout_of u).homes i (0, 0) in by_family (slice_get (layout_of u).families home.0) home.0 home.1 refl

    covered : Covered Inside order.Mark (unit_orders u).list
    covered = (unit_holds u (property Inside (layout_of u) items)).at 0 (first_mark u)

  in-unit : (x : Option SourceUnit) → slice_get us g ≡ x → (place f n k : ℕ) (o : Order)
      → order_in (option_map unit_orders x) place ≡ Some (order.Home f n) → order_in (option_map unit_orders x) (place + 1) ≡ Some o → k < span_of o → Inside f n k
  in-unit None e place f n k o first second lt = absurd (none-some (order.Home f n) first)
  in-unit (Some u) e place f n k o first second lt = found Inside order.Mark (unit_orders u).list place f n k o (covered u e) first second lt

pub spans-inside : (us : List SourceUnit) (m : Map) (limits : Limits) (room : ℕ) → Suits us m limits room → SpansInside (orders_program us m limits room)
spans-inside us m limits room suits g place f n k o first second lt =
    let unit = slice_get-map unit_orders us g in
    in-unit us m limits room suits g (slice_get us g) refl place f n k o (sym (ap (λ x. order_in x place) unit) ∙ first) (sym (ap (λ x. order_in x (place + 1)) unit) ∙ second) lt
