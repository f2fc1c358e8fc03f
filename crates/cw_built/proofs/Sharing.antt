-- What a descriptor stands for is shared by the unit that defines it.
use Rattle.std.proofs.Common.{◌≡◌, ℕ, suc, ◌+◌, List, [], ◌∷◌, Bool, true, false, Option, Some, None, slice_get, refl, sym, ap, subst, ◌∙◌, arith}
use Rattle.std.specs.Prelude.{if◌then◌else◌, map, option_map}
use Rattle.std.proofs.lemmas.Option.{none-some, same_Some, slice_get-map}
use Rattle.cw_unit.specs.declared.unit.Unit.{Unit as SourceUnit}
use Rattle.cw_unit.specs.declared.unit.Def.{Def}
use Rattle.cw_unit.specs.declared.layout.Limits.{Limits}
use Rattle.cw_unit.specs.declared.layout.Map.{Map}
use Rattle.cw_unit.specs.Allocation.{Name, is_same_name}
use Rattle.cw_unit.specs.Program.{name_of, definition_in, found_in, definition_from}
use Rattle.cw_order.specs.declared.order.Orders.{Orders}
use Rattle.cw_order.specs.OrderProgram.{defined_in}
use Rattle.cw_order.specs.Sharing.{Shares, DefinitionsShared}
use Rattle.cw_gen_expr.specs.UnitTables.{tables_of}
use Rattle.cw_gen_unit.specs.ReferenceUnits.{shared, unit_orders, orders_program}

first-or-later : (u : SourceUnit) (name : Name) (d : ℕ × Def) (ds : List (ℕ × Def)) (x : Def) → (definition_in u name ds ≡ Some x → (k : ℕ) × (slice_get (shared ds) k ≡ Some x))
    → (b : Bool) → (if b then Some d.1 else definition_in u name ds) ≡ Some x → (k : ℕ) × (slice_get (shared (d ∷ ds)) k ≡ Some x)
first-or-later u name d ds x later true is = (0, is)
first-or-later u name d ds x later false is = let r = later is in (suc r.0, r.1)

in-list : (u : SourceUnit) (name : Name) (ds : List (ℕ × Def)) (x : Def) → definition_in u name ds ≡ Some x → (k : ℕ) × (slice_get (shared ds) k ≡ Some x)
in-list u name [] x e = absurd (none-some x e)
in-list u name (d ∷ ds) x e = first-or-later u name d ds x (λ is. in-list u name ds x is) (is_same_name name (name_of u d.0)) e

-- the unit that defines it, from a segment on
record Found (us : List SourceUnit) (g to : ℕ) (x : Def) : Type 0 where
  behind : ℕ
  is : to ≡ g + behind
  unit : SourceUnit
  there : slice_get us behind ≡ Some unit
  shares : Shares (unit_orders unit) x

here-or-later : (name : Name) (g : ℕ) (u : SourceUnit) (us : List SourceUnit) (to : ℕ) (x : Def) → (definition_from name (g + 1) us ≡ Some (to, x) → Found us (g + 1) to x)
    → (v : Option Def) → definition_in u name u.defined ≡ v → found_in g v (definition_from name (g + 1) us) ≡ Some (to, x) → Found (u ∷ us) g to x
here-or-later name g u us to x later None none e =
    let r = later e in
    let here = r.is in
    record { behind = suc r.behind; is = omega arith; unit = r.unit; there = r.there; shares = r.shares }
here-or-later name g u us to x later (Some d) some e =
    let same = same_Some (g, d) (to, x) e in
    let number : g ≡ to = ap (λ (y : ℕ × Def). y.0) same in
    let one : d ≡ x = ap (λ (y : ℕ × Def). y.1) same in
    let here : to ≡ g + 0 = omega arith in
    record { behind = 0; is = here; unit = u; there = refl; shares = in-list u name u.defined x (some ∙ ap (λ y. Some y) one) }

found : (name : Name) (g : ℕ) (us : List SourceUnit) (to : ℕ) (x : Def) → definition_from name g us ≡ Some (to, x) → Found us g to x
found name g [] to x e = absurd (none-some (to, x) e)
found name g (u ∷ us) to x e = here-or-later name g u us to x (λ is. found name (g + 1) us to x is) (definition_in u name u.defined) refl e

module _ (us : List SourceUnit) (m : Map) (limits : Limits) (room : ℕ) where
  same-unit : (to : ℕ) (u : SourceUnit) (o : Orders) → slice_get us to ≡ Some u → slice_get (map unit_orders us) to ≡ Some o → unit_orders u ≡ o
  same-unit to u o there unit = same_Some (unit_orders u) o (sym (ap (option_map unit_orders) there) ∙ sym (slice_get-map unit_orders us to) ∙ unit)

  shared-by : (d to : ℕ) (x : Def) (o : Orders) (v : Option SourceUnit) → defined_in (option_map (tables_of us) v) d ≡ Some (to, x) → slice_get (map unit_orders us) to ≡ Some o → Shares o x
  shared-by d to x o None e unit = absurd (none-some (to, x) e)
  shared-by d to x o (Some u) e unit =
      let r = found (name_of u d) 0 us to x e in
      let here : r.behind ≡ to = let i = r.is in omega arith in
      subst (λ y. Shares y x) (same-unit to r.unit o (ap (slice_get us) (sym here) ∙ r.there) unit) r.shares

  pub definitions-shared : DefinitionsShared (orders_program us m limits room)
  definitions-shared g d to x o e unit = shared-by d to x o (slice_get us g) (sym (ap (λ v. defined_in v d) (slice_get-map (tables_of us) us g)) ∙ e) unit
