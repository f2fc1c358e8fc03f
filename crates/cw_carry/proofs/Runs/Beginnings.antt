-- Behind each Start in the orders of a unit stands an order that begins a statement.
use Rattle.std.proofs.Common.{◌≡◌, ℕ, zero, suc, ◌+◌, List, [], ◌∷◌, ◌++◌, true, false, Option, Some, None, refl, sym, ap, ◌∙◌, subst, arith, Bool}
use Rattle.std.specs.Prelude.{option_map, slice_get}
use Rattle.std.proofs.lemmas.Option.{none-some, same_Some, slice_get-map}
use Rattle.cw_unit.specs.declared.unit.Unit.{Unit as SourceUnit}
use Rattle.cw_unit.specs.declared.unit.Arg.TheOpen as layer
use Rattle.cw_unit.specs.declared.unit.Arg.TheOpen.{Spot-F}
use Rattle.cw_unit.specs.declared.layout.Layout.{Layout}
use Rattle.cw_unit.specs.declared.layout.Limits.{Limits}
use Rattle.cw_unit.specs.declared.layout.Map.{Map}
use Rattle.cw_unit.specs.Storage.{layout_of}
use Rattle.cw_order.specs.declared.order.Order.{Order}
use Rattle.cw_order.specs.declared.order.Order.TheVariants as order
use Rattle.cw_order.specs.OrderProgram.{order_in}
use Rattle.cw_order.specs.BeginsStatement.{BeginsStatement, StatementsBegin}
use Rattle.cw_gen_expr.specs.Pieces.{Piece}
use Rattle.cw_gen_expr.specs.ReferenceExpressions.{Value, Reference, ConditionPiece, item_order, item_span, row_order, form_orders}
use Rattle.cw_gen_expr.specs.KnownValues.{all_inside}
use Rattle.cw_gen_expr.specs.UnitTables.{first_mark}
use Rattle.cw_gen_unit.specs.ReferenceUnits.{unit_orders, orders_program}
use Rattle.cw_carry.proofs.Runs.Leading.{Leads, leads_before}
use Rattle.cw_carry.proofs.Runs.Generated.{IsPlain, ListProperty, item_plain}
use Rattle.cw_carry.proofs.Runs.GeneratedUnits.{unit_holds}

-- an order, and what stands behind it
abbrev pub Begun : Order → List Order → Type 0
Begun (order.Start line) os = Leads os
Begun _ os = Unit {0}

abbrev pub AreBegun : List Order → Type 0
AreBegun [] = Unit {0}
AreBegun (o ∷ os) = Begun o os × AreBegun os

longer : (o : Order) (os b : List Order) → Begun o os → Begun o (os ++ b)
longer (order.Start line) os b h = leads_before os b h
longer _ os b h = tt

joined : (a b : List Order) → AreBegun a → AreBegun b → AreBegun (a ++ b)
joined [] b f g = g
joined (o ∷ os) b f g = (longer o os b f.0, joined os b f.1 g)

first : (os : List Order) → Leads os → (o : Order) × (slice_get os 0 ≡ Some o) × BeginsStatement o
first [] h = absurd h
first (o ∷ os) h = (o, refl, h)

found : (os : List Order) (k line : ℕ) → AreBegun os → slice_get os k ≡ Some (order.Start line) → (o : Order) × (slice_get os (k + 1) ≡ Some o) × BeginsStatement o
found [] k line f h = absurd (none-some (order.Start line) h)
found (x ∷ os) zero line f h = first os (subst (λ o. Begun o os) (same_Some x (order.Start line) h) f.0)
found (x ∷ os) (suc k) line f h = let at : suc k + 1 ≡ suc (k + 1) = omega arith in subst (λ j. (o : Order) × (slice_get (x ∷ os) j ≡ Some o) × BeginsStatement o) (sym at) (found os k line f.1 h)

alone : (o : Order) → IsPlain o → AreBegun (o ∷ [])
alone (order.Start line) h = absurd h
alone _ h = (tt, tt)

module _ (y : Layout) where
  item_alone : (i : ℕ) → AreBegun (item_order y i 0 ∷ [])
  item_alone i = alone (item_order y i 0) (item_plain y i 0)

  -- the address of an item among other orders
  item_first : (i : ℕ) (os : List Order) → AreBegun os → AreBegun (item_order y i 0 ∷ os)
  item_first i os h = joined (item_order y i 0 ∷ []) os (item_alone i) h

  formed : (compared : Bool) (line : ℕ) (x : Spot-F Piece ConditionPiece Value Piece Reference) → AreBegun (form_orders y compared line x)
  formed c line (layer.Direct i) = item_alone i
  formed c line (layer.Through i) = item_first i (order.Load ∷ order.InArea line ∷ []) (tt, (tt, tt))
  formed c line (layer.One i l u e) = (tt, item_first i _ (tt, tt))
  formed c line (layer.Two i l1 u1 l2 u2 n e g) = (tt, item_first i _ (row (all_inside c (item_span y i) l1 u1 l2 u2 n)))
    where
      row : (b : Bool) → AreBegun (row_order b l1 l2 n (item_span y i) line ∷ [])
      row true = (tt, tt)
      row false = (tt, tt)
  formed c line (layer.ParamArray i e) = (tt, item_first i _ (tt, (tt, tt)))
  formed c line (layer.Word i true n e) = (tt, item_first i _ (tt, (tt, tt)))
  formed c line (layer.Word i false n e) = (tt, item_first i _ (tt, tt))
  formed c line (layer.Elem i true n m w e) = (tt, item_first i _ (tt, (tt, tt)))
  formed c line (layer.Elem i false n m w e) = (tt, item_first i _ (tt, tt))
  formed c line (layer.Bare e) = (tt, tt)

  abbrev property : ListProperty y
  property = record { holds = AreBegun; none = tt; joined = joined; alone = alone; constant = λ w lt. (tt, tt); begun = λ line b l h. (l, h); formed = formed }

pub unit_begun : (u : SourceUnit) → AreBegun (unit_orders u).list
unit_begun u = (unit_holds u (property (layout_of u))).at 0 (first_mark u)

pub statements-begin : (us : List SourceUnit) (m : Map) (limits : Limits) (room : ℕ) → StatementsBegin (orders_program us m limits room)
statements-begin us m limits room g place line h =
    let unit = slice_get-map unit_orders us g in
    let r = in_unit (slice_get us g) (sym (ap (λ o. order_in o place) unit) ∙ h) in
    (r.0, ap (λ o. order_in o (place + 1)) unit ∙ r.1, r.2)
  where
    in_unit : (o : Option SourceUnit) → order_in (option_map unit_orders o) place ≡ Some (order.Start line) → (x : Order) × (order_in (option_map unit_orders o) (place + 1) ≡ Some x) × BeginsStatement x
    in_unit None e = absurd (none-some (order.Start line) e)
    in_unit (Some u) e = found (unit_orders u).list place line (unit_begun u) e
