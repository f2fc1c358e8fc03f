-- Each constant in the orders of a unit is a word.
use Rattle.std.proofs.Common.{◌≡◌, ℕ, zero, suc, ◌<◌, List, [], ◌∷◌, ◌++◌, true, false, Option, Some, None, sym, ap, ◌∙◌, subst, Bool}
use Rattle.std.specs.Prelude.{option_map, slice_get}
use Rattle.std.proofs.lemmas.Option.{none-some, same_Some, slice_get-map}
use Rattle.cw_unit.specs.declared.unit.Unit.{Unit as SourceUnit}
use Rattle.cw_unit.specs.declared.unit.Arg.TheOpen as layer
use Rattle.cw_unit.specs.declared.unit.Arg.TheOpen.{Spot-F}
use Rattle.cw_unit.specs.declared.layout.Layout.{Layout}
use Rattle.cw_unit.specs.declared.layout.Limits.{Limits}
use Rattle.cw_unit.specs.declared.layout.Map.{Map}
use Rattle.cw_unit.specs.Storage.{layout_of}
use Rattle.cw_order.specs.declared.order.Order.{Order}
use Rattle.cw_order.specs.declared.order.Order.TheVariants as order
use Rattle.cw_order.specs.OrderProgram.{order_in}
use Rattle.cw_order.specs.FittingWords.{ConstantsFit}
use Rattle.cw_gen_expr.specs.Pieces.{Piece}
use Rattle.cw_gen_expr.specs.ReferenceExpressions.{Value, Reference, ConditionPiece, item_order, item_span, row_order, form_orders}
use Rattle.cw_gen_expr.specs.KnownValues.{all_inside}
use Rattle.cw_gen_expr.specs.UnitTables.{first_mark}
use Rattle.cw_gen_unit.specs.ReferenceUnits.{unit_orders, orders_program}
use Rattle.cw_carry.proofs.Runs.Generated.{IsPlain, ListProperty, item_plain}
use Rattle.cw_carry.proofs.Runs.GeneratedUnits.{unit_holds}

abbrev IsWord : Order → Type 0
IsWord (order.Const w) = w < 65536
IsWord _ = Unit {0}

abbrev AreWords : List Order → Type 0
AreWords [] = Unit {0}
AreWords (o ∷ os) = IsWord o × AreWords os

joined : (a b : List Order) → AreWords a → AreWords b → AreWords (a ++ b)
joined [] b f g = g
joined (o ∷ os) b f g = (f.0, joined os b f.1 g)

found : (os : List Order) (k : ℕ) (o : Order) → AreWords os → slice_get os k ≡ Some o → IsWord o
found [] k o f h = absurd (none-some o h)
found (x ∷ os) zero o f h = subst IsWord (same_Some x o h) f.0
found (x ∷ os) (suc k) o f h = found os k o f.1 h

no_constant : (o : Order) → IsPlain o → IsWord o
no_constant (order.Const w) h = absurd h
no_constant _ h = tt

module _ (y : Layout) where
  item_word : (i : ℕ) → IsWord (item_order y i 0)
  item_word i = no_constant (item_order y i 0) (item_plain y i 0)

  formed : (compared : Bool) (line : ℕ) (x : Spot-F Piece ConditionPiece Value Piece Reference) → AreWords (form_orders y compared line x)
  formed c line (layer.Direct i) = (item_word i, tt)
  formed c line (layer.Through i) = (item_word i, (tt, (tt, tt)))
  formed c line (layer.One i l u e) = (tt, (item_word i, (tt, tt)))
  formed c line (layer.Two i l1 u1 l2 u2 n e g) = (tt, (item_word i, (row (all_inside c (item_span y i) l1 u1 l2 u2 n), tt)))
    where
      row : (b : Bool) → IsWord (row_order b l1 l2 n (item_span y i) line)
      row true = tt
      row false = tt
  formed c line (layer.ParamArray i e) = (tt, (item_word i, (tt, (tt, tt))))
  formed c line (layer.Word i true n e) = (tt, (item_word i, (tt, (tt, tt))))
  formed c line (layer.Word i false n e) = (tt, (item_word i, (tt, tt)))
  formed c line (layer.Elem i true n m w e) = (tt, (item_word i, (tt, (tt, tt))))
  formed c line (layer.Elem i false n m w e) = (tt, (item_word i, (tt, tt)))
  formed c line (layer.Bare e) = (tt, tt)

  abbrev property : ListProperty y
  property = record { holds = AreWords; none = tt; joined = joined; alone = λ o h. (no_constant o h, tt); constant = λ w lt. (lt, tt); begun = λ line b l h. (tt, h); formed = formed }

pub constants-fit : (us : List SourceUnit) (m : Map) (limits : Limits) (room : ℕ) → ConstantsFit (orders_program us m limits room)
constants-fit us m limits room g place w h = in_unit (slice_get us g) (sym (ap (λ o. order_in o place) (slice_get-map unit_orders us g)) ∙ h)
  where
    in_unit : (o : Option SourceUnit) → order_in (option_map unit_orders o) place ≡ Some (order.Const w) → w < 65536
    in_unit None e = absurd (none-some (order.Const w) e)
    in_unit (Some u) e = found (unit_orders u).list place (order.Const w) ((unit_holds u (property (layout_of u))).at 0 (first_mark u)) e
