-- A FOR of one STEP element that begins without the library. Its control variable is an item that the reference names directly, and that shares
-- no word with the loop's own; the first value and the limit are numbers, or the words of items at the variable's scale; the step is a number.
-- So the address in word 0 of the loop is that of the variable until the body begins, and no part of the beginning can stop.
use Rattle.std.specs.Prelude.{ℕ, ◌%◌, ◌==◌, ℤ, List, [], ◌∷◌, Bool, true, false, not, ◌&&◌, Option, Some, None, slice_get, slice_index_or, if◌then◌else◌}
use Rattle.cw_word.specs.Decimal.{decimal_floor}
use Rattle.cw_word.specs.Word.{signed}
use Rattle.cw_unit.specs.declared.layout.Layout.{Layout}
use Rattle.cw_unit.specs.declared.layout.Family.{Family}
use Rattle.cw_unit.specs.declared.layout.Sort.TheVariants as sort
use Rattle.cw_unit.specs.declared.unit.Felem.{Felem}
use Rattle.cw_unit.specs.declared.unit.Felem.TheVariants as element
use Rattle.cw_unit.specs.declared.unit.Field.{Field}
use Rattle.cw_unit.specs.declared.unit.Cond.{Cond}
use Rattle.cw_unit.specs.declared.unit.Expr.{Expr, Expr-F, out-Expr}
use Rattle.cw_unit.specs.declared.unit.Arg.{Arg}
use Rattle.cw_unit.specs.declared.unit.Ref.{Ref, out-Ref}
use Rattle.cw_unit.specs.declared.unit.Spot.{Spot, out-Spot}
use Rattle.cw_unit.specs.declared.unit.Arg.TheOpen as layer
use Rattle.cw_unit.specs.declared.unit.Arg.TheOpen.{Spot-F}
use Rattle.cw_gen_expr.specs.KnownValues.{of_known, known_negative, known_rescaled}
use Rattle.cw_gen_unit.specs.declared.simple.Simple.{Simple}
use Rattle.cw_gen_unit.specs.declared.simple.Simple.TheVariants as simple
use Rattle.cw_gen_unit.specs.declared.simple.SimpleStep.{SimpleStep}

-- ---- items

-- the storage family of an item
abbrev pub family_of : Layout → (item : ℕ) → ℕ
family_of y i = (slice_index_or y.homes i (0, 0)).0

-- a family of the unit's own, and one that stands in no frame
abbrev pub is_own : Option Family → Bool
is_own None = false
is_own (Some x) = elim x.sort [ sort.Own ↦ true | _ ↦ false ]

abbrev pub is_static : Option Family → Bool
is_static None = true
is_static (Some x) = elim x.sort [ sort.Frame base ↦ false | _ ↦ true ]

-- a loop and a variable whose words are different ones in every valid storage map
abbrev pub are_apart : Layout → (loop variable : ℕ) → Bool
are_apart y i j = is_own (slice_get y.families (family_of y i)) && (is_static (slice_get y.families (family_of y j)) && not (family_of y i == family_of y j))

-- the item that a reference names directly
abbrev pub direct_item : Spot-F Arg Cond Expr Spot Ref → Option ℕ
direct_item (layer.Direct i) = Some i
direct_item _ = None

abbrev pub variable_if : Layout → (loop : ℕ) → Option ℕ → Option ℕ
variable_if y i None = None
variable_if y i (Some j) = if are_apart y i j then Some j else None

-- the same where it names the whole item, at a scale
abbrev pub whole_item : Option Field → Option ℕ → Option ℕ
whole_item None o = o
whole_item (Some part) o = None

abbrev pub item_read : Ref → (scale : ℕ) → Option ℕ
item_read r f = if (out-Ref r).f == f then whole_item (out-Ref r).field (direct_item (out-Spot (out-Ref r).at)) else None

-- ---- values

-- a number without a sign
abbrev pub unsigned_number : Expr-F Arg Cond Expr Spot Ref → (scale : ℕ) → Option ℤ
unsigned_number (layer.Num n) f = Some (signed (decimal_floor n.whole n.digits n.places f % 65536))
unsigned_number (layer.Const z) f = known_rescaled 0 f z
unsigned_number _ f = None

abbrev pub number_layer : Expr-F Arg Cond Expr Spot Ref → (scale : ℕ) → Option ℤ
number_layer (layer.Minus e) f = of_known known_negative (unsigned_number (out-Expr e) f)
number_layer x f = unsigned_number x f

abbrev pub known_number : Expr → (scale : ℕ) → Option ℤ
known_number e f = number_layer (out-Expr e) f

abbrev pub as_item : Option ℕ → Option Simple
as_item None = None
as_item (Some i) = Some (simple.Item i)

abbrev pub item_layer : Expr-F Arg Cond Expr Spot Ref → (scale : ℕ) → Option Simple
item_layer (layer.Read r) f = as_item (item_read r f)
item_layer _ f = None

abbrev pub number_or : Option ℤ → Option Simple → Option Simple
number_or None x = x
number_or (Some z) x = Some (simple.Number z)

abbrev pub simple_of : Expr → (scale : ℕ) → Option Simple
simple_of e f = number_or (known_number e f) (item_layer (out-Expr e) f)

-- ---- loops

abbrev pub simple_parts : Option ℕ → Option Simple → Option ℤ → Option Simple → Option SimpleStep
simple_parts (Some j) (Some a) (Some b) (Some d) = Some (record { variable = j; first = a; step = b; limit = d })
simple_parts _ _ _ _ = None

abbrev pub simple_step : Layout → (loop : ℕ) → Ref → List Felem → Option SimpleStep
simple_step y i r (element.Step a b d ∷ []) =
    simple_parts (variable_if y i (direct_item (out-Spot (out-Ref r).at))) (simple_of a (out-Ref r).f)
    (known_number b (out-Ref r).f) (simple_of d (out-Ref r).f)
simple_step y i r _ = None
