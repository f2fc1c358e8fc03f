-- What the names of a text give to the trees of its unit: numbers, bounds, sizes and scales. A number that is refused elsewhere counts as 0.
use Rattle.std.specs.Prelude.{ℕ, nat_le, List, [], ◌∷◌, ℤ, pos, neg_ℤ, int_le, Bool, true, false, ◌&&◌}
use Rattle.std.specs.Prelude.{Option, Some, None, option_map, option_and_then, if◌then◌else◌}
use Rattle.cw_tree.specs.declared.leaf.RawName.{RawName}
use Rattle.cw_tree.specs.declared.leaf.RawSint.{RawSint}
use Rattle.cw_tree.specs.declared.leaf.RawSize.{RawSize}
use Rattle.cw_tree.specs.declared.leaf.RawType.{RawType}
use Rattle.cw_tree.specs.declared.leaf.RawType.TheVariants as type
use Rattle.cw_tree.specs.declared.items.RawRange.{RawRange}
use Rattle.cw_tree.specs.declared.items.RawElem.{RawElem}
use Rattle.cw_tree.specs.declared.items.RawElem.TheVariants as elem
use Rattle.cw_tree.specs.declared.segment.RawPs.{RawPs}
use Rattle.cw_facts.specs.declared.fact.Kind.{Kind}
use Rattle.cw_facts.specs.declared.fact.Kind.TheVariants as kind
use Rattle.cw_facts.specs.declared.fact.Signature.{Signature}
use Rattle.cw_scope.specs.declared.resolve.Named.{Named}
use Rattle.cw_table.specs.Rows.{item_at}
use Rattle.cw_table.specs.declared.table.Row.{Row}
use Rattle.cw_amount.specs.Amounts.{place_amount, place_sint}
use Rattle.cw_scale.specs.Kinds.{kind_in, fraction_of_sint}
use Rattle.cw_data.specs.Data.{range_span}
use Rattle.cw_data.specs.Presets.{table_words}
use Rattle.cw_number.specs.declared.numbered.Numbered.{Numbered}
use Rattle.cw_number.specs.declared.numbered.Numbered.TheVariants as numbered
use Rattle.cw_unit.specs.declared.descriptor.Scale.{Scale}
use Rattle.cw_unit.specs.declared.unit.Arg.{Arg, roll-Arg}
use Rattle.cw_unit.specs.declared.unit.Expr.{Expr}
use Rattle.cw_unit.specs.declared.unit.Spot.{Spot, roll-Spot}
use Rattle.cw_unit.specs.declared.unit.Field.{Field}
use Rattle.cw_unit.specs.declared.unit.Arg.TheOpen as layer
use Rattle.cw_unit.specs.declared.unit.Target.{Target}
use Rattle.cw_unit.specs.declared.unit.Target.TheVariants as target
use Rattle.cw_unit.specs.declared.unit.Goal.{Goal}
use Rattle.cw_unit.specs.declared.unit.Goal.TheVariants as goal

-- ---- numbers

abbrev pub within : (limit : ℕ) → Option ℕ → ℕ
within limit None = 0
within limit (Some n) = if nat_le n limit then n else 0

abbrev pub bound_in : Option ℤ → ℤ
bound_in None = pos 0
bound_in (Some z) = if int_le (neg_ℤ (pos 32768)) z && int_le z (pos 32767) then z else pos 0

abbrev pub bound : RawSint → ℤ
bound s = bound_in (place_sint s)

-- INTEGER is FIXED(16, 0)
abbrev pub scale_of : RawType → Scale
scale_of (type.Integer at) = record { t = 16; f = 0 }
scale_of (type.Fixed at t f) = record { t = within 255 (place_amount t); f = fraction_of_sint f }

-- ---- what a name is in the unit

abbrev pub Numbers : Type 0
Numbers = List (Row Numbered)

abbrev pub item_in : Option Numbered → ℕ
item_in (Some (numbered.Item i)) = i
item_in _ = 0

abbrev pub label_in : Option Numbered → ℕ
label_in (Some (numbered.Label l)) = l
label_in _ = 0

-- what stands at a token of its own: a string, a FOR, a declared name
abbrev pub item_here : Numbers → (token : ℕ) → ℕ
item_here numbers token = item_in (item_at numbers token)

abbrev pub number_of : Named → Numbers → RawName → Option Numbered
number_of named numbers n = option_and_then (item_at numbers) (item_at named.uses n.at.token)

abbrev pub params_of : Option Signature → List RawPs
params_of None = []
params_of (Some s) = s.params

-- ---- procedures

abbrev pub is_called : Option Kind → Bool
is_called (Some (kind.Proc t)) = true
is_called (Some (kind.ProcParam t)) = true
is_called (Some kind.ReadByte) = true
is_called (Some kind.WriteByte) = true
is_called _ = false

-- the scale of the answer of a procedure parameter
abbrev pub answer_of : Option Kind → Option Scale
answer_of (Some (kind.ProcParam (Some t))) = Some (scale_of t)
answer_of _ = None

abbrev pub target_of : Option Kind → Option Numbered → Target
target_of k (Some (numbered.Proc p)) = target.Own p
target_of k (Some (numbered.CommonProc d)) = target.Common d
target_of k (Some (numbered.Control c)) = target.Special c (answer_of k)
target_of k (Some numbered.ReadByte) = target.Read
target_of k (Some numbered.WriteByte) = target.Write
target_of k _ = target.Own 0

-- ---- a name that is a whole argument, and no value and no place

-- an array or a table, and as it came one that is a parameter itself
abbrev pub handed_item : Option Kind → (item : ℕ) → Arg
handed_item (Some (kind.Array t bounds)) i = roll-Arg (layer.Array i (bound bounds.first.lower))
handed_item (Some (kind.Table size)) i = roll-Arg (layer.Base i)
handed_item _ i = roll-Arg (layer.Same i)

-- what stands for an argument that is not there
abbrev pub no_argument : Arg
no_argument = roll-Arg (layer.Special 0)

abbrev pub handed : Option Kind → Option Numbered → Arg
handed k (Some (numbered.Item i)) = handed_item k i
handed k (Some (numbered.Label l)) = roll-Arg (layer.Goal (goal.Own l))
handed k (Some (numbered.CommonLabel d)) = roll-Arg (layer.Goal (goal.Common d))
handed k (Some (numbered.Switch s)) = roll-Arg (layer.Switch s)
handed k (Some (numbered.CommonSwitch d)) = roll-Arg (layer.CommonSwitch d)
handed k (Some (numbered.Proc p)) = roll-Arg (layer.Proc p)
handed k (Some (numbered.CommonProc d)) = roll-Arg (layer.CommonProc d)
handed k (Some (numbered.Control c)) = roll-Arg (layer.Special c)
handed k _ = no_argument

-- ---- where a word is

abbrev pub named_spot : Option Kind → (item : ℕ) → Spot
named_spot (Some (kind.Location t)) i = roll-Spot (layer.Through i)
named_spot _ i = roll-Spot (layer.Direct i)

-- the words of a table; what a parameter is declared with counts as if it were its own
abbrev pub words_of : RawSize → ℕ
words_of s = table_words (place_amount s.first) (place_amount s.second)

abbrev pub width_of : RawSize → ℕ
width_of s = within 65535 (place_amount s.first)

abbrev pub entries_of : RawSize → ℕ
entries_of s = within 65535 (place_amount s.second)

abbrev pub element_word : RawElem → ℕ
element_word (elem.Word n t w) = within 65535 (place_amount w)
element_word (elem.Part n u t f w b) = within 65535 (place_amount w)

abbrev pub element_field : RawElem → Option Field
element_field (elem.Word n t w) = None
element_field (elem.Part n u t f w b) =
    Some (record { t = within 255 (place_amount t); b = within 255 (place_amount b); unsigned = u })

abbrev pub field_of : Option Kind → Option Field
field_of (Some (kind.Element table e)) = element_field e
field_of _ = None

-- an element, by what its table is
abbrev pub element_spot : Option Kind → (item place : ℕ) → Expr → Spot
element_spot (Some (kind.Table s)) i p e = roll-Spot (layer.Elem i false (width_of s) (entries_of s) p e)
element_spot (Some (kind.TableParam s)) i p e = roll-Spot (layer.Elem i true (width_of s) (entries_of s) p e)
element_spot _ i p e = roll-Spot (layer.Bare e)

abbrev pub row_length : RawRange → ℕ
row_length r = within 65535 (Some (range_span r))

abbrev pub double_spot : RawRange → Option RawRange → (item : ℕ) → Expr → Expr → Spot
double_spot r (Some s) i e g = roll-Spot (layer.Two i (bound r.lower) (bound r.upper) (bound s.lower) (bound s.upper) (row_length s) e g)
double_spot r None i e g = roll-Spot (layer.Bare e)

-- what has two indexes
abbrev pub twice_indexed_spot : Option Kind → (item : ℕ) → Expr → Expr → Spot
twice_indexed_spot (Some (kind.Array t bounds)) i e g = double_spot bounds.first bounds.second i e g
twice_indexed_spot _ i e g = roll-Spot (layer.Bare e)

-- what is declared at a token
abbrev pub kind_here : Named → (token : ℕ) → Option Kind
kind_here named token = option_map kind_in (item_at named.declarations token)

module _ (named : Named) (numbers : Numbers) where
  -- what has one index
  abbrev pub indexed_spot : Option Kind → (item : ℕ) → Expr → Spot
  indexed_spot (Some (kind.Array t bounds)) i e = roll-Spot (layer.One i (bound bounds.first.lower) (bound bounds.first.upper) e)
  indexed_spot (Some (kind.ArrayParam t)) i e = roll-Spot (layer.ParamArray i e)
  indexed_spot (Some (kind.Table s)) i e = roll-Spot (layer.Word i false (words_of s) e)
  indexed_spot (Some (kind.TableParam s)) i e = roll-Spot (layer.Word i true (words_of s) e)
  indexed_spot (Some (kind.Element table x)) i e = element_spot (kind_here named table.at.token) (item_here numbers table.at.token) (element_word x) e
  indexed_spot _ i e = roll-Spot (layer.Bare e)
