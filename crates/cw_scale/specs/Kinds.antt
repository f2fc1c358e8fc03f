-- What a name of a resolved text names, and the scale of its value.
use Rattle.std.specs.Prelude.{ℕ, nat_lt, ◌==◌, List, Bool, true, false, ◌&&◌, Option, Some, None, option_map, option_and_then, if◌then◌else◌}
use Rattle.cw_tree.specs.declared.leaf.RawName.{RawName}
use Rattle.cw_tree.specs.declared.leaf.RawType.{RawType}
use Rattle.cw_tree.specs.declared.leaf.RawType.TheVariants as type
use Rattle.cw_tree.specs.declared.leaf.RawInt.{RawInt}
use Rattle.cw_tree.specs.declared.leaf.RawInt.TheVariants as int
use Rattle.cw_tree.specs.declared.leaf.RawSint.{RawSint}
use Rattle.cw_tree.specs.declared.items.RawElem.{RawElem}
use Rattle.cw_tree.specs.declared.items.RawElem.TheVariants as elem
use Rattle.cw_facts.specs.declared.fact.Declaration.{Declaration}
use Rattle.cw_facts.specs.declared.fact.Kind.{Kind}
use Rattle.cw_facts.specs.declared.fact.Kind.TheVariants as kind
use Rattle.cw_scope.specs.declared.resolve.Named.{Named}
use Rattle.cw_facts.specs.declared.fact.Signature.{Signature}
use Rattle.cw_table.specs.Rows.{item_at}
use Rattle.cw_amount.specs.Amounts.{place_amount, is_negative}

abbrev pub kind_in : Declaration → Kind
kind_in d = d.kind

abbrev pub kind_at : Named → (token : ℕ) → Option Kind
kind_at named token = option_map kind_in (option_and_then (item_at named.declarations) (item_at named.uses token))

abbrev pub kind_of : Named → RawName → Option Kind
kind_of named n = kind_at named n.at.token

-- what the procedure is specified as that a name names
abbrev pub signature_of : Named → RawName → Option Signature
signature_of named n = option_and_then (item_at named.signatures) (item_at named.uses n.at.token)

-- ---- numbers of types; one that is refused counts as 0

abbrev pub fraction_in : (negative : Bool) → Option ℕ → ℕ
fraction_in negative None = 0
fraction_in true (Some n) = 0
fraction_in false (Some n) = if nat_lt n 16 then n else 0

abbrev pub fraction_of_sint : RawSint → ℕ
fraction_of_sint s = fraction_in (is_negative s.sign) (place_amount s.value)

abbrev pub fraction_of : RawType → ℕ
fraction_of (type.Integer at) = 0
fraction_of (type.Fixed at t f) = fraction_of_sint f

abbrev pub element_fraction : RawElem → ℕ
element_fraction (elem.Word n t w) = fraction_of t
element_fraction (elem.Part n u t f w b) = fraction_of_sint f

abbrev pub answer_fraction : Option RawType → ℕ
answer_fraction None = 0
answer_fraction (Some t) = fraction_of t

-- the bits after the point of what a name stands for: an item, an element, or the answer of a call
abbrev pub kind_fraction : Kind → ℕ
kind_fraction (kind.Single t) = fraction_of t
kind_fraction (kind.Array t b) = fraction_of t
kind_fraction (kind.Value t) = fraction_of t
kind_fraction (kind.Location t) = fraction_of t
kind_fraction (kind.ArrayParam t) = fraction_of t
kind_fraction (kind.Element table e) = element_fraction e
kind_fraction (kind.Proc t) = answer_fraction t
kind_fraction (kind.ProcParam t) = answer_fraction t
kind_fraction (kind.Answer t) = fraction_of t
kind_fraction _ = 0

abbrev pub fraction_of_kind : Option Kind → ℕ
fraction_of_kind None = 0
fraction_of_kind (Some k) = kind_fraction k
