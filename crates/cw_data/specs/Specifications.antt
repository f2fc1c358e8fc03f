-- The rules of specifications, parameters and switches, and of what stands at an address.
use Rattle.std.specs.Prelude.{ℕ, nat_le, List, [], ◌∷◌, length, Bool, true, false, Option, Some, None}
use Rattle.cw_tree.specs.declared.leaf.RawName.{RawName}
use Rattle.cw_tree.specs.declared.leaf.RawInt.{RawInt}
use Rattle.cw_tree.specs.declared.leaf.RawType.{RawType}
use Rattle.cw_tree.specs.declared.segment.RawIps.{RawIps}
use Rattle.cw_tree.specs.declared.segment.RawIps.TheVariants as inner
use Rattle.cw_tree.specs.declared.segment.RawPs.{RawPs}
use Rattle.cw_tree.specs.declared.segment.RawPs.TheVariants as ps
use Rattle.cw_tree.specs.declared.segment.RawSpec.{RawSpec}
use Rattle.cw_tree.specs.declared.segment.RawAitem.{RawAitem}
use Rattle.cw_tree.specs.declared.segment.RawAitem.TheVariants as aitem
use Rattle.cw_tree.specs.declared.items.RawBounds.{RawBounds}
use Rattle.cw_tree.specs.declared.statement.RawParam.{RawParam}
use Rattle.cw_tree.specs.declared.statement.RawParam.TheVariants as param
use Rattle.cw_scale.specs.declared.fault.Rule.TheVariants as rule
use Rattle.cw_scale.specs.Faults.{Judgement, fine, wrong, unless, both}
use Rattle.cw_scale.specs.Types.{int_judged, type_judged, answer_judged}
use Rattle.cw_amount.specs.Amounts.{place_amount}
use Rattle.cw_facts.specs.declared.fact.Signature.{Signature}
use Rattle.cw_scale.specs.scope.declared.resolve.Named.{Named}
use Rattle.cw_table.specs.Rows.{item_at}
use Rattle.cw_data.specs.Data.{range_judged, second_judged, good_bounds, size_judged, table_judged, data_judged}

-- a specification has no other name than that of its procedure
abbrev pub plain_judged : RawName → RawIps → Judgement
plain_judged n (inner.Value at t) = type_judged t
plain_judged n (inner.Location at t) = type_judged t
plain_judged n (inner.Array t) = type_judged t
plain_judged n (inner.Table at s) = size_judged n s
plain_judged n (inner.Label at) = fine
plain_judged n (inner.Switch at) = fine

abbrev pub plains_judged : RawName → List RawIps → Judgement
plains_judged n [] = fine
plains_judged n (p ∷ more) = both (plain_judged n p) (plains_judged n more)

-- a procedure has at most 32 parameters
abbrev pub few : ℕ → Bool
few n = nat_le n 32

-- a procedure that is a parameter
abbrev pub procedure_judged : (answer : Option RawType) → RawName → List RawIps → Judgement
procedure_judged answer n params = both (answer_judged answer) (both (unless (few (length params)) rule.TooMany n.at) (plains_judged n params))

abbrev pub specified_judged : RawName → RawPs → Judgement
specified_judged n (ps.Plain p) = plain_judged n p
specified_judged n (ps.Proc answer at params) = procedure_judged answer n params

abbrev pub each_specified_judged : RawName → List RawPs → Judgement
each_specified_judged n [] = fine
each_specified_judged n (p ∷ more) = both (specified_judged n p) (each_specified_judged n more)

abbrev pub spec_judged : RawSpec → Judgement
spec_judged s = both (answer_judged s.answer) (both (unless (few (length s.params)) rule.TooMany s.name.at) (each_specified_judged s.name s.params))

abbrev pub specs_judged : List RawSpec → Judgement
specs_judged [] = fine
specs_judged (s ∷ ss) = both (spec_judged s) (specs_judged ss)

-- ---- parameters

abbrev pub param_judged : RawParam → Judgement
param_judged (param.Value at t ns) = type_judged t
param_judged (param.Location at t ns) = type_judged t
param_judged (param.Array t ns) = type_judged t
param_judged (param.Table t) = table_judged t
param_judged (param.Label at ns) = fine
param_judged (param.Switch at ns) = fine
param_judged (param.Proc answer at n params) = procedure_judged answer n params

abbrev pub params_judged : List RawParam → Judgement
params_judged [] = fine
params_judged (p ∷ more) = both (param_judged p) (params_judged more)

abbrev pub few_if : Option Signature → Bool
few_if None = true
few_if (Some s) = few (length s.params)

abbrev pub heading_judged : Named → (answer : Option RawType) → RawName → List RawParam → Judgement
heading_judged named answer n params =
    both (answer_judged answer) (both (unless (few_if (item_at named.signatures n.at.token)) rule.TooMany n.at) (params_judged params))

-- a switch has at most 255 labels
abbrev pub switch_judged : RawName → List RawName → Judgement
switch_judged n labels = unless (nat_le (length labels) 255) rule.TooMany n.at

-- ---- what stands at an address

abbrev pub is_address : Option ℕ → Bool
is_address None = true
is_address (Some a) = nat_le a 32767

abbrev pub address_judged : RawName → RawInt → Judgement
address_judged n a = both (int_judged a) (unless (is_address (place_amount a)) rule.BadBounds n.at)

abbrev pub bounds_judged : RawName → RawBounds → Judgement
bounds_judged n b = both (range_judged b.first) (both (second_judged b.second) (unless (good_bounds b.first b.second) rule.BadBounds n.at))

abbrev pub aitem_judged : RawAitem → Judgement
aitem_judged (aitem.Single t n a) = both (type_judged t) (address_judged n a)
aitem_judged (aitem.Array t n b a) = both (type_judged t) (both (bounds_judged n b) (address_judged n a))
aitem_judged (aitem.Table t a) = both (table_judged t) (address_judged t.name a)

abbrev pub aitems_judged : List RawAitem → Judgement
aitems_judged [] = fine
aitems_judged (i ∷ is) = both (aitem_judged i) (aitems_judged is)
