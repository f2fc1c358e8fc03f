-- The rules of declared data: bounds, sizes, and the fields of tables.
-- Official Definition of CORAL 66, "Data"; BS 5905, "Arrays", "Tables". That a number fits a word, and 32,768 words, is this project's profile.
use Rattle.std.specs.Prelude.{ℕ, nat_le, nat_lt, ◌+◌, ◌-◌, ◌*◌, List, [], ◌∷◌, ℤ, pos, int_le, neg_ℤ, Bool, true, false, ◌&&◌, Option, Some, None}
use Rattle.cw_tree.specs.declared.leaf.RawName.{RawName}
use Rattle.cw_tree.specs.declared.leaf.RawInt.{RawInt}
use Rattle.cw_tree.specs.declared.leaf.RawSint.{RawSint}
use Rattle.cw_tree.specs.declared.leaf.RawSize.{RawSize}
use Rattle.cw_tree.specs.declared.items.RawRange.{RawRange}
use Rattle.cw_tree.specs.declared.items.RawBounds.{RawBounds}
use Rattle.cw_tree.specs.declared.items.RawGroup.{RawGroup}
use Rattle.cw_tree.specs.declared.items.RawElem.{RawElem}
use Rattle.cw_tree.specs.declared.items.RawElem.TheVariants as elem
use Rattle.cw_tree.specs.declared.items.RawTable.{RawTable}
use Rattle.cw_tree.specs.declared.items.RawData.{RawData}
use Rattle.cw_tree.specs.declared.items.RawData.TheVariants as items
use Rattle.cw_scale.specs.declared.fault.Rule.TheVariants as rule
use Rattle.cw_scale.specs.Faults.{Judgement, fine, wrong, unless, both}
use Rattle.cw_scale.specs.Types.{int_judged, scale_judged, type_judged, is_field}
use Rattle.cw_amount.specs.Amounts.{place_amount, place_sint, is_negative, int_position}

-- ---- bounds

abbrev pub fits_word_if : Option ℤ → Bool
fits_word_if None = true
fits_word_if (Some z) = int_le (neg_ℤ (pos 32768)) z && int_le z (pos 32767)

abbrev pub bound_judged : RawSint → Judgement
bound_judged s = both (int_judged s.value) (unless (fits_word_if (place_sint s)) rule.NumberRange (int_position s.value))

abbrev pub range_judged : RawRange → Judgement
range_judged r = both (bound_judged r.lower) (bound_judged r.upper)

abbrev pub second_judged : Option RawRange → Judgement
second_judged None = fine
second_judged (Some r) = range_judged r

-- how many whole numbers there are from a lower bound to an upper one, each by its sign and its size: none where the upper one is below
abbrev pub span : (l_negative : Bool) → (l : ℕ) → (u_negative : Bool) → (u : ℕ) → ℕ
span false l false u = u + 1 - l
span true l false u = l + u + 1
span true l true u = l + 1 - u
span false l true u = 1 - (l + u)

-- one where that is not known
abbrev pub span_if : (l_negative : Bool) → Option ℕ → (u_negative : Bool) → Option ℕ → ℕ
span_if ln (Some l) un (Some u) = span ln l un u
span_if ln _ un _ = 1

abbrev pub range_span : RawRange → ℕ
range_span r = span_if (is_negative r.lower.sign) (place_amount r.lower.value) (is_negative r.upper.sign) (place_amount r.upper.value)

abbrev pub fits_area : (words : ℕ) → Bool
fits_area n = nat_le n 32768

abbrev pub good_bounds : RawRange → Option RawRange → Bool
good_bounds r None = nat_le 1 (range_span r) && fits_area (range_span r)
good_bounds r (Some s) = nat_le 1 (range_span r) && (nat_le 1 (range_span s) && fits_area (range_span r * range_span s))

abbrev pub each_wrong_unless : Bool → List RawName → Judgement
each_wrong_unless holds [] = fine
each_wrong_unless holds (n ∷ ns) = both (unless holds rule.BadBounds n.at) (each_wrong_unless holds ns)

abbrev pub group_judged : RawGroup → Judgement
group_judged g =
    both (range_judged g.bounds.first) (both (second_judged g.bounds.second) (each_wrong_unless (good_bounds g.bounds.first g.bounds.second) g.names))

abbrev pub groups_judged : List RawGroup → Judgement
groups_judged [] = fine
groups_judged (g ∷ gs) = both (group_judged g) (groups_judged gs)

-- ---- tables

abbrev pub good_size : Option ℕ → Option ℕ → Bool
good_size (Some w) (Some n) = nat_le 1 w && (nat_le 1 n && fits_area (w * n))
good_size (Some w) None = nat_le 1 w
good_size None (Some n) = nat_le 1 n
good_size None None = true

-- the width and the length of a table, at the name that has them
abbrev pub size_judged : RawName → RawSize → Judgement
size_judged name s =
    both (int_judged s.first) (both (int_judged s.second) (unless (good_size (place_amount s.first) (place_amount s.second)) rule.BadBounds name.at))

abbrev pub is_within : Option ℕ → (width : Option ℕ) → Bool
is_within (Some p) (Some w) = nat_lt p w
is_within _ _ = true

abbrev pub element_judged : (width : Option ℕ) → RawElem → Judgement
element_judged width (elem.Word n t w) = both (type_judged t) (both (int_judged w) (unless (is_within (place_amount w) width) rule.FieldRange n.at))
element_judged width (elem.Part n unsigned t f w b) =
    both (int_judged t) (both (scale_judged f) (both (int_judged w) (both (int_judged b)
    (unless (is_within (place_amount w) width && is_field (place_amount t) (place_amount b)) rule.FieldRange n.at))))

abbrev pub elements_judged : (width : Option ℕ) → List RawElem → Judgement
elements_judged width [] = fine
elements_judged width (e ∷ es) = both (element_judged width e) (elements_judged width es)

abbrev pub table_judged : RawTable → Judgement
table_judged t = both (size_judged t.name t.size) (elements_judged (place_amount t.size.first) t.elems)

-- declared data without its presets
abbrev pub data_judged : RawData → Judgement
data_judged (items.Singles t ns presets) = type_judged t
data_judged (items.Arrays t gs presets) = both (type_judged t) (groups_judged gs)
data_judged (items.Table t inside behind) = table_judged t
