-- What an OVERLAY may be laid on: an item that is declared before, with as many indexes as it has, each inside its bounds.
-- Official Definition of CORAL 66, "Overlay declarations"; BS 5905, "Overlaying of data".
use Rattle.std.specs.Prelude.{ℕ, nat_lt, ℤ, pos, int_le, int_lt, Bool, true, false, ◌&&◌, Option, Some, None}
use Rattle.cw_tree.specs.declared.leaf.RawName.{RawName}
use Rattle.cw_tree.specs.declared.leaf.RawSint.{RawSint}
use Rattle.cw_tree.specs.declared.leaf.RawSize.{RawSize}
use Rattle.cw_tree.specs.declared.items.RawBase.{RawBase}
use Rattle.cw_tree.specs.declared.items.RawBase.TheVariants as base
use Rattle.cw_tree.specs.declared.items.RawRange.{RawRange}
use Rattle.cw_tree.specs.declared.items.RawBounds.{RawBounds}
use Rattle.cw_facts.specs.declared.fact.Kind.{Kind}
use Rattle.cw_facts.specs.declared.fact.Kind.TheVariants as kind
use Rattle.cw_facts.specs.Facts.{base_name}
use Rattle.cw_scale.specs.scope.declared.resolve.Named.{Named}
use Rattle.cw_table.specs.Rows.{item_at}
use Rattle.cw_scale.specs.declared.fault.Rule.TheVariants as rule
use Rattle.cw_scale.specs.Faults.{Judgement, fine, unless, both}
use Rattle.cw_scale.specs.Types.{int_judged}
use Rattle.cw_scale.specs.Kinds.{kind_of}
use Rattle.cw_amount.specs.Amounts.{place_amount, place_sint}
use Rattle.cw_data.specs.Presets.{table_words}

abbrev pub indexes_judged : RawBase → Judgement
indexes_judged (base.Name n) = fine
indexes_judged (base.One n i) = int_judged i.value
indexes_judged (base.Two n i j) = both (int_judged i.value) (int_judged j.value)

abbrev pub not_above : Option ℤ → Option ℤ → Bool
not_above (Some a) (Some b) = int_le a b
not_above _ _ = true

abbrev pub within_range : RawRange → RawSint → Bool
within_range r i = not_above (place_sint r.lower) (place_sint i) && not_above (place_sint i) (place_sint r.upper)

abbrev pub array_index : RawRange → Option RawRange → RawBase → Bool
array_index r None (base.One n i) = within_range r i
array_index r (Some s) (base.Two n i j) = within_range r i && within_range s j
array_index r _ _ = false

-- a word number of a table
abbrev pub word_within : (words : ℕ) → Option ℤ → Bool
word_within words None = true
word_within words (Some z) = int_le (pos 0) z && int_lt z (pos words)

abbrev pub table_index : RawSize → RawBase → Bool
table_index s (base.One n i) = word_within (table_words (place_amount s.first) (place_amount s.second)) (place_sint i)
table_index s _ = false

abbrev pub no_index : RawBase → Bool
no_index (base.Name n) = true
no_index _ = false

abbrev pub can_be_laid_on : Option Kind → RawBase → Bool
can_be_laid_on (Some (kind.Single t)) b = no_index b
can_be_laid_on (Some (kind.Array t bounds)) b = array_index bounds.first bounds.second b
can_be_laid_on (Some (kind.Table s)) b = table_index s b
can_be_laid_on _ b = true

abbrev pub stands_before : Option ℕ → (token : ℕ) → Bool
stands_before None token = true
stands_before (Some declared) token = nat_lt declared token

abbrev pub base_judged : Named → RawBase → Judgement
base_judged named b =
    both (indexes_judged b)
    (unless (stands_before (item_at named.uses (base_name b).at.token) (base_name b).at.token && can_be_laid_on
    (kind_of named (base_name b)) b) rule.BadOverlay (base_name b).at)
