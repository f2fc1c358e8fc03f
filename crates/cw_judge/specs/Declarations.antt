-- The rules of declared data with its presets, and of what is overlaid.
-- Official Definition of CORAL 66, "Presetting", "Overlay declarations"; BS 5905, "Presetting", "Overlaying of data". That nothing in a frame
-- is preset, and that a table has presets of one kind, is this project's profile.
use Rattle.std.specs.Prelude.{ℕ, List, [], ◌∷◌, Bool, true, false, not, Option, Some, None, is_none, is_some}
use Rattle.cw_table.specs.declared.table.Row.{Row}
use Rattle.cw_table.specs.Rows.{item_at}
use Rattle.cw_tree.specs.declared.leaf.RawName.{RawName}
use Rattle.cw_tree.specs.declared.items.RawBase.{RawBase}
use Rattle.cw_tree.specs.declared.items.RawPresets.{RawPresets}
use Rattle.cw_tree.specs.declared.items.RawPlace.{RawPlace}
use Rattle.cw_tree.specs.declared.items.RawGroup.{RawGroup}
use Rattle.cw_tree.specs.declared.items.RawData.{RawData}
use Rattle.cw_tree.specs.declared.items.RawData.TheVariants as items
use Rattle.cw_facts.specs.Facts.{base_name}
use Rattle.cw_scope.specs.declared.resolve.Named.{Named}
use Rattle.cw_scale.specs.declared.fault.Rule.TheVariants as rule
use Rattle.cw_scale.specs.Faults.{Judgement, fine, unless, both}
use Rattle.cw_scale.specs.Kinds.{fraction_of}
use Rattle.cw_data.specs.Data.{data_judged}
use Rattle.cw_data.specs.Overlays.{base_judged}
use Rattle.cw_data.specs.Presets.{singles_preset, arrays_preset, table_preset, elements_preset}
use Rattle.cw_items.specs.declared.families.Site.{Site}

-- ---- frames

abbrev pub is_framed : Option Site → Bool
is_framed None = false
is_framed (Some s) = is_some s.frame

-- whether the items of a declaration are in a frame: the first one is
abbrev pub names_framed : (sites : List (Row Site)) → List RawName → Bool
names_framed sites [] = false
names_framed sites (n ∷ ns) = is_framed (item_at sites n.at.token)

abbrev pub groups_framed : (sites : List (Row Site)) → List RawGroup → Bool
groups_framed sites [] = false
groups_framed sites (g ∷ gs) = names_framed sites g.names

-- nothing in a frame is preset
abbrev pub frame_judged : (framed : Bool) → Option RawPresets → Judgement
frame_judged framed None = fine
frame_judged framed (Some p) = unless (not framed) rule.BadPreset p.at

-- ---- presets

abbrev pub places_of : Option RawPresets → List RawPlace
places_of None = []
places_of (Some p) = p.places

-- presets stand in the brackets of a table or behind them
abbrev pub one_kind : (inside behind : Option RawPresets) → Judgement
one_kind inside None = fine
one_kind inside (Some p) = unless (is_none inside) rule.BadPreset p.at

abbrev pub presets_judged : (sites : List (Row Site)) → RawData → Judgement
presets_judged sites (items.Singles t ns p) = both (singles_preset (fraction_of t) ns (places_of p)) (frame_judged (names_framed sites ns) p)
presets_judged sites (items.Arrays t gs p) = both (arrays_preset (fraction_of t) gs (places_of p)) (frame_judged (groups_framed sites gs) p)
presets_judged sites (items.Table t inside behind) =
    both (both (elements_preset t.size t.elems (places_of inside)) (frame_judged (is_framed (item_at sites t.name.at.token)) inside))
    (both (both (table_preset t.size (places_of behind)) (frame_judged (is_framed (item_at sites t.name.at.token)) behind)) (one_kind inside behind))

abbrev pub declared_judged : (sites : List (Row Site)) → RawData → Judgement
declared_judged sites d = both (data_judged d) (presets_judged sites d)

-- ---- overlays in COMMON: the base is an item of a COMMON list

abbrev pub stands_in_common : (absolute : List (Row ℕ)) → Option ℕ → Bool
stands_in_common absolute None = true
stands_in_common absolute (Some token) = is_none (item_at absolute token)

abbrev pub common_base_judged : Named → (absolute : List (Row ℕ)) → RawBase → Judgement
common_base_judged named absolute b =
    both (base_judged named b) (unless (stands_in_common absolute (item_at named.uses (base_name b).at.token)) rule.BadOverlay (base_name b).at)

-- ---- what is overlaid, with its base

unfoldable pub overlaid_judged : Named → (sites : List (Row Site)) → RawBase → RawData → Judgement
overlaid_judged named sites b d = both (base_judged named b) (declared_judged sites d)

unfoldable pub common_overlaid_judged : Named → (sites : List (Row Site)) → (absolute : List (Row ℕ)) → RawBase → RawData → Judgement
common_overlaid_judged named sites absolute b d = both (common_base_judged named absolute b) (declared_judged sites d)
