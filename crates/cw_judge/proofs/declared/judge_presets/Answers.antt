use Rattle.std.proofs.Common.{refl}
use Rattle.cw_tree.specs.declared.items.RawData.TheVariants as items
use Rattle.cw_data.specs.Presets.{singles_preset, arrays_preset}
use Rattle.cw_judge.specs.Declarations.{names_framed, groups_framed}
use Rattle.cw_judge.proofs.Presets.{listed, table}
use Rattle.cw_judge.proofs.declared.judge_presets.Goals as goal

pub returns-in-Singles : goal.returns-in-Singles
returns-in-Singles c =
    listed c.args.sites.now items.Singles singles_preset (names_framed c.args.sites.now) (λ t xs p o. refl) c.args.items.now c.in-Singles.scale c.in-Singles.names
    c.as_slice-names.result.now c.in-Singles.presets c.places_of.result.now c.fraction_of.result c.names_framed.result
    c.args.first.now c.judge_singles_preset.new.first c.judge_frame.new.first
    c.in-Singles.is c.as_slice-names.ensures c.places_of.ensures c.fraction_of.ensures c.names_framed.ensures c.judge_singles_preset.ensures c.judge_frame.ensures

pub returns-in-Arrays : goal.returns-in-Arrays
returns-in-Arrays c =
    listed c.args.sites.now items.Arrays arrays_preset (groups_framed c.args.sites.now) (λ t xs p o. refl) c.args.items.now c.in-Arrays.scale c.in-Arrays.groups
    c.as_slice-groups.result.now c.in-Arrays.presets c.places_of-in-Arrays.result.now c.fraction_of-in-Arrays.result c.groups_framed.result
    c.args.first.now c.judge_arrays_preset.new.first c.judge_frame-in-Arrays.new.first
    c.in-Arrays.is c.as_slice-groups.ensures c.places_of-in-Arrays.ensures c.fraction_of-in-Arrays.ensures c.groups_framed.ensures c.judge_arrays_preset.ensures
    c.judge_frame-in-Arrays.ensures

pub returns-in-Table : goal.returns-in-Table
returns-in-Table c =
    table c.args.sites.now c.args.items.now c.in-Table.table c.in-Table.inside c.in-Table.behind c.as_slice.result.now c.places_of-in-Table.result.now
    c.places_of-in-Table-2.result.now c.is_framed-framed.result
    c.args.first.now c.judge_elements_preset.new.first c.judge_frame-in-Table.new.first c.judge_table_preset.new.first c.judge_frame-in-Table-2.new.first c.judge_kinds.new.first
    c.in-Table.is c.is_framed-framed.ensures c.as_slice.ensures c.places_of-in-Table.ensures c.places_of-in-Table-2.ensures
    c.judge_elements_preset.ensures c.judge_frame-in-Table.ensures c.judge_table_preset.ensures c.judge_frame-in-Table-2.ensures c.judge_kinds.ensures
