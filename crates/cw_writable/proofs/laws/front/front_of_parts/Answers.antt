-- The whole before the code.
use Rattle.std.proofs.Common.{◌&&◌, length}
use Rattle.std.specs.List.{list_all}
use Rattle.cw_unit.specs.Storage.{layout_of}
use Rattle.cw_fields.specs.Names.{is_name}
use Rattle.cw_object.specs.IsWritable.{are_listed, is_kept, are_entries, is_set}
use Rattle.cw_writable.proofs.Front.Truth.{both}
use Rattle.cw_writable.proofs.laws.front.front_of_parts.Goals as goal

pub returns : goal.returns
returns c u name listed fit homes presets named =
    let l = layout_of u in
    both (is_name u.name) (are_listed 0 u.descs && (list_all (is_kept (length u.descs)) l.families && (are_entries 0 u l u.items && list_all (is_set l.families) l.words))) name
    (both (are_listed 0 u.descs) (list_all (is_kept (length u.descs)) l.families && (are_entries 0 u l u.items && list_all (is_set l.families) l.words)) listed
    (both (list_all (is_kept (length u.descs)) l.families) (are_entries 0 u l u.items && list_all (is_set l.families) l.words) (c.families_kept.ensures u fit homes)
    (both (are_entries 0 u l u.items) (list_all (is_set l.families) l.words) (c.entries_stand.ensures u fit named) (c.presets_set.ensures u fit presets))))
