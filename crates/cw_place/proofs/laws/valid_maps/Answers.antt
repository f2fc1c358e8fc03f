use Rattle.std.proofs.Common.{sym, ap, subst, ◌∙◌}
use Rattle.cw_unit.specs.Allocation.{map_of}
use Rattle.cw_unit.specs.ValidStorage.{ValidStorageMap}
use Rattle.cw_place.proofs.Valid.{fits_area}
use Rattle.cw_place.proofs.laws.valid_maps.Goals as goal

pub returns : goal.returns
returns c = λ agreed spaces us limits m are storable h.
    subst (ValidStorageMap us limits) (sym (h.3 ∙ ap map_of are)) (c.storage_maps.ensures us limits storable (fits_area agreed spaces us limits are h.0 h.1))
