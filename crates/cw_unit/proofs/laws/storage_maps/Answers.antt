use Rattle.std.proofs.Common.{subst}
use Rattle.std.proofs.lemmas.Option.{slice_get_within, get_or_from_slice_get}
use Rattle.cw_unit.specs.ValidStorage.{IsStorable}
use Rattle.cw_unit.proofs.ValidMap.{valid-map}
use Rattle.cw_unit.proofs.laws.storage_maps.Goals as goal

pub returns : goal.returns
returns c us limits all fit =
    valid-map us limits (λ g u e. subst IsStorable (get_or_from_slice_get us g u u e) (all g u (slice_get_within us g u e))) fit
