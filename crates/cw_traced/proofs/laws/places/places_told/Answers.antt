-- The objects of units tell the places at which the statements of their codes begin.
use Rattle.cw_traced.proofs.Places.Told.{AreTold, is-told}
use Rattle.cw_traced.proofs.Places.Places.{places-told, some-unit}
use Rattle.cw_traced.proofs.laws.places.places_told.Goals as goal

pub returns : goal.returns
returns c =
    let object = c.object_written.ensures in
    let told : AreTold = is-told c.writable.ensures c.object_of_unit.ensures object.format object.tells in
    record { told = places-told told; named = some-unit told }
