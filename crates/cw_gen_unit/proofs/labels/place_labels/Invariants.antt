use Rattle.std.proofs.Common.{◌≡◌, drop}
use Rattle.cw_gen_unit.specs.LabelPlaces.{labels_placed}
use Rattle.cw_gen_unit.proofs.labels.place_labels.Given as goal

abbrev pub invariant-loop-i : goal.invariant-loop-i
invariant-loop-i l = l.places.items ≡ labels_placed 0 l.labels l.who (drop l.i l.found) l.initial.places.items
