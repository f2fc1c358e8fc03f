use Rattle.std.proofs.Common.{◌≡◌, take}
use Rattle.cw_unit.specs.Storage.{positions_from, roots_in}
use Rattle.cw_layout.proofs.homes.item_homes.Given as goal

abbrev pub invariant-loop-n : goal.invariant-loop-n
invariant-loop-n l = record {
  homes : l.homes ≡ positions_from 0 l.unit (take l.n l.unit.items);
  roots : l.roots ≡ roots_in l.unit (take l.n l.unit.items);
}
