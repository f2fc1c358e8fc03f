use Rattle.std.proofs.Common.{◌≡◌, ℕ, ◌<◌, length, drop, get_or}
use Rattle.cw_unit.specs.Storage.{item_of_from}
use Rattle.cw_layout.proofs.homes.descriptor_items.Given as goal

abbrev pub invariant-loop-i : goal.invariant-loop-i
invariant-loop-i l = record {
  len : length l.numbers.items ≡ length l.unit.descs;
  at : (d : ℕ) → d < length l.unit.descs → get_or l.numbers.items d 0 ≡ item_of_from l.i d (drop l.i l.unit.items);
}
