use Rattle.std.proofs.Common.{◌≡◌, ◌<◌, ◌≤◌, ◌+◌, ◌*◌, ℕ, length, slice_index}
use Rattle.cw_depth.specs.Numbering.{first_number}
use Rattle.cw_depth.proofs.numbering.first_numbers.Given as goal

abbrev pub invariant-loop-unit : goal.invariant-loop-unit
invariant-loop-unit l = record {
  size : length l.firsts ≡ l.unit-index;
  firsts : (g : ℕ) → g < length l.firsts → slice_index l.firsts g ≡ first_number l.units g;
  next : l.next ≡ first_number l.units l.unit-index;
  small : l.next ≤ 200 + 65536 * l.unit-index;
}
