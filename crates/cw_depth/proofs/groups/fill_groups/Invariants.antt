use Rattle.std.proofs.Common.{◌≡◌, length}
use Rattle.cw_keyed.specs.Numbered.{count}
use Rattle.cw_depth.specs.Building.{AreGroups}
use Rattle.cw_depth.proofs.groups.fill_groups.Given as goal

abbrev pub invariant-loop-segment : goal.invariant-loop-segment
invariant-loop-segment l = record {
  size : length l.groups ≡ count l.heads;
  groups : AreGroups l.units l.handed l.heads l.groups l.segment-index;
}
