use Rattle.std.proofs.Common.{◌≡◌, take}
use Rattle.cw_unit.specs.Storage.{families_from}
use Rattle.cw_layout.proofs.Tables.{FramesTo}
use Rattle.cw_layout.proofs.families.family_list.Given as goal

abbrev pub invariant-loop-n : goal.invariant-loop-n
invariant-loop-n l = record {
  families : l.families ≡ families_from 0 l.unit (take l.n l.unit.items);
  frames : FramesTo l.unit l.n l.frames.items;
}
