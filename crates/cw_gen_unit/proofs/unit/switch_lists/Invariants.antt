use Rattle.std.proofs.Common.{◌≡◌, ◌++◌, drop}
use Rattle.cw_gen_unit.specs.ReferenceUnits.{switch_lists}
use Rattle.cw_gen_unit.proofs.unit.switch_lists.Given as goal

abbrev pub invariant-loop-switch : goal.invariant-loop-switch
invariant-loop-switch l = l.lists ++ switch_lists (drop l.switch-index l.switches) ≡ switch_lists l.switches
