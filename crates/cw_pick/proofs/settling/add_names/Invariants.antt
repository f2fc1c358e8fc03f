use Rattle.std.proofs.Common.{◌≡◌, take}
use Rattle.std.specs.Prelude.{◌||◌}
use Rattle.cw_comm.specs.Agreement.{Name}
use Rattle.cw_pick.specs.Picking.{is_among}
use Rattle.cw_pick.proofs.settling.add_names.Given as goal

abbrev pub invariant-loop-name : goal.invariant-loop-name
invariant-loop-name l = (name : Name) → is_among l.set.keys name ≡ is_among l.initial.set.keys name || is_among (take l.name-index l.names) name
