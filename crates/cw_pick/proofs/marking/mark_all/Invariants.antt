use Rattle.std.proofs.Common.{take}
use Rattle.cw_pick.specs.Picking.{is_in}
use Rattle.cw_pick.specs.Working.{Marks}
use Rattle.cw_pick.proofs.marking.mark_all.Given as goal

abbrev pub invariant-loop-member : goal.invariant-loop-member
invariant-loop-member l = Marks (is_in (take l.member-index l.members)) l.initial.work l.work
