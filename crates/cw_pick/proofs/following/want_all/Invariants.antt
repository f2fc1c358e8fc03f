use Rattle.std.proofs.Common.{take}
use Rattle.cw_pick.specs.Working.{is_asked, Marks, Keeps}
use Rattle.cw_pick.proofs.following.want_all.Given as goal

abbrev pub invariant-loop-name : goal.invariant-loop-name
invariant-loop-name l = record {
  keeps : Keeps l.index l.state.asked.items l.state.work;
  marks : Marks (is_asked l.index (take l.name-index l.names)) l.initial.state.work l.state.work;
}
