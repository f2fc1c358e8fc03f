use Rattle.cw_pick.specs.Picking.{lists_at}
use Rattle.cw_pick.specs.Working.{is_asked, left, Keeps}
use Rattle.cw_pick.proofs.Closing.{IsFollowing}
use Rattle.cw_pick.proofs.following.follow.Given as goal

abbrev pub invariant-loop-member : goal.invariant-loop-member
invariant-loop-member l = record {
  keeps : Keeps l.index l.state.asked.items l.state.work;
  following : IsFollowing (λ j k. is_asked l.index (lists_at l.members j) k) l.initial.state.work l.state.work;
}

abbrev pub decreases-loop-member : goal.decreases-loop-member
decreases-loop-member l = left l.state.work
