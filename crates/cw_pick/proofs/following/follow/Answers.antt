use Rattle.std.proofs.Common.{ℕ, Bool, refl}
use Rattle.cw_pick.specs.declared.marking.Work.{Work}
use Rattle.cw_pick.specs.Picking.{lists_at}
use Rattle.cw_pick.specs.Working.{is_asked}
use Rattle.cw_pick.proofs.Closing.{next}
use Rattle.cw_pick.proofs.following.follow.Goals as goal

pub loop-member-preserved : goal.loop-member-preserved
loop-member-preserved c =
    let lead : ℕ → ℕ → Bool = λ j k. is_asked c.args.index.now (lists_at c.args.members.now j) k in
    let mid : Work = record { picked = c.loop-member.state.work.picked; todo = c.pop.new.self } in
    record {
      keeps = c.in_ok-want_of.ensures.keeps;
      following = next lead c.args.state.now.work c.loop-member.state.work mid c.want_of.new.state.work c.in-Some.member refl c.in-Some.ensures.items c.in_ok-want_of.ensures.marks c.loop-member.invariant.following;
    }
