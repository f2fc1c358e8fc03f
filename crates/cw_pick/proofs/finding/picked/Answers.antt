use Rattle.cw_pick.proofs.Least.{is_least}
use Rattle.cw_pick.proofs.finding.picked.Goals as goal

pub returns-clause-least : goal.returns-clause-least
returns-clause-least c =
    is_least c.args.given.now c.args.members.now c.in_ok-index.index c.in_ok-index.ensures.told c.in_ok-work.work c.start.new.state.work c.follow.new.state.work c.in_ok-work.ensures.count c.in_ok-work.ensures.none c.in_ok-start.ensures.marks c.in_ok-follow.ensures
