use Rattle.cw_graph.proofs.Choices.{next_is}
use Rattle.cw_graph.proofs.choosing.next_of.Goals as goal

pub returns-in-Some : goal.returns-in-Some
returns-in-Some c = λ h e.
    next_is c.args.graph.now c.args.levels.now c.requires.whole c.requires.levels c.args.firsts.now c.args.node c.args.level c.in-Some.next h c.requires.firsts.size c.requires.firsts.stand c.requires.node c.requires.level e (rw c.row_of.ensures at c.in-Some.ensures)
