use Rattle.cw_unit.proofs.Continuations.{in-list, in-choice, in-loop, in-mark}
use Rattle.cw_unit.proofs.laws.continuations.Goals as goal

pub returns-clause-lists : goal.returns-clause-lists
returns-clause-lists c l ss k = in-list l ss k

pub returns-clause-choices : goal.returns-clause-choices
returns-clause-choices c l line t a b k = in-choice l line t a b k

pub returns-clause-loops : goal.returns-clause-loops
returns-clause-loops c l line item r es s k = in-loop l line item r es s k

pub returns-clause-labelled : goal.returns-clause-labelled
returns-clause-labelled c l ls s k = in-mark l ls s k
