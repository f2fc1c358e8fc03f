use Rattle.cw_run86.proofs.Stack.{push, pop}
use Rattle.cw_run86.proofs.laws.stacking.Goals as goal

pub returns : goal.returns
returns c = record { push = push c.fetching.ensures.finds; pop = pop c.fetching.ensures.finds }
