use Rattle.cw_judge.proofs.Counting.{none_behind, some_behind}
use Rattle.cw_judge.proofs.operators.behind.Goals as goal

pub returns-in-empty : goal.returns-in-empty
returns-in-empty g c = none_behind c.args.all.now c.in-empty.len_below

pub returns-in-len1-up : goal.returns-in-len1-up
returns-in-len1-up g c = some_behind c.args.all.now c.in-len1-up.len_at_least
