use Rattle.cw_judge.proofs.Counting.{none_next, one_next}
use Rattle.cw_judge.proofs.operators.count_next.Goals as goal

pub returns-in-empty : goal.returns-in-empty
returns-in-empty c = none_next c.args.operators.now c.args.tally c.in-empty.len_below

pub returns-in-len1-up : goal.returns-in-len1-up
returns-in-len1-up c =
    one_next c.args.operators.now _ c.args.tally c.count.result c.in-len1-up.len_at_least c.count.ensures
