use Rattle.cw_judge.specs.Operators.{sign_at}
use Rattle.cw_judge.proofs.Counting.{none_next_of, one_next_of}
use Rattle.cw_judge.proofs.operators.count_sign.Goals as goal

pub returns-in-empty : goal.returns-in-empty
returns-in-empty c = none_next_of sign_at c.args.signs.now c.args.tally c.in-empty.len_below

pub returns-in-len1-up : goal.returns-in-len1-up
returns-in-len1-up c =
    one_next_of sign_at c.args.signs.now _ c.args.tally c.count.result c.in-len1-up.len_at_least c.count.ensures
