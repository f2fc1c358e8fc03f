use Rattle.cw_rows86.proofs.Stacking.{push, push_any, pop}
use Rattle.cw_rows86.proofs.laws.stacking.Goals as goal

pub returns : goal.returns
returns c =
    let finds = c.fetching.ensures.finds in
    record { push = push finds; push_any = push_any finds; pop = pop finds }
