use Rattle.cw_run86.proofs.Sums.{both, either, one}
use Rattle.cw_run86.proofs.laws.logic.Goals as goal

pub returns : goal.returns
returns c =
    let finds = c.fetching.ensures.finds in
    record { both = both finds; either = either finds; one = one finds }
