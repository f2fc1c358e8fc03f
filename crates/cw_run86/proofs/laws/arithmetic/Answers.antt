use Rattle.cw_run86.proofs.Sums.{add, subtract, negate, double}
use Rattle.cw_run86.proofs.laws.arithmetic.Goals as goal

pub returns : goal.returns
returns c =
    let finds = c.fetching.ensures.finds in
    record { add = add finds; subtract = subtract finds; negate = negate finds; double = double finds }
