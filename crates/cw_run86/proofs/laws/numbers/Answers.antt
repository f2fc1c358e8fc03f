use Rattle.cw_run86.proofs.Offsets.{add_number, subtract_number}
use Rattle.cw_run86.proofs.laws.numbers.Goals as goal

pub returns : goal.returns
returns c =
    let finds = c.fetching.ensures.finds in
    record { add = add_number finds; subtract = subtract_number finds }
