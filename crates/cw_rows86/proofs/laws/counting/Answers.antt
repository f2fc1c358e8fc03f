use Rattle.cw_rows86.proofs.Operating.{increment, decrement, count}
use Rattle.cw_rows86.proofs.laws.counting.Goals as goal

pub returns : goal.returns
returns c =
    let finds = c.fetching.ensures.finds in
    record { increment = increment finds; decrement = decrement finds; count = count finds }
