use Rattle.cw_rows86.proofs.Multiplying.{multiply, divide, signed_divide, extend}
use Rattle.cw_rows86.proofs.laws.multiplying.Goals as goal

pub returns : goal.returns
returns c =
    let finds = c.fetching.ensures.finds in
    record { multiply = multiply finds; divide = divide finds; signed_divide = signed_divide finds; extend = extend finds }
