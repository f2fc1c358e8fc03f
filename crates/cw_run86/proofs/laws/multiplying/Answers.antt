use Rattle.cw_run86.proofs.Products.{multiply, divide, extend}
use Rattle.cw_run86.proofs.laws.multiplying.Goals as goal

pub returns : goal.returns
returns c =
    let finds = c.fetching.ensures.finds in
    record { multiply = multiply finds; divide = divide finds; extend = extend finds }
