use Rattle.cw_run86.proofs.Compared.{registers, offset, number, pop, jumps, passes}
use Rattle.cw_run86.proofs.laws.comparing.Goals as goal

pub returns : goal.returns
returns c =
    let finds = c.fetching.ensures.finds in
    record { registers = registers finds; offset = offset finds; number = number finds; pop = pop finds; jumps = jumps finds; passes = passes finds }
