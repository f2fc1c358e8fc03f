use Rattle.cw_run86.proofs.Compared.{jumps_below, passes_above}
use Rattle.cw_run86.proofs.laws.comparing_below.Goals as goal

pub returns : goal.returns
returns c =
    let finds = c.fetching.ensures.finds in
    record { jumps = jumps_below finds; passes = passes_above finds }
