use Rattle.cw_run86.proofs.Jumps.{near, short, register, no_overflow, passes, call, back}
use Rattle.cw_run86.proofs.laws.jumps.Goals as goal

pub returns : goal.returns
returns c =
    let finds = c.fetching.ensures.finds in
    record { near = near finds; short = short finds; register = register finds; no_overflow = no_overflow finds; passes = passes finds; call = call finds; back = back finds }
