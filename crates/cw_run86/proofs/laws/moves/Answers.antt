use Rattle.cw_run86.proofs.Moves.{number, low_byte, register, high_byte}
use Rattle.cw_run86.proofs.laws.moves.Goals as goal

pub returns : goal.returns
returns c =
    let finds = c.fetching.ensures.finds in
    record { number = number finds; low_byte = low_byte finds; register = register finds; high_byte = high_byte finds }
