use Rattle.cw_run86.proofs.Shifted.{up, down, down_signed}
use Rattle.cw_run86.proofs.laws.shifting.Goals as goal

pub returns : goal.returns
returns c =
    let finds = c.fetching.ensures.finds in
    record { up = up finds; down = down finds; down_signed = down_signed finds }
