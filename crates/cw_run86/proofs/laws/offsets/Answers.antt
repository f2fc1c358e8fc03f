use Rattle.cw_run86.proofs.Offsets.{load, store, set, add, subtract}
use Rattle.cw_run86.proofs.laws.offsets.Goals as goal

pub returns : goal.returns
returns c =
    let finds = c.fetching.ensures.finds in
    record { load = load finds; store = store finds; set = set finds; add = add finds; subtract = subtract finds }
