use Rattle.cw_run86.proofs.Stack.{load, store, load_slot, set_slot}
use Rattle.cw_run86.proofs.laws.memory.Goals as goal

pub returns : goal.returns
returns c =
    let finds = c.fetching.ensures.finds in
    record { load = load finds; store = store finds; load_slot = load_slot finds; set_slot = set_slot finds }
