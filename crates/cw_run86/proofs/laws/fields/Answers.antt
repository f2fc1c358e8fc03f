use Rattle.cw_run86.proofs.Stack.{load_argument, store_field, load_field, store_slot}
use Rattle.cw_run86.proofs.laws.fields.Goals as goal

pub returns : goal.returns
returns c =
    let finds = c.fetching.ensures.finds in
    record { load_argument = load_argument finds; store_field = store_field finds; load_field = load_field finds; store_slot = store_slot finds }
