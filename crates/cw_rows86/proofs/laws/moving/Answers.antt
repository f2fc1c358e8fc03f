use Rattle.cw_rows86.proofs.Moving.{number, low_byte, into, out_of, number_to, load, store, offset}
use Rattle.cw_rows86.proofs.laws.moving.Goals as goal

pub returns : goal.returns
returns c =
    let finds = c.fetching.ensures.finds in
    record { number = number finds; low_byte = low_byte finds; into = into finds; out_of = out_of finds; number_to = number_to finds; load = load finds; store = store finds; offset = offset finds }
