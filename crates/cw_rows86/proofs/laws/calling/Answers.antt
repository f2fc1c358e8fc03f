use Rattle.cw_rows86.proofs.Jumping.{call, call_through, back, back_over}
use Rattle.cw_rows86.proofs.laws.calling.Goals as goal

pub returns : goal.returns
returns c =
    let finds = c.fetching.ensures.finds in
    record { call = call finds; call_through = call_through finds; back = back finds; back_over = back_over finds }
