use Rattle.cw_run86.proofs.Jumps.{take, out, halts, rests, runs}
use Rattle.cw_run86.proofs.laws.ports.Goals as goal

pub returns : goal.returns
returns c =
    let finds = c.fetching.ensures.finds in
    record { take = take finds; out = out finds; halts = λ code v p. halts finds code v p; rests = λ code v p. rests finds code v p; runs = λ code v p. runs finds code v p }
