use Rattle.std.proofs.Common.{[], ◌∷◌, List, ℕ, map, Bor, ap, sym, ◌∙◌, arith, refl}
use Rattle.std.proofs.lemmas.List.{length-map}
use Rattle.cw_actions.proofs.Resulting.Told.{one_name}
use Rattle.cw_actions.proofs.Executing.Called.{ran, unread}
use Rattle.cw_actions.proofs.exec.executing.exec.Goals as goal

pub returns-in-Ok : goal.returns-in-Ok
returns-in-Ok g c =
    let count = length-map c.args.names.now (λ name. name.now) in
    let one = one_name (map (λ (name : Bor (List ℕ)). name.now) c.args.names.now) (omega (arith, c.requires.few, count)) (omega (arith, c.requires.some, count)) ∙ ap (λ (name : List ℕ). name ∷ []) (sym c.first_name.ensures) in
    rw c.close.ensures.same (ran _ _ _ _ _ c.first_name.result.now _ c.read_runnable.ensures.stay one c.in-Ok.runnable c.in-Ok.ensures.taken c.run-status.ensures (rw c.as_slice.ensures at c.close.ensures.line) c.close.ensures.ended)

pub returns-in-Err : goal.returns-in-Err
returns-in-Err g c =
    let count = length-map c.args.names.now (λ name. name.now) in
    let one = one_name (map (λ (name : Bor (List ℕ)). name.now) c.args.names.now) (omega (arith, c.requires.few, count)) (omega (arith, c.requires.some, count)) ∙ ap (λ (name : List ℕ). name ∷ []) (sym c.first_name.ensures) in
    rw c.close-in-Err.ensures.same (unread _ _ _ _ _ c.first_name.result.now _ c.read_runnable.ensures.stay one refl c.in-Err.ensures.taken c.close-in-Err.ensures.line c.close-in-Err.ensures.ended)
