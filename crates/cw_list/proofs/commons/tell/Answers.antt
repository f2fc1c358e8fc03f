use Rattle.std.proofs.Common.{◌≡◌, List, ℕ, Bool, true, false, ◌||◌, cond, refl, ap, ◌∙◌}
use Rattle.std.specs.Borrow.{Bor}
use Rattle.std.proofs.lemmas.Map.Text.{is_eq-slice_cmp}
use Rattle.cw_list.specs.Told.{is_told}
use Rattle.cw_list.proofs.commons.tell.Goals as goal

either : (a b : Bool) → cond a true b ≡ (a || b)
either true b = refl
either false b = refl

pub returns-in-Ok-clause-after : goal.returns-in-Ok-clause-after
returns-in-Ok-clause-after c = λ m.
    let q : Bor (List ℕ) = record c.args.name { now = m } in
    c.in-Ok.ensures.updates.0 q
    ∙ ap (λ b. cond b true (is_told c.args.told.now m)) (is_eq-slice_cmp c.args.name.now m)
    ∙ either _ (is_told c.args.told.now m)
