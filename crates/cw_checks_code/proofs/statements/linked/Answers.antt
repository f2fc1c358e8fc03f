use Rattle.std.proofs.Common.{[], ◌∷◌}
use Rattle.std.proofs.lemmas.List.Elements.{All-nil, All-cons}
use Rattle.cw_link.specs.Views.{IsOpened}
use Rattle.cw_checks_code.proofs.statements.linked.Goals as goal

pub link-requires-clause-opened : goal.link-requires-clause-opened
link-requires-clause-opened c =
    let first = c.in-Ok-Ok.first in
    let second = c.in-Ok-Ok.second in
    All-cons IsOpened first (second ∷ []) (c.deref-in-len2.result.now, c.in-Ok-Ok.ensures) (All-cons IsOpened second [] (c.deref-in-len2-2.result.now, c.in-Ok-Ok.ensures') (All-nil IsOpened))
