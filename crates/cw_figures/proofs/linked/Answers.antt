use Rattle.std.proofs.Common.{[], ◌∷◌}
use Rattle.std.proofs.lemmas.List.Elements.{All-nil, All-cons}
use Rattle.cw_link.specs.Views.{IsOpened}
use Rattle.cw_figures.proofs.linked.Goals as goal

pub link-requires-in-Ok-Ok-clause-opened : goal.link-requires-in-Ok-Ok-clause-opened
link-requires-in-Ok-Ok-clause-opened c =
    let first = c.in-Ok-Ok.first in
    let second = c.in-Ok-Ok.second in
    All-cons IsOpened first (second ∷ []) (c.as_slice-in-len2.result.now, c.in-Ok-Ok.ensures) (All-cons IsOpened second [] (c.as_slice-in-len2-2.result.now, c.in-Ok-Ok.ensures') (All-nil IsOpened))
