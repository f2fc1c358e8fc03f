use Rattle.std.proofs.Common.{[], ◌∷◌}
use Rattle.std.proofs.lemmas.List.Elements.{All-nil, All-cons}
use Rattle.cw_link.specs.Views.{IsOpened}
use Rattle.cw_checks_link.proofs.objects.link_two.Goals as goal

pub link-requires-clause-opened : goal.link-requires-clause-opened
link-requires-clause-opened c =
    let first = c.in-Ok-Ok.a in
    let second = c.in-Ok-Ok.b in
    All-cons IsOpened first (second ∷ []) (c.args.first.now, c.in-Ok-Ok.ensures) (All-cons IsOpened second [] (c.args.second.now, c.in-Ok-Ok.ensures') (All-nil IsOpened))
