use Rattle.std.proofs.Common.{◌≤◌, ◌^◌, sym, ap, ◌∙◌, arith}
use Rattle.cw_place.specs.Placement.{told_words}
use Rattle.cw_place.proofs.SameFits.{far_fit}
use Rattle.cw_place.proofs.placing.fit.Goals as goal

pub returns-else-sweep-lt-FAR-clause-address : goal.returns-else-sweep-lt-FAR-clause-address
returns-else-sweep-lt-FAR-clause-address c = λ end is.
    let far : 2 ^ 33 ≤ end = omega (arith, is, c.if-sweep-lt-FAR.false) in
    is ∙ ap told_words (sym (far_fit c.args.spans.now c.args.extent end c.requires.each far))
