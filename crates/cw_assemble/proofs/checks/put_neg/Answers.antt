use Rattle.std.proofs.Common.{◌∷◌, []}
use Rattle.cw_tmpl.specs.declared.pieces.Coded.TheVariants as coded
use Rattle.cw_assemble.proofs.Composed.{by_same, check_added}
use Rattle.cw_assemble.proofs.checks.put_neg.Goals as goal

pub returns : goal.returns
returns c =
    let negative = by_same (λ i. coded.Whole i ∷ []) c.negate.ensures c.put_all.ensures in
    let all = check_added c.args.short c.args.line c.args.to negative c.put_check.ensures in
    all
