use Rattle.std.proofs.Common.{◌∷◌, []}
use Rattle.cw_i86.specs.declared.instr.Instr.TheVariants as i86
use Rattle.cw_tmpl.specs.declared.pieces.Coded.TheVariants as coded
use Rattle.cw_assemble.proofs.Composed.{by_same, check_added}
use Rattle.cw_assemble.proofs.checks.put_add.Goals as goal

pub returns : goal.returns
returns c =
    let sum = by_same (λ i. coded.Whole (i86.Pop 3) ∷ coded.Whole i ∷ []) c.add.ensures c.put_all.ensures in
    let all = check_added c.args.short c.args.line c.args.to sum c.put_check.ensures in
    all
