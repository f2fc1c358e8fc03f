use Rattle.std.proofs.Common.{◌∷◌, [], subst}
use Rattle.cw_i86.specs.declared.instr.Instr.TheVariants as i86
use Rattle.cw_tmpl.specs.declared.pieces.Coded.TheVariants as coded
use Rattle.cw_assemble.specs.Growing.{Adds}
use Rattle.cw_assemble.proofs.Ended.{where_added}
use Rattle.cw_assemble.proofs.jumping.put_jump_if.Goals as goal

pub returns : goal.returns
returns c =
    let compared = subst (λ i. Adds c.args.code.now (coded.Whole (i86.Pop 3) ∷ coded.Whole i ∷ []) c.put_all.new.self) c.compare.ensures c.put_all.ensures in
    where_added c.args.code.now c.put_all.new.self c.put_branch.new.code c.args.short c.args.comparator c.args.to compared c.put_branch.ensures
