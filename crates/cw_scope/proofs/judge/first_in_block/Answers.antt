use Rattle.std.proofs.Common.{◌≡◌, suc, ◌-◌, length, sym, ap, ◌∙◌, arith}
use Rattle.std.proofs.lemmas.Bool.Decides.{nat_tests}
use Rattle.cw_scope.specs.Scope.{declared_in}
use Rattle.cw_scope.proofs.Looking.{own_block_at}
use Rattle.cw_scope.proofs.judge.first_in_block.Goals as goal

pub returns : goal.returns
returns c =
    let some : suc (length c.args.blocks.now - 1) ≡ length c.args.blocks.now = grind (arith, nat_tests) in
    c.find.ensures ∙ ap (λ b. declared_in b c.args.name.now) (sym (own_block_at c.args.blocks.now (length c.args.blocks.now - 1) c.index-blocks-blocks.result some c.index-blocks-blocks.is))
