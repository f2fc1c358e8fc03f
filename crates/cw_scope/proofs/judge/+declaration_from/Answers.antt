use Rattle.std.proofs.Common.{◌<◌, length, add-one, arith}
use Rattle.cw_scope.proofs.Looking.{found-inward}
use Rattle.cw_scope.proofs.judge.+declaration_from.Goals as goal

pub returns-in-Some : goal.returns-in-Some
returns-in-Some t c =
    let within : c.args.from < length c.args.blocks.now = omega arith in
    found-inward c.args.blocks.now c.args.from c.args.name.now c.in-Some.declaration.now within (rw add-one at c.in-Some.ensures)
