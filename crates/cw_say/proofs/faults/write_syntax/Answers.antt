use Rattle.cw_say.proofs.faults.write_syntax.Goals as goal

pub returns-in-Syntax : goal.returns-in-Syntax
returns-in-Syntax g c = rw c.in-Syntax.is c.write_at_token.ensures

pub returns-in-NestTooDeep : goal.returns-in-NestTooDeep
returns-in-NestTooDeep g c = rw c.in-NestTooDeep.is c.write_at_token-in-NestTooDeep.ensures

pub returns-in-LeftOut : goal.returns-in-LeftOut
returns-in-LeftOut g c = rw c.in-LeftOut.is (rw c.left_out.ensures at c.write_named.ensures)
