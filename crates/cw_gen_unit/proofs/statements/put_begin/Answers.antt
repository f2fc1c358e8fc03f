use Rattle.cw_gen_unit.proofs.statements.put_begin.Goals as goal

pub returns : goal.returns
returns c = c.put.ensures
