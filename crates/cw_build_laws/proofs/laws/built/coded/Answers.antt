use Rattle.cw_build_laws.proofs.laws.built.coded.Goals as goal

pub returns : goal.returns
returns c orders h = c.coded.ensures orders h
