use Rattle.cw_comm.proofs.agreeing.check_all.Goals as goal

pub check-requires-2 : goal.check-requires-2
check-requires-2 c = record { listed = c.requires.listed; firsts = c.requires.firsts; so_far = (c.requires.once, c.in_ok-check.ensures.none) }

pub check-requires-3 : goal.check-requires-3
check-requires-3 c = record { listed = c.requires.listed; firsts = c.requires.firsts; so_far = (c.requires.once, c.in_ok-check.ensures.none, c.in_ok-check-2.ensures.none) }

pub returns-clause-agree : goal.returns-clause-agree
returns-clause-agree c = record { once = c.requires.once; same = c.in_ok-check.ensures.none; one_definition = c.in_ok-check-2.ensures.none; all_defined = c.in_ok-check-3.ensures.none }
