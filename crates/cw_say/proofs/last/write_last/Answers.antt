use Rattle.cw_say.proofs.last.write_last.Goals as goal

pub returns-in-Usage-clause-line : goal.returns-in-Usage-clause-line
returns-in-Usage-clause-line g c = rw c.in-Usage.is c.write_piece.ensures

pub returns-in-Unfinished-clause-line : goal.returns-in-Unfinished-clause-line
returns-in-Unfinished-clause-line g c = rw c.in-Unfinished.is c.write_number.ensures
