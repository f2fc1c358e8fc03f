use Rattle.cw_say.proofs.last.write_too_long.Goals as goal

pub returns-in-Input : goal.returns-in-Input
returns-in-Input g c = rw c.in-Input.is c.write_name-in-Input.ensures
