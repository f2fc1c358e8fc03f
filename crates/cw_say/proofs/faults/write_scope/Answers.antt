use Rattle.cw_say.proofs.faults.write_scope.Goals as goal

pub returns-in-Undeclared : goal.returns-in-Undeclared
returns-in-Undeclared g c = rw c.in-Undeclared.is c.write_at_name.ensures

pub returns-in-Twice : goal.returns-in-Twice
returns-in-Twice g c = rw c.in-Twice.is c.write_at_name-in-Twice.ensures

pub returns-in-WrongKind : goal.returns-in-WrongKind
returns-in-WrongKind g c = rw c.in-WrongKind.is c.write_at_name-in-WrongKind.ensures

pub returns-in-SpecDiffers : goal.returns-in-SpecDiffers
returns-in-SpecDiffers g c = rw c.in-SpecDiffers.is c.write_at_name-in-SpecDiffers.ensures
