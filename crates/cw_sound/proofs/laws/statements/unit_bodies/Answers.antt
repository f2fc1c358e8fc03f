-- What is known of the bodies of a unit.
use Rattle.cw_sound.proofs.Statements.UnitBodies.{unit_formed, unit_built}
use Rattle.cw_sound.proofs.laws.statements.unit_bodies.Goals as goal

pub returns-clause-well_formed : goal.returns-clause-well_formed
returns-clause-well_formed c named sites numbers u b eb ep regular few fits counted facts answers free = unit_formed named numbers u sites b regular few fits counted (facts, answers) free eb ep

pub returns-clause-built : goal.returns-clause-built
returns-clause-built c named sites numbers u b eb ep regular few fits counted facts answers free = unit_built named numbers u sites b regular few fits counted (facts, answers) free eb ep
