-- What is known of the procedures of a unit.
use Rattle.cw_sound.proofs.Ranged.Procedures.{procedures_ranged}
use Rattle.cw_sound.proofs.laws.statements.procedures.Goals as goal

pub returns : goal.returns
returns c named sites numbers u b declared made_of fits counted facts answers free frames = procedures_ranged named numbers u declared sites b fits counted (facts, answers) free made_of frames
