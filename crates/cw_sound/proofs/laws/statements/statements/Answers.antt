-- What is known of each statement.
use Rattle.cw_sound.proofs.Ranged.Trees.{statement_is_right, block_is_right}
use Rattle.cw_sound.proofs.laws.statements.statements.Goals as goal

pub returns-clause-statement : goal.returns-clause-statement
returns-clause-statement c named sites numbers u who s declared regular facts answers free few = statement_is_right named sites numbers u who declared s regular (facts, answers) free few

pub returns-clause-block : goal.returns-clause-block
returns-clause-block c named sites numbers u who outermost b declared regular facts answers free few = block_is_right named sites numbers u who declared b outermost regular (facts, answers) free few
