-- What is known of each statement, within its levels.
use Rattle.cw_sound.proofs.Statements.Trees.{statement_is_right, block_is_right}
use Rattle.cw_sound.proofs.laws.statements.built.Goals as goal

pub returns-clause-statement : goal.returns-clause-statement
returns-clause-statement c named sites numbers u who s levels regular facts answers free low high = (statement_is_right named sites numbers u who s regular (facts, answers) free).built levels low high

pub returns-clause-block : goal.returns-clause-block
returns-clause-block c named sites numbers u who outermost b levels regular facts answers free low high = (block_is_right named sites numbers u who b outermost regular (facts, answers) free).built levels low high
