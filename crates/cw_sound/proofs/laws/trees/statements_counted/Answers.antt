-- A statement and a block, each as it stands.
use Rattle.cw_sound.proofs.Tokens.Statements.{stated}
use Rattle.cw_sound.proofs.laws.trees.statements_counted.Goals as goal

pub returns-clause-statement : goal.returns-clause-statement
returns-clause-statement c named numbers n p s a q h = (stated named numbers h).fits q

pub returns-clause-block : goal.returns-clause-block
returns-clause-block c named numbers n p b a q h = (stated named numbers h).fits q
