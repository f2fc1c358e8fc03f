-- The tokens, names and procedures of a text.
use Rattle.cw_sound.proofs.Trees.Rising.{rising_tokens, has_names, plain_procedures}
use Rattle.cw_sound.proofs.laws.trees.items_derived.Goals as goal

pub returns-clause-rising : goal.returns-clause-rising
returns-clause-rising c n ts raw few d = rising_tokens n ts raw d few

pub returns-clause-named : goal.returns-clause-named
returns-clause-named c n ts raw d = has_names n ts raw d

pub returns-clause-plain : goal.returns-clause-plain
returns-clause-plain c n ts raw d = plain_procedures n ts raw d
