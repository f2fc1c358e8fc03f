-- The trees of a text.
use Rattle.cw_gen_expr.specs.BuiltExpressions.{most_levels}
use Rattle.cw_sound.proofs.Regular.Texts.{regular_block, regular_body}
use Rattle.cw_sound.proofs.laws.trees.regular.Goals as goal

pub returns-clause-block : goal.returns-clause-block
returns-clause-block c n ts raw h few d t = regular_block n ts raw h few d t

pub returns-clause-bodies : goal.returns-clause-bodies
returns-clause-bodies c n ts raw h few d t l = regular_body most_levels n ts raw l h few d t
