use Rattle.std.proofs.Common.{◌∙◌}
use Rattle.cw_grammar.specs.Tokens.{numbered}
use Rattle.cw_show.specs.StatementTokens.{canonical_tokens}
use Rattle.cw_read_back.specs.Trees.UnplacedStatements.{unplaced}
use Rattle.cw_read_back.proofs.Expressions.Back.{said}
use Rattle.cw_read_back.proofs.Trees.Back.{back, numbered_spelled}
use Rattle.cw_read_back.proofs.laws.trees.text.Goals as goal

pub returns : goal.returns
returns c n x marks h ts e = said canonical_tokens unplaced x (back h) (numbered 1 ts) (numbered_spelled ts 1 ∙ e)
