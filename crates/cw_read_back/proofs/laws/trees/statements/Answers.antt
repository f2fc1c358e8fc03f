use Rattle.cw_show.specs.StatementTokens.{felem_tokens, param_tokens, decl_tokens, stmt_tokens}
use Rattle.cw_read_back.specs.Trees.UnplacedStatements.{unplaced_felem, unplaced_param, unplaced_decl, unplaced_stmt}
use Rattle.cw_read_back.proofs.Expressions.Back.{said}
use Rattle.cw_read_back.proofs.Trees.Back.{back}
use Rattle.cw_read_back.proofs.laws.trees.statements.Goals as goal

pub returns-clause-felem : goal.returns-clause-felem
returns-clause-felem c p n x marks h ts e = said felem_tokens unplaced_felem x (back h) ts e

pub returns-clause-param : goal.returns-clause-param
returns-clause-param c p n x marks h ts e = said param_tokens unplaced_param x (back h) ts e

pub returns-clause-decl : goal.returns-clause-decl
returns-clause-decl c p n x marks h ts e = said decl_tokens unplaced_decl x (back h) ts e

pub returns-clause-stmt : goal.returns-clause-stmt
returns-clause-stmt c p n x marks h ts e = said stmt_tokens unplaced_stmt x (back h) ts e
