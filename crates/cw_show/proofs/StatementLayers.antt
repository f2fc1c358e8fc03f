-- The canonical tokens of statements by their first layer.
use Rattle.std.proofs.Common.{◌≡◌, ◌+◌, [], ◌∷◌, ◌++◌, map}
use Rattle.cw_lex.specs.declared.token.Word.TheVariants as words
use Rattle.cw_tree.specs.declared.statement.RawBlock.{RawBlock, out-RawBlock}
use Rattle.cw_tree.specs.declared.statement.RawProc.{RawProc, out-RawProc}
use Rattle.cw_tree.specs.declared.statement.RawStmt.{RawStmt, out-RawStmt}
use Rattle.cw_tree.proofs.Statements.{StatementSteps, statement_steps, of_block-out, of_procedure-out, of_statement-out}
use Rattle.cw_show.specs.Spelling.{word}
use Rattle.cw_show.specs.Canonical.{Tokens, between, ended, semicolon}
use Rattle.cw_show.specs.StatementTokens.{labels_tokens, head_tokens, decl_step, form_step, simple_step, block_step, proc_step, stmt_step, decl_tokens, form_tokens, block_tokens, proc_tokens, stmt_tokens}

abbrev pub steps : StatementSteps Tokens Tokens Tokens Tokens Tokens Tokens
steps = statement_steps decl_step form_step simple_step block_step proc_step stmt_step

pub stmt-layer : (x : RawStmt) → stmt_tokens x ≡ labels_tokens (out-RawStmt x).labels ++ form_tokens (out-RawStmt x).form
stmt-layer = of_statement-out steps

pub proc-layer : (x : RawProc) → proc_tokens x ≡ head_tokens (out-RawProc x).answer (out-RawProc x).tag (out-RawProc x).name (out-RawProc x).params ++ stmt_tokens (out-RawProc x).body
proc-layer = of_procedure-out steps

pub block-layer : (x : RawBlock) → block_tokens x ≡ word words.Begin ∷ (ended (map decl_tokens (out-RawBlock x).decls) ++ (between semicolon (map stmt_tokens (out-RawBlock x).stmts) ++ word words.End ∷ []))
block-layer = of_block-out steps
