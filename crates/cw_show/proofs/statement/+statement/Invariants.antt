use Rattle.std.proofs.Common.{map, drop}
use Rattle.cw_show.specs.Canonical.{behind_each, ended, semicolon}
use Rattle.cw_show.specs.StatementTokens.{decl_tokens, stmt_tokens}
use Rattle.cw_show.proofs.Adding.{Keeps}
use Rattle.cw_show.proofs.statement.+statement.Given as goal

abbrev pub invariant-put_decls-loop-decl : goal.invariant-put_decls-loop-decl
invariant-put_decls-loop-decl l = Keeps l.initial.out l.out (ended (map decl_tokens l.decls)) (ended (map decl_tokens (drop l.decl-index l.decls)))

abbrev pub invariant-put_stmts-loop-stmt : goal.invariant-put_stmts-loop-stmt
invariant-put_stmts-loop-stmt l = Keeps l.initial.out l.out (behind_each semicolon (map stmt_tokens l.rest)) (behind_each semicolon (map stmt_tokens (drop l.stmt-index l.rest)))
