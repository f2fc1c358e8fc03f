-- The expression or the fault is what reading says.
use Rattle.std.proofs.Common.{Ok, Err, ◌≡◌, ◌≤◌, ◌-◌, length, sym, arith}
use Rattle.cw_grammar.specs.Tokens.{behind}
use Rattle.cw_grammar.specs.Grammar.{an_expr}
use Rattle.cw_grammar.specs.Rules.{expr}
use Rattle.cw_grammar.specs.Reading.{syntax_at, deep_at}
use Rattle.cw_grammar.specs.Parsing.{IsFault, no_memory, no_text, too_deep}
use Rattle.cw_grammar.proofs.Table.{expr_predictive}
use Rattle.cw_grammar.proofs.Behind.{behind_again, left_within}
use Rattle.cw_grammar.proofs.Whole.{left_at}
use Rattle.cw_grammar.proofs.Longest.{read_longest, read_no_text, read_deep, reads_it, reads_no_fault}
use Rattle.cw_parse_expr.proofs.parsing.parse_expr.Goals as goal

pub overflow_sub-result : goal.overflow_sub-result
overflow_sub-result c = rw c.left.ensures (left_within c.args.tokens.now c.in-Ok.at)

pub overflow_sub-tokens : goal.overflow_sub-tokens
overflow_sub-tokens c =
    omega (arith, left_within c.args.tokens.now c.args.from, left_at (64 - c.args.level) an_expr expr (behind c.args.tokens.now c.args.from) (Err (syntax_at c.in-Err-Syntax.left)) (rw c.in-Err-Syntax.field-0-is at c.in-Err-Syntax.ensures))

pub overflow_sub-tokens-in-Err-Deep : goal.overflow_sub-tokens-in-Err-Deep
overflow_sub-tokens-in-Err-Deep c =
    omega (arith, left_within c.args.tokens.now c.args.from, left_at (64 - c.args.level) an_expr expr (behind c.args.tokens.now c.args.from) (Err (deep_at c.in-Err-Deep.left)) (rw c.in-Err-Deep.field-0-is at c.in-Err-Deep.ensures))

pub returns-in-Ok-clause-read : goal.returns-in-Ok-clause-read
returns-in-Ok-clause-read c =
    rw (c.left.ensures, behind_again c.args.tokens.now c.in-Ok.at)
    (read_longest (64 - c.args.level) an_expr expr (behind c.args.tokens.now c.args.from) c.in-Ok.expr (behind c.args.tokens.now c.in-Ok.at) expr_predictive c.in-Ok.ensures)

pub returns-in-Ok-clause-all : goal.returns-in-Ok-clause-all
returns-in-Ok-clause-all c x rest p =
    rw (c.left.ensures, behind_again c.args.tokens.now c.in-Ok.at)
    (reads_it (64 - c.args.level) an_expr expr (behind c.args.tokens.now c.args.from) x c.in-Ok.expr rest (behind c.args.tokens.now c.in-Ok.at) expr_predictive c.in-Ok.ensures p)

pub returns-in-Err-Memory-clause-fault : goal.returns-in-Err-Memory-clause-fault
returns-in-Err-Memory-clause-fault c = no_memory

pub returns-in-Err-Syntax-clause-all : goal.returns-in-Err-Syntax-clause-all
returns-in-Err-Syntax-clause-all c x rest p =
    absurd (reads_no_fault (64 - c.args.level) an_expr expr (behind c.args.tokens.now c.args.from) x rest (syntax_at c.in-Err-Syntax.left) expr_predictive (rw c.in-Err-Syntax.field-0-is at c.in-Err-Syntax.ensures) p)

pub returns-in-Err-Syntax-clause-fault : goal.returns-in-Err-Syntax-clause-fault
returns-in-Err-Syntax-clause-fault c =
    rw c.syntax_fault.ensures (no_text c.in-Err-Syntax.left (read_no_text (64 - c.args.level) an_expr expr (behind c.args.tokens.now c.args.from) c.in-Err-Syntax.left expr_predictive (rw c.in-Err-Syntax.field-0-is at c.in-Err-Syntax.ensures)))

pub returns-in-Err-Deep-clause-all : goal.returns-in-Err-Deep-clause-all
returns-in-Err-Deep-clause-all c x rest p =
    absurd (reads_no_fault (64 - c.args.level) an_expr expr (behind c.args.tokens.now c.args.from) x rest (deep_at c.in-Err-Deep.left) expr_predictive (rw c.in-Err-Deep.field-0-is at c.in-Err-Deep.ensures) p)

pub returns-in-Err-Deep-clause-fault : goal.returns-in-Err-Deep-clause-fault
returns-in-Err-Deep-clause-fault c =
    rw c.deep_fault.ensures (too_deep c.in-Err-Deep.left (read_deep (64 - c.args.level) an_expr expr (behind c.args.tokens.now c.args.from) c.in-Err-Deep.left expr_predictive (rw c.in-Err-Deep.field-0-is at c.in-Err-Deep.ensures)))
