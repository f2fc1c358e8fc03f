-- The tree or the fault is what reading says.
use Rattle.std.proofs.Common.{Ok, Err, ◌≡◌, ◌∙◌, ◌≤◌, ◌-◌, length, sym, arith}
use Rattle.cw_grammar.specs.Tokens.{behind}
use Rattle.cw_grammar.specs.Reading.{syntax_at, deep_at}
use Rattle.cw_grammar.proofs.Behind.{left_within}
use Rattle.cw_parse.specs.Texts.{no_memory}
use Rattle.cw_parse.proofs.Texts.{tree_found, tree_proper, tree_same, left_no_tree, left_fault, fault_no_tree, syntax_is, deep_is, left_few}
use Rattle.cw_parse.proofs.parsing.parse.Goals as goal

pub overflow_sub-tokens : goal.overflow_sub-tokens
overflow_sub-tokens c = rw c.left-left.ensures (left_within c.args.tokens.now c.in-Ok.at)

pub overflow_sub-tokens-in-Err-Syntax : goal.overflow_sub-tokens-in-Err-Syntax
overflow_sub-tokens-in-Err-Syntax c = left_few c.args.tokens.now (Err (syntax_at c.in-Err-Syntax.left)) (rw c.in-Err-Syntax.field-0-is at c.in-Err-Syntax.ensures)

pub overflow_sub-tokens-in-Err-Deep : goal.overflow_sub-tokens-in-Err-Deep
overflow_sub-tokens-in-Err-Deep c = left_few c.args.tokens.now (Err (deep_at c.in-Err-Deep.left)) (rw c.in-Err-Deep.field-0-is at c.in-Err-Deep.ensures)

pub returns-then-left-eq0-clause-tree : goal.returns-then-left-eq0-clause-tree
returns-then-left-eq0-clause-tree c = tree_found c.args.tokens.now c.in-Ok.raw c.in-Ok.at (sym c.left-left.ensures ∙ c.if-left-eq0.true) c.in-Ok.ensures

pub returns-then-left-eq0-clause-proper : goal.returns-then-left-eq0-clause-proper
returns-then-left-eq0-clause-proper c = tree_proper c.args.tokens.now c.in-Ok.raw c.in-Ok.at (omega arith) (sym c.left-left.ensures ∙ c.if-left-eq0.true) c.in-Ok.ensures

pub returns-then-left-eq0-clause-all : goal.returns-then-left-eq0-clause-all
returns-then-left-eq0-clause-all c x d = tree_same c.args.tokens.now c.in-Ok.raw x c.in-Ok.at c.in-Ok.ensures d

pub returns-else-left-eq0-clause-all : goal.returns-else-left-eq0-clause-all
returns-else-left-eq0-clause-all c x d = absurd (left_no_tree c.args.tokens.now c.in-Ok.raw x c.in-Ok.at (λ z. c.if-left-eq0.false (c.left-left.ensures ∙ z)) c.in-Ok.ensures d)

pub returns-else-left-eq0-clause-fault : goal.returns-else-left-eq0-clause-fault
returns-else-left-eq0-clause-fault c = rw (c.syntax_fault.ensures, c.left-left.ensures) (left_fault c.args.tokens.now c.in-Ok.raw c.in-Ok.at (λ z. c.if-left-eq0.false (c.left-left.ensures ∙ z)) c.in-Ok.ensures)

pub returns-in-Err-Memory-clause-fault : goal.returns-in-Err-Memory-clause-fault
returns-in-Err-Memory-clause-fault c = no_memory

pub returns-in-Err-Syntax-clause-all : goal.returns-in-Err-Syntax-clause-all
returns-in-Err-Syntax-clause-all c x d = absurd (fault_no_tree c.args.tokens.now x (syntax_at c.in-Err-Syntax.left) (rw c.in-Err-Syntax.field-0-is at c.in-Err-Syntax.ensures) d)

pub returns-in-Err-Syntax-clause-fault : goal.returns-in-Err-Syntax-clause-fault
returns-in-Err-Syntax-clause-fault c = rw c.syntax_fault-in-Err-Syntax.ensures (syntax_is c.args.tokens.now c.in-Err-Syntax.left (rw c.in-Err-Syntax.field-0-is at c.in-Err-Syntax.ensures))

pub returns-in-Err-Deep-clause-all : goal.returns-in-Err-Deep-clause-all
returns-in-Err-Deep-clause-all c x d = absurd (fault_no_tree c.args.tokens.now x (deep_at c.in-Err-Deep.left) (rw c.in-Err-Deep.field-0-is at c.in-Err-Deep.ensures) d)

pub returns-in-Err-Deep-clause-fault : goal.returns-in-Err-Deep-clause-fault
returns-in-Err-Deep-clause-fault c = rw c.deep_fault.ensures (deep_is c.args.tokens.now c.in-Err-Deep.left (rw c.in-Err-Deep.field-0-is at c.in-Err-Deep.ensures))
