use Rattle.std.proofs.Common.{◌≡◌, ◌++◌, map, drop}
use Rattle.cw_make_stmt.specs.Made.{statement_of}
use Rattle.cw_make_stmt.proofs.statements.+made.Given as goal

abbrev pub invariant-make_block-loop-statement : goal.invariant-make_block-loop-statement
invariant-make_block-loop-statement l =
    l.all ++ map (statement_of l.text.named.now l.text.numbers.now) (drop l.statement-index l.statement-items)
    ≡ map (statement_of l.text.named.now l.text.numbers.now) l.statement-items
