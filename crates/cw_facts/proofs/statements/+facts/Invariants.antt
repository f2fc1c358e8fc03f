use Rattle.std.proofs.Common.{◌≡◌, ◌++◌, map, drop}
use Rattle.cw_facts.specs.Facts.{joined, declaration_facts, statement_facts}
use Rattle.cw_facts.proofs.statements.+facts.Given as goal

abbrev pub invariant-parts_facts-loop-declaration : goal.invariant-parts_facts-loop-declaration
invariant-parts_facts-loop-declaration l =
    l.out ++ joined (map declaration_facts (drop l.declaration-index l.declaration-items)) ≡ l.initial.out ++ joined (map declaration_facts l.declaration-items)

abbrev pub invariant-parts_facts-loop-statement : goal.invariant-parts_facts-loop-statement
invariant-parts_facts-loop-statement l =
    l.out ++ joined (map statement_facts (drop l.statement-index l.statement-items)) ≡ l.initial.out ++ joined (map statement_facts l.statement-items)
