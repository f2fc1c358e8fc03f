use Rattle.std.proofs.Common.{◌≡◌, ◌++◌, map, drop}
use Rattle.cw_items.specs.Things.{joined, declaration_things, statement_things}
use Rattle.cw_items.proofs.statements.+things.Given as goal

abbrev pub invariant-block_things-loop-declaration : goal.invariant-block_things-loop-declaration
invariant-block_things-loop-declaration l = l.out ++ joined (map (declaration_things l.named) (drop l.declaration-index l.declaration-items)) l.owner ≡ l.initial.out ++ joined (map (declaration_things l.named) l.declaration-items) l.owner

abbrev pub invariant-block_things-loop-statement : goal.invariant-block_things-loop-statement
invariant-block_things-loop-statement l = l.out ++ joined (map (statement_things l.named) (drop l.statement-index l.statement-items)) l.owner ≡ l.initial.out ++ joined (map (statement_things l.named) l.statement-items) l.owner
