use Rattle.std.proofs.Common.{◌≡◌, ◌++◌, map, drop}
use Rattle.cw_preset.specs.Strings.{joined}
use Rattle.cw_preset.specs.Held.{declaration_rows, statement_rows}
use Rattle.cw_preset.proofs.held.+held.Given as goal

abbrev pub invariant-block_rows-loop-declaration : goal.invariant-block_rows-loop-declaration
invariant-block_rows-loop-declaration l = l.out ++ joined (map declaration_rows (drop l.declaration-index l.declaration-items)) ≡ l.initial.out ++ joined (map declaration_rows l.declaration-items)

abbrev pub invariant-block_rows-loop-statement : goal.invariant-block_rows-loop-statement
invariant-block_rows-loop-statement l = l.out ++ joined (map statement_rows (drop l.statement-index l.statement-items)) ≡ l.initial.out ++ joined (map statement_rows l.statement-items)
