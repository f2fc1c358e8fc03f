use Rattle.std.proofs.Common.{◌≡◌, ◌++◌, drop}
use Rattle.cw_make.proofs.Parts.{all_declared, all_in}
use Rattle.cw_make.proofs.procedures.+procedures.Given as goal

abbrev pub invariant-block_procs-loop-declaration : goal.invariant-block_procs-loop-declaration
invariant-block_procs-loop-declaration l =
    l.out ++ all_declared l.text.named.now l.text.numbers.now (drop l.declaration-index l.declaration-items)
    ≡ l.initial.out ++ all_declared l.text.named.now l.text.numbers.now l.declaration-items

abbrev pub invariant-block_procs-loop-statement : goal.invariant-block_procs-loop-statement
invariant-block_procs-loop-statement l =
    l.out ++ all_in l.text.named.now l.text.numbers.now (drop l.statement-index l.statement-items) ≡ l.initial.out ++ all_in l.text.named.now l.text.numbers.now l.statement-items
