use Rattle.std.proofs.Common.{◌≡◌, ◌++◌, map, drop}
use Rattle.cw_make.specs.Switches.{joined, declaration_switches, statement_switches}
use Rattle.cw_make.proofs.switches.+switches.Given as goal

abbrev pub invariant-block_switches-loop-declaration : goal.invariant-block_switches-loop-declaration
invariant-block_switches-loop-declaration l =
    l.out ++ joined (map (declaration_switches l.text.named.now l.text.numbers.now) (drop l.declaration-index l.declaration-items)) l.proc
    ≡ l.initial.out ++ joined (map (declaration_switches l.text.named.now l.text.numbers.now) l.declaration-items) l.proc

abbrev pub invariant-block_switches-loop-statement : goal.invariant-block_switches-loop-statement
invariant-block_switches-loop-statement l =
    l.out ++ joined (map (statement_switches l.text.named.now l.text.numbers.now) (drop l.statement-index l.statement-items)) l.proc
    ≡ l.initial.out ++ joined (map (statement_switches l.text.named.now l.text.numbers.now) l.statement-items) l.proc
