use Rattle.std.proofs.Common.{◌≡◌, length, map}
use Rattle.cw_lex.specs.Items.{look_up}
use Rattle.cw_lex.proofs.item.look_up.Given as goal

abbrev pub invariant-loop-table : goal.invariant-loop-table
invariant-loop-table l = look_up (map (λ k. (k.0.now, k.1)) l.table) l.text ≡ look_up (map (λ k. (k.0.now, k.1)) l.initial.table) l.text

abbrev pub decreases-loop-table : goal.decreases-loop-table
decreases-loop-table l = length l.table
