use Rattle.std.proofs.Common.{◌≡◌, ◌++◌, drop}
use Rattle.cw_make.specs.Switches.{goals_of}
use Rattle.cw_make.proofs.switches.goals.Given as goal

abbrev pub invariant-loop-label : goal.invariant-loop-label
invariant-loop-label l = l.all ++ goals_of l.text.named.now l.text.numbers.now (drop l.label-index l.labels) ≡ goals_of l.text.named.now l.text.numbers.now l.labels
