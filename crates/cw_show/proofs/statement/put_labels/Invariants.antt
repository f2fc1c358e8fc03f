use Rattle.std.proofs.Common.{map, drop}
use Rattle.cw_show.specs.Canonical.{joined}
use Rattle.cw_show.specs.StatementTokens.{label_tokens}
use Rattle.cw_show.proofs.Adding.{Keeps}
use Rattle.cw_show.proofs.statement.put_labels.Given as goal

abbrev pub invariant-loop-label : goal.invariant-loop-label
invariant-loop-label l = Keeps l.initial.out l.out (joined (map label_tokens l.labels)) (joined (map label_tokens (drop l.label-index l.labels)))
