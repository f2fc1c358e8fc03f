use Rattle.std.proofs.Common.{map, drop}
use Rattle.cw_show.specs.Spelling.{symbol}
use Rattle.cw_show.specs.Canonical.{behind_each}
use Rattle.cw_show.proofs.Adding.{Keeps}
use Rattle.cw_show.proofs.lists.put_between.Given as goal

abbrev pub invariant-loop-part : goal.invariant-loop-part
invariant-loop-part g l = Keeps l.initial.out l.out (behind_each (symbol l.symbol) (map g.T.Part.tokens l.rest))
    (behind_each (symbol l.symbol) (map g.T.Part.tokens (drop l.part-index l.rest)))
