use Rattle.std.proofs.Common.{map, drop}
use Rattle.cw_show.specs.Canonical.{ended}
use Rattle.cw_show.proofs.Adding.{Keeps}
use Rattle.cw_show.proofs.lists.put_ended.Given as goal

abbrev pub invariant-loop-part : goal.invariant-loop-part
invariant-loop-part g l = Keeps l.initial.out l.out (ended (map g.T.Part.tokens l.parts)) (ended (map g.T.Part.tokens (drop l.part-index l.parts)))
