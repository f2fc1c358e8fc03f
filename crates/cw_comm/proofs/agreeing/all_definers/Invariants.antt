use Rattle.std.proofs.Common.{◌≡◌, ◌++◌, map, drop}
use Rattle.cw_comm.specs.Agreement.{definer_from}
use Rattle.cw_comm.proofs.agreeing.all_definers.Given as goal

abbrev pub invariant-loop-name : goal.invariant-loop-name
invariant-loop-name l = l.list ++ map (λ name. definer_from 1 name l.listed.segments.now) (drop l.name l.listed.names.now) ≡ map (λ name. definer_from 1 name l.listed.segments.now) l.listed.names.now
