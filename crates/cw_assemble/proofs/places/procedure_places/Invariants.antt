use Rattle.std.proofs.Common.{◌≡◌, ◌++◌, map, drop}
use Rattle.cw_tmpl.specs.Names.{mark_place}
use Rattle.cw_assemble.proofs.places.procedure_places.Given as goal

abbrev pub invariant-loop-mark : goal.invariant-loop-mark
invariant-loop-mark l = l.list ++ map (mark_place l.names) (drop l.mark-index l.procedures) ≡ map (mark_place l.names) l.procedures
