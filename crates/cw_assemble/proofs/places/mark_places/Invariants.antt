use Rattle.std.proofs.Common.{◌≡◌, ◌++◌, map, drop}
use Rattle.std.specs.Prelude.{slice_index}
use Rattle.cw_assemble.proofs.places.mark_places.Given as goal

abbrev pub invariant-loop-mark : goal.invariant-loop-mark
invariant-loop-mark l = l.list ++ map (slice_index l.places) (drop l.mark-index l.marks) ≡ map (slice_index l.places) l.marks
