use Rattle.std.proofs.Common.{take}
use Rattle.cw_trace.specs.Marks.{Marks}
use Rattle.cw_trace.proofs.marks.mark_places.Given as goal

abbrev pub invariant-loop-place : goal.invariant-loop-place
invariant-loop-place l = Marks (take l.place-index l.places) l.table
