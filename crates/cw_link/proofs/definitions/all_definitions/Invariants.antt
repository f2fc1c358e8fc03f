use Rattle.std.proofs.Common.{◌≡◌, ◌++◌, map, drop}
use Rattle.cw_link.specs.Definitions.{definitions_by}
use Rattle.cw_link.proofs.definitions.all_definitions.Given as goal

abbrev pub invariant-loop-segment : goal.invariant-loop-segment
invariant-loop-segment l = l.definitions ++ map (definitions_by l.table) (drop l.segment-index l.numbers) ≡ map (definitions_by l.table) l.numbers
