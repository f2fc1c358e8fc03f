use Rattle.std.proofs.Common.{◌≡◌, ◌++◌, map, drop}
use Rattle.cw_keyed.specs.Spelling.{ended, spelled_taken, taken_by}
use Rattle.cw_keyed.proofs.spelling.add_parameters.Given as goal

abbrev pub invariant-loop-parameter : goal.invariant-loop-parameter
invariant-loop-parameter l = l.out ++ ended (map spelled_taken (map taken_by (drop l.parameter-index l.parameters))) ≡ l.initial.out ++ ended (map spelled_taken (map taken_by l.parameters))
