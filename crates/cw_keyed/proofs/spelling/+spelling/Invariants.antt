use Rattle.std.proofs.Common.{◌≡◌, ◌++◌, map, drop}
use Rattle.cw_keyed.specs.Spelling.{ended, spelled_taken}
use Rattle.cw_keyed.proofs.spelling.+spelling.Given as goal

abbrev pub invariant-add_all_taken-loop-taken : goal.invariant-add_all_taken-loop-taken
invariant-add_all_taken-loop-taken l = l.out ++ ended (map spelled_taken (drop l.taken-index l.all)) ≡ l.initial.out ++ ended (map spelled_taken l.all)
