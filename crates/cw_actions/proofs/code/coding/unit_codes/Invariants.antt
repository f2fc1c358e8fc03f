use Rattle.std.proofs.Common.{◌≡◌, map, take}
use Rattle.cw_build.specs.Compiled.{code_of}
use Rattle.cw_actions.proofs.code.coding.unit_codes.Given as goal

abbrev pub invariant-loop-k : goal.invariant-loop-k
invariant-loop-k l = l.codes ≡ map code_of (take l.k l.units)
