use Rattle.std.proofs.Common.{◌≡◌, ◌++◌, drop}
use Rattle.cw_make.specs.Definitions.{defs_from}
use Rattle.cw_make.proofs.definitions.defs.Given as goal

abbrev pub invariant-loop-row : goal.invariant-loop-row
invariant-loop-row l = l.all ++ defs_from l.named l.numbers l.own l.descriptor (drop l.row-index l.listed) ≡ defs_from l.named l.numbers l.own 0 l.listed
