use Rattle.std.proofs.Common.{◌≡◌, ◌++◌, drop}
use Rattle.cw_link.specs.Definitions.{definitions_by}
use Rattle.cw_link.proofs.definitions.definitions_of.Given as goal

abbrev pub invariant-loop-number : goal.invariant-loop-number
invariant-loop-number l = l.definitions ++ definitions_by l.table (drop l.number-index l.numbers) ≡ definitions_by l.table l.numbers
