use Rattle.std.proofs.Common.{◌≡◌, ◌++◌, drop}
use Rattle.cw_number.specs.Listed.{specs_listed}
use Rattle.cw_number.proofs.listed.specs.Given as goal

abbrev pub invariant-loop-one : goal.invariant-loop-one
invariant-loop-one l = l.all ++ specs_listed (drop l.one-index l.list) ≡ l.fn.before ++ specs_listed l.list
