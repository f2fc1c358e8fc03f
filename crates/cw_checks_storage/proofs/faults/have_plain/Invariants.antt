use Rattle.std.proofs.Common.{◌≡◌, take, true}
use Rattle.std.specs.List.{list_all}
use Rattle.cw_checks_storage.specs.Plain.{has_plain}
use Rattle.cw_checks_storage.proofs.faults.have_plain.Given as goal

abbrev pub invariant-loop-space : goal.invariant-loop-space
invariant-loop-space l = list_all has_plain (take l.space-index l.spaces) ≡ true
