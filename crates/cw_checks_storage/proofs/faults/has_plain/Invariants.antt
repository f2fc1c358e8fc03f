use Rattle.std.proofs.Common.{◌≡◌, take, true}
use Rattle.std.specs.List.{list_all}
use Rattle.cw_checks_storage.specs.Plain.{is_plain}
use Rattle.cw_checks_storage.proofs.faults.has_plain.Given as goal

abbrev pub invariant-loop-family : goal.invariant-loop-family
invariant-loop-family l = list_all (λ family. is_plain family.sort) (take l.family-index l.families) ≡ true
