use Rattle.std.proofs.Common.{◌≡◌, ◌++◌, map, drop}
use Rattle.cw_view.specs.ObjectFormat.{Relocation}
use Rattle.cw_obj.specs.ReferenceObject.{records_bytes}
use Rattle.cw_obj.proofs.object.put_relocations.Given as goal

abbrev pub invariant-loop-relocation : goal.invariant-loop-relocation
invariant-loop-relocation l = l.out.items ++ records_bytes (map Relocation (drop l.relocation-index l.relocations)) ≡ l.fn.out.items ++ records_bytes (map Relocation l.relocations)
