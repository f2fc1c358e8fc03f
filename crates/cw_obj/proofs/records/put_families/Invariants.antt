use Rattle.std.proofs.Common.{◌≡◌, ◌++◌, map, drop}
use Rattle.cw_view.specs.ObjectFormat.{StorageFamily}
use Rattle.cw_obj.specs.ReferenceObject.{records_bytes}
use Rattle.cw_obj.proofs.records.put_families.Given as goal

abbrev pub invariant-loop-family : goal.invariant-loop-family
invariant-loop-family l = l.out.items ++ records_bytes (map StorageFamily (drop l.family-index l.families)) ≡ l.fn.out.items ++ records_bytes (map StorageFamily l.families)
