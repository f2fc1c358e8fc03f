use Rattle.std.proofs.Common.{◌≡◌, ◌++◌, map, drop}
use Rattle.cw_view.specs.ObjectFormat.{Descriptor}
use Rattle.cw_obj.specs.ReferenceObject.{records_bytes}
use Rattle.cw_obj.proofs.descriptor.put_descriptors.Given as goal

abbrev pub invariant-loop-descriptor : goal.invariant-loop-descriptor
invariant-loop-descriptor l = l.out.items ++ records_bytes (map Descriptor (drop l.descriptor-index l.descriptors)) ≡ l.fn.out.items ++ records_bytes (map Descriptor l.descriptors)
