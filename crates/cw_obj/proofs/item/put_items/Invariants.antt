use Rattle.std.proofs.Common.{◌≡◌, ◌++◌, drop}
use Rattle.cw_obj.specs.ReferenceObject.{records_bytes, items_from}
use Rattle.cw_obj.proofs.item.put_items.Given as goal

abbrev pub invariant-loop-number : goal.invariant-loop-number
invariant-loop-number l = l.out.items ++ records_bytes (items_from l.number l.unit l.layout (drop l.number l.unit.items)) ≡ l.fn.out.items ++ records_bytes (items_from 0 l.unit l.layout l.unit.items)
