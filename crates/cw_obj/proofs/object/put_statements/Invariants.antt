use Rattle.std.proofs.Common.{◌≡◌, ◌++◌, map, drop}
use Rattle.cw_view.specs.ObjectFormat.{Statement}
use Rattle.cw_obj.specs.ReferenceObject.{records_bytes}
use Rattle.cw_obj.proofs.object.put_statements.Given as goal

abbrev pub invariant-loop-place : goal.invariant-loop-place
invariant-loop-place l = l.out.items ++ records_bytes (map Statement (drop l.place-index l.places)) ≡ l.fn.out.items ++ records_bytes (map Statement l.places)
