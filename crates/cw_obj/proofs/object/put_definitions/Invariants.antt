use Rattle.std.proofs.Common.{◌≡◌, ◌++◌, drop}
use Rattle.cw_obj.specs.ReferenceObject.{records_bytes, definition_records}
use Rattle.cw_obj.proofs.object.put_definitions.Given as goal

abbrev pub invariant-loop-definition : goal.invariant-loop-definition
invariant-loop-definition l = l.out.items ++ records_bytes (definition_records l.code (drop l.definition-index l.defined)) ≡ l.fn.out.items ++ records_bytes (definition_records l.code l.defined)
