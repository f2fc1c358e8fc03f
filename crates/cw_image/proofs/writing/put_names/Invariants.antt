use Rattle.std.proofs.Common.{◌≡◌, ◌++◌, drop}
use Rattle.cw_fields.specs.Fields.{each, text_bytes}
use Rattle.cw_image.proofs.writing.put_names.Given as goal

abbrev pub invariant-loop-name : goal.invariant-loop-name
invariant-loop-name l = l.out.items ++ each text_bytes (drop l.name-index l.names) ≡ l.fn.out.items ++ each text_bytes l.names
