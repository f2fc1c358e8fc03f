use Rattle.std.proofs.Common.{◌≡◌, ◌++◌}
use Rattle.std.specs.List.{flat_map}
use Rattle.cw_hex.specs.HexText.{record_text, pieces}
use Rattle.cw_hex.proofs.writing.put_pieces.Given as goal

abbrev pub invariant-loop-k : goal.invariant-loop-k
invariant-loop-k l = l.text.items ≡ l.fn.text.items ++ flat_map record_text (pieces l.k l.bytes)
