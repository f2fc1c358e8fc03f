use Rattle.std.proofs.Common.{◌≡◌, ◌++◌, drop}
use Rattle.cw_hex.specs.HexText.{digits_of}
use Rattle.cw_hex.proofs.writing.put_digits.Given as goal

abbrev pub invariant-loop-b : goal.invariant-loop-b
invariant-loop-b l = l.text.items ++ digits_of (drop l.b-index l.bytes) ≡ l.fn.text.items ++ digits_of l.bytes
