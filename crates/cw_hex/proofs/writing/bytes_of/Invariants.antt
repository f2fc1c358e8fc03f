use Rattle.std.proofs.Common.{◌≡◌, ◌++◌, drop}
use Rattle.cw_hex.specs.HexText.{word_bytes}
use Rattle.cw_hex.proofs.writing.bytes_of.Given as goal

abbrev pub invariant-loop-w : goal.invariant-loop-w
invariant-loop-w l = l.bytes.items ++ word_bytes (drop l.w-index l.words) ≡ word_bytes l.words
