use Rattle.std.proofs.Common.{◌≡◌}
use Rattle.cw_hex.specs.HexFormat.{lines_of}
use Rattle.cw_hex.proofs.Lines.{seen}
use Rattle.cw_hex.proofs.line.first_line.Given as goal

abbrev pub invariant-loop-i : goal.invariant-loop-i
invariant-loop-i l = seen l.i l.text ≡ lines_of l.text
