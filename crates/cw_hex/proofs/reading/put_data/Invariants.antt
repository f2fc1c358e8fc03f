use Rattle.std.proofs.Common.{◌≡◌, ◌+◌, drop}
use Rattle.cw_hex.specs.HexFormat.{bytes_of, put_bytes, word_of, data_of}
use Rattle.cw_hex.proofs.reading.put_data.Given as goal

abbrev pub invariant-loop-i : goal.invariant-loop-i
invariant-loop-i l = record l.cpu { memory = put_bytes l.base (word_of (bytes_of l.digits) 1 + l.i) (drop l.i (data_of (bytes_of l.digits))) l.cpu.memory } ≡ record l.fn.cpu { memory = put_bytes l.base (word_of (bytes_of l.digits) 1) (data_of (bytes_of l.digits)) l.fn.cpu.memory }
