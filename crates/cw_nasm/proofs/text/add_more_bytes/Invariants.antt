use Rattle.std.proofs.Common.{◌≡◌, ◌++◌, flat_map, take}
use Rattle.cw_nasm.specs.Assembly.{next_byte}
use Rattle.cw_nasm.proofs.text.add_more_bytes.Given as goal

abbrev pub invariant-loop-k : goal.invariant-loop-k
invariant-loop-k l = l.text.items ≡ l.fn.text.items ++ flat_map next_byte (take l.k l.bytes)
