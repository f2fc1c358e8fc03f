use Rattle.std.proofs.Common.{◌≡◌, ◌++◌, drop}
use Rattle.cw_tmpl.proofs.assembling.Assembly.put_bytes.Given as goal

abbrev pub invariant-loop-byte : goal.invariant-loop-byte
invariant-loop-byte l = record {
  bytes : l.self.bytes ++ drop l.byte-index l.bytes ≡ l.initial.self.bytes ++ l.bytes;
  relocs : l.self.relocs ≡ l.initial.self.relocs;
}
