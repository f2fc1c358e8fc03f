use Rattle.std.proofs.Common.{◌≡◌, take}
use Rattle.std.specs.Prelude.{option_map}
use Rattle.cw_io.specs.Written.{written_file}
use Rattle.cw_io.proofs.mem_file.written.Given as goal

abbrev pub invariant-loop-place : goal.invariant-loop-place
invariant-loop-place l = option_map (λ bytes. bytes.now) l.found ≡ written_file (take l.place-index l.places) l.text l.name (option_map (λ bytes. bytes.now) l.given)
