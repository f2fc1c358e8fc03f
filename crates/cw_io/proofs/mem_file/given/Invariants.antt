use Rattle.std.proofs.Common.{◌≡◌, drop}
use Rattle.cw_io.specs.Written.{given_file}
use Rattle.cw_io.proofs.mem_file.given.Given as goal

abbrev pub invariant-loop-file : goal.invariant-loop-file
invariant-loop-file l = given_file (drop l.file-index l.files) l.name ≡ given_file l.files l.name
