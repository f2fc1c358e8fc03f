use Rattle.std.proofs.Common.{◌≡◌, ◌++◌, drop}
use Rattle.cw_lib.specs.Reading.{members_of}
use Rattle.cw_link_files.proofs.reading.add_members.Given as goal

abbrev pub invariant-loop-k : goal.invariant-loop-k
invariant-loop-k l = l.members ++ drop l.k (members_of l.lib) ≡ l.fn.members ++ members_of l.lib
