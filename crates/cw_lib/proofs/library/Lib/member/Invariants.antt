use Rattle.std.proofs.Common.{◌≡◌, ◌-◌}
use Rattle.std.specs.Prelude.{slice_get}
use Rattle.cw_lib.specs.Reading.{members_in, members_of}
use Rattle.cw_lib.proofs.library.Lib.member.Given as goal

abbrev pub invariant-loop : goal.invariant-loop
invariant-loop l = slice_get (members_in (l.self.count - l.counter) l.rest) (l.k - l.counter) ≡ slice_get (members_of l.self) l.k
