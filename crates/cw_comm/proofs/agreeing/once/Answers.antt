use Rattle.std.proofs.Common.{sym}
use Rattle.cw_comm.specs.Clashes.{twice}
use Rattle.cw_comm.proofs.agreeing.once.Goals as goal

pub returns-in-Some-clause-clash : goal.returns-in-Some-clause-clash
returns-in-Some-clause-clash c = twice (sym (rw c.in-Some.is at c.in_ok-name.ensures))
