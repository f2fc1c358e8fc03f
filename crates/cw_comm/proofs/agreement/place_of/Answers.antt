use Rattle.cw_comm.proofs.Keyed.{place_by}
use Rattle.cw_comm.proofs.agreement.place_of.Goals as goal

pub returns-in-Some : goal.returns-in-Some
returns-in-Some c = place_by c.args.names.now.keys c.args.name _ c.in-Some.ensures.index

pub returns-in-None : goal.returns-in-None
returns-in-None c = rw c.len.ensures.len (place_by c.args.names.now.keys c.args.name _ c.in-None.ensures.index)
