use Rattle.cw_top.proofs.Quits.{may_quit}
use Rattle.cw_top.proofs.laws.quits.Goals as goal

pub returns : goal.returns
returns c =
    may_quit
    (record { texts = c.idle.ensures; exec = c.idle-2.ensures; results = c.idle-3.ensures; libraries = c.idle_of_libraries.ensures; trace = c.idle-4.ensures })
    c.copies_told.ensures.copies c.copies_told.ensures.stop
