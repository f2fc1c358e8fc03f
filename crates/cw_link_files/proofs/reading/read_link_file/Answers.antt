use Rattle.cw_files.specs.Reading.{counts_at}
use Rattle.cw_link_files.proofs.Takings.{file_taken, file_unread}
use Rattle.cw_link_files.proofs.reading.read_link_file.Goals as goal

pub returns-in-Ok-clause-taken : goal.returns-in-Ok-clause-taken
returns-in-Ok-clause-taken g c =
    λ told parts takes are count at. file_taken told parts (g.F.Store.file c.args.files.now c.args.name.now) c.in-Ok.bytes.items c.args.number (counts_at (g.F.Store.faults c.args.files.now) (g.F.Store.absences c.args.files.now))
    (counts_at (g.F.Store.faults c.read_bytes.new.files) (g.F.Store.absences c.read_bytes.new.files)) c.args.taken.now c.take_file.new.taken c.take_file.result takes are count at
    c.in-Ok.ensures.whole c.in-Ok.ensures.within c.in-Ok.ensures.same c.take_file.ensures.took c.take_file.ensures.stops

pub returns-in-Err-clause-taken : goal.returns-in-Err-clause-taken
returns-in-Err-clause-taken g c =
    λ told parts takes are count at. file_unread told parts c.args.number (counts_at (g.F.Store.faults c.args.files.now) (g.F.Store.absences c.args.files.now))
    (counts_at (g.F.Store.faults c.read_bytes.new.files) (g.F.Store.absences c.read_bytes.new.files)) c.args.taken.now c.in-Err.status takes count (c.in-Err.ensures.unread told at)
