use Rattle.cw_files.specs.Reading.{counts_at}
use Rattle.cw_files.proofs.Next.{object_taken, object_unread}
use Rattle.cw_files.proofs.objects.read_object.Goals as goal

pub returns-in-Ok-clause-taken : goal.returns-in-Ok-clause-taken
returns-in-Ok-clause-taken g c =
    λ told objects takes count at. object_taken told objects (g.F.Store.file c.args.files.now c.args.name.now) c.in-Ok.bytes.items c.args.number (counts_at (g.F.Store.faults c.args.files.now) (g.F.Store.absences c.args.files.now))
    (counts_at (g.F.Store.faults c.read_bytes.new.files) (g.F.Store.absences c.read_bytes.new.files)) c.object_of.result takes count at
    c.in-Ok.ensures.whole c.in-Ok.ensures.within c.in-Ok.ensures.same c.object_of.ensures.object c.object_of.ensures.stops

pub returns-in-Err-clause-taken : goal.returns-in-Err-clause-taken
returns-in-Err-clause-taken g c =
    λ told objects takes count at. object_unread told objects c.args.number (counts_at (g.F.Store.faults c.args.files.now) (g.F.Store.absences c.args.files.now))
    (counts_at (g.F.Store.faults c.read_bytes.new.files) (g.F.Store.absences c.read_bytes.new.files)) c.in-Err.status takes count (c.in-Err.ensures.unread told at)
