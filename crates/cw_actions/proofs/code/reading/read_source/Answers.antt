use Rattle.cw_files.specs.Reading.{counts_at}
use Rattle.cw_files.proofs.Next.{unit_unread}
use Rattle.cw_actions.proofs.Coding.{refused}
use Rattle.cw_actions.proofs.code.reading.read_source.Goals as goal

pub returns-in-Ok-clause-stops : goal.returns-in-Ok-clause-stops
returns-in-Ok-clause-stops g c =
    λ told us takes count at. refused told us (g.F.Store.file c.args.files.now c.args.name.now) c.in-Ok.text.items c.args.number
    (counts_at (g.F.Store.faults c.args.files.now) (g.F.Store.absences c.args.files.now)) (counts_at (g.F.Store.faults c.read_bytes.new.files) (g.F.Store.absences c.read_bytes.new.files))
    c.source_of.result takes count at c.in-Ok.ensures.whole c.in-Ok.ensures.within c.source_of.ensures.stops

pub returns-in-Err-clause-stops : goal.returns-in-Err-clause-stops
returns-in-Err-clause-stops g c =
    λ told us takes count at. unit_unread told us c.args.number (counts_at (g.F.Store.faults c.args.files.now) (g.F.Store.absences c.args.files.now))
    (counts_at (g.F.Store.faults c.read_bytes.new.files) (g.F.Store.absences c.read_bytes.new.files)) c.in-Err.status takes count (c.in-Err.ensures.unread told at)
