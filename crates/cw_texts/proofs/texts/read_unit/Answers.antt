use Rattle.std.proofs.Common.{List, ℕ, ◌≤◌, length, sym, subst}
use Rattle.cw_io.specs.File.{Is}
use Rattle.cw_files.specs.Reading.{counts_at}
use Rattle.cw_files.proofs.Next.{unit_taken, unit_unread}
use Rattle.cw_texts.proofs.texts.read_unit.Goals as goal

pub returns-in-Ok-clause-taken : goal.returns-in-Ok-clause-taken
returns-in-Ok-clause-taken g c =
    let Q : List ℕ → Type 0 = λ text. Is (g.F.Store.file c.args.files.now c.args.name.now) text in
    λ told us takes count at. unit_taken told us (g.F.Store.file c.args.files.now c.args.name.now) c.as_slice.result.now c.args.number (counts_at (g.F.Store.faults c.args.files.now) (g.F.Store.absences c.args.files.now))
    (counts_at (g.F.Store.faults c.read_bytes.new.files) (g.F.Store.absences c.read_bytes.new.files)) c.compile_text.result takes count at
    (subst Q (sym c.as_slice.ensures.value) c.in-Ok.ensures.whole) (subst (λ t. length t ≤ 1048576) (sym c.as_slice.ensures.value) c.in-Ok.ensures.within)
    c.in-Ok.ensures.same c.compile_text.ensures.made c.compile_text.ensures.stops

pub returns-in-Err-clause-taken : goal.returns-in-Err-clause-taken
returns-in-Err-clause-taken g c =
    λ told us takes count at. unit_unread told us c.args.number (counts_at (g.F.Store.faults c.args.files.now) (g.F.Store.absences c.args.files.now))
    (counts_at (g.F.Store.faults c.read_bytes.new.files) (g.F.Store.absences c.read_bytes.new.files)) c.in-Err.status takes count (c.in-Err.ensures.unread told at)
