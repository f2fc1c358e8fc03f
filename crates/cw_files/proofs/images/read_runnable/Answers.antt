use Rattle.std.proofs.Common.{List, ℕ, ◌≤◌, [], ◌∷◌, length, refl, sym, subst}
use Rattle.cw_io.specs.File.{Is}
use Rattle.cw_files.specs.Reading.{counts_at}
use Rattle.cw_files.proofs.Runnables.{runnable_taken, runnable_unread}
use Rattle.cw_files.proofs.images.read_runnable.Goals as goal

pub returns-in-Ok-clause-taken : goal.returns-in-Ok-clause-taken
returns-in-Ok-clause-taken g c =
    let Q : List ℕ → Type 0 = λ text. Is (g.F.Store.file c.args.files.now c.args.name.now) text in
    runnable_taken (g.F.Store.file c.args.files.now c.args.name.now) c.as_slice.result.now (counts_at (g.F.Store.faults c.args.files.now) (g.F.Store.absences c.args.files.now))
    (counts_at (g.F.Store.faults c.read_bytes.new.files) (g.F.Store.absences c.read_bytes.new.files)) c.runnable_of.result (subst Q (sym c.as_slice.ensures.value) c.in-Ok.ensures.whole)
    (subst (λ t. length t ≤ 16777216) (sym c.as_slice.ensures.value) c.in-Ok.ensures.within) c.in-Ok.ensures.same c.runnable_of.ensures.runnable c.runnable_of.ensures.stops

pub returns-in-Err-clause-taken : goal.returns-in-Err-clause-taken
returns-in-Err-clause-taken g c =
    runnable_unread (g.F.Store.file c.args.files.now c.args.name.now) (counts_at (g.F.Store.faults c.args.files.now) (g.F.Store.absences c.args.files.now))
    (counts_at (g.F.Store.faults c.read_bytes.new.files) (g.F.Store.absences c.read_bytes.new.files)) c.in-Err.status (c.in-Err.ensures.unread (g.F.Store.file c.args.files.now c.args.name.now ∷ []) refl)
