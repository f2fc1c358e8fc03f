use Rattle.std.proofs.Common.{refl}
use Rattle.cw_actions.specs.Resulting.Outside.{files_at}
use Rattle.cw_actions.proofs.Resulting.Steps.{migrates_of}
use Rattle.cw_actions.proofs.results.filing.migrate_object.Goals as goal

pub returns-in-Ok : goal.returns-in-Ok
returns-in-Ok g c =
    migrates_of c.args.name.now c.args.object.now _ (files_at (g.F.Store.file c.args.files.now) (g.F.Store.faults c.args.files.now) (g.F.Store.absences c.args.files.now)) (files_at (g.F.Store.file c.save_beside.new.files) (g.F.Store.faults c.save_beside.new.files) (g.F.Store.absences c.save_beside.new.files)) c.save_beside.result c.in-Ok.ensures.object (rw c.as_slice.ensures.value at c.save_beside.ensures)

pub returns-in-Err-NoMemory : goal.returns-in-Err-NoMemory
returns-in-Err-NoMemory g c = λ name. refl
