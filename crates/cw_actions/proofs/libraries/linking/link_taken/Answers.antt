use Rattle.std.proofs.Common.{refl}
use Rattle.cw_actions.specs.Resulting.Outside.{files_at}
use Rattle.cw_actions.proofs.Archiving.Steps.{taken_listed}
use Rattle.cw_actions.proofs.libraries.linking.link_taken.Goals as goal

pub returns-in-Ok : goal.returns-in-Ok
returns-in-Ok g c =
    taken_listed c.args.taken.objects c.args.taken.members c.in-Ok.list c.args.limits.now (files_at (g.F.Store.file c.args.files.now) (g.F.Store.faults c.args.files.now) (g.F.Store.absences c.args.files.now))
    (files_at (g.F.Store.file c.link_listed.new.files) (g.F.Store.faults c.link_listed.new.files) (g.F.Store.absences c.link_listed.new.files)) c.link_listed.result c.in-Ok.ensures.list (rw c.as_slice.ensures at c.link_listed.ensures)

pub returns-in-Err : goal.returns-in-Err
returns-in-Err g c = λ name. refl
