use Rattle.cw_actions.specs.Resulting.Outside.{files_at}
use Rattle.cw_actions.proofs.Archiving.Steps.{links_of, unlinked_links}
use Rattle.cw_actions.proofs.libraries.linking.link_all.Goals as goal

pub returns-in-Ok : goal.returns-in-Ok
returns-in-Ok g c =
    links_of c.args.objects.now c.args.limits.now (files_at (g.F.Store.file c.args.files.now) (g.F.Store.faults c.args.files.now) (g.F.Store.absences c.args.files.now)) (files_at (g.F.Store.file c.save_image.new.files) (g.F.Store.faults c.save_image.new.files) (g.F.Store.absences c.save_image.new.files)) c.save_image.result
    (record { words = c.in-Ok.ensures.0; code = c.in-Ok.ensures.1 }) (rw c.in-Ok.ensures.2 at c.save_image.ensures)

pub returns-in-Err : goal.returns-in-Err
returns-in-Err g c = unlinked_links c.args.objects.now c.args.limits.now (files_at (g.F.Store.file c.args.files.now) (g.F.Store.faults c.args.files.now) (g.F.Store.absences c.args.files.now)) c.in-Err.fault c.unlinked.result c.unlinked.ensures c.in-Err.ensures
