use Rattle.std.proofs.Common.{refl}
use Rattle.cw_correct.specs.Calls.{surroundings_of}
use Rattle.cw_top.proofs.Called.{performed, usage, no_memory}
use Rattle.cw_top.proofs.top.coral66.Goals as goal

pub returns-in-Ok : goal.returns-in-Ok
returns-in-Ok g c = performed _ _ _ _ _ c.in-Ok.ensures.ok c.perform.ensures

pub returns-in-Err-Usage : goal.returns-in-Err-Usage
returns-in-Err-Usage g c =
    usage (surroundings_of (g.F.Store.file c.args.files.now) (g.F.Store.faults c.args.files.now) (g.F.Store.absences c.args.files.now) (g.I.Source.left c.args.input.now) (g.I.Source.faults c.args.input.now) (g.O.Sink.held c.args.out.now) (g.O.Sink.faults c.args.out.now) (g.S.Sink.held c.args.say.now) (g.S.Sink.faults c.args.say.now)) _ _ _ ((rw c.in-Err-Usage.field-0-is at c.in-Err-Usage.ensures.usage) refl) c.quit.ensures.line c.quit.ensures.ended _ c.quit.ensures.same

pub returns-in-Err-NoMemory : goal.returns-in-Err-NoMemory
returns-in-Err-NoMemory g c = no_memory (surroundings_of (g.F.Store.file c.args.files.now) (g.F.Store.faults c.args.files.now) (g.F.Store.absences c.args.files.now) (g.I.Source.left c.args.input.now) (g.I.Source.faults c.args.input.now) (g.O.Sink.held c.args.out.now) (g.O.Sink.faults c.args.out.now) (g.S.Sink.held c.args.say.now) (g.S.Sink.faults c.args.say.now)) _ _ c.quits.ensures _ c.quit-in-Err-NoMemory.ensures.line c.quit-in-Err-NoMemory.ensures.ended _ c.quit-in-Err-NoMemory.ensures.same
