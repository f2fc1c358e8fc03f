use Rattle.cw_ports.specs.Running.{outside}
use Rattle.cw_actions.proofs.Tracing.Called.{watched, not_loaded}
use Rattle.cw_actions.proofs.trace.running.load_and_watch.Goals as goal

pub returns-in-Ok : goal.returns-in-Ok
returns-in-Ok g c = λ said told.
    let before = outside (g.I.Source.left c.args.input.now) (g.I.Source.faults c.args.input.now) (g.O.Sink.held c.args.out.now) (g.O.Sink.faults c.args.out.now) in
    watched c.args.image.now said c.args.watch.now c.args.steps _ _ _ _ c.in-Ok.cpu c.run_watched_image-end.result (c.in-Ok.ensures said before told) c.watched_status.ensures c.run_watched_image-end.ensures

pub returns-in-Err : goal.returns-in-Err
returns-in-Err g c = λ said told.
    let before = outside (g.I.Source.left c.args.input.now) (g.I.Source.faults c.args.input.now) (g.O.Sink.held c.args.out.now) (g.O.Sink.faults c.args.out.now) in
    not_loaded c.args.image.now said c.args.watch.now c.args.steps _ _ c.in-Err.status (c.in-Err.ensures said before told)
