use Rattle.std.proofs.Common.{refl}
use Rattle.cw_ports.specs.Running.{outside}
use Rattle.cw_actions.proofs.Going.Loading.{ran, not_loaded}
use Rattle.cw_actions.proofs.go.running.load_and_run.Goals as goal

pub returns-in-Ok : goal.returns-in-Ok
returns-in-Ok g c = λ said told.
    let before = outside (g.I.Source.left c.args.input.now) (g.I.Source.faults c.args.input.now) (g.O.Sink.held c.args.out.now) (g.O.Sink.faults c.args.out.now) in
    ran c.args.image.now said c.args.steps _ _ _ _ c.in-Ok.cpu c.run_image.result (c.in-Ok.ensures said before told) refl refl c.status_of.ensures c.run_image.ensures

pub returns-in-Err : goal.returns-in-Err
returns-in-Err g c = λ said told.
    let before = outside (g.I.Source.left c.args.input.now) (g.I.Source.faults c.args.input.now) (g.O.Sink.held c.args.out.now) (g.O.Sink.faults c.args.out.now) in
    not_loaded c.args.image.now said c.args.steps _ _ c.in-Err.status (c.in-Err.ensures said before told)
