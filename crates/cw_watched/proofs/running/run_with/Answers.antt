-- What a watched run of an image tells follows from what its ports conclude and from what was told of the run of the processor.
use Rattle.cw_ports.specs.Sides.{device_of, input_of, output_of, gathered_in}
use Rattle.cw_watched.proofs.Told.{told_run, cut_short}
use Rattle.cw_watched.proofs.running.run_with.Goals as goal

pub returns-in-Run-clause-tells : goal.returns-in-Run-clause-tells
returns-in-Run-clause-tells g c =
    let p = c.args.ports.now in
    let q = c.run_watched.new.ports in
    let run = c.in-Run.ensures in
    told_run _ c.in-Run.end _ _ _ _ (device_of g.O.Sink p) c.run_watched.new.cpu (device_of g.O.Sink q) _ _ _ _ run.answers.0
    (c.conclude.ensures.runs c.args.cpu.now c.run_watched.new.cpu c.args.steps (device_of g.O.Sink p) (input_of p) (output_of g.O.Sink p) (gathered_in p) c.requires.fresh run.answers.0 run.counts.0 run.becomes)
    run.answers.1 run.counts.1

pub returns-in-SayFault-clause-tells : goal.returns-in-SayFault-clause-tells
returns-in-SayFault-clause-tells g c =
    let p = c.args.ports.now in
    let q = c.run_watched.new.ports in
    let run = c.in-SayFault.ensures in
    let n = run.answers.0 in
    let went = run.answers.2.0 in
    cut_short _ _ n _ _ (device_of g.O.Sink p) c.run_watched.new.cpu (device_of g.O.Sink q) _ _ _ _ run.answers.1 went
    (c.conclude-in-SayFault.ensures.runs c.args.cpu.now c.run_watched.new.cpu n (device_of g.O.Sink p) (input_of p) (output_of g.O.Sink p) (gathered_in p) c.requires.fresh went run.counts.0 run.becomes)
    run.answers.2.1 run.counts.1 run.counts.2
