use Rattle.std.proofs.Common.{◌≡◌}
use Rattle.cw_trace.proofs.Told.{Going}
use Rattle.cw_trace.proofs.running.run_watched.Given as goal

abbrev pub invariant-loop-steps : goal.invariant-loop-steps
invariant-loop-steps g l = record {
  going : Going l.watch l.steps l.fn.cpu (g.P.Ports.device l.fn.ports) l.cpu (g.P.Ports.device l.ports) (g.S.Sink.held l.fn.say) (g.S.Sink.held l.say);
  becomes : g.P.Ports.becomes l.fn.ports l.ports;
  counts : g.P.Ports.faults l.ports ≡ g.P.Ports.faults l.fn.ports;
  says : g.S.Sink.faults l.say ≡ g.S.Sink.faults l.fn.say;
}
