use Rattle.cw_actions.proofs.trace.tracing.trace.Given as goal

abbrev pub ghost-link_segments : goal.ghost-link_segments
ghost-link_segments g a = a.segments.now.units
