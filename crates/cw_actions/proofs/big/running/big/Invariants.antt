use Rattle.cw_actions.proofs.big.running.big.Given as goal

abbrev pub ghost-link_segments : goal.ghost-link_segments
ghost-link_segments g a = a.segments.now.units
