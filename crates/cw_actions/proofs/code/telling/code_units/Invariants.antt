use Rattle.cw_actions.proofs.code.telling.code_units.Given as goal

abbrev pub ghost-link_segments : goal.ghost-link_segments
ghost-link_segments g a = g.us
