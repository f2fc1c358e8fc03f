use Rattle.cw_actions.proofs.depth.telling.linking.Given as goal

abbrev pub ghost-link_segments : goal.ghost-link_segments
ghost-link_segments g a = g.us
