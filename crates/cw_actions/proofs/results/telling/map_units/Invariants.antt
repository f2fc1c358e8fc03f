use Rattle.cw_actions.proofs.results.telling.map_units.Given as goal

abbrev pub ghost-link_segments : goal.ghost-link_segments
ghost-link_segments g a = g.us

abbrev pub ghost-storage_text : goal.ghost-storage_text
ghost-storage_text g a = g.us
