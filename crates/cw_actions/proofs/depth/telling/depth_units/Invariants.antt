use Rattle.cw_actions.proofs.depth.telling.depth_units.Given as goal

abbrev pub ghost-linking : goal.ghost-linking
ghost-linking g a = g.us
