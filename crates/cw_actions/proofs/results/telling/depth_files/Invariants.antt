use Rattle.cw_actions.proofs.results.telling.depth_files.Given as goal

abbrev pub ghost-depth_units : goal.ghost-depth_units
ghost-depth_units g a = a.segments.now.units
