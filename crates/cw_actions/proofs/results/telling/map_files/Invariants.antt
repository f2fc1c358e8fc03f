use Rattle.cw_actions.proofs.results.telling.map_files.Given as goal

abbrev pub ghost-map_units : goal.ghost-map_units
ghost-map_units g a = a.segments.now.units
