use Rattle.cw_actions.proofs.results.telling.code_files.Given as goal

abbrev pub ghost-code_units : goal.ghost-code_units
ghost-code_units g a = a.sources.now.segments.units
