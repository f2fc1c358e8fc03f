use Rattle.cw_actions.proofs.go.going.go.Given as goal

abbrev pub ghost-link_segments : goal.ghost-link_segments
ghost-link_segments g a = a.segments.now.units

abbrev pub ghost-storage_text : goal.ghost-storage_text
ghost-storage_text g a = a.segments.now.units
