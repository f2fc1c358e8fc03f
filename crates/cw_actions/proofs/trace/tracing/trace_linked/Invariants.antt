use Rattle.cw_actions.proofs.trace.tracing.trace_linked.Given as goal

abbrev pub ghost-storage_text : goal.ghost-storage_text
ghost-storage_text g a = a.segments.now.units
