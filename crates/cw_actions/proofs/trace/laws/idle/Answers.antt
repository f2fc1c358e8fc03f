use Rattle.cw_actions.proofs.trace.laws.idle.Goals as goal

pub returns : goal.returns
returns c = c.traces.ensures.idle
