use Rattle.cw_actions.proofs.go.laws.idle.Goals as goal

pub returns : goal.returns
returns c = c.promises.ensures.idle
