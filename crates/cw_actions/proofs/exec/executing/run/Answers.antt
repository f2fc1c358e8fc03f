use Rattle.cw_actions.proofs.exec.executing.run.Goals as goal

pub returns : goal.returns
returns g c = record { end = c.run_image.result; is = c.status_of.ensures; tells = c.run_image.ensures }
