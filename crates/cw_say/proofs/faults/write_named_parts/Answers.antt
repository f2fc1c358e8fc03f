use Rattle.cw_say.proofs.faults.write_named_parts.Goals as goal

pub returns : goal.returns
returns g c = c.write_line.ensures
