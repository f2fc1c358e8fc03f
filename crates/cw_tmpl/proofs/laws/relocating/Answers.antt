use Rattle.std.proofs.Common.{[], arith}
use Rattle.cw_tmpl.proofs.Blank.{all_blank, all_rise}
use Rattle.cw_tmpl.proofs.laws.relocating.Goals as goal

pub returns-clause-blank : goal.returns-clause-blank
returns-clause-blank c pieces = all_blank [] pieces

pub returns-clause-rise : goal.returns-clause-rise
returns-clause-rise c pieces = all_rise 0 0 pieces (omega arith)
