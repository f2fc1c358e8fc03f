use Rattle.cw_tmpl.proofs.Reaching.{close, as_far}
use Rattle.cw_tmpl.proofs.Backward.{goes_back}
use Rattle.cw_tmpl.proofs.laws.reaching.Goals as goal

pub returns-clause-close : goal.returns-clause-close
returns-clause-close c = close

pub returns-clause-back : goal.returns-clause-back
returns-clause-back c = goes_back

pub returns-clause-as_far : goal.returns-clause-as_far
returns-clause-as_far c = as_far
