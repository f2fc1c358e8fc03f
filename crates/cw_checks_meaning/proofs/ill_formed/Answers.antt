use Rattle.cw_checks_meaning.proofs.WellFormed.{refused-formed, stuck-run}
use Rattle.cw_checks_meaning.proofs.ill_formed.Goals as goal

pub returns : goal.returns
returns c = record { refused = refused-formed; stuck = stuck-run }
