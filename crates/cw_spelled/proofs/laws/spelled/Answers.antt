-- The tokens of an expansion.
use Rattle.cw_spelled.proofs.Expanded.{expanded_proper}
use Rattle.cw_spelled.proofs.laws.spelled.Goals as goal

pub returns : goal.returns
returns c text tokens expanded d l = expanded_proper text tokens expanded d l
