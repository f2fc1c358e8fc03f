use Rattle.cw_show.specs.Canonical.{number}
use Rattle.cw_show.proofs.Adding.{token_added}
use Rattle.cw_show.proofs.leaf.put_number.Goals as goal

pub returns : goal.returns
returns c = token_added (number c.args.number.now) c.put_digits.ensures c.end_token.ensures
