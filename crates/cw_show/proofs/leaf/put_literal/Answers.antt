use Rattle.cw_show.specs.Canonical.{literal}
use Rattle.cw_show.proofs.Adding.{bytes_in_order, token_added}
use Rattle.cw_show.proofs.leaf.put_literal.Goals as goal

pub returns : goal.returns
returns c = token_added (literal c.args.byte) (bytes_in_order c.put.ensures c.put-2.ensures) c.end_token.ensures
