use Rattle.cw_show.specs.Canonical.{string}
use Rattle.cw_show.proofs.Adding.{bytes_in_order, token_added}
use Rattle.cw_show.proofs.leaf.put_string.Goals as goal

pub returns : goal.returns
returns c = token_added (string c.args.characters.now) (bytes_in_order c.put.ensures (bytes_in_order c.put_doubled.ensures c.put-2.ensures)) c.end_token.ensures
