use Rattle.cw_show.proofs.Adding.{token_added}
use Rattle.cw_show.proofs.token.put_token.Goals as goal

pub returns : goal.returns
returns c = token_added (record { kind = c.args.kind; text = c.args.text.now }) c.put.ensures c.end_token.ensures
