use Rattle.cw_show.specs.Spelling.{symbol}
use Rattle.cw_show.proofs.Adding.{none_listed, some_listed}
use Rattle.cw_show.proofs.lists.put_listed.Goals as goal

pub returns-in-empty : goal.returns-in-empty
returns-in-empty g c = none_listed (symbol c.args.symbol) g.T.Part.tokens c.args.parts.now c.args.out.now c.in-empty.len_below

pub returns-in-len1-up : goal.returns-in-len1-up
returns-in-len1-up g c = some_listed (symbol c.args.symbol) g.T.Part.tokens c.args.parts.now c.in-len1-up.len_at_least c.put_bracketed.ensures
