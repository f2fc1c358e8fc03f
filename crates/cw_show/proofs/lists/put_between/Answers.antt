use Rattle.std.proofs.Common.{refl}
use Rattle.cw_show.specs.Spelling.{symbol}
use Rattle.cw_show.proofs.Adding.{begun, one_more_behind, none_between, all_between, behind_first}
use Rattle.cw_show.proofs.lists.put_between.Goals as goal

pub returns-in-empty : goal.returns-in-empty
returns-in-empty g c = none_between (symbol c.args.symbol) g.T.Part.tokens c.args.parts.now c.args.parts.now c.args.out.now refl refl c.in-empty.len_below

pub loop-part-init : goal.loop-part-init
loop-part-init g c = begun _ _

pub loop-part-preserved : goal.loop-part-preserved
loop-part-preserved g c =
    one_more_behind (symbol c.args.symbol) g.T.Part.tokens (behind_first c.args.parts.now) c.loop-part.part-index c.part-item.result
    c.loop-part-test.true c.part-item.is c.loop-part.invariant c.put_symbol.ensures c.put-in-loop-part.ensures

pub returns-after-loop-part : goal.returns-after-loop-part
returns-after-loop-part g c =
    all_between (symbol c.args.symbol) g.T.Part.tokens c.args.parts.now c.args.parts.now c.first-item.result c.loop-part.part-index
    refl refl c.in-len1-up.len_at_least c.first-item.is c.loop-part-test.false c.put.ensures c.loop-part.invariant
