use Rattle.cw_show.proofs.Adding.{begun, one_more_ended, none_more_ended}
use Rattle.cw_show.proofs.lists.put_ended.Goals as goal

pub loop-part-init : goal.loop-part-init
loop-part-init g c = begun _ _

pub loop-part-preserved : goal.loop-part-preserved
loop-part-preserved g c =
    one_more_ended g.T.Part.tokens c.args.parts.now c.loop-part.part-index c.part-item.result
    c.loop-part-test.true c.part-item.is c.loop-part.invariant c.put.ensures c.put_symbol.ensures

pub returns : goal.returns
returns g c = none_more_ended g.T.Part.tokens c.args.parts.now c.loop-part.part-index c.loop-part-test.false c.loop-part.invariant
