use Rattle.std.proofs.Common.{refl}
use Rattle.cw_assemble.proofs.NotedBlocks.{note_more}
use Rattle.cw_assemble.proofs.Placing.{all_there}
use Rattle.cw_assemble.specs.Noted.{blocks_from}
use Rattle.cw_assemble.proofs.noted.blocks_of.Goals as goal

pub loop-k-preserved : goal.loop-k-preserved
loop-k-preserved c =
    let list = c.args.orders.now in
    note_more c.loop-k.blocks c.push.new.self c.loop-k.left c.orders_left-left.result list c.loop-k.k c.block_in-block.result c.index-orders-k.result (blocks_from 0 list)
    c.loop-k-test.true c.index-orders-k.is c.block_in-block.ensures.value c.orders_left-left.ensures c.in_ok-push.ensures.ok c.loop-k.invariant

pub returns : goal.returns
returns c = all_there (blocks_from c.loop-k.left) c.args.orders.now c.loop-k.k c.loop-k.blocks _ c.loop-k-test.false refl c.loop-k.invariant
