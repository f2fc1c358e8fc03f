use Rattle.std.proofs.Common.{None, refl}
use Rattle.cw_tmpl.specs.Backward.{calls_from}
use Rattle.cw_assemble.proofs.Placing.{all_there, call_more}
use Rattle.cw_assemble.proofs.NotedBlocks.{noted_behind}
use Rattle.cw_assemble.proofs.places.calls.Goals as goal

pub loop-k-preserved : goal.loop-k-preserved
loop-k-preserved c =
    let list = c.args.orders.now in
    let k = c.loop-k.k in
    let within = c.loop-k-test.true in (
      call_more c.args.longest.now c.loop-k.list c.push.new.self c.loop-k.last c.call_after-last.result c.loop-k.left c.orders_left-left.result c.in_ok-behind.behind c.call_for-call.result list k c.block_noted-block.result
          c.index-orders-k.result c.check_of-check.result (calls_from c.args.longest.now None 0 0 list)
          within c.index-orders-k.is c.block_noted-block.ensures.value c.check_of-check.ensures c.call_for-call.ensures c.in_ok-behind.ensures c.call_after-last.ensures c.orders_left-left.ensures c.in_ok-push.ensures.ok c.loop-k.invariant.0,
      noted_behind c.args.blocks.now list c.loop-k.left c.orders_left-left.result k c.block_noted-block.result c.index-orders-k.result within c.index-orders-k.is c.block_noted-block.ensures.value c.orders_left-left.ensures c.loop-k.invariant.1,
    )

pub returns : goal.returns
returns c = all_there (calls_from c.args.longest.now c.loop-k.last c.loop-k.k c.loop-k.left) c.args.orders.now c.loop-k.k c.loop-k.list _ c.loop-k-test.false refl c.loop-k.invariant.0
