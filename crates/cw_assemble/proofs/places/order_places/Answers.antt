use Rattle.cw_tmpl.specs.ShortForms.{is_short}
use Rattle.cw_tmpl.specs.ReferenceCode.{places_by}
use Rattle.cw_assemble.proofs.Placing.{place_more}
use Rattle.cw_assemble.proofs.NotedBlocks.{noted_behind}
use Rattle.cw_assemble.proofs.places.order_places.Goals as goal

pub loop-k-preserved : goal.loop-k-preserved
loop-k-preserved c =
    let list = c.args.orders.now in
    let k = c.loop-k.k in
    let within = c.loop-k-test.true in (
      place_more (is_short c.args.reach.now) c.loop-k.list c.push.new.self c.loop-k.at c.loop-k.left c.in_ok-behind.behind c.orders_left-left.result list k c.block_noted-block.result c.index-orders-k.result c.is_short-short.result (places_by (is_short c.args.reach.now) c.args.orders.now)
          within c.index-orders-k.is c.block_noted-block.ensures.value c.is_short-short.ensures c.orders_left-left.ensures c.in_ok-behind.ensures c.in_ok-push.ensures.ok c.loop-k.invariant.0,
      noted_behind c.args.blocks.now list c.loop-k.left c.orders_left-left.result k c.block_noted-block.result c.index-orders-k.result within c.index-orders-k.is c.block_noted-block.ensures.value c.orders_left-left.ensures c.loop-k.invariant.1,
    )
