use Rattle.std.proofs.Common.{refl, false}
use Rattle.cw_tmpl.specs.ShortForms.{all_near}
use Rattle.cw_tmpl.specs.ReferenceCode.{longest_places}
use Rattle.cw_assemble.proofs.Placing.{place_more}
use Rattle.cw_assemble.proofs.NotedBlocks.{noted_behind}
use Rattle.cw_assemble.proofs.places.longest_places.Goals as goal

pub loop-k-preserved : goal.loop-k-preserved
loop-k-preserved c =
    let list = c.args.orders.now in
    let k = c.loop-k.k in
    let within = c.loop-k-test.true in (
      place_more all_near c.loop-k.list c.push.new.self c.loop-k.at c.loop-k.left c.in_ok-behind.behind c.orders_left-left.result list k c.block_noted-block.result c.index-orders-k.result false (longest_places c.args.orders.now)
          within c.index-orders-k.is c.block_noted-block.ensures.value refl c.orders_left-left.ensures c.in_ok-behind.ensures c.in_ok-push.ensures.ok c.loop-k.invariant.0,
      noted_behind c.args.blocks.now list c.loop-k.left c.orders_left-left.result k c.block_noted-block.result c.index-orders-k.result within c.index-orders-k.is c.block_noted-block.ensures.value c.orders_left-left.ensures c.loop-k.invariant.1,
    )
