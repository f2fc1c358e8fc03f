use Rattle.std.proofs.Common.{rules, ◌≡◌, length, refl}
use Rattle.cw_tmpl.specs.ReferenceCode.{templates}
use Rattle.cw_tmpl.specs.ShortForms.{is_short}
use Rattle.cw_assemble.proofs.Composed.{next_block, item_first}
use Rattle.cw_assemble.proofs.NotedBlocks.{noted_behind}
use Rattle.cw_assemble.proofs.Growing.{all_comes, last_came}
use Rattle.cw_assemble.proofs.assembling.put_orders.Goals as goal

pub loop-k-init : goal.loop-k-init
loop-k-init c = (all_comes c.args.code.now (templates c.args.names.now (length c.args.code.now.assembly.bytes) 0 0 c.args.list.now), c.requires.noted)

pub loop-k-preserved : goal.loop-k-preserved
loop-k-preserved c =
    let list = c.args.list.now in
    let short : c.is_short-short.result ≡ is_short c.args.names.now.reach c.loop-k.k c.block_noted-block.result c.index-list-k.result = search rules in (
      next_block c.args.code.now _ c.loop-k.code c.put_block.new.code c.args.names.now list c.loop-k.k c.loop-k.left _ _ _ c.index-list-k.result
          (item_first list c.loop-k.k c.index-list-k.result c.loop-k-test.true c.index-list-k.is) c.block_noted-block.ensures.value c.orders_left-left.ensures short c.put_block.ensures c.loop-k.invariant.0,
      noted_behind c.args.blocks.now list c.loop-k.left c.orders_left-left.result c.loop-k.k c.block_noted-block.result c.index-list-k.result c.loop-k-test.true c.index-list-k.is c.block_noted-block.ensures.value c.orders_left-left.ensures c.loop-k.invariant.1,
    )

pub returns : goal.returns
returns c =
    last_came (λ os. templates c.args.names.now (length c.loop-k.code.assembly.bytes) c.loop-k.k c.loop-k.left os) c.args.list.now c.loop-k.k c.loop-k-test.false refl c.loop-k.invariant.0
