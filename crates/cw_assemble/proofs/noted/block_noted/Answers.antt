use Rattle.std.proofs.Common.{sym, subst}
use Rattle.cw_tmpl.specs.Blocks.{NamesParts}
use Rattle.cw_tmpl.proofs.Shapes.{names_parts}
use Rattle.cw_assemble.proofs.NotedBlocks.{noted_within, noted_value}
use Rattle.cw_assemble.proofs.noted.block_noted.Goals as goal

pub bounds-blocks-k : goal.bounds-blocks-k
bounds-blocks-k c = noted_within c.args.blocks.now c.args.orders.now c.args.left c.args.k c.requires.inside c.requires.noted

pub returns-clause-value : goal.returns-clause-value
returns-clause-value c = noted_value c.args.blocks.now c.args.orders.now c.args.left c.args.k _ c.requires.inside c.requires.noted

pub returns-clause-parts : goal.returns-clause-parts
returns-clause-parts c =
    subst NamesParts (sym (noted_value c.args.blocks.now c.args.orders.now c.args.left c.args.k _ c.requires.inside c.requires.noted)) (names_parts c.args.left _)
