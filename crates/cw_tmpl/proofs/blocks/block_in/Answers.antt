use Rattle.std.proofs.Common.{sym, subst}
use Rattle.cw_tmpl.specs.Blocks.{NamesParts}
use Rattle.cw_tmpl.proofs.Shapes.{names_parts}
use Rattle.cw_tmpl.proofs.blocks.block_in.Goals as goal

pub returns-clause-parts : goal.returns-clause-parts
returns-clause-parts c = subst (λ b. NamesParts b) (sym c.block_at.ensures) (names_parts c.args.left _)
