use Rattle.std.proofs.Common.{refl, arith}
use Rattle.cw_tmpl.specs.Mnemonics.{ax, at_si, load, store}
use Rattle.cw_tmpl.proofs.Sizes.{element_at_long}
use Rattle.cw_assemble.proofs.sizes.element_moved_size.Goals as goal

pub returns-clause-fetched : goal.returns-clause-fetched
returns-clause-fetched c = omega (arith, element_at_long c.args.element (load ax at_si) refl, c.element_size.ensures.is)

pub returns-clause-assigned : goal.returns-clause-assigned
returns-clause-assigned c = omega (arith, element_at_long c.args.element (store at_si ax) refl, c.element_size.ensures.is)
