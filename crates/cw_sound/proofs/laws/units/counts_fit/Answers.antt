-- The parts of what communicators list are few.
use Rattle.std.proofs.Common.{sym, subst}
use Rattle.cw_tree.specs.declared.segment.Raw.{Raw}
use Rattle.cw_sound.specs.Names.Placed.{Placed}
use Rattle.cw_sound.specs.Written.Counts.{CountsFit}
use Rattle.cw_sound.proofs.Front.Counts.{counts_fit}
use Rattle.cw_sound.proofs.laws.units.counts_fit.Goals as goal

pub returns : goal.returns
returns c n ts raw named few d resolves fine =
    subst (λ (x : Raw). CountsFit x.comms) resolves.1
    (counts_fit named (subst Placed (sym resolves.1) (c.placed.ensures n ts raw few d)) (c.parts_free.ensures named fine))
