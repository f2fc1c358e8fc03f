-- Each base stands before what is overlaid on it.
use Rattle.std.proofs.Common.{sym, subst}
use Rattle.cw_sound.specs.Items.Derived.{HasRisingTokens}
use Rattle.cw_sound.proofs.Front.Based.{bases_listed}
use Rattle.cw_sound.proofs.laws.units.bases_listed.Goals as goal

pub returns : goal.returns
returns c n ts raw named few d resolves fine =
    let rising = c.items_derived.ensures.rising n ts raw few d in
    bases_listed named (subst HasRisingTokens (sym resolves.1) rising) (c.bases_stand.ensures raw named resolves fine rising (c.items_derived.ensures.plain n ts raw d))
    (c.descriptors_fit.ensures n ts raw named d resolves (c.counts_fit.ensures n ts raw named few d resolves fine))
