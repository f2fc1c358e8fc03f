-- The unit of a text, by what its tree is like.
use Rattle.std.proofs.Common.{sym, subst}
use Rattle.cw_deepest.specs.Linked.UnitFits.{UnitFits}
use Rattle.cw_sound.proofs.laws.expressions.units_fit.Goals as goal

pub returns : goal.returns
returns c text u is =
    let named = is.named in
    let resolves = is.has.names.resolves in
    let fine = is.has.judges in
    let fits = c.text_trees.ensures text named.raw.now is.has.names.tree in
    let items = c.items_declared.ensures named resolves (c.items_stand.ensures named.raw.now named resolves fine fits.rising fits.plain) in
    subst UnitFits (sym is.unit_is) (c.named_units_fit.ensures named resolves fine fits.placed items (c.bodies_counted.ensures named resolves fits.placed items))
