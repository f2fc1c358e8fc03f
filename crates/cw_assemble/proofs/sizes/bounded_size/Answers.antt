use Rattle.std.proofs.Common.{rules, ◌≡◌, arith, ap, to_z, of_z, w16}
use Rattle.cw_tmpl.specs.Sizes.{top_lower_size}
use Rattle.cw_tmpl.proofs.Sizes.{bounded_long}
use Rattle.cw_assemble.proofs.sizes.bounded_size.Goals as goal

pub returns : goal.returns
returns c =
    let lower = c.args.bounded.bounds.lower in
    let same : to_z w16 (of_z w16 lower) ≡ lower = search rules in
    omega (arith, bounded_long c.args.bounded, c.top_lower_size.ensures.is, ap top_lower_size same, c.formed_size.ensures.is)
