use Rattle.std.proofs.Common.{rules, ◌≡◌, to_z, of_z, w16}
use Rattle.cw_tmpl.specs.Templates.{top_from_lower, top_below}
use Rattle.cw_assemble.proofs.Composed.{bounded}
use Rattle.cw_assemble.proofs.blocks.put_bounded.Goals as goal

pub returns : goal.returns
returns c =
    let lower_is : to_z w16 (of_z w16 c.args.bounded.bounds.lower) ≡ c.args.bounded.bounds.lower = search rules in
    let all = bounded top_from_lower (top_below c.args.bounded.bounds.line) lower_is c.indexes_formed-count.ensures c.put_top_from_lower.ensures c.put_top_below.ensures c.put_formed.ensures in
    all
