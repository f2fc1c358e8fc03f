use Rattle.std.proofs.Common.{w16}
use Rattle.std.proofs.lemmas.Int.{to_z-of_z}
use Rattle.cw_tmpl.specs.Templates.{top_from_lower}
use Rattle.cw_assemble.proofs.Composed.{◌⨟◌, by_same, by_first}
use Rattle.cw_assemble.proofs.indexes.put_element_inside.Goals as goal

pub returns : goal.returns
returns c =
    let less = by_same top_from_lower (to_z-of_z w16 c.args.second c.ranges.second) c.put_top_from_lower.ensures in
    let all = c.put_base_kept.ensures ⨟ less ⨟ c.put_place_kept.ensures ⨟ by_first top_from_lower _ (to_z-of_z w16 c.args.lower c.ranges.lower) c.put_row_inside.ensures in all
