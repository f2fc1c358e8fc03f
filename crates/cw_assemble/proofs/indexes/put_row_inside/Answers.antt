use Rattle.std.proofs.Common.{w16}
use Rattle.std.proofs.lemmas.Int.{to_z-of_z}
use Rattle.cw_tmpl.specs.Templates.{top_from_lower}
use Rattle.cw_assemble.proofs.Composed.{◌⨟◌, by_same}
use Rattle.cw_assemble.proofs.indexes.put_row_inside.Goals as goal

pub returns : goal.returns
returns c =
    let less = by_same top_from_lower (to_z-of_z w16 c.args.lower c.ranges.lower) c.put_top_from_lower.ensures in
    let all = less ⨟ c.put_times_entry.ensures ⨟ c.put_sums.ensures in all
