use Rattle.std.proofs.Common.{w16}
use Rattle.std.proofs.lemmas.Int.{to_z-of_z}
use Rattle.cw_tmpl.specs.Templates.{less_bound}
use Rattle.cw_assemble.proofs.Composed.{◌⨟◌, by_same, by_first}
use Rattle.cw_assemble.proofs.indexes.put_element_of_two.Goals as goal

pub returns : goal.returns
returns c =
    let less = by_same (less_bound c.args.line) (to_z-of_z w16 c.args.second c.ranges.second) c.put_less_bound.ensures in
    let all = c.put_base_kept.ensures ⨟ less ⨟ c.put_place_kept.ensures ⨟ by_first (less_bound c.args.line) _ (to_z-of_z w16 c.args.lower c.ranges.lower) c.put_row.ensures in all
