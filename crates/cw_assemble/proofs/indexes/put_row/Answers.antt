use Rattle.std.proofs.Common.{w16}
use Rattle.std.proofs.lemmas.Int.{to_z-of_z}
use Rattle.cw_tmpl.specs.Templates.{less_bound}
use Rattle.cw_assemble.proofs.Composed.{◌⨟◌, by_same}
use Rattle.cw_assemble.proofs.indexes.put_row.Goals as goal

pub returns : goal.returns
returns c =
    let less = by_same (less_bound c.args.line) (to_z-of_z w16 c.args.lower c.ranges.lower) c.put_less_bound.ensures in
    let all = less ⨟ c.put_times.ensures ⨟ c.put_in_row.ensures ⨟ c.put_based.ensures in all
