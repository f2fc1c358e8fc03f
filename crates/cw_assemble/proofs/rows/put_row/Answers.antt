use Rattle.std.proofs.Common.{rules, ◌≡◌, to_z, of_z, w16}
use Rattle.cw_tmpl.specs.Templates.{top_from_lower, top_below}
use Rattle.cw_assemble.proofs.Composed.{bounded}
use Rattle.cw_assemble.proofs.rows.put_row.Goals as goal

pub returns : goal.returns
returns c =
    let lower_is : to_z w16 (of_z w16 c.args.row.rows.lower) ≡ c.args.row.rows.lower = search rules in
    let all = bounded top_from_lower (top_below c.args.row.rows.line) lower_is c.rows_between-count.ensures c.put_top_from_lower.ensures c.put_top_below.ensures c.put_column_tested.ensures in
    all
