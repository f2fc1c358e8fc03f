use Rattle.std.proofs.Common.{rules, ◌≡◌, to_z, of_z, w16}
use Rattle.cw_tmpl.specs.Templates.{from_lower, column_below}
use Rattle.cw_assemble.proofs.Composed.{bounded}
use Rattle.cw_assemble.proofs.rows.put_column_compared.Goals as goal

pub returns : goal.returns
returns c =
    let lower_is : to_z w16 (of_z w16 c.args.row.columns.lower) ≡ c.args.row.columns.lower = search rules in
    let all = bounded from_lower (column_below c.args.row.columns.line) lower_is c.columns_between-count.ensures c.put_from_lower.ensures c.put_column_below.ensures c.put_row_summed.ensures in
    all
