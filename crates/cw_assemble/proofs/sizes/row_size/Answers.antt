use Rattle.std.proofs.Common.{rules, ◌≡◌, arith, ap, to_z, of_z, w16}
use Rattle.cw_tmpl.specs.Sizes.{top_lower_size, lower_size}
use Rattle.cw_tmpl.proofs.Sizes.{row_long}
use Rattle.cw_assemble.proofs.sizes.row_size.Goals as goal

pub returns : goal.returns
returns c =
    let rows = c.args.row.rows.lower in
    let columns = c.args.row.columns.lower in
    let first : to_z w16 (of_z w16 rows) ≡ rows = search rules in
    let second : to_z w16 (of_z w16 columns) ≡ columns = search rules in
    omega (arith, row_long c.args.row, c.top_lower_size.ensures.is, ap top_lower_size first, c.column_size.ensures.is, c.lower_size.ensures.is, ap lower_size second, c.formed_size.ensures.is)
