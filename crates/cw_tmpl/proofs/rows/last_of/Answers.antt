use Rattle.std.proofs.Common.{rules, ◌≡◌, pos, ◌-ℤ◌, unsigned_abs, ap, ◌∙◌}
use Rattle.cw_tmpl.proofs.Within.{far}
use Rattle.cw_tmpl.proofs.rows.last_of.Goals as goal

pub returns : goal.returns
returns c =
    let bounds = c.args.bounds in
    let is : c.abs_diff.result ≡ unsigned_abs (bounds.upper -ℤ bounds.lower) = search rules in
    ap pos is ∙ far (bounds.upper -ℤ bounds.lower) c.args.span c.requires
