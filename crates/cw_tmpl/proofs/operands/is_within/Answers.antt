use Rattle.std.proofs.Common.{rules, ◌≡◌, ◌-ℤ◌, ◌≤ℤ◌, ◌<ℤ◌, unsigned_abs, w16, ap, ◌∙◌}
use Rattle.std.proofs.lemmas.Int.{to_z-of_z}
use Rattle.std.specs.Prelude.{nat_lt}
use Rattle.cw_tmpl.proofs.Within.{within, without}
use Rattle.cw_tmpl.proofs.operands.is_within.Goals as goal

pub returns-then-lower-upper : goal.returns-then-lower-upper
returns-then-lower-upper c =
    let far : c.abs_diff.result ≡ unsigned_abs (c.args.upper -ℤ c.args.lower) = search rules in
    let order : c.args.lower ≤ℤ c.args.upper = search rules in
    ap (λ n. nat_lt n c.args.span) far ∙ within c.args.lower c.args.upper c.args.span order

pub returns-else-lower-upper : goal.returns-else-lower-upper
returns-else-lower-upper c =
    let order : c.args.upper <ℤ c.args.lower = search rules in
    without _ _ c.args.lower c.args.upper c.args.span (to_z-of_z w16 c.args.lower c.ranges.lower) (to_z-of_z w16 c.args.upper c.ranges.upper) order
