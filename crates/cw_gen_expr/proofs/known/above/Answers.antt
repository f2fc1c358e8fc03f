use Rattle.std.proofs.Common.{rules, ◌≡◌, ◌-ℤ◌, to_z, of_z, w16, w64, FitsSigned, Some, sym, ap, ap₂, ◌∙◌}
use Rattle.std.proofs.lemmas.Int.{to_z-of_z}
use Rattle.cw_gen_expr.specs.KnownValues.{counted_if, from_lower}
use Rattle.cw_gen_expr.proofs.Counting.{widened, tested_at, distance, counted_from}
use Rattle.cw_gen_expr.proofs.known.above.Goals as goal

pub returns-then-in_bounds : goal.returns-then-in_bounds
returns-then-in_bounds c =
    let k = c.in_ok-index.field-0 in
    let some : c.args.index ≡ Some k = search rules in
    let fits : FitsSigned w16 k = search rules in
    let index = widened k c.from-index.result (record { sfits = c.from-index.type_inv }) fits c.from-index.ensures in
    let lower = widened c.args.lower c.from-lower.result (record { sfits = c.from-lower.type_inv }) c.ranges.lower c.from-lower.ensures in
    let upper = to_z-of_z w64 c.args.upper c.ranges.upper in
    let tested = tested_at c.args.compared c.in_bounds.result c.args.lower c.args.upper k _ _ _ lower upper index c.in_bounds.ensures in
    c.ok.ensures.value
    ∙ counted_from c.args.compared c.args.lower c.args.upper k _ c.try_from.result fits c.ranges.lower (sym tested ∙ c.if-in_bounds.true)
    (ap₂ (λ i l. to_z w64 (of_z w64 (i -ℤ l))) index lower ∙ distance k c.args.lower fits c.ranges.lower) c.try_from.ensures
    ∙ ap (from_lower c.args.compared c.args.lower c.args.upper) (sym some)

pub returns-else-in_bounds : goal.returns-else-in_bounds
returns-else-in_bounds c =
    let k = c.in_ok-index.field-0 in
    let some : c.args.index ≡ Some k = search rules in
    let fits : FitsSigned w16 k = search rules in
    let index = widened k c.from-index.result (record { sfits = c.from-index.type_inv }) fits c.from-index.ensures in
    let lower = widened c.args.lower c.from-lower.result (record { sfits = c.from-lower.type_inv }) c.ranges.lower c.from-lower.ensures in
    let upper = to_z-of_z w64 c.args.upper c.ranges.upper in
    let tested = tested_at c.args.compared c.in_bounds.result c.args.lower c.args.upper k _ _ _ lower upper index c.in_bounds.ensures in
    ap (λ b. counted_if b (k -ℤ c.args.lower)) (sym c.if-in_bounds.false ∙ tested) ∙ ap (from_lower c.args.compared c.args.lower c.args.upper) (sym some)
