use Rattle.std.proofs.Common.{pos, ◌≤ℤ◌, ◌<ℤ◌, unsigned_abs, ap, ◌∙◌, arith, w8}
use Rattle.std.proofs.lemmas.Int.{ints, to_z-of_z}
use Rattle.cw_assemble.proofs.BeforeChecks.{product_up_added, product_down_added}
use Rattle.cw_assemble.proofs.arithmetic.put_product_before.Goals as goal

pub returns-then-scale-ge0 : goal.returns-then-scale-ge0
returns-then-scale-ge0 c =
    let up : pos 0 ≤ℤ c.args.scale = grind (arith, ints, to_z-of_z w8 c.args.scale c.ranges.scale, c.if-scale-ge0.true) in
    product_up_added c.args.code.now c.put_product_up_before.new.code c.args.line _ c.args.scale up (c.unsigned_abs.ensures.value ∙ ap unsigned_abs (to_z-of_z w8 c.args.scale c.ranges.scale)) c.put_product_up_before.ensures

pub returns-else-scale-ge0 : goal.returns-else-scale-ge0
returns-else-scale-ge0 c =
    let down : c.args.scale <ℤ pos 0 = grind (arith, ints, to_z-of_z w8 c.args.scale c.ranges.scale, c.if-scale-ge0.false) in
    product_down_added c.args.code.now c.put_product_down_before.new.code c.args.line _ c.args.scale down (c.unsigned_abs-else-scale-ge0.ensures.value ∙ ap unsigned_abs (to_z-of_z w8 c.args.scale c.ranges.scale)) c.put_product_down_before.ensures
