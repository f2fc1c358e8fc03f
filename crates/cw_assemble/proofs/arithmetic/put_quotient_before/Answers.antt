use Rattle.std.proofs.Common.{pos, ◌≤ℤ◌, ◌<ℤ◌, unsigned_abs, ap, ◌∙◌, arith, w8}
use Rattle.std.proofs.lemmas.Int.{ints, to_z-of_z}
use Rattle.cw_assemble.proofs.BeforeChecks.{quotient_up_before, quotient_down_before}
use Rattle.cw_assemble.proofs.arithmetic.put_quotient_before.Goals as goal

pub returns-then-scale-ge0 : goal.returns-then-scale-ge0
returns-then-scale-ge0 c =
    let up : pos 0 ≤ℤ c.args.scale = grind (arith, ints, to_z-of_z w8 c.args.scale c.ranges.scale, c.if-scale-ge0.true) in
    quotient_up_before c.args.code.now c.put_divisor_tested.new.code c.put_routine_before.new.code c.args.line _ c.args.scale up (c.unsigned_abs.ensures.value ∙ ap unsigned_abs (to_z-of_z w8 c.args.scale c.ranges.scale)) c.put_divisor_tested.ensures c.put_routine_before.ensures

pub returns-else-scale-ge0 : goal.returns-else-scale-ge0
returns-else-scale-ge0 c =
    let down : c.args.scale <ℤ pos 0 = grind (arith, ints, to_z-of_z w8 c.args.scale c.ranges.scale, c.if-scale-ge0.false) in
    quotient_down_before c.args.code.now c.put_divisor_tested.new.code c.put_routine_before-else-scale-ge0.new.code c.args.line _ c.args.scale down (c.unsigned_abs-else-scale-ge0.ensures.value ∙ ap unsigned_abs (to_z-of_z w8 c.args.scale c.ranges.scale)) c.put_divisor_tested.ensures c.put_routine_before-else-scale-ge0.ensures
