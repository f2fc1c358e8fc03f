use Rattle.std.proofs.Common.{sym, ◌∙◌, w8, to_z, of_z, arith}
use Rattle.std.proofs.lemmas.Int.{to_z-of_z}
use Rattle.cw_assemble.proofs.Ended.{product_checked, product_far, far_places}
use Rattle.cw_assemble.proofs.arithmetic.put_product.Goals as goal

pub returns-then-is_checked : goal.returns-then-is_checked
returns-then-is_checked c =
    product_checked c.args.short c.args.code.now c.put_product_checked.new.code c.args.line c.args.call _ c.args.scale (to_z-of_z w8 c.args.scale c.ranges.scale) (sym c.is_checked.ensures ∙ c.if-is_checked.true) c.put_product_checked.ensures

pub overflow_sub-places : goal.overflow_sub-places
overflow_sub-places c =
    let far = far_places c.unsigned_abs-places.result (to_z w8 (of_z w8 c.args.scale)) (sym c.is_checked.ensures ∙ c.if-is_checked.false) c.unsigned_abs-places.ensures.value in
    omega (arith, far)

pub put_product_far-requires : goal.put_product_far-requires
put_product_far-requires c =
    let far = far_places c.unsigned_abs-places.result (to_z w8 (of_z w8 c.args.scale)) (sym c.is_checked.ensures ∙ c.if-is_checked.false) c.unsigned_abs-places.ensures.value in
    omega (arith, far)

pub returns-else-is_checked : goal.returns-else-is_checked
returns-else-is_checked c =
    product_far c.args.short c.args.code.now c.put_product_far.new.code c.args.line c.args.call c.unsigned_abs-places.result _ c.args.scale (to_z-of_z w8 c.args.scale c.ranges.scale) (sym c.is_checked.ensures ∙ c.if-is_checked.false)
    c.unsigned_abs-places.ensures.value c.put_product_far.ensures
