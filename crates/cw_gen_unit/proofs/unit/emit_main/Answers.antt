use Rattle.std.proofs.Common.{◌≡◌, ◌++◌, length, None, ap, ap₂, ◌∙◌}
use Rattle.cw_gen_expr.specs.Output.{made, added}
use Rattle.cw_gen_unit.specs.ReferenceUnits.{body_piece}
use Rattle.cw_gen_unit.specs.LabelPlaces.{labels_placed}
use Rattle.cw_gen_unit.proofs.WholeUnits.{body-made}
use Rattle.cw_gen_unit.proofs.unit.emit_main.Goals as goal

pub returns-clause-orders : goal.returns-clause-orders
returns-clause-orders c =
    ap (λ z. z.orders) (body-made c.args.unit.now c.args.layout.now (made c.args.out.now) (made c.emit_statement.new.out) (made c.push.new.self) c.requires.of_unit c.in_ok-emit_statement.ensures.orders c.in_ok-push.ensures)

pub returns-clause-marks : goal.returns-clause-marks
returns-clause-marks c =
    ap (λ z. z.marks) (body-made c.args.unit.now c.args.layout.now (made c.args.out.now) (made c.emit_statement.new.out) (made c.push.new.self) c.requires.of_unit c.in_ok-emit_statement.ensures.orders c.in_ok-push.ensures)

pub returns-clause-places : goal.returns-clause-places
returns-clause-places c =
    let u = c.args.unit.now in
    let x = made c.args.out.now in
    let x2 = made c.push.new.self in
    let whole : x2 ≡ added (body_piece u) x = body-made u c.args.layout.now x (made c.emit_statement.new.out) x2 c.requires.of_unit c.in_ok-emit_statement.ensures.orders c.in_ok-push.ensures in
    let own = body_piece u (length x.orders) (length x.marks) in
    c.place_labels.ensures
    ∙ ap₂ (λ ls fs. labels_placed 0 ls None fs c.args.places.now.items) c.as_slice.ensures (c.as_slice-2.ensures ∙ ap (λ z. z.labels) whole ∙ ap (λ ls. ls ++ own.labels) c.requires.unlabelled)
