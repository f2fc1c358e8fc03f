use Rattle.std.proofs.Common.{List, refl, ap, map, ◌++◌}
use Rattle.cw_unit.specs.declared.unit.Felem.{Felem}
use Rattle.cw_make_stmt.specs.Made.{felem_of}
use Rattle.cw_make_stmt.proofs.Arms.{one_more_made, none_more_made}
use Rattle.cw_make_stmt.proofs.parts.felems_of.Goals as goal

pub loop-element-init : goal.loop-element-init
loop-element-init c = ap (λ (all : List Felem). all ++ map (felem_of c.args.text.named.now c.args.text.numbers.now) c.args.elements.now) c.new-all.ensures

pub loop-element-preserved : goal.loop-element-preserved
loop-element-preserved c =
    one_more_made (felem_of c.args.text.named.now c.args.text.numbers.now) c.args.elements.now c.loop-element.element-index c.element-item.result c.in_ok-felem_of.field-0
    c.in_ok-felem_of.field-0
    c.loop-element.all c.push.new.self _ c.loop-element-test.true c.element-item.is c.in_ok-felem_of.ensures refl c.in_ok-push.ensures.ok c.loop-element.invariant

pub returns : goal.returns
returns c =
    none_more_made (felem_of c.args.text.named.now c.args.text.numbers.now) c.args.elements.now c.loop-element.element-index c.loop-element.all _ c.loop-element-test.false
    c.loop-element.invariant
