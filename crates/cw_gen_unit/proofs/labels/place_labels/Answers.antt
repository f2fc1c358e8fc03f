use Rattle.std.proofs.Common.{◌≡◌, suc, ◌-◌, ◌<◌, length, sym, ◌∙◌, arith}
use Rattle.cw_gen_unit.proofs.PlacedLabels.{kept-start, kept-one, kept-other}
use Rattle.cw_gen_unit.proofs.labels.place_labels.Goals as goal

pub loop-i-init : goal.loop-i-init
loop-i-init c = kept-start c.args.who c.args.labels.now c.args.found.now c.args.places.now.items

pub loop-i-preserved-then-belongs : goal.loop-i-preserved-then-belongs
loop-i-preserved-then-belongs c =
    let i = c.loop-i.i - 1 in
    let lt : i < length c.args.found.now = omega (arith, c.loop-i-test.true, c.loop-i.auto.i) in
    let now : c.loop-i.i ≡ suc i = omega (arith, c.loop-i-test.true) in
    c.set_place.ensures ∙ kept-one c.args.who c.args.labels.now c.args.found.now c.loop-i.i i c.loop-i.places.items c.args.places.now.items now lt (sym c.belongs.ensures ∙ c.if-belongs.true) c.loop-i.invariant

pub loop-i-preserved : goal.loop-i-preserved
loop-i-preserved c =
    let i = c.loop-i.i - 1 in
    let lt : i < length c.args.found.now = omega (arith, c.loop-i-test.true, c.loop-i.auto.i) in
    let now : c.loop-i.i ≡ suc i = omega (arith, c.loop-i-test.true) in
    kept-other c.args.who c.args.labels.now c.args.found.now c.loop-i.i i c.loop-i.places.items c.args.places.now.items now lt (sym c.belongs.ensures ∙ c.if-belongs.false) c.loop-i.invariant
