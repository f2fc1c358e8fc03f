use Rattle.std.proofs.Common.{◌≡◌, ◌++◌, length, replicate, drop, ap, ap₂, ◌∙◌}
use Rattle.cw_gen_unit.specs.ReferenceUnits.{entries_of, definition_places}
use Rattle.cw_gen_unit.proofs.WholeUnits.{whole-list, whole-marks}
use Rattle.cw_gen_unit.proofs.unit.emit_bodies.Goals as goal

pub returns-clause-list : goal.returns-clause-list
returns-clause-list c =
    let d = c.in_ok-emit_main.ensures in
    let p = c.in_ok-emit_procedures.ensures in
    let o0 = c.args.out.now in
    let o1 = c.emit_main.new.out in
    let o2 = c.emit_procedures.new.out in
    whole-list c.args.unit.now c.args.first o0.orders o1.orders o2.orders o0.marks.items o1.marks.items o2.marks.items
    c.requires.counted (ap (λ z. z.orders) c.requires.begun) (ap (λ z. z.marks) c.requires.begun) d.orders d.marks p.orders p.marks

pub returns-clause-marks : goal.returns-clause-marks
returns-clause-marks c =
    let u = c.args.unit.now in
    let d = c.in_ok-emit_main.ensures in
    let p = c.in_ok-emit_procedures.ensures in
    let o0 = c.args.out.now in
    let o1 = c.emit_main.new.out in
    let o2 = c.emit_procedures.new.out in
    let z0 = c.in_ok-places.places.items in
    let z1 = c.emit_main.new.places.items in
    let z2 = c.emit_procedures.new.places.items in
    let e2 = c.emit_procedures.new.entries.items in
    let es = entries_of u 0 u.procs (length o1.orders) (length o1.marks.items) in
    let ez0 : z0 ≡ replicate (length u.labels) 0 = c.in_ok-places.ensures ∙ ap (λ l. replicate (length l) 0) c.as_slice.ensures in
    let ee2 : e2 ≡ es = p.entries ∙ ap (λ l. l ++ es) c.new-entries.ensures.items in
    let ems : c.in_ok-marks.marks ≡ definition_places z2 e2 u.defined ++ (z2 ++ (e2 ++ drop c.args.first o2.marks.items)) =
    c.in_ok-marks.ensures
    ∙ ap (λ ds. definition_places c.as_slice-3.result.now c.as_slice-4.result.now ds ++ (c.as_slice-3.result.now ++ (c.as_slice-4.result.now ++ drop c.args.first c.as_slice-5.result.now))) c.as_slice-2.ensures
    ∙ ap₂ (λ z e. definition_places z e u.defined ++ (z ++ (e ++ drop c.args.first c.as_slice-5.result.now))) c.as_slice-3.ensures.value c.as_slice-4.ensures.value
    ∙ ap (λ l. definition_places z2 e2 u.defined ++ (z2 ++ (e2 ++ drop c.args.first l))) c.as_slice-5.ensures.value in
    whole-marks u c.args.first o0.orders o1.orders o2.orders o0.marks.items o1.marks.items o2.marks.items
    c.requires.counted (ap (λ z. z.orders) c.requires.begun) (ap (λ z. z.marks) c.requires.begun) d.orders d.marks p.orders p.marks
    z0 z1 z2 e2 c.in_ok-marks.marks ez0 d.places ee2 p.places ems
