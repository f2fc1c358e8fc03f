use Rattle.std.proofs.Common.{rules, ◌≡◌, ◌+◌, drop, [], ◌∷◌, ◌++◌, length, Some, refl, sym, ap, ap₂, ◌∙◌, length-append}
use Rattle.std.specs.Prelude.{slice_get}
use Rattle.std.proofs.lemmas.Option.{slice_get_read}
use Rattle.cw_gen_unit.specs.ReferenceUnits.{procedure_piece, entries_of, label_places}
use Rattle.cw_gen_unit.specs.LabelPlaces.{labels_placed}
use Rattle.cw_gen_unit.proofs.PlacedLabels.{placed-procedure}
use Rattle.cw_gen_unit.proofs.WholeUnits.{next-orders, next-marks, next-entries, next-labels, last-orders, last-marks, last-entries, last-labels}
use Rattle.cw_gen_unit.proofs.unit.emit_procedures.Goals as goal

pub emit_next-requires-clause-numbered : goal.emit_next-requires-clause-numbered
emit_next-requires-clause-numbered c =
    let ps = c.as_slice-procedures.result.now in
    let i = c.loop-i.i in
    let same : c.in_ok-number.number ≡ i = search rules in
    ap₂ slice_get (sym c.as_slice-procedures.ensures) same ∙ slice_get_read ps (length ps) i c.index-procedures-i.result refl c.loop-i-test.true c.index-procedures-i.is

pub returns-clause-orders : goal.returns-clause-orders
returns-clause-orders c =
    let o = c.loop-i.out in
    let o0 = c.args.out.now in
    last-orders c.args.unit.now c.as_slice-procedures.result.now c.loop-i.i (length o.orders) (length o.marks.items) (length o0.orders) (length o0.marks.items)
    c.loop-i-test.false c.as_slice-procedures.ensures o.orders o0.orders c.loop-i.invariant.orders

pub returns-clause-marks : goal.returns-clause-marks
returns-clause-marks c =
    let o = c.loop-i.out in
    let o0 = c.args.out.now in
    last-marks c.args.unit.now c.as_slice-procedures.result.now c.loop-i.i (length o.orders) (length o.marks.items) (length o0.orders) (length o0.marks.items)
    c.loop-i-test.false c.as_slice-procedures.ensures o.marks.items o0.marks.items c.loop-i.invariant.marks

pub returns-clause-entries : goal.returns-clause-entries
returns-clause-entries c =
    let o = c.loop-i.out in
    let o0 = c.args.out.now in
    last-entries c.args.unit.now c.as_slice-procedures.result.now c.loop-i.i (length o.orders) (length o.marks.items) (length o0.orders) (length o0.marks.items)
    c.loop-i-test.false c.as_slice-procedures.ensures c.loop-i.entries.items c.args.entries.now.items c.loop-i.invariant.entries

pub returns-clause-places : goal.returns-clause-places
returns-clause-places c = λ b h.
    let o = c.loop-i.out in
    let o0 = c.args.out.now in
    let (done, long, whole, at) = c.loop-i.invariant.places b h in
    at ∙ ap (label_places 0 c.args.unit.now.labels b)
    (last-labels c.args.unit.now c.as_slice-procedures.result.now c.loop-i.i (length o.orders) (length o.marks.items) (length o0.orders) (length o0.marks.items)
    c.loop-i-test.false c.as_slice-procedures.ensures done whole)

pub loop-i-preserved : goal.loop-i-preserved
loop-i-preserved c =
    let u = c.args.unit.now in
    let ps = c.as_slice-procedures.result.now in
    let i = c.loop-i.i in
    let n = c.in_ok-number.number in
    let q = c.index-procedures-i.result in
    let xo = c.loop-i.out.orders in
    let xm = c.loop-i.out.marks.items in
    let yo = c.emit_next.new.out.orders in
    let ym = c.emit_next.new.out.marks.items in
    let d = c.in_ok-emit_next.ensures in
    let same : n ≡ i = search rules in
    let eo : yo ≡ xo ++ (procedure_piece u i q (length xo) (length xm)).orders = d.orders ∙ ap (λ k. xo ++ (procedure_piece u k q (length xo) (length xm)).orders) same in
    let em : ym ≡ xm ++ (procedure_piece u i q (length xo) (length xm)).marks = d.marks ∙ ap (λ k. xm ++ (procedure_piece u k q (length xo) (length xm)).marks) same in
    let lt = c.loop-i-test.true in
    let here = c.index-procedures-i.is in
    record {
      orders = next-orders u ps i q lt here xo yo xm ym eo em ∙ c.loop-i.invariant.orders;
      marks = next-marks u ps i q lt here xo yo xm ym eo em ∙ c.loop-i.invariant.marks;
      labels = d.labels;
      entries = ap (λ es. es ++ entries_of u (i + 1) (drop (i + 1) ps) (length yo) (length ym)) d.entries ∙ next-entries u ps i q lt here xo yo xm ym eo em c.loop-i.entries.items ∙ c.loop-i.invariant.entries;
      places = λ b h.
          let (done, long, whole, at) = c.loop-i.invariant.places b h in
          let ls = (procedure_piece u i q (length xo) (length xm)).labels in
          let longer : length (done ++ ls ∷ []) ≡ i + 1 = length-append done (ls ∷ []) ∙ ap (λ k. k + 1) long in (
            done ++ ls ∷ [],
            longer,
            next-labels u ps i q lt here xo yo xm ym eo em done ∙ whole,
            d.places ∙ ap (λ k. labels_placed 0 u.labels (Some k) (procedure_piece u k q (length xo) (length xm)).labels c.loop-i.places.items) same
                ∙ ap (labels_placed 0 u.labels (Some i) ls) at ∙ placed-procedure 0 u.labels b ls done i long,
          );
    }
