use Rattle.std.proofs.Common.{◌≡◌, ◌<◌, [], ◌∷◌, ◌++◌, length, take, get_or, sym, ap, ◌∙◌, rules, append_assoc}
use Rattle.cw_list.specs.Rows.{row_in, segment_rows}
use Rattle.cw_list.proofs.SegmentRows.{rows_next}
use Rattle.cw_list.proofs.segment.add_segment.Goals as goal

pub loop-n-preserved : goal.loop-n-preserved
loop-n-preserved c =
    let u = c.args.unit.now in
    let n = c.loop-n.n in
    let i = c.index-items-n.result in
    let row = row_in u c.args.layout.now c.args.addresses.now n i in
    let within : n < length u.items = search rules in
    let read : i ≡ get_or u.items n i = search rules in
    let made : c.row.result ≡ row = search rules in
    c.in_ok-push.ensures.ok ∙ ap (λ r. c.loop-n.rows ++ r ∷ []) made ∙ ap (λ rs. rs ++ row ∷ []) c.loop-n.invariant
    ∙ append_assoc c.args.rows.now (segment_rows u c.args.layout.now c.args.addresses.now 0 (take n u.items)) (row ∷ [])
    ∙ ap (λ rs. c.args.rows.now ++ rs) (sym (rows_next u c.args.layout.now c.args.addresses.now n i within read))
