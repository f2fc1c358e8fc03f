use Rattle.std.proofs.Common.{[], ◌++◌, ap, ◌∙◌, sym}
use Rattle.cw_view.specs.ObjectFormat.{header}
use Rattle.cw_obj.specs.ReferenceObject.{front_records, back_records, records_bytes}
use Rattle.cw_obj.proofs.Joining.{join, records_append}
use Rattle.cw_obj.proofs.object.write_object.Goals as goal

pub returns : goal.returns
returns c =
    let front = front_records c.args.unit.now c.args.layout.now in
    let back = back_records c.args.unit.now c.args.code.now c.args.need c.args.places.now in
    join [] c.put_header.new.out.items c.put_back.new.out.items (header 2) (records_bytes front ++ records_bytes back) (c.in_ok-put_header.ensures ∙ ap (λ o. o ++ header 2) c.new-out.ensures.items)
    (join c.put_header.new.out.items c.put_front.new.out.items c.put_back.new.out.items (records_bytes front) (records_bytes back) c.in_ok-put_front.ensures c.in_ok-put_back.ensures)
    ∙ ap (λ y. header 2 ++ y) (sym (records_append front back))
