use Rattle.std.proofs.Common.{◌++◌, ap, ◌∙◌, map}
use Rattle.cw_view.specs.ObjectFormat.{Relocation, Code, record_bytes}
use Rattle.cw_obj.specs.ReferenceObject.{records_bytes, definition_records}
use Rattle.cw_obj.proofs.Joining.{back_joined}
use Rattle.cw_obj.proofs.object.put_back.Goals as goal

pub returns : goal.returns
returns c =
    back_joined c.args.unit.now c.args.code.now c.args.need c.args.places.now c.args.out.now.items c.put_record.new.out.items c.put_relocations.new.out.items c.put_definitions.new.out.items c.put_body_facts.new.out.items c.put_statements.new.out.items c.put_head.new.out.items
    (c.in_ok-put_record.ensures ∙ ap (λ bs. c.args.out.now.items ++ record_bytes (Code bs)) c.as_slice.ensures)
    (c.in_ok-put_relocations.ensures ∙ ap (λ rs. c.put_record.new.out.items ++ records_bytes (map Relocation rs)) c.as_slice-2.ensures)
    (c.in_ok-put_definitions.ensures ∙ ap (λ ds. c.put_relocations.new.out.items ++ records_bytes (definition_records c.args.code.now ds)) c.as_slice-3.ensures)
    c.in_ok-put_body_facts.ensures
    c.in_ok-put_statements.ensures
    c.in_ok-put_head.ensures
