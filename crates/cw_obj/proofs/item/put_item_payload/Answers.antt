use Rattle.cw_fields.specs.Fields.{word_bytes}
use Rattle.cw_obj.specs.ReferenceObject.{owner_name, name_or_none, place_bytes}
use Rattle.cw_obj.proofs.Joining.{item_joined}
use Rattle.cw_obj.proofs.item.put_item_payload.Goals as goal

pub returns : goal.returns
returns c =
    item_joined c.args.out.now.items c.put_text.new.out.items c.put_text-2.new.out.items c.put_word.new.out.items c.put_place.new.out.items
    c.owner_name.result.now c.name_or_none.result.now (word_bytes c.args.item.now.line) (place_bytes c.args.place c.args.item.now) (owner_name c.args.unit.now c.args.item.now.owner) (name_or_none c.args.item.now.name)
    c.in_ok-put_text.ensures c.owner_name.ensures.value c.in_ok-put_text-2.ensures c.name_or_none.ensures.value c.in_ok-put_word.ensures c.in_ok-put_place.ensures
