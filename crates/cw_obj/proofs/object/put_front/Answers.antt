use Rattle.std.proofs.Common.{◌++◌, ap, ◌∙◌, map}
use Rattle.cw_view.specs.ObjectFormat.{Descriptor, StorageFamily, PresetWord}
use Rattle.cw_obj.specs.ReferenceObject.{records_bytes}
use Rattle.cw_obj.proofs.Joining.{front_joined}
use Rattle.cw_obj.proofs.object.put_front.Goals as goal

pub returns : goal.returns
returns c =
    front_joined c.args.unit.now c.args.layout.now c.args.out.now.items c.put_segment.new.out.items c.put_descriptors.new.out.items c.put_families.new.out.items c.put_items.new.out.items c.put_presets.new.out.items
    c.in_ok-put_segment.ensures
    (c.in_ok-put_descriptors.ensures ∙ ap (λ ds. c.put_segment.new.out.items ++ records_bytes (map Descriptor ds)) c.as_slice.ensures)
    (c.in_ok-put_families.ensures ∙ ap (λ fs. c.put_descriptors.new.out.items ++ records_bytes (map StorageFamily fs)) c.as_slice-2.ensures)
    c.in_ok-put_items.ensures
    (c.in_ok-put_presets.ensures ∙ ap (λ ps. c.put_items.new.out.items ++ records_bytes (map PresetWord ps)) c.as_slice-3.ensures)
