use Rattle.std.proofs.Common.{◌≡◌, ℕ, ◌++◌, ◌∷◌, [], List, ap, ◌∙◌, subst}
use Rattle.cw_i86.specs.declared.instr.Instr.{Instr}
use Rattle.cw_run86.specs.Views.{with_number}
use Rattle.cw_word.specs.BitField.{field_mask}
use Rattle.cw_assemble.specs.declared.draft.Draft.{Draft}
use Rattle.cw_order.specs.declared.order.Place.{Place}
use Rattle.cw_tmpl.specs.declared.pieces.Coded.{Coded}
use Rattle.cw_tmpl.specs.declared.pieces.Coded.TheVariants as coded
use Rattle.cw_assemble.specs.Growing.{Adds}
use Rattle.cw_tmpl.specs.Templates.{shifted_up, address_pieces, operate_place, change_place}
use Rattle.cw_assemble.proofs.Growing.{adds_then}
use Rattle.cw_assemble.proofs.blocks.put_assign_part.Goals as goal

part_assigned : (old one two new : Draft) (x : Place) (b mask : ℕ) (p q : Coded) (i : Instr) → p ≡ operate_place 6 x → i ≡ with_number 4 mask → q ≡ change_place 6 x → Adds old (shifted_up b) one → Adds one (address_pieces x) two
    → Adds two (p ∷ coded.Whole i ∷ q ∷ []) new → Adds old (shifted_up b ++ (address_pieces x ++ operate_place 6 x ∷ coded.Whole (with_number 4 mask) ∷ change_place 6 x ∷ [])) new
part_assigned old one two new x b mask p q i e1 e2 e3 f g h =
    let last : List Coded = operate_place 6 x ∷ coded.Whole (with_number 4 mask) ∷ change_place 6 x ∷ [] in
    let same : p ∷ coded.Whole i ∷ q ∷ [] ≡ last = cc in
    adds_then old one new (shifted_up b) (address_pieces x ++ last) f (adds_then one two new (address_pieces x) last g (subst (λ ps. Adds two ps new) same h))

pub returns : goal.returns
returns c =
    part_assigned c.args.code.now c.put_shifted_up.new.code c.put_address.new.code c.put_all.new.self c.args.place c.args.b (field_mask c.args.t c.args.b) c.operate_place.result c.change_place.result c.with_number.result
    c.operate_place.ensures.value (c.with_number.ensures ∙ ap (with_number 4) c.mask.ensures) c.change_place.ensures.value c.put_shifted_up.ensures c.put_address.ensures c.put_all.ensures
