-- Each judgement of types answers the earliest of its faults.
use Rattle.std.proofs.Common.{◌≡◌, List, [], ◌∷◌, ◌++◌, Bool, true, false, cond, Option, Some, refl}
use Rattle.cw_tree.specs.declared.leaf.Position.{Position}
use Rattle.cw_table.proofs.Earliest.{IsOrder, order_by, keeps_nothing, keeps_one, keeps_both}
use Rattle.cw_scale.specs.declared.fault.Fault.{Fault}
use Rattle.cw_scale.specs.declared.fault.Rule.{Rule}
use Rattle.cw_scale.specs.Faults.{Judgement, comes_before, rule_number, earlier_if, fine, wrong, both}
use Rattle.cw_scale.specs.Telling.{Tells}

order : IsOrder comes_before
order = order_by (λ (f : Fault). f.at.token) (λ (f : Fault). rule_number f.rule)

chosen : (b : Bool) (f g : Fault) → earlier_if b f g ≡ cond b (Some f) (Some g)
chosen true f g = refl
chosen false f g = refl

pub tells_fine : Tells fine []
tells_fine = keeps_nothing comes_before order

pub tells_wrong : (r : Rule) (at : Position) → Tells (wrong r at) (record { rule = r; at = at } ∷ [])
tells_wrong r at = keeps_one comes_before order (wrong r at) (record { rule = r; at = at }) refl (λ y. chosen (comes_before (record { rule = r; at = at }) y) (record { rule = r; at = at }) y)

pub tells_both : (a b : Judgement) (xs ys : List Fault) → Tells a xs → Tells b ys → Tells (both a b) (xs ++ ys)
tells_both a b xs ys h k = keeps_both comes_before order a b xs ys h k

pub ruleset laws = (tells_fine, tells_wrong, tells_both)
