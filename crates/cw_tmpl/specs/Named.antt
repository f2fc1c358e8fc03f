-- The switches and labels of a unit that something names: an order, another segment's descriptor, which may stand for what the unit shares, and
-- of a label a switch that is named itself. No other can be reached by its landing or its routine.
use Rattle.std.specs.Prelude.{ℕ, suc, ◌==◌, ◌||◌, ◌&&◌, Bool, false, Option, Some, None, List, [], ◌∷◌}
use Rattle.std.specs.List.{list_any}
use Rattle.cw_unit.specs.declared.unit.Goal.{Goal}
use Rattle.cw_unit.specs.declared.unit.Goal.TheVariants as goal
use Rattle.cw_unit.specs.declared.unit.Def.{Def}
use Rattle.cw_unit.specs.declared.unit.Def.TheVariants as def
use Rattle.cw_order.specs.declared.order.Order.{Order}
use Rattle.cw_order.specs.declared.order.Order.TheVariants as order
use Rattle.cw_order.specs.declared.order.Orders.{Orders}

abbrev pub is_number : ℕ → Option ℕ → Bool
is_number n None = false
is_number n (Some m) = m == n

-- ---- switches

-- the switch of an order that jumps through it, or puts it as an argument
abbrev pub switch_of_order : Order → Option ℕ
switch_of_order (order.GoSwitch n line) = Some n
switch_of_order (order.SwitchOut n) = Some n
switch_of_order _ = None

abbrev pub switch_of_shared : Def → Option ℕ
switch_of_shared (def.Switch n) = Some n
switch_of_shared _ = None

abbrev pub orders_name_switch : List Order → (switch : ℕ) → Bool
orders_name_switch list n = list_any (λ o. is_number n (switch_of_order o)) list

abbrev pub shared_has_switch : List Def → (switch : ℕ) → Bool
shared_has_switch list n = list_any (λ x. is_number n (switch_of_shared x)) list

unfoldable pub is_named_switch : Orders → (switch : ℕ) → Bool
is_named_switch o n = orders_name_switch o.list n || shared_has_switch o.shared n

-- ---- labels

-- the label of an order that puts it as an argument
abbrev pub label_of_order : Order → Option ℕ
label_of_order (order.LabelOut l) = Some l
label_of_order _ = None

abbrev pub label_of_shared : Def → Option ℕ
label_of_shared (def.Label l) = Some l
label_of_shared _ = None

abbrev pub label_of_goal : Goal → Option ℕ
label_of_goal (goal.Own l) = Some l
label_of_goal (goal.Common d) = None

abbrev pub orders_name_label : List Order → (label : ℕ) → Bool
orders_name_label list l = list_any (λ o. is_number l (label_of_order o)) list

abbrev pub shared_has_label : List Def → (label : ℕ) → Bool
shared_has_label list l = list_any (λ x. is_number l (label_of_shared x)) list

abbrev pub goals_list_label : List Goal → (label : ℕ) → Bool
goals_list_label goals l = list_any (λ x. is_number l (label_of_goal x)) goals

-- a switch that is named lists it, among those from a number on
abbrev pub switches_list_label : (named : ℕ → Bool) → (switch : ℕ) → List (List Goal) → (label : ℕ) → Bool
switches_list_label named n [] l = false
switches_list_label named n (gs ∷ rest) l = (named n && goals_list_label gs l) || switches_list_label named (suc n) rest l

unfoldable pub is_named_label : Orders → (label : ℕ) → Bool
is_named_label o l = (orders_name_label o.list l || shared_has_label o.shared l) || switches_list_label (is_named_switch o) 0 o.switches l
