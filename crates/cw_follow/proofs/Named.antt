-- What names a label or a switch of a segment: an order of the list, a definition that is shared, and a switch that is named itself.
use Rattle.std.proofs.Common.{◌≡◌, ℕ, zero, suc, ◌+◌, List, [], ◌∷◌, Some, refl, sym, ap, ◌∙◌, arith}
use Rattle.std.specs.Prelude.{Bool, true, false, not, ◌||◌, ◌&&◌, ◌==◌, slice_get}
use Rattle.std.specs.List.{list_any}
use Rattle.cw_unit.specs.declared.unit.Goal.{Goal}
use Rattle.cw_unit.specs.declared.unit.Goal.TheVariants as goal
use Rattle.cw_unit.specs.declared.unit.Def.TheVariants as def
use Rattle.cw_order.specs.declared.order.Order.{Order}
use Rattle.cw_order.specs.declared.order.Orders.{Orders}
use Rattle.cw_order.specs.Sharing.{Shares}
use Rattle.cw_tmpl.specs.Named.{is_number, switch_of_order, switch_of_shared, label_of_order, label_of_shared, label_of_goal, goals_list_label, switches_list_label, is_named_switch, is_named_label}

left_true : (a b : Bool) → a ≡ true → (a || b) ≡ true
left_true true b e = refl
left_true false b e = absurd (cc)

right_true : (a b : Bool) → b ≡ true → (a || b) ≡ true
right_true true b e = refl
right_true false b e = e

any_at : {A : Type 0} (test : A → Bool) (xs : List A) (k : ℕ) (x : A) → slice_get xs k ≡ Some x → test x ≡ true → list_any test xs ≡ true
any_at test [] k x is passes = absurd (cc)
any_at test (y ∷ ys) zero x is passes = let same : y ≡ x = cc in left_true (test y) (list_any test ys) (ap test same ∙ passes)
any_at test (y ∷ ys) (suc k) x is passes = right_true (test y) (list_any test ys) (any_at test ys k x is passes)

itself : (n : ℕ) → (n == n) ≡ true
itself n = grind arith

-- ---- switches

pub order_names_switch : (o : Orders) (k n : ℕ) (it : Order) → slice_get o.list k ≡ Some it → switch_of_order it ≡ Some n → is_named_switch o n ≡ true
unfolding is_named_switch
order_names_switch o k n it is names =
    left_true _ _ (any_at (λ x. is_number n (switch_of_order x)) o.list k it is (ap (is_number n) names ∙ itself n))

pub shared_switch_named : (o : Orders) (n : ℕ) → Shares o (def.Switch n) → is_named_switch o n ≡ true
unfolding is_named_switch
shared_switch_named o n s = right_true _ _ (any_at (λ x. is_number n (switch_of_shared x)) o.shared s.0 (def.Switch n) s.1 (itself n))

-- ---- labels

pub order_names_label : (o : Orders) (k l : ℕ) (it : Order) → slice_get o.list k ≡ Some it → label_of_order it ≡ Some l → is_named_label o l ≡ true
unfolding is_named_label
order_names_label o k l it is names =
    left_true _ _ (left_true _ _ (any_at (λ x. is_number l (label_of_order x)) o.list k it is (ap (is_number l) names ∙ itself l)))

pub shared_label_named : (o : Orders) (l : ℕ) → Shares o (def.Label l) → is_named_label o l ≡ true
unfolding is_named_label
shared_label_named o l s = left_true _ _ (right_true _ _ (any_at (λ x. is_number l (label_of_shared x)) o.shared s.0 (def.Label l) s.1 (itself l)))

both : (a b : Bool) → a ≡ true → b ≡ true → (a && b) ≡ true
both true b e f = f
both false b e f = absurd (cc)

listed : (named : ℕ → Bool) (l n k j : ℕ) (list : List (List Goal)) (gs : List Goal) → slice_get list k ≡ Some gs → named (n + k) ≡ true → slice_get gs j ≡ Some (goal.Own l) → switches_list_label named n list l ≡ true
listed named l n k j [] gs is is_named here = absurd (cc)
listed named l n zero j (x ∷ xs) gs is is_named here =
    let same : x ≡ gs = cc in
    let none : n + 0 ≡ n = omega arith in
    left_true _ _ (both (named n) (goals_list_label x l) (ap named (sym none) ∙ is_named) (ap (λ y. goals_list_label y l) same ∙ any_at (λ y. is_number l (label_of_goal y)) gs j (goal.Own l) here (itself l)))
listed named l n (suc k) j (x ∷ xs) gs is is_named here =
    let more : suc n + k ≡ n + suc k = omega arith in
    right_true _ _ (listed named l (suc n) k j xs gs is (ap named more ∙ is_named) here)

-- one of the body that is named has a landing
pub label_lands : (o : Orders) (l : ℕ) (in_procedure : Bool) → is_named_label o l ≡ true → in_procedure ≡ false → (is_named_label o l && not in_procedure) ≡ true
label_lands o l in_procedure named body = both (is_named_label o l) (not in_procedure) named (ap not body)

-- a label that a named switch lists
pub listed_label_named : (o : Orders) (l n j : ℕ) (gs : List Goal) → slice_get o.switches n ≡ Some gs → is_named_switch o n ≡ true → slice_get gs j ≡ Some (goal.Own l) → is_named_label o l ≡ true
unfolding is_named_label
listed_label_named o l n j gs is is_named here =
    let number : 0 + n ≡ n = omega arith in
    right_true _ _ (listed (is_named_switch o) l 0 n j o.switches gs is (ap (is_named_switch o) number ∙ is_named) here)
