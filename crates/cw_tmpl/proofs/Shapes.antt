-- The orders of a block stand at the front of the list that it begins.
use Rattle.std.proofs.Common.{◌≡◌, ℕ, zero, suc, ◌+◌, ℤ, pos, List, [], ◌∷◌, ◌++◌, length, drop, Bool, true, false, Option, Some, None, refl, sym, ap, ap₂, ◌∙◌, subst, arith, append_assoc, length-append}
use Rattle.std.proofs.lemmas.Bool.{false≢true}
use Rattle.std.proofs.lemmas.Bool.Decides.{nat_tests}
use Rattle.std.proofs.lemmas.Option.{none-some}
use Rattle.std.specs.Prelude.{slice_get, if◌then◌else◌, negsuc, ◌==◌, ◌&&◌, int_le, ◌-ℤ◌}
use Rattle.cw_order.specs.declared.order.Order.{Order}
use Rattle.cw_order.specs.declared.order.Order.TheVariants as order
use Rattle.cw_order.specs.declared.order.Place.{Place}
use Rattle.cw_order.specs.declared.order.Place.TheVariants as cell
use Rattle.cw_tmpl.specs.declared.blocks.Element.{Element}
use Rattle.cw_tmpl.specs.declared.blocks.Test.{Test}
use Rattle.cw_tmpl.specs.declared.blocks.Test.TheVariants as test
use Rattle.cw_tmpl.specs.declared.blocks.Simple.{Simple}
use Rattle.cw_tmpl.specs.declared.blocks.Simple.TheVariants as simple
use Rattle.cw_tmpl.specs.declared.blocks.Bounds.{Bounds}
use Rattle.cw_tmpl.specs.declared.blocks.Form.{Form}
use Rattle.cw_tmpl.specs.declared.blocks.Form.TheVariants as form
use Rattle.cw_tmpl.specs.declared.blocks.Bounded.{Bounded}
use Rattle.cw_tmpl.specs.declared.rows.Column.{Column}
use Rattle.cw_tmpl.specs.declared.rows.Column.TheVariants as column
use Rattle.cw_tmpl.specs.declared.rows.Row.{Row}
use Rattle.cw_tmpl.specs.declared.blocks.Use.{Use}
use Rattle.cw_tmpl.specs.declared.blocks.Use.TheVariants as uses
use Rattle.cw_tmpl.specs.declared.blocks.Block.{Block}
use Rattle.cw_tmpl.specs.declared.blocks.Block.TheVariants as block
use Rattle.cw_tmpl.specs.Blocks.{address_orders, element_orders, operand_orders, order_of, count_order, orders_before, last_order, place_at, use_of, zero_word, is_within, address_test, is_save, is_load, element_addressed, element_bounded, element_with, element_of, element_at, with_use, fetched, fetched_from, assigned, is_part, TestsWithin, OperandWithin, NamesParts, block_at, is_plain_divisor, halving_places, halved, divided, number_scaled, number_used, with_number, saved, saved_from, element_fetched, element_used, element_saved, fetched_or, saved_or, orders_to_form, form_order, form_of, form_within, bounded_as, behind_bounds, column_orders, orders_in_row, orders_to_row, row_order, bounds_at, column_at, same_bound, row_within, item_of, row_made, row_formed, row_behind, row_saved, row_at, row_or, block_if_saved, block_from, block_alone, compared_or, both_or, fetched_behind, joined, block_of}

pub front_is : (list : List Order) (k : ℕ) (o : Order) → slice_get list k ≡ Some o → drop k list ≡ o ∷ drop (suc k) list
front_is [] k o e = absurd (cc)
front_is (x ∷ xs) zero o e = let same : x ≡ o = cc in ap (λ y. y ∷ xs) same
front_is (x ∷ xs) (suc k) o e = front_is xs k o e

-- orders at the front of a list, and one behind them
abbrev pub BeginsWith : (before : List Order) → Order → List Order → Type 0
BeginsWith before o os = os ≡ before ++ o ∷ drop (suc (length before)) os

-- the word that index 0 of an element names is known to be in the data area, or all words between its bounds are
abbrev pub TestNear : Element → Test → Type 0
TestNear e (test.Address origin) = zero_word e.lower e.span e.first ≡ Some origin
TestNear e (test.Bounds upper line) = is_within (upper -ℤ e.lower) e.span ≡ true

abbrev pub IsNear : Element → Type 0
IsNear e = TestNear e e.test

-- what is known of the element of an operand
abbrev pub OperandIs : Simple → Type 0
OperandIs (simple.Element e) = IsNear e
OperandIs s = Unit {0}

-- what is known of a list, by the block that it begins
abbrev pub IsBlock : Block → List Order → Type 0
IsBlock (block.Within n) os = ⊥
IsBlock block.Single os = Unit {0}
IsBlock (block.Divide w line) os = BeginsWith (order.Save ∷ order.Const w ∷ []) (order.Div (pos 0) line) os × (is_plain_divisor w ≡ true)
IsBlock (block.Halve w power places line) os = BeginsWith (order.Save ∷ order.Const w ∷ []) (order.Mul power line) os × (halving_places w power ≡ Some places)
IsBlock (block.FetchElement e) os = BeginsWith (element_orders e) order.Load os × IsNear e
IsBlock (block.AssignElement e) os = BeginsWith (order.Save ∷ element_orders e) order.Store os × IsNear e
IsBlock (block.Operate s u) os = BeginsWith (order.Save ∷ operand_orders s) (order_of u) os × OperandIs s
IsBlock (block.FetchPart x t b is_signed) os = BeginsWith (address_orders x) (order.LoadPart t b is_signed) os × (is_part t b ≡ true)
IsBlock (block.AssignPart x t b) os = BeginsWith (order.Save ∷ address_orders x) (order.StorePart t b) os × (is_part t b ≡ true)
IsBlock (block.Bounded b) os = BeginsWith (orders_to_form b) (form_order b.bounds.lower b.form) os × (form_within b.bounds b.first b.form ≡ true)
IsBlock (block.Row r) os = BeginsWith (orders_to_row r) (row_order r) os × (row_within r ≡ true)
IsBlock b os = BeginsWith (orders_before b) (last_order b) os

with_last : (before os : List Order) (o : Order) → os ≡ before ++ drop (length before) os → slice_get os (length before) ≡ Some o → BeginsWith before o os
with_last before os o e is = e ∙ ap (λ l. before ++ l) (front_is os (length before) o is)

behind_save : (before os : List Order) (o : Order) → BeginsWith before o os → BeginsWith (order.Save ∷ before) o (order.Save ∷ os)
behind_save before os o e = ap (λ l. order.Save ∷ l) e

place_shape : (os : List Order) (x : Place) → place_at os ≡ Some x → os ≡ address_orders x ++ drop (length (address_orders x)) os
place_shape [] x e = absurd (none-some x e)
place_shape (order.Home f n ∷ os) x e =
    let same : cell.Word f n ≡ x = cc in
    subst (λ y. order.Home f n ∷ os ≡ address_orders y ++ drop (length (address_orders y)) (order.Home f n ∷ os)) same refl
place_shape (order.FrameHome n ∷ os) x e =
    let same : cell.Frame n ≡ x = cc in
    subst (λ y. order.FrameHome n ∷ os ≡ address_orders y ++ drop (length (address_orders y)) (order.FrameHome n ∷ os)) same refl
place_shape (_ ∷ os) x e = absurd (none-some x e)

as_used : (o : Order) (v u : Use) → order_of v ≡ o → Some v ≡ Some u → Some o ≡ Some (order_of u)
as_used o v u is e = let same : v ≡ u = cc in ap Some (sym is ∙ ap order_of same)

use_shape : (next : Option Order) (u : Use) → use_of next ≡ Some u → next ≡ Some (order_of u)
use_shape None u e = absurd (none-some u e)
use_shape (Some (order.Add line)) u e = as_used (order.Add line) (uses.Add line) u refl e
use_shape (Some (order.Sub line)) u e = as_used (order.Sub line) (uses.Subtract line) u refl e
use_shape (Some (order.Mul (pos zero) line)) u e = as_used (order.Mul (pos zero) line) (uses.Multiply line) u refl e
use_shape (Some order.And) u e = as_used order.And uses.Mask u refl e
use_shape (Some order.Or) u e = as_used order.Or uses.Union u refl e
use_shape (Some order.Xor) u e = as_used order.Xor uses.Differ u refl e
use_shape (Some (order.JumpIf c m)) u e = as_used (order.JumpIf c m) (uses.Compare c m) u refl e
use_shape (Some _) u e = absurd (none-some u e)

-- what is known of an element that the orders at the front of a list make
abbrev pub IsElement : List Order → Element → Type 0
IsElement os e = (os ≡ element_orders e ++ drop (length (element_orders e)) os) × IsNear e

-- two bounds of which neither is below the other
both_bounds : (a b : ℤ) → (int_le a b && int_le b a) ≡ true → a ≡ b
both_bounds (pos m) (pos n) e = let same : m ≡ n = grind (arith, nat_tests) in ap pos same
both_bounds (pos m) (negsuc n) e = absurd (cc)
both_bounds (negsuc m) (pos n) e = absurd (cc)
both_bounds (negsuc m) (negsuc n) e = let same : m ≡ n = grind (arith, nat_tests) in ap negsuc same

is_a_save : (o : Option Order) → is_save o ≡ true → o ≡ Some order.Save
is_a_save (Some order.Save) e = refl
is_a_save None e = absurd (false≢true e)
is_a_save (Some _) e = absurd (false≢true e)

is_a_load : (o : Option Order) → is_load o ≡ true → o ≡ Some order.Load
is_a_load (Some order.Load) e = refl
is_a_load None e = absurd (false≢true e)
is_a_load (Some _) e = absurd (false≢true e)

-- the orders that make the address of an element
element_shape : (os : List Order) (e : Element) → element_at (place_at os) os ≡ Some e → IsElement os e
element_shape os e is = placed (place_at os) refl is
  where
    behind : (A last : List Order) (n : ℕ) → length last ≡ n → os ≡ A ++ (last ++ drop (length A + n) os) → os ≡ (A ++ last) ++ drop (length (A ++ last)) os
    behind A last n long there =
        let all : length (A ++ last) ≡ length A + n = length-append A last ∙ ap (λ k. length A + k) long in
        there ∙ sym (append_assoc A last (drop (length A + n) os)) ∙ ap (λ k. (A ++ last) ++ drop k os) (sym all)

    known : (E : Element) → Some E ≡ Some e → IsElement os E → IsElement os e
    known E is h =
        let same : E ≡ e = cc in
        subst (λ y. IsElement os y) same h

    addressed : (x : Place) (f n : ℕ) (l : ℤ) (s line : ℕ) (z : Option ℕ) → zero_word l s n ≡ z
        → os ≡ address_orders x ++ order.Load ∷ order.Save ∷ order.Home f n ∷ order.Element l s line ∷ drop (length (address_orders x) + 4) os
        → element_with (address_test z) x f n l s line ≡ Some e → IsElement os e
    addressed x f n l s line None near there is = absurd (cc)
    addressed x f n l s line (Some z) near there is =
        known (record { index = x; family = f; first = n; lower = l; span = s; line = line; test = test.Address z }) is
        (behind (address_orders x) (order.Load ∷ order.Save ∷ order.Home f n ∷ order.Element l s line ∷ []) 4 refl there, near)

    bounded : (x : Place) (f n : ℕ) (l u : ℤ) (at : ℕ) (begins : ℤ) (s line : ℕ) (same within : Bool) → (int_le l begins && int_le begins l) ≡ same → is_within (u -ℤ l) s ≡ within
        → os ≡ address_orders x ++ order.Load ∷ order.InBounds l u at ∷ order.Save ∷ order.Home f n ∷ order.Element begins s line ∷ drop (length (address_orders x) + 5) os
        → element_with (if same && within then Some (test.Bounds u at) else None) x f n begins s line ≡ Some e → IsElement os e
    bounded x f n l u at begins s line true true both near there is =
        let lowers : l ≡ begins = both_bounds l begins both in
        let E : Element = record { index = x; family = f; first = n; lower = begins; span = s; line = line; test = test.Bounds u at } in
        known E is (
          behind (address_orders x) (order.Load ∷ order.InBounds begins u at ∷ order.Save ∷ order.Home f n ∷ order.Element begins s line ∷ []) 5 refl
              (there ∙ ap (λ k. address_orders x ++ order.Load ∷ order.InBounds k u at ∷ order.Save ∷ order.Home f n ∷ order.Element begins s line ∷ drop (length (address_orders x) + 5) os) lowers),
          ap (λ k. is_within (u -ℤ k) s) (sym lowers) ∙ near,
        )
    bounded x f n l u at begins s line true false both near there is = absurd (cc)
    bounded x f n l u at begins s line false within both near there is = absurd (cc)

    next : (k : ℕ) (o : Order) → slice_get os k ≡ Some o → drop k os ≡ o ∷ drop (k + 1) os
    next k o e =
        let k1 : k + 1 ≡ suc k = omega arith in
        front_is os k o e ∙ ap (λ m. o ∷ drop m os) (sym k1)

    further : (k n : ℕ) (o : Order) → slice_get os (k + n) ≡ Some o → drop (k + n) os ≡ o ∷ drop (k + (n + 1)) os
    further k n o e =
        let k1 : k + n + 1 ≡ k + (n + 1) = omega arith in
        next (k + n) o e ∙ ap (λ m. o ∷ drop m os) k1

    addressed_at : (x : Place) (puts forms : Option Order) → slice_get os (length (address_orders x) + 1) ≡ Some order.Save → slice_get os (length (address_orders x) + 2) ≡ puts
        → slice_get os (length (address_orders x) + 3) ≡ forms → os ≡ address_orders x ++ order.Load ∷ drop (length (address_orders x) + 1) os
        → element_addressed x puts forms ≡ Some e → IsElement os e
    addressed_at x (Some (order.Home f n)) (Some (order.Element l s line)) e2 e3 e4 there is =
        let k = length (address_orders x) in
        addressed x f n l s line (zero_word l s n) refl
        (there ∙ ap (λ r. address_orders x ++ order.Load ∷ r)
        (further k 1 order.Save e2 ∙ ap (λ r. order.Save ∷ r) (further k 2 (order.Home f n) e3 ∙ ap (λ r. order.Home f n ∷ r) (further k 3 (order.Element l s line) e4)))) is
    addressed_at x _ _ e2 e3 e4 there is = absurd (none-some e is)

    bounded_at : (x : Place) (puts forms bounds : Option Order) → slice_get os (length (address_orders x) + 1) ≡ bounds → slice_get os (length (address_orders x) + 2) ≡ Some order.Save
        → slice_get os (length (address_orders x) + 3) ≡ puts → slice_get os (length (address_orders x) + 4) ≡ forms → os ≡ address_orders x ++ order.Load ∷ drop (length (address_orders x) + 1) os
        → element_bounded x bounds puts forms ≡ Some e → IsElement os e
    bounded_at x (Some (order.Home f n)) (Some (order.Element begins s line)) (Some (order.InBounds l u at)) e2 e3 e4 e5 there is =
        let k = length (address_orders x) in
        bounded x f n l u at begins s line (int_le l begins && int_le begins l) (is_within (u -ℤ l) s) refl refl
        (there ∙ ap (λ r. address_orders x ++ order.Load ∷ r)
        (further k 1 (order.InBounds l u at) e2 ∙ ap (λ r. order.InBounds l u at ∷ r)
        (further k 2 order.Save e3 ∙ ap (λ r. order.Save ∷ r) (further k 3 (order.Home f n) e4 ∙ ap (λ r. order.Home f n ∷ r) (further k 4 (order.Element begins s line) e5))))) is
    bounded_at x _ _ _ e2 e3 e4 e5 there is = absurd (none-some e is)

    formed : (x : Place) (second third : Option Order) (first_saves then_saves : Bool) → slice_get os (length (address_orders x) + 1) ≡ second → slice_get os (length (address_orders x) + 2) ≡ third
        → is_save second ≡ first_saves → is_save third ≡ then_saves → os ≡ address_orders x ++ order.Load ∷ drop (length (address_orders x) + 1) os
        → (let k = length (address_orders x) in
        (if first_saves then element_addressed x third (slice_get os (k + 3)) else if then_saves then element_bounded x second (slice_get os (k + 3)) (slice_get os (k + 4)) else None) ≡ Some e)
        → IsElement os e
    formed x second third true then_saves e2 e3 one two there is =
        let k = length (address_orders x) in
        addressed_at x third (slice_get os (k + 3)) (e2 ∙ is_a_save second one) e3 refl there is
    formed x second third false true e2 e3 one two there is =
        let k = length (address_orders x) in
        bounded_at x (slice_get os (k + 3)) (slice_get os (k + 4)) second e2 (e3 ∙ is_a_save third two) refl refl there is
    formed x second third false false e2 e3 one two there is = absurd (cc)

    loading : (x : Place) (loads : Bool) → is_load (slice_get os (length (address_orders x))) ≡ loads → os ≡ address_orders x ++ drop (length (address_orders x)) os
        → (let k = length (address_orders x) in
        (if loads then element_of x (slice_get os (k + 1)) (slice_get os (k + 2)) (slice_get os (k + 3)) (slice_get os (k + 4)) else None) ≡ Some e) → IsElement os e
    loading x true e1 there is =
        let k = length (address_orders x) in
        formed x (slice_get os (k + 1)) (slice_get os (k + 2)) (is_save (slice_get os (k + 1))) (is_save (slice_get os (k + 2))) refl refl refl refl
        (there ∙ ap (λ r. address_orders x ++ r) (next k order.Load (is_a_load (slice_get os k) e1))) is
    loading x false e1 there is = absurd (cc)

    placed : (x : Option Place) → place_at os ≡ x → element_at x os ≡ Some e → IsElement os e
    placed None at is = absurd (cc)
    placed (Some x) at is = loading x (is_load (slice_get os (length (address_orders x)))) refl (place_shape os x at) is

-- an operand, and the order behind it that uses it
operand_used : (os before : List Order) (last : Order) → os ≡ before ++ drop (length before) os → slice_get os (length before) ≡ Some last
    → (os ≡ (before ++ last ∷ []) ++ drop (length (before ++ last ∷ [])) os) × (length (before ++ last ∷ []) ≡ length before + 1)
operand_used os before last e is =
    let long : length (before ++ last ∷ []) ≡ length before + 1 = length-append before (last ∷ []) in
    let next : suc (length before) ≡ length (before ++ last ∷ []) = omega (arith, long) in
    (with_last before os last e is ∙ sym (append_assoc before (last ∷ []) (drop (suc (length before)) os)) ∙ ap (λ n. (before ++ last ∷ []) ++ drop n os) next, long)

module _ (os : List Order) where
  fetched_shape : IsBlock (fetched_from (place_at os) os) os
  fetched_shape = cases (place_at os) refl
    where
      parted : (i : Bool) (x : Place) (t b : ℕ) (is_signed : Bool) → is_part t b ≡ i → BeginsWith (address_orders x) (order.LoadPart t b is_signed) os → IsBlock (if i then block.FetchPart x t b is_signed else block.Single) os
      parted true x t b is_signed is e = (e, is)
      parted false x t b is_signed is e = tt

      loaded : (x : Place) (o : Option Order) → slice_get os (length (address_orders x)) ≡ o → os ≡ address_orders x ++ drop (length (address_orders x)) os → IsBlock (fetched x o) os
      loaded x (Some order.Load) is e = with_last (address_orders x) os order.Load e is
      loaded x (Some (order.LoadPart t b is_signed)) is e = parted (is_part t b) x t b is_signed refl (with_last (address_orders x) os (order.LoadPart t b is_signed) e is)
      loaded x _ is e = tt

      cases : (x : Option Place) → place_at os ≡ x → IsBlock (fetched_from x os) os
      cases None e = tt
      cases (Some x) e = loaded x (slice_get os (length (address_orders x))) refl (place_shape os x e)

  -- behind a Save
  used : (s : Simple) (next : Option Order) (u : Option Use) → OperandIs s → use_of next ≡ u → os ≡ operand_orders s ++ drop (length (operand_orders s)) os → slice_get os (length (operand_orders s)) ≡ next → IsBlock (with_use s u) (order.Save ∷ os)
  used s next None known is e there = tt
  used s next (Some u) known is e there = (behind_save (operand_orders s) os (order_of u) (with_last (operand_orders s) os (order_of u) e (there ∙ use_shape next u is)), known)

  quotient_shape : (b : Bool) (w line : ℕ) → is_plain_divisor w ≡ b → BeginsWith (order.Save ∷ order.Const w ∷ []) (order.Div (pos 0) line) (order.Save ∷ os)
      → IsBlock (if b then block.Divide w line else block.Single) (order.Save ∷ os)
  quotient_shape true w line is e = (e, is)
  quotient_shape false w line is e = tt

  halved_shape : (w : ℕ) (power : ℤ) (line : ℕ) (n : Option ℕ) → halving_places w power ≡ n → BeginsWith (order.Save ∷ order.Const w ∷ []) (order.Mul power line) (order.Save ∷ os)
      → IsBlock (halved w power line n) (order.Save ∷ os)
  halved_shape w power line None is e = tt
  halved_shape w power line (Some n) is e = (e, is)

  counted_shape : (b : Bool) (w : ℕ) (down : Bool) (line : ℕ) (u : Use) → (w == 1) ≡ b → order_of u ≡ count_order down line → BeginsWith (order.Save ∷ order.Const w ∷ []) (count_order down line) (order.Save ∷ os)
      → IsBlock (if b then block.Count down line else block.Operate (simple.Number w) u) (order.Save ∷ os)
  counted_shape true w down line u is same e =
      let one : w ≡ 1 = grind (arith, nat_tests) in
      subst (λ n. BeginsWith (order.Save ∷ order.Const n ∷ []) (count_order down line) (order.Save ∷ os)) one e
  counted_shape false w down line u is same e = (subst (λ o. BeginsWith (order.Save ∷ order.Const w ∷ []) o (order.Save ∷ os)) (sym same) e, tt)

  divided_shape : (w : ℕ) (power : ℤ) (line : ℕ) → BeginsWith (order.Save ∷ order.Const w ∷ []) (order.Div power line) (order.Save ∷ os) → IsBlock (divided w power line) (order.Save ∷ os)
  divided_shape w (pos zero) line e = quotient_shape (is_plain_divisor w) w line refl e
  divided_shape w (pos (suc n)) line e = tt
  divided_shape w (negsuc n) line e = tt

  scaled_shape : (w : ℕ) (next : Option Order) → slice_get os 1 ≡ next → os ≡ order.Const w ∷ drop 1 os → IsBlock (number_scaled w next) (order.Save ∷ os)
  scaled_shape w (Some (order.Div power line)) is e = divided_shape w power line (behind_save (order.Const w ∷ []) os (order.Div power line) (with_last (order.Const w ∷ []) os (order.Div power line) e is))
  scaled_shape w (Some (order.Mul power line)) is e =
      halved_shape w power line (halving_places w power) refl (behind_save (order.Const w ∷ []) os (order.Mul power line) (with_last (order.Const w ∷ []) os (order.Mul power line) e is))
  scaled_shape w _ is e = tt

  number_shape : (w : ℕ) (next : Option Order) → slice_get os 1 ≡ next → os ≡ order.Const w ∷ drop 1 os → IsBlock (with_number w next) (order.Save ∷ os)
  number_shape w next is e = cases (use_of next) refl
    where
      there : (u : Use) → use_of next ≡ Some u → BeginsWith (order.Save ∷ order.Const w ∷ []) (order_of u) (order.Save ∷ os)
      there u same = behind_save (order.Const w ∷ []) os (order_of u) (with_last (order.Const w ∷ []) os (order_of u) e (is ∙ use_shape next u same))

      cases : (u : Option Use) → use_of next ≡ u → IsBlock (number_used w u next) (order.Save ∷ os)
      cases None same = scaled_shape w next is e
      cases (Some (uses.Add line)) same = counted_shape (w == 1) w false line (uses.Add line) refl refl (there (uses.Add line) same)
      cases (Some (uses.Subtract line)) same = counted_shape (w == 1) w true line (uses.Subtract line) refl refl (there (uses.Subtract line) same)
      cases (Some (uses.Multiply line)) same = (there (uses.Multiply line) same, tt)
      cases (Some uses.Mask) same = (there uses.Mask same, tt)
      cases (Some uses.Union) same = (there uses.Union same, tt)
      cases (Some uses.Differ) same = (there uses.Differ same, tt)
      cases (Some (uses.Compare c m)) same = (there (uses.Compare c m) same, tt)

  other_shape : (here next : Option Order) → slice_get os 0 ≡ here → slice_get os 1 ≡ next → IsBlock (saved here next) (order.Save ∷ os)
  other_shape (Some (order.Const w)) next is there = number_shape w next there (front_is os 0 (order.Const w) is)
  other_shape (Some order.WriteByte) next is there = behind_save [] os order.WriteByte (with_last [] os order.WriteByte refl is)
  other_shape _ next is there = tt

  assigned_shape : (x : Place) (here next : Option Order) → slice_get os (length (address_orders x)) ≡ here → slice_get os (length (address_orders x) + 1) ≡ next
      → os ≡ address_orders x ++ drop (length (address_orders x)) os → IsBlock (assigned x here next) (order.Save ∷ os)
  assigned_shape x (Some order.Load) next is there e =
      let c = operand_used os (address_orders x) order.Load e is in
      used (simple.Contents x) next (use_of next) tt refl c.0 (ap (slice_get os) c.1 ∙ there)
  assigned_shape x (Some order.Store) next is there e = behind_save (address_orders x) os order.Store (with_last (address_orders x) os order.Store e is)
  assigned_shape x (Some (order.StorePart t b)) next is there e = parted (is_part t b) refl
    where
      parted : (i : Bool) → is_part t b ≡ i → IsBlock (if i then block.AssignPart x t b else block.Single) (order.Save ∷ os)
      parted true same = (behind_save (address_orders x) os (order.StorePart t b) (with_last (address_orders x) os (order.StorePart t b) e is), same)
      parted false same = tt
  assigned_shape x _ next is there e = tt

  saved_shape : IsBlock (saved_from (place_at os) os) (order.Save ∷ os)
  saved_shape = cases (place_at os) refl
    where
      cases : (x : Option Place) → place_at os ≡ x → IsBlock (saved_from x os) (order.Save ∷ os)
      cases None e = other_shape (slice_get os 0) (slice_get os 1) refl refl
      cases (Some x) e = assigned_shape x (slice_get os (length (address_orders x))) (slice_get os (length (address_orders x) + 1)) refl refl (place_shape os x e)

  -- an element, and another block where it is neither fetched, assigned nor used
  fetched_or_shape : (other : Block) → IsBlock other os → IsBlock (fetched_or (element_at (place_at os) os) os other) os
  fetched_or_shape other is = cases (element_at (place_at os) os) refl
    where
      loaded : (e : Element) (o : Option Order) → slice_get os (length (element_orders e)) ≡ o → IsElement os e → IsBlock (element_fetched e o other) os
      loaded e (Some order.Load) there h = (with_last (element_orders e) os order.Load h.0 there, h.1)
      loaded e _ there h = is

      cases : (x : Option Element) → element_at (place_at os) os ≡ x → IsBlock (fetched_or x os other) os
      cases None at = is
      cases (Some e) at = loaded e (slice_get os (length (element_orders e))) refl (element_shape os e at)

  saved_or_shape : (other : Block) → IsBlock other (order.Save ∷ os) → IsBlock (saved_or (element_at (place_at os) os) os other) (order.Save ∷ os)
  saved_or_shape other is = cases (element_at (place_at os) os) refl
    where
      taken : (e : Element) (next : Option Order) (u : Option Use) → use_of next ≡ u → slice_get os (length (element_orders e)) ≡ Some order.Load → slice_get os (length (element_orders e) + 1) ≡ next
          → IsElement os e → IsBlock (element_used e u other) (order.Save ∷ os)
      taken e next None same there behind h = is
      taken e next (Some u) same there behind h =
          let c = operand_used os (element_orders e) order.Load h.0 there in
          used (simple.Element e) next (Some u) h.1 same c.0 (ap (slice_get os) c.1 ∙ behind)

      stored : (e : Element) (here next : Option Order) → slice_get os (length (element_orders e)) ≡ here → slice_get os (length (element_orders e) + 1) ≡ next
          → IsElement os e → IsBlock (element_saved e here next other) (order.Save ∷ os)
      stored e (Some order.Load) next there behind h = taken e next (use_of next) refl there behind h
      stored e (Some order.Store) next there behind h = (behind_save (element_orders e) os order.Store (with_last (element_orders e) os order.Store h.0 there), h.1)
      stored e _ next there behind h = is

      cases : (x : Option Element) → element_at (place_at os) os ≡ x → IsBlock (saved_or x os other) (order.Save ∷ os)
      cases None at = is
      cases (Some e) at = stored e (slice_get os (length (element_orders e))) (slice_get os (length (element_orders e) + 1)) refl refl (element_shape os e at)

-- behind the comparison of an index with bounds
form_shape : (lower : ℤ) (o : Option Order) (w : Form) → form_of lower o ≡ Some w → o ≡ Some (form_order lower w)
form_shape lower None w is = absurd (none-some w is)
form_shape lower (Some (order.Element l span line)) w is = cases (int_le lower l && int_le l lower) refl is
  where
    cases : (same : Bool) → (int_le lower l && int_le l lower) ≡ same → (if same then Some (form.Element span line) else None) ≡ Some w → Some (order.Element l span line) ≡ Some (form_order lower w)
    cases true both is =
        let made : form.Element span line ≡ w = cc in
        let lowers : lower ≡ l = both_bounds lower l both in
        ap (λ k. Some (order.Element k span line)) (sym lowers) ∙ ap (λ y. Some (form_order lower y)) made
    cases false both is = absurd (cc)
form_shape lower (Some (order.Entry width word span line)) w is =
    let made : form.Entry width word span line ≡ w = cc in
    ap (λ y. Some (form_order lower y)) made
form_shape lower (Some _) w is = absurd (none-some w is)

bounded_shape : (os : List Order) (b : Bounds) (saves puts forms : Option Order) → slice_get os 0 ≡ saves → slice_get os 1 ≡ puts → slice_get os 2 ≡ forms
    → IsBlock (behind_bounds b saves puts forms) (order.InBounds b.lower b.upper b.line ∷ os)
bounded_shape os b (Some order.Save) (Some (order.Home f n)) forms e0 e1 e2 = cases (form_of b.lower forms) refl
  where
    first : os ≡ order.Save ∷ order.Home f n ∷ drop 2 os
    first = front_is os 0 order.Save e0 ∙ ap (λ l. order.Save ∷ l) (front_is os 1 (order.Home f n) e1)

    within : (B : Bounded) (i : Bool) → form_within B.bounds B.first B.form ≡ i → BeginsWith (orders_to_form B) (form_order B.bounds.lower B.form) (order.InBounds b.lower b.upper b.line ∷ os)
        → IsBlock (if i then block.Bounded B else block.Single) (order.InBounds b.lower b.upper b.line ∷ os)
    within B true is e = (e, is)
    within B false is e = tt

    cases : (w : Option Form) → form_of b.lower forms ≡ w → IsBlock (bounded_as b f n w) (order.InBounds b.lower b.upper b.line ∷ os)
    cases None is = tt
    cases (Some w) is =
        let B : Bounded = record { bounds = b; family = f; first = n; form = w } in
        within B (form_within b n w) refl
        (ap (λ l. order.InBounds b.lower b.upper b.line ∷ l)
        (first ∙ ap (λ l. order.Save ∷ order.Home f n ∷ l) (front_is os 2 (form_order b.lower w) (e2 ∙ form_shape b.lower forms w is))))
bounded_shape os b _ _ forms e0 e1 e2 = tt

-- an element of two dimensions
column_shape : (os : List Order) (c : Column) → column_at os ≡ Some c → os ≡ column_orders c ++ drop (length (column_orders c)) os
column_shape (order.Const w ∷ os) c is =
    let same : column.Number w ≡ c = cc in
    subst (λ y. order.Const w ∷ os ≡ column_orders y ++ drop (length (column_orders y)) (order.Const w ∷ os)) same refl
column_shape (order.Home f n ∷ order.Load ∷ os) c is =
    let same : column.Contents (cell.Word f n) ≡ c = cc in
    subst (λ y. order.Home f n ∷ order.Load ∷ os ≡ column_orders y ++ drop (length (column_orders y)) (order.Home f n ∷ order.Load ∷ os)) same refl
column_shape (order.FrameHome n ∷ order.Load ∷ os) c is =
    let same : column.Contents (cell.Frame n) ≡ c = cc in
    subst (λ y. order.FrameHome n ∷ order.Load ∷ os ≡ column_orders y ++ drop (length (column_orders y)) (order.FrameHome n ∷ order.Load ∷ os)) same refl
column_shape (_ ∷ _) c is = absurd (none-some c is)
column_shape [] c is = absurd (none-some c is)

-- bounds that an order compares an index with
bounds_there : (o : Option Order) (b : Bounds) → bounds_at o ≡ Some b → o ≡ Some (order.InBounds b.lower b.upper b.line)
bounds_there (Some (order.InBounds l u line)) b is =
    let same : record { lower = l; upper = u; line = line } ≡ b = cc in
    ap (λ y. Some (order.InBounds y.lower y.upper y.line)) same
bounds_there None b is = absurd (none-some b is)
bounds_there (Some _) b is = absurd (none-some b is)

-- what is known of an element of two dimensions that the orders at the front of a list make
abbrev IsRow : List Order → Row → Type 0
IsRow os r = BeginsWith (orders_to_row r) (row_order r) os × (row_within r ≡ true)

row_made_shape : (rows : Bounds) (c : Column) (os : List Order) (columns : Bounds) (puts forms : Option Order) (r : Row) → os ≡ column_orders c ++ drop (length (column_orders c)) os
    → slice_get os (length (column_orders c)) ≡ Some (order.InBounds columns.lower columns.upper columns.line) → slice_get os (length (column_orders c) + 1) ≡ Some order.Save
    → slice_get os (length (column_orders c) + 2) ≡ puts → slice_get os (length (column_orders c) + 3) ≡ forms
    → row_made rows c columns (item_of puts forms) ≡ Some r → IsRow (order.InBounds rows.lower rows.upper rows.line ∷ order.Save ∷ os) r
row_made_shape rows c os columns (Some (order.Home f n)) (Some (order.ElementInside l1 l2 width span)) r there e0 e1 e2 e3 is =
    cases (same_bound rows.lower l1) (same_bound columns.lower l2) refl refl (row_within R) refl is
  where
    k : ℕ
    k = length (column_orders c)

    R : Row
    R = record { rows = rows; column = c; columns = columns; family = f; first = n; width = width; span = span }

    next : (i j : ℕ) (o : Order) → j ≡ suc i → slice_get os i ≡ Some o → drop i os ≡ o ∷ drop j os
    next i j o one e = front_is os i o e ∙ ap (λ m. o ∷ drop m os) (sym one)

    listed : (l m : ℤ) → rows.lower ≡ l → columns.lower ≡ m → slice_get os (k + 3) ≡ Some (order.ElementInside l m width span) → BeginsWith (orders_to_row R) (row_order R) (order.InBounds rows.lower rows.upper rows.line ∷ order.Save ∷ os)
    listed l m el em at =
        let o = row_order R in
        let same : order.ElementInside l m width span ≡ o = ap₂ (λ x y. order.ElementInside x y width span) (sym el) (sym em) in
        let long : length (column_orders c ++ orders_in_row R) ≡ k + 3 = length-append (column_orders c) (orders_in_row R) in
        let behind : drop k os ≡ orders_in_row R ++ o ∷ drop (k + 4) os =
        next k (k + 1) (order.InBounds columns.lower columns.upper columns.line) (omega arith) e0
        ∙ ap (λ x. order.InBounds columns.lower columns.upper columns.line ∷ x)
        (next (k + 1) (k + 2) order.Save (omega arith) e1 ∙ ap (λ x. order.Save ∷ x)
        (next (k + 2) (k + 3) (order.Home f n) (omega arith) e2 ∙ ap (λ x. order.Home f n ∷ x) (next (k + 3) (k + 4) o (omega arith) (at ∙ ap Some same)))) in
        let end : k + 4 ≡ suc (length (column_orders c ++ orders_in_row R)) = omega (arith, long) in
        ap (λ x. order.InBounds rows.lower rows.upper rows.line ∷ order.Save ∷ x)
        (there ∙ ap (λ x. column_orders c ++ x) behind ∙ sym (append_assoc (column_orders c) (orders_in_row R) (o ∷ drop (k + 4) os))
        ∙ ap (λ m. (column_orders c ++ orders_in_row R) ++ o ∷ drop m os) end)

    cases : (a b : Bool) → same_bound rows.lower l1 ≡ a → same_bound columns.lower l2 ≡ b → (w : Bool) → row_within R ≡ w → (if (a && b) && w then Some R else None) ≡ Some r
        → IsRow (order.InBounds rows.lower rows.upper rows.line ∷ order.Save ∷ os) r
    cases true true same same' true within is =
        let made : R ≡ r = cc in
        subst (λ y. IsRow (order.InBounds rows.lower rows.upper rows.line ∷ order.Save ∷ os) y) made (listed l1 l2 (both_bounds rows.lower l1 same) (both_bounds columns.lower l2 same') e3, within)
    cases true true same same' false within is = absurd (cc)
    cases true false same same' w within is = absurd (cc)
    cases false b same same' w within is = absurd (cc)
row_made_shape rows c os columns _ _ r there e0 e1 e2 e3 is = absurd (none-some r is)

row_formed_shape : (rows : Bounds) (c : Column) (os : List Order) (columns : Option Bounds) (saves : Bool) (r : Row) → os ≡ column_orders c ++ drop (length (column_orders c)) os
    → bounds_at (slice_get os (length (column_orders c))) ≡ columns → is_save (slice_get os (length (column_orders c) + 1)) ≡ saves
    → (let k = length (column_orders c) in row_formed rows c columns (slice_get os (k + 1)) (slice_get os (k + 2)) (slice_get os (k + 3)) ≡ Some r) → IsRow (order.InBounds rows.lower rows.upper rows.line ∷ order.Save ∷ os) r
row_formed_shape rows c os None saves r there e0 e1 is = absurd (cc)
row_formed_shape rows c os (Some columns) saves r there e0 e1 is = cases saves e1 (sym (ap (λ b. if b then row_made rows c columns (item_of (slice_get os (k + 2)) (slice_get os (k + 3))) else None) e1) ∙ is)
  where
    k : ℕ
    k = length (column_orders c)

    cases : (b : Bool) → is_save (slice_get os (k + 1)) ≡ b → (if b then row_made rows c columns (item_of (slice_get os (k + 2)) (slice_get os (k + 3))) else None) ≡ Some r → IsRow (order.InBounds rows.lower rows.upper rows.line ∷ order.Save ∷ os) r
    cases true e is =
        row_made_shape rows c os columns (slice_get os (k + 2)) (slice_get os (k + 3)) r there (bounds_there (slice_get os k) columns e0) (is_a_save (slice_get os (k + 1)) e) refl refl is
    cases false e is = absurd (cc)

row_behind_shape : (rows : Bounds) (c : Option Column) (os : List Order) (r : Row) → column_at os ≡ c → row_behind rows c os ≡ Some r → IsRow (order.InBounds rows.lower rows.upper rows.line ∷ order.Save ∷ os) r
row_behind_shape rows None os r there is = absurd (cc)
row_behind_shape rows (Some c) os r there is =
    let k = length (column_orders c) in
    row_formed_shape rows c os (bounds_at (slice_get os k)) (is_save (slice_get os (k + 1))) r (column_shape os c there) refl refl is

row_saved_shape : (rows : Bounds) (os : List Order) (r : Row) → row_saved rows os ≡ Some r → IsRow (order.InBounds rows.lower rows.upper rows.line ∷ os) r
row_saved_shape rows (order.Save ∷ os) r is = row_behind_shape rows (column_at os) os r refl is
row_saved_shape rows (_ ∷ _) r is = absurd (none-some r is)
row_saved_shape rows [] r is = absurd (none-some r is)

row_shape : (os : List Order) (r : Row) → row_at os ≡ Some r → IsRow os r
row_shape (order.InBounds l u line ∷ os) r is = row_saved_shape (record { lower = l; upper = u; line = line }) os r is
row_shape (_ ∷ _) r is = absurd (none-some r is)
row_shape [] r is = absurd (none-some r is)

-- and another block where there is none
row_or_shape : (os : List Order) (other : Block) → IsBlock other os → IsBlock (row_or (row_at os) other) os
row_or_shape os other is = cases (row_at os) refl
  where
    cases : (x : Option Row) → row_at os ≡ x → IsBlock (row_or x other) os
    cases None none = is
    cases (Some r) there = row_shape os r there

if_saved_shape : (os : List Order) → IsBlock (block_if_saved os) os
if_saved_shape [] = tt
if_saved_shape (order.Save ∷ os) = saved_or_shape os (saved_from (place_at os) os) (saved_shape os)
if_saved_shape (order.InBounds l u line ∷ os) =
    bounded_shape os (record { lower = l; upper = u; line = line }) (slice_get os 0) (slice_get os 1) (slice_get os 2) refl refl refl
if_saved_shape (_ ∷ os) = tt

alone_shape : (os : List Order) → IsBlock (block_alone os) os
alone_shape os = cases (place_at os) refl
  where
    cases : (x : Option Place) → place_at os ≡ x → IsBlock (block_from x os) os
    cases None is = row_or_shape os (block_if_saved os) (if_saved_shape os)
    cases (Some x) is = subst (λ y. IsBlock (fetched_or (element_at y os) os (fetched_from y os)) os) is (fetched_or_shape os (fetched_from (place_at os) os) (fetched_shape os))

-- a word of the frame that is fetched, and a comparison behind it
compared_shape : (n : ℕ) (os : List Order) (saves puts jumps : Option Order) (other : Block) → slice_get os 2 ≡ saves → slice_get os 3 ≡ puts → slice_get os 4 ≡ jumps → IsBlock (block.Fetch (cell.Frame n)) os
    → IsBlock other os → IsBlock (compared_or n saves puts jumps other) os
compared_shape n os (Some order.Save) (Some (order.Const w)) (Some (order.JumpIf c m)) other e2 e3 e4 is else_is =
    is ∙ ap (λ l. order.FrameHome n ∷ order.Load ∷ l)
    (front_is os 2 order.Save e2 ∙ ap (λ l. order.Save ∷ l) (front_is os 3 (order.Const w) e3 ∙ ap (λ l. order.Const w ∷ l) (front_is os 4 (order.JumpIf c m) e4)))
compared_shape n os _ _ _ other e2 e3 e4 is else_is = else_is

-- or another word
dropped : (os : List Order) → drop 2 (drop 3 os) ≡ drop 5 os
dropped [] = refl
dropped (x ∷ []) = refl
dropped (x ∷ y ∷ []) = refl
dropped (x ∷ y ∷ z ∷ os) = refl

both_shape : (n : ℕ) (os : List Order) (saves : Option Order) (saved next : Block) → slice_get os 2 ≡ saves → block_alone (drop 3 os) ≡ next → IsBlock (block.Fetch (cell.Frame n)) os
    → IsBlock (both_or n saves saved next (block.Fetch (cell.Frame n))) os
both_shape n os (Some order.Save) block.Single (block.Fetch (cell.Frame m)) e2 e3 is =
    let second : drop 3 os ≡ order.FrameHome m ∷ order.Load ∷ drop 2 (drop 3 os) = subst (λ b. IsBlock b (drop 3 os)) e3 (alone_shape (drop 3 os)) in
    is ∙ ap (λ l. order.FrameHome n ∷ order.Load ∷ l) (front_is os 2 order.Save e2 ∙ ap (λ l. order.Save ∷ l) (second ∙ ap (λ l. order.FrameHome m ∷ order.Load ∷ l) (dropped os)))
both_shape n os _ _ _ e2 e3 is = is

joined_shape : (b : Block) (os : List Order) → IsBlock b os → IsBlock (joined b os) os
joined_shape (block.Fetch (cell.Frame n)) os is =
    compared_shape n os (slice_get os 2) (slice_get os 3) (slice_get os 4) (fetched_behind n os) refl refl refl is (both_shape n os (slice_get os 2) (block_alone (drop 2 os)) (block_alone (drop 3 os)) refl refl is)
joined_shape b os is = is

pub shape : (os : List Order) → IsBlock (block_of os) os
shape os = joined_shape (block_alone os) os (alone_shape os)

-- the parts that a block names, and the indexes between bounds
pub names_parts : (left : ℕ) (os : List Order) → NamesParts (block_at left os)
names_parts (suc n) os = tt
names_parts zero os = cases (block_of os) (shape os)
  where
    element : (e : Element) (t : Test) → TestNear e t → TestsWithin e t
    element e (test.Address origin) h = tt
    element e (test.Bounds upper line) h = h

    operand : (s : Simple) → OperandIs s → OperandWithin s
    operand (simple.Element e) h = element e e.test h
    operand _ h = tt

    cases : (b : Block) → IsBlock b os → NamesParts b
    cases (block.FetchPart x t b is_signed) h = h.1
    cases (block.AssignPart x t b) h = h.1
    cases (block.Operate s u) h = operand s h.1
    cases (block.FetchElement e) h = element e e.test h.1
    cases (block.AssignElement e) h = element e e.test h.1
    cases (block.Bounded b) h = h.1
    cases (block.Row r) h = h.1
    cases _ h = tt
