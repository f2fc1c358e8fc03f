-- What operations make of words, where their result is known before a run.
use Rattle.std.proofs.Common.{◌≡◌, ℕ, zero, suc, ◌+◌, ◌*◌, ◌<◌, ◌≤◌, ℤ, pos, negsuc, ◌+ℤ◌, ◌-ℤ◌, ◌*ℤ◌, neg_ℤ, Bool, true, false, Option, Some, None, refl, ap, ◌∙◌, subst, arith}
use Rattle.std.specs.Prelude.{int_le, nat_le, nat_lt, ◌&&◌, if◌then◌else◌}
use Rattle.std.proofs.lemmas.Bool.{ltb-true, lt-ltb}
use Rattle.std.proofs.lemmas.Option.{none-some, same_Some}
use Rattle.cw_word.specs.FixedPoint.{fits_word, rescaled, scaled_product, scaled_quotient}
use Rattle.cw_unit.specs.declared.unit.LogicOp.{LogicOp}
use Rattle.cw_unit.specs.Stop.{Overflow, AddressRange, IndexRange}
use Rattle.cw_unit.specs.Words.{Words, Outcome, Changed, put, put_if, put_value}
use Rattle.cw_unit.specs.Operation.{Rescale, Add, Subtract, Negate, Multiply, Divide, Combine, Extract, InBounds, Indexed, Indexed2, Scaled, fitting, address_of, form_address, perform}
use Rattle.cw_gen_expr.specs.KnownValues.{of_known, of_both, fitted, known_sum, known_difference, known_negative, known_rescaled, known_product, known_quotient, known_logic, known_bits, word_inside, in_bounds, counted_if, from_lower, of_index}

-- ---- parts of what is known

pub of_one : (f : ℤ → Option ℤ) (k : Option ℤ) (z : ℤ) → of_known f k ≡ Some z → (x : ℤ) × (k ≡ Some x) × (f x ≡ Some z)
of_one f None z e = absurd (none-some z e)
of_one f (Some x) z e = (x, refl, e)

pub of_two : (f : ℤ → ℤ → Option ℤ) (j k : Option ℤ) (z : ℤ) → of_both f j k ≡ Some z → (x : ℤ) × (y : ℤ) × (j ≡ Some x) × (k ≡ Some y) × (f x y ≡ Some z)
of_two f None k z e = absurd (none-some z e)
of_two f (Some x) k z e = let y = of_one (f x) k z e in (x, y.0, refl, y.1, y.2)

-- a choice that gives something
pub chosen : {A : Type 0} (b : Bool) (o : Option A) (z : A) → (if b then o else None) ≡ Some z → (b ≡ true) × (o ≡ Some z)
chosen true o z e = (refl, e)
chosen false o z e = absurd (none-some z e)

fitted_is : (v z : ℤ) → fitted v ≡ Some z → (fits_word v ≡ true) × (v ≡ z)
fitted_is v z e = let h = chosen (fits_word v) (Some v) z e in (h.0, same_Some v z h.1)

fitted_fits : (v z : ℤ) → fitted v ≡ Some z → fits_word z ≡ true
fitted_fits v z e = let h = fitted_is v z e in subst (λ x. fits_word x ≡ true) h.1 h.0

-- ---- what is known fits a word

pub sum_fits : (x y z : ℤ) → known_sum x y ≡ Some z → fits_word z ≡ true
sum_fits x y z e = fitted_fits (x +ℤ y) z e

pub difference_fits : (x y z : ℤ) → known_difference x y ≡ Some z → fits_word z ≡ true
difference_fits x y z e = fitted_fits (x -ℤ y) z e

pub negative_fits : (x z : ℤ) → known_negative x ≡ Some z → fits_word z ≡ true
negative_fits x z e = fitted_fits (neg_ℤ x) z e

pub rescaled_fits : (from to : ℕ) (x z : ℤ) → known_rescaled from to x ≡ Some z → fits_word z ≡ true
rescaled_fits from to x z e = fitted_fits (rescaled x from to) z (chosen (nat_le from 15 && nat_le to 15) (fitted (rescaled x from to)) z e).1

pub product_fits : (s x y z : ℤ) → known_product s x y ≡ Some z → fits_word z ≡ true
product_fits s x y z e = fitted_fits (scaled_product x y s) z (chosen (int_le (negsuc 29) s && int_le s (pos 15)) (fitted (scaled_product x y s)) z e).1

pub quotient_fits : (s x y z : ℤ) → known_quotient s x y ≡ Some z → fits_word z ≡ true
quotient_fits s x (pos zero) z e = absurd (none-some z e)
quotient_fits s x (pos (suc y)) z e = fitted_fits (scaled_quotient x (pos (suc y)) s) z (chosen (int_le (negsuc 14) s && int_le s (pos 16)) (fitted (scaled_quotient x (pos (suc y)) s)) z e).1
quotient_fits s x (negsuc y) z e = fitted_fits (scaled_quotient x (negsuc y) s) z (chosen (int_le (negsuc 14) s && int_le s (pos 16)) (fitted (scaled_quotient x (negsuc y) s)) z e).1

-- ---- operations

module _ (area : ℕ) (w : Words) where
  value_put : (v z : ℤ) → fitted v ≡ Some z → put_value v w ≡ Changed (put z w)
  value_put v z e = let h = fitted_is v z e in ap (λ b. put_if b Overflow v w) h.0 ∙ ap (λ x. Changed (put x w)) h.1

  pub sum_put : (x y z : ℤ) → known_sum x y ≡ Some z → perform area Add (put y (put x w)) ≡ Changed (put z w)
  sum_put x y z e = value_put (x +ℤ y) z e

  pub difference_put : (x y z : ℤ) → known_difference x y ≡ Some z → perform area Subtract (put y (put x w)) ≡ Changed (put z w)
  difference_put x y z e = value_put (x -ℤ y) z e

  pub negative_put : (x z : ℤ) → known_negative x ≡ Some z → perform area Negate (put x w) ≡ Changed (put z w)
  negative_put x z e = value_put (neg_ℤ x) z e

  pub rescaled_put : (from to : ℕ) (x z : ℤ) → known_rescaled from to x ≡ Some z → perform area (Rescale from to) (put x w) ≡ Changed (put z w)
  rescaled_put from to x z e = value_put (rescaled x from to) z (chosen (nat_le from 15 && nat_le to 15) (fitted (rescaled x from to)) z e).1

  pub product_put : (s x y z : ℤ) → known_product s x y ≡ Some z → perform area (Multiply s) (put y (put x w)) ≡ Changed (put z w)
  product_put s x y z e = value_put (scaled_product x y s) z (chosen (int_le (negsuc 29) s && int_le s (pos 15)) (fitted (scaled_product x y s)) z e).1

  pub quotient_put : (s x y z : ℤ) → known_quotient s x y ≡ Some z → perform area (Divide s) (put y (put x w)) ≡ Changed (put z w)
  quotient_put s x (pos zero) z e = absurd (none-some z e)
  quotient_put s x (pos (suc y)) z e = value_put (scaled_quotient x (pos (suc y)) s) z (chosen (int_le (negsuc 14) s && int_le s (pos 16)) (fitted (scaled_quotient x (pos (suc y)) s)) z e).1
  quotient_put s x (negsuc y) z e = value_put (scaled_quotient x (negsuc y) s) z (chosen (int_le (negsuc 14) s && int_le s (pos 16)) (fitted (scaled_quotient x (negsuc y) s)) z e).1

  pub combined_put : (op : LogicOp) (x y z : ℤ) → known_logic op x y ≡ Some z → perform area (Combine op) (put y (put x w)) ≡ Changed (put z w)
  combined_put op x y z e = ap (λ v. Changed (put v w)) (same_Some _ z e)

  pub bits_put : (t b : ℕ) (x z : ℤ) → known_bits t b x ≡ Some z → perform area (Extract t b) (put x w) ≡ Changed (put z w)
  bits_put t b x z e = ap (λ v. Changed (put v w)) (same_Some _ z (chosen (nat_le 1 t && nat_le (t + b) 16) (Some _) z e).1)

  -- an index inside its bounds stays
  pub compared_put : (l u k : ℤ) → in_bounds true l u k ≡ true → perform area (InBounds l u) (put k w) ≡ Changed (put k w)
  compared_put l u k h = ap (λ b. put_if b IndexRange k w) h

-- ---- words of items

pub record Above (compared : Bool) (lower upper : ℤ) (k : Option ℤ) (i : ℕ) : Type 0 where
  pub index : ℤ
  pub is : k ≡ Some index
  pub bounded : in_bounds compared lower upper index ≡ true
  pub above : index -ℤ lower ≡ pos i

pub from_above : (compared : Bool) (lower upper : ℤ) (k : Option ℤ) (i : ℕ) → from_lower compared lower upper k ≡ Some i → Above compared lower upper k i
from_above compared lower upper None i e = absurd (none-some i e)
from_above compared lower upper (Some x) i e = counted (in_bounds compared lower upper x) (x -ℤ lower) refl refl e
  where
    counted : (b : Bool) (d : ℤ) → in_bounds compared lower upper x ≡ b → x -ℤ lower ≡ d → counted_if b d ≡ Some i → Above compared lower upper (Some x) i
    counted true (pos n) hb hd h = record { index = x; is = refl; bounded = hb; above = hd ∙ ap pos (same_Some n i h) }
    counted true (negsuc n) hb hd h = absurd (none-some i h)
    counted false d hb hd h = absurd (none-some i h)

pub of_count : (f : ℕ → Option ℕ) (k : Option ℕ) (n : ℕ) → of_index f k ≡ Some n → (i : ℕ) × (k ≡ Some i) × (f i ≡ Some n)
of_count f None n e = absurd (none-some n e)
of_count f (Some i) n e = (i, refl, e)

pub inside_is : (span m n : ℕ) → word_inside span m ≡ Some n → (m ≡ n) × (n < span)
inside_is span m n e =
    let h = chosen (nat_lt m span) (Some m) n e in
    let same = same_Some m n h.1 in
    (same, subst (λ k. k < span) same (ltb-true m span h.0))

-- ---- addresses

module _ (area base : ℕ) (w : Words) (in_words : area ≤ 32768) where
  small : (n : ℕ) → n < 32768 → fits_word (pos n) ≡ true
  small n lt = lt-ltb n 32768 lt

  found : (n : ℕ) → base + n < area → address_of area (pos base +ℤ pos n) w ≡ Changed (put (pos (base + n)) w)
  found n lt = ap (λ b. put_if b AddressRange (pos (base + n)) w) (lt-ltb (base + n) area lt)

  pub element_found : (k l : ℤ) (n : ℕ) → k -ℤ l ≡ pos n → base + n < area → form_address area (Indexed (pos base) l) (put k w) ≡ Changed (put (pos (base + n)) w)
  element_found k l n e lt =
      ap (λ z. fitting (fits_word z) (address_of area (pos base +ℤ z) w)) e
      ∙ ap (λ b. fitting b (address_of area (pos base +ℤ pos n) w)) (small n (omega (arith, lt, in_words)))
      ∙ found n lt

  pub entry_found : (k : ℤ) (width word i n : ℕ) → k ≡ pos i → i * width + word ≡ n → base + n < area → form_address area (Scaled (pos base) width word) (put k w) ≡ Changed (put (pos (base + n)) w)
  entry_found k width word i n e is lt =
      ap (λ z. fitting (fits_word (z *ℤ pos width)) (fitting (fits_word (z *ℤ pos width +ℤ pos word)) (address_of area (pos base +ℤ (z *ℤ pos width +ℤ pos word)) w))) e
      ∙ ap (λ b. fitting b (fitting (fits_word (pos (i * width) +ℤ pos word)) (address_of area (pos base +ℤ (pos (i * width) +ℤ pos word)) w))) (small (i * width) (omega (arith, is, lt, in_words)))
      ∙ ap (λ m. fitting (fits_word (pos m)) (address_of area (pos base +ℤ pos m) w)) is
      ∙ ap (λ b. fitting b (address_of area (pos base +ℤ pos n) w)) (small n (omega (arith, lt, in_words)))
      ∙ found n lt

  pub element_of_two_found : (j k l1 l2 : ℤ) (width row column n : ℕ) → j -ℤ l1 ≡ pos row → k -ℤ l2 ≡ pos column → row < 32768 → row * width + column ≡ n → base + n < area
      → form_address area (Indexed2 (pos base) l1 l2 width) (put k (put j w)) ≡ Changed (put (pos (base + n)) w)
  element_of_two_found j k l1 l2 width row column n ej ek fits is lt =
      let sum : ℤ → ℤ → Outcome = λ x y. fitting (fits_word (x +ℤ y)) (address_of area (pos base +ℤ (x +ℤ y)) w) in
      let rest : ℤ → ℤ → Outcome = λ x y. fitting (fits_word (x *ℤ pos width)) (fitting (fits_word y) (sum (x *ℤ pos width) y)) in
      ap (λ x. fitting (fits_word x) (rest x (k -ℤ l2))) ej
      ∙ ap (λ y. fitting (fits_word (pos row)) (rest (pos row) y)) ek
      ∙ ap (λ b. fitting b (rest (pos row) (pos column))) (small row fits)
      ∙ ap (λ b. fitting b (fitting (fits_word (pos column)) (sum (pos (row * width)) (pos column)))) (small (row * width) (omega (arith, is, lt, in_words)))
      ∙ ap (λ b. fitting b (sum (pos (row * width)) (pos column))) (small column (omega (arith, is, lt, in_words)))
      ∙ ap (λ m. fitting (fits_word (pos m)) (address_of area (pos base +ℤ pos m) w)) is
      ∙ ap (λ b. fitting b (address_of area (pos base +ℤ pos n) w)) (small n (omega (arith, lt, in_words)))
      ∙ found n lt
