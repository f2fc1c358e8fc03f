-- Sums and differences of the processor, and those of words as signed numbers.
use Rattle.std.proofs.Common.{◌≡◌, ℕ, ◌<◌, Bool, true, false, not, ℤ, pos, negsuc, ◌+ℤ◌, ◌-ℤ◌, neg_ℤ, refl, sym, ap, ap₂, ◌∙◌, subst, arith}
use Rattle.std.proofs.lemmas.Bool.Decides.{nat_tests}
use Rattle.std.proofs.lemmas.Int.{ints}
use Rattle.std.specs.Prelude.{int_le, ◌&&◌}
use Rattle.cw_i86.specs.Sums as i86
use Rattle.cw_run86.specs.Views as run
use Rattle.cw_word.specs.FixedPoint.{FitsWord, fits_word}
use Rattle.cw_word.specs.Word.{signed, unsigned, word_sum, word_difference}
use Rattle.cw_unit.specs.Operation.{holds}
use Rattle.cw_order.specs.declared.order.Comparator.{Comparator}
use Rattle.cw_order.specs.declared.order.Comparator.TheVariants as comparator
use Rattle.cw_order.specs.OrderChanges.{comparison}
use Rattle.cw_tmpl.specs.Templates.{opposite_of, comparison_of}
use Rattle.cw_routines.proofs.Facts.{sum_is as sum_of}
use Rattle.cw_follow.proofs.WordLaws.{WordLaws}

pub overflows_same : (z : ℤ) → i86.overflows 32768 z ≡ not (fits_word z)
overflows_same (pos n) = grind (arith, ints, nat_tests)
overflows_same (negsuc n) = grind (arith, ints, nat_tests)

comparison_tells : (c : Comparator) (x y : ℤ) → run.compares (comparison_of c) x y ≡ holds (comparison c) x y
comparison_tells comparator.Less x y = grind (arith, ints, nat_tests)
comparison_tells comparator.LessEqual x y = grind (arith, ints, nat_tests)
comparison_tells comparator.Equal x y = refl
comparison_tells comparator.GreaterEqual x y = grind (arith, ints, nat_tests)
comparison_tells comparator.Greater x y = grind (arith, ints, nat_tests)
comparison_tells comparator.Unequal x y = refl

-- the opposite of a comparison
opposite_tells : (c : Comparator) (x y : ℤ) → run.compares (opposite_of c) x y ≡ not (holds (comparison c) x y)
opposite_tells comparator.Less x y = grind (arith, ints, nat_tests)
opposite_tells comparator.LessEqual x y = grind (arith, ints, nat_tests)
opposite_tells comparator.Equal x y = refl
opposite_tells comparator.GreaterEqual x y = grind (arith, ints, nat_tests)
opposite_tells comparator.Greater x y = grind (arith, ints, nat_tests)
opposite_tells comparator.Unequal x y = sym (not_not (int_le x y && int_le y x))
  where
    not_not : (b : Bool) → not (not b) ≡ b
    not_not true = refl
    not_not false = refl

module _ (laws : WordLaws) where
  -- the processor's reading of a word is that of the words
  signed_same : (a : ℕ) → a < 65536 → i86.signed 32768 a ≡ signed a
  unfolding i86.signed
  signed_same a h = sym (laws.numbers.words.signed_is a h)

  module _ (x y : ℤ) (fx : FitsWord x) (fy : FitsWord y) where
    pub left : i86.signed 32768 (unsigned x) ≡ x
    left = signed_same (unsigned x) (laws.numbers.words.unsigned_fits x fx) ∙ laws.numbers.words.back x fx

    pub right : i86.signed 32768 (unsigned y) ≡ y
    right = signed_same (unsigned y) (laws.numbers.words.unsigned_fits y fy) ∙ laws.numbers.words.back y fy

    pub sum_overflows_is : run.sum_overflows (unsigned x) (unsigned y) ≡ not (fits_word (x +ℤ y))
    sum_overflows_is = ap₂ (λ a b. i86.overflows 32768 (a +ℤ b)) left right ∙ overflows_same (x +ℤ y)

    pub difference_overflows_is : run.difference_overflows (unsigned x) (unsigned y) ≡ not (fits_word (x -ℤ y))
    difference_overflows_is = ap₂ (λ a b. i86.overflows 32768 (a -ℤ b)) left right ∙ overflows_same (x -ℤ y)

    pub comparison_is : (c : Comparator) → run.words_compare (comparison_of c) (unsigned x) (unsigned y) ≡ holds (comparison c) x y
    comparison_is c = ap₂ (run.compares (comparison_of c)) left right ∙ comparison_tells c x y

    pub opposite_is : (c : Comparator) → run.words_compare (opposite_of c) (unsigned x) (unsigned y) ≡ not (holds (comparison c) x y)
    opposite_is c = ap₂ (run.compares (opposite_of c)) left right ∙ opposite_tells c x y

    pub sum_is : FitsWord (x +ℤ y) → run.word_sum (unsigned x) (unsigned y) ≡ unsigned (x +ℤ y)
    sum_is = sum_of laws.numbers.words x y fx fy

    pub difference_is : FitsWord (x -ℤ y) → run.word_difference (unsigned x) (unsigned y) ≡ unsigned (x -ℤ y)
    difference_is f =
        let a = unsigned x in
        let b = unsigned y in
        let la = laws.numbers.words.unsigned_fits x fx in
        let lb = laws.numbers.words.unsigned_fits y fy in
        let e : signed a -ℤ signed b ≡ x -ℤ y = ap₂ (λ m n. m -ℤ n) (laws.numbers.words.back x fx) (laws.numbers.words.back y fy) in
        let lt : word_difference a b < 65536 = omega arith in
        let same : run.word_difference a b ≡ word_difference a b = omega arith in
        same ∙ sym (laws.numbers.words.forth (word_difference a b) lt) ∙ ap unsigned (laws.difference a b la lb (subst FitsWord (sym e) f) ∙ e)

  pub negative_overflows_is : (y : ℤ) → FitsWord y → run.difference_overflows 0 (unsigned y) ≡ not (fits_word (neg_ℤ y))
  negative_overflows_is y fy =
      let e : pos 0 -ℤ y ≡ neg_ℤ y = omega (arith, ints) in
      ap₂ (λ a b. i86.overflows 32768 (a -ℤ b)) (signed_same 0 (omega arith)) (signed_same (unsigned y) (laws.numbers.words.unsigned_fits y fy) ∙ laws.numbers.words.back y fy) ∙ overflows_same (pos 0 -ℤ y) ∙ ap (λ z. not (fits_word z)) e

  pub negative_is : (y : ℤ) → FitsWord y → FitsWord (neg_ℤ y) → run.word_difference 0 (unsigned y) ≡ unsigned (neg_ℤ y)
  negative_is y fy f =
      let b = unsigned y in
      let lb = laws.numbers.words.unsigned_fits y fy in
      let e : neg_ℤ (signed b) ≡ neg_ℤ y = ap neg_ℤ (laws.numbers.words.back y fy) in
      let lt : word_difference 0 b < 65536 = omega arith in
      let same : run.word_difference 0 b ≡ word_difference 0 b = omega arith in
      same ∙ sym (laws.numbers.words.forth (word_difference 0 b) lt) ∙ ap unsigned (laws.negative b lb (subst FitsWord (sym e) f) ∙ e)
