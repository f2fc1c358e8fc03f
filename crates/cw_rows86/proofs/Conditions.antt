-- What the flags tell behind an operation.
use Rattle.std.proofs.Common.{◌≡◌, ℕ, ◌+◌, ◌<◌, Bool, true, false, refl, ap, ap₂, ◌∙◌, arith}
use Rattle.std.proofs.lemmas.Bool.Decides.{nat_tests}
use Rattle.std.proofs.lemmas.Int.{ints}
use Rattle.std.specs.Bool.{beq}
use Rattle.std.specs.Prelude.{nat_lt, nat_le, ◌==◌, ◌||◌, not, bit_and, bit_or}
use Rattle.cw_i86.specs.Sums.{signed, difference_flags}
use Rattle.cw_i86.specs.Effect.{alu_flags, holds}
use Rattle.cw_i86.specs.declared.flags.Flags.{Flags}
use Rattle.cw_run86.specs.Views.{Comparison, Equal, Unequal, Less, NotLess, AtMost, Greater, condition_of, words_compare}
use Rattle.cw_run86.proofs.Sums.{plain_sum, plain_difference}
use Rattle.cw_rows86.specs.Operations.{WordOperation, Add, Or, And, Subtract, Compare, result_of, flags_after, counted_to, flags_counted}

-- ---- a difference

-- JB and JNB
pub difference_below : (a b : ℕ) → holds (difference_flags 32768 a b false) 2 ≡ nat_lt a b
unfolding holds
difference_below a b = let e : b + 0 ≡ b = omega arith in ap (nat_lt a) e

pub difference_not_below : (a b : ℕ) → holds (difference_flags 32768 a b false) 3 ≡ nat_le b a
unfolding holds
difference_not_below a b = let e : b + 0 ≡ b = omega arith in ap (λ n. not (nat_lt a n)) e ∙ grind (arith, nat_tests)

-- ---- the overflow, the zero and the sign of a result

-- JO and JNO
pub overflow_holds : (flags : Flags) → holds flags 0 ≡ flags.of
unfolding holds
overflow_holds flags = refl

pub no_overflow_holds : (flags : Flags) → holds flags 1 ≡ not flags.of
unfolding holds
no_overflow_holds flags = refl

-- JZ and JS
pub zero_holds : (op : WordOperation) (a b : ℕ) (flags : Flags) → holds (flags_after op a b flags) 4 ≡ (result_of op a b == 0)
unfolding alu_flags holds
zero_holds Add a b flags = ap (λ n. n == 0) (plain_sum a b)
zero_holds Subtract a b flags = ap (λ n. n == 0) (plain_difference a b)
zero_holds Compare a b flags = ap (λ n. n == 0) (plain_difference a b)
zero_holds _ a b flags = refl

pub sign_holds : (op : WordOperation) (a b : ℕ) (flags : Flags) → holds (flags_after op a b flags) 8 ≡ nat_le 32768 (result_of op a b)
unfolding alu_flags holds
sign_holds Add a b flags = ap (nat_le 32768) (plain_sum a b)
sign_holds Subtract a b flags = ap (nat_le 32768) (plain_difference a b)
sign_holds Compare a b flags = ap (nat_le 32768) (plain_difference a b)
sign_holds _ a b flags = refl

pub counted_zero : (down : Bool) (a : ℕ) (flags : Flags) → holds (flags_counted down a flags) 4 ≡ (counted_to down a == 0)
unfolding holds
counted_zero true a flags = ap (λ n. n == 0) (plain_difference a 1)
counted_zero false a flags = ap (λ n. n == 0) (plain_sum a 1)

pub counted_sign : (down : Bool) (a : ℕ) (flags : Flags) → holds (flags_counted down a flags) 8 ≡ nat_le 32768 (counted_to down a)
unfolding holds
counted_sign true a flags = ap (nat_le 32768) (plain_difference a 1)
counted_sign false a flags = ap (nat_le 32768) (plain_sum a 1)

-- the opposite of each condition
pub opposite_holds : (flags : Flags) → (holds flags 5 ≡ not (holds flags 4)) × (holds flags 9 ≡ not (holds flags 8))
unfolding holds
opposite_holds flags = (refl, refl)

-- ---- bits, compared with 0

with_zero : (c : Comparison) (n : ℕ) (flags : Flags) → n < 65536 → flags.zf ≡ (n == 0) → flags.sf ≡ nat_le 32768 n → flags.of ≡ false → holds flags (condition_of c) ≡ words_compare c n 0
unfolding holds signed
with_zero Equal n flags lt z s o = z ∙ grind (arith, ints, nat_tests)
with_zero Unequal n flags lt z s o = ap not z ∙ grind (arith, ints, nat_tests)
with_zero Less n flags lt z s o = ap₂ (λ x y. not (beq x y)) s o ∙ grind (arith, ints, nat_tests)
with_zero NotLess n flags lt z s o = ap₂ (λ x y. not (not (beq x y))) s o ∙ grind (arith, ints, nat_tests)
with_zero AtMost n flags lt z s o = ap₂ (λ a b. a || b) z (ap₂ (λ x y. not (beq x y)) s o) ∙ grind (arith, ints, nat_tests)
with_zero Greater n flags lt z s o = ap not (ap₂ (λ a b. a || b) z (ap₂ (λ x y. not (beq x y)) s o)) ∙ grind (arith, ints, nat_tests)

pub or_tested : (c : Comparison) (a b : ℕ) (flags : Flags) → bit_or a b < 65536 → holds (flags_after Or a b flags) (condition_of c) ≡ words_compare c (bit_or a b) 0
unfolding alu_flags
or_tested c a b flags lt = with_zero c (bit_or a b) _ lt refl refl refl

pub and_tested : (c : Comparison) (a b : ℕ) (flags : Flags) → bit_and a b < 65536 → holds (flags_after And a b flags) (condition_of c) ≡ words_compare c (bit_and a b) 0
unfolding alu_flags
and_tested c a b flags lt = with_zero c (bit_and a b) _ lt refl refl refl
