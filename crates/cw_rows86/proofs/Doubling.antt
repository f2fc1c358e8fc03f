-- Words that instructions make of words.
use Rattle.std.proofs.Common.{◌≡◌, ℕ, ◌+◌, ◌*◌, ◌%◌, ◌<◌, bit_and, bit_or, bit_xor, sym, ◌∙◌, arith}
use Rattle.std.proofs.lemmas.Nat.Bits.{same_from_bits, bit_at_and, bit_at_or, bit_at_xor, bit_at-zero}
use Rattle.std.specs.Int.{bit_at}
use Rattle.cw_rows86.specs.Operations.{result_of, And, Or, Xor, shifted_word, Up}

pub twice : (k : ℕ) → k < 32768 → shifted_word Up k 1 ≡ 2 * k
twice k lt = omega arith

pub self_and : (a : ℕ) → result_of And a a ≡ a
self_and a = same_from_bits (bit_and a a) a (λ i. bit_at_and a a i ∙ omega arith)

pub self_or : (a : ℕ) → result_of Or a a ≡ a
self_or a = same_from_bits (bit_or a a) a (λ i. bit_at_or a a i ∙ omega arith)

even : (x : ℕ) → (x + x) % 2 ≡ 0
even x = omega arith

pub self_xor : (a : ℕ) → result_of Xor a a ≡ 0
self_xor a = same_from_bits (bit_xor a a) 0 (λ i. bit_at_xor a a i ∙ even (bit_at a i) ∙ sym (bit_at-zero i))
