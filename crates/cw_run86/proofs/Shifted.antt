-- Shifts by CL.
use Rattle.std.proofs.Common.{◌≡◌, ℕ, zero, suc, ◌+◌, ◌-◌, ◌*◌, ◌/◌, ◌%◌, ◌^◌, ◌<◌, ◌≤◌, Bool, true, false, List, refl, sym, ap, ap₂, ◌∙◌, arith, pow-suc}
use Rattle.std.proofs.Math.Nat.{div-le_self}
use Rattle.std.proofs.lemmas.Nat.{shr-shr}
use Rattle.std.proofs.lemmas.Bool.{ne_eqb}
use Rattle.std.proofs.lemmas.Bool.Decides.{nat_tests}
use Rattle.std.specs.Prelude.{slice_index, slice_set, nat_lt, nat_le, ◌==◌, if◌then◌else◌}
use Rattle.cw_i86.specs.Shifts.{State as ShiftState, up as up_of, down as down_of, once, repeated, overflow_of, shifted_flags, shift_flags}
use Rattle.cw_i86.specs.State.{sized_register, with_sized_register, operand, with_operand}
use Rattle.cw_i86.specs.Effect.{shift_named, shifted}
use Rattle.cw_i86.specs.declared.shift.ShiftOp.{ShiftOp}
use Rattle.cw_i86.specs.declared.shift.ShiftOp.TheVariants.{Shl, Shr, Sar}
use Rattle.cw_i86.specs.declared.instr.Instr.TheVariants as i86
use Rattle.cw_i86.specs.declared.instr.Rm.TheVariants as rms
use Rattle.cw_i86.specs.declared.flags.Flags.{Flags}
use Rattle.cw_run86.specs.Views.{View, Has, Goes, register, on, with_result, word_up, word_down, word_down_signed, shift_overflow}
use Rattle.cw_run86.proofs.Tests.{Finds}
use Rattle.cw_run86.proofs.Memory.{holds}
use Rattle.cw_run86.proofs.Goes.{goes, sees}

-- ---- many places

up_again : (a n : ℕ) → 2 * (a * 2 ^ n % 65536 % 32768) + 0 ≡ a * 2 ^ suc n % 65536
up_again a n =
    let e : a * 2 ^ suc n ≡ a * 2 ^ n * 2 = omega (arith, ap (λ x. a * x) (pow-suc 2 n)) in
    omega (arith, e)

halved : (a n : ℕ) → a / 2 ^ n / 2 ≡ a / 2 ^ suc n
halved a n = shr-shr a n 1 ∙ ap (λ m. a / 2 ^ m) (omega arith)

pub up_many : (n a : ℕ) (carry : Bool) → a < 65536 → (repeated Shl 32768 n (a, carry)).0 ≡ word_up a n
unfolding repeated
up_many zero a carry lt = omega arith
up_many (suc n) a carry lt = ap (λ x. 2 * (x % 32768) + 0) (up_many n a carry lt) ∙ up_again a n

pub down_many : (n a : ℕ) (carry : Bool) → (repeated Shr 32768 n (a, carry)).0 ≡ word_down a n
unfolding repeated
down_many zero a carry = omega arith
down_many (suc n) a carry = ap (λ x. x / 2 + 0) (down_many n a carry) ∙ (let e = halved a n in let f : a / 2 ^ n / 2 + 0 ≡ a / 2 ^ n / 2 = omega arith in f ∙ e)

-- one place more, of a word or of its complement
again : (a b b' d d' : ℕ) → a < 65536 → b ≤ a → d ≤ 65535 - a → b / 2 ≡ b' → d / 2 ≡ d'
    → (if nat_lt a 32768 then b else 65535 - d) / 2 + (if nat_le 32768 (if nat_lt a 32768 then b else 65535 - d) then 32768 else 0) ≡ (if nat_lt a 32768 then b' else 65535 - d')
again a b b' d d' lt below small e f = grind (arith, nat_tests)

signed_again : (a n : ℕ) → a < 65536 → word_down_signed a n / 2 + (if nat_le 32768 (word_down_signed a n) then 32768 else 0) ≡ word_down_signed a (suc n)
signed_again a n lt = again a (a / 2 ^ n) (a / 2 ^ suc n) ((65535 - a) / 2 ^ n) ((65535 - a) / 2 ^ suc n) lt (div-le_self a (2 ^ n)) (div-le_self (65535 - a) (2 ^ n)) (halved a n) (halved (65535 - a) n)

pub down_signed_many : (n a : ℕ) (carry : Bool) → a < 65536 → (repeated Sar 32768 n (a, carry)).0 ≡ word_down_signed a n
unfolding repeated
down_signed_many zero a carry lt = grind (arith, nat_tests)
down_signed_many (suc n) a carry lt = ap (λ x. x / 2 + (if nat_le 32768 x then 32768 else 0)) (down_signed_many n a carry lt) ∙ signed_again a n lt

-- ---- the overflow flag, which does not hang on the carry before

abbrev shift_number : ShiftOp → ℕ
shift_number Shl = 4
shift_number Shr = 5
shift_number Sar = 7
shift_number _ = 0

-- these look at the number alone
blind : (op : ShiftOp) → 3 < shift_number op → (s t : ShiftState) → s.0 ≡ t.0 → once op 32768 s ≡ once op 32768 t
blind Shl h s t e = ap (λ n. up_of 32768 n false) e
blind Shr h s t e = ap (λ n. down_of 32768 n false) e
blind Sar h s t e = ap (λ n. down_of 32768 n (nat_le 32768 n)) e
blind _ h s t e = absurd (omega arith)

same_number : (op : ShiftOp) → 3 < shift_number op → (n a : ℕ) (c d : Bool) → (repeated op 32768 n (a, c)).0 ≡ (repeated op 32768 n (a, d)).0
unfolding repeated
same_number op h zero a c d = refl
same_number op h (suc n) a c d = ap (λ s. s.0) (blind op h (repeated op 32768 n (a, c)) (repeated op 32768 n (a, d)) (same_number op h n a c d))

same_state : (op : ShiftOp) → 3 < shift_number op → (n a : ℕ) (c d : Bool) → repeated op 32768 (suc n) (a, c) ≡ repeated op 32768 (suc n) (a, d)
unfolding repeated
same_state op h n a c d = blind op h (repeated op 32768 n (a, c)) (repeated op 32768 n (a, d)) (same_number op h n a c d)

not_zero : (n : ℕ) → (suc n == 0) ≡ false
not_zero n = ne_eqb (suc n) 0 (λ e. omega arith)

-- what a shift by one place or more leaves
flags_of_more : (op : ShiftOp) (n a : ℕ) (flags : Flags) (old : Bool) → (shifted_flags op 32768 a (suc n) flags (repeated op 32768 (suc n) (a, flags.cf))).of ≡ overflow_of op 32768 a (suc n) (repeated op 32768 (suc n) (a, false)) old
    → (shift_flags op 32768 a (suc n) flags).of ≡ (if suc n == 0 then old else overflow_of op 32768 a (suc n) (repeated op 32768 (suc n) (a, false)) old)
flags_of_more op n a flags old e =
    ap (λ b. (if b then flags else shifted_flags op 32768 a (suc n) flags (repeated op 32768 (suc n) (a, flags.cf))).of) (not_zero n) ∙ e
    ∙ ap (λ b. if b then old else overflow_of op 32768 a (suc n) (repeated op 32768 (suc n) (a, false)) old) (sym (not_zero n))

pub overflow_is : (op : ShiftOp) → 3 < shift_number op → (n a : ℕ) (flags : Flags) (old : Bool) → flags.of ≡ old → (shift_flags op 32768 a n flags).of ≡ shift_overflow (shift_number op) a n old
overflow_is op h zero a flags old e = e
overflow_is Shl h (suc n) a flags old e = flags_of_more Shl n a flags old (ap₂ (λ s o. overflow_of Shl 32768 a (suc n) s o) (same_state Shl h n a flags.cf false) e)
overflow_is Shr h (suc n) a flags old e = flags_of_more Shr n a flags old (ap₂ (λ s o. overflow_of Shr 32768 a (suc n) s o) (same_state Shr h n a flags.cf false) e)
overflow_is Sar h (suc n) a flags old e = flags_of_more Sar n a flags old refl
overflow_is _ h (suc n) a flags old e = absurd (omega arith)

-- ---- the instructions

module _ (finds : Finds) (code : List ℕ) (v : View) where
  abbrev Shifts : (op r w : ℕ) → Type 0
  Shifts op r w = Goes code v (with_result r w (shift_overflow op (register v r) (register v 1 % 256) v.overflow) (on (i86.Shift op true true (rms.Reg r)) v))

  shift : (op r w : ℕ) → Has code v.place (i86.Shift op true true (rms.Reg r)) → ((carry : Bool) → (repeated (shift_named op) 32768 (register v 1 % 256) (register v r, carry)).0 ≡ w)
      → ((flags : Flags) → flags.of ≡ v.overflow → (shift_flags (shift_named op) 32768 (register v r) (register v 1 % 256) flags).of ≡ shift_overflow op (register v r) (register v 1 % 256) v.overflow)
      → Shifts op r w
  unfolding shifted operand with_operand sized_register with_sized_register
  shift op r w has value overflow =
      goes finds code v _ _ has (omega arith)
      (λ p s. sees code v _ p _ s (holds code v p s) refl
      (ap (λ rs. slice_set rs r (repeated (shift_named op) 32768 (slice_index rs 1 % 256) (slice_index rs r, p.state.flags.cf)).0) s.registers ∙ ap (slice_set v.registers r) (value p.state.flags.cf))
      (ap (λ n. (n + 2) % 65536) s.place)
      (ap (λ rs. (shift_flags (shift_named op) 32768 (slice_index rs r) (slice_index rs 1 % 256) p.state.flags).of) s.registers ∙ overflow p.state.flags s.overflow)
      refl refl)

  pub up : (r : ℕ) → Has code v.place (i86.Shift 4 true true (rms.Reg r)) → register v r < 65536 → Shifts 4 r (word_up (register v r) (register v 1 % 256))
  up r has lt = shift 4 r _ has (λ carry. up_many (register v 1 % 256) (register v r) carry lt) (λ flags e. overflow_is Shl (omega arith) (register v 1 % 256) (register v r) flags v.overflow e)

  pub down : (r : ℕ) → Has code v.place (i86.Shift 5 true true (rms.Reg r)) → Shifts 5 r (word_down (register v r) (register v 1 % 256))
  down r has = shift 5 r _ has (λ carry. down_many (register v 1 % 256) (register v r) carry) (λ flags e. overflow_is Shr (omega arith) (register v 1 % 256) (register v r) flags v.overflow e)

  pub down_signed : (r : ℕ) → Has code v.place (i86.Shift 7 true true (rms.Reg r)) → register v r < 65536 → Shifts 7 r (word_down_signed (register v r) (register v 1 % 256))
  down_signed r has lt = shift 7 r _ has (λ carry. down_signed_many (register v 1 % 256) (register v r) carry lt) (λ flags e. overflow_is Sar (omega arith) (register v 1 % 256) (register v r) flags v.overflow e)
