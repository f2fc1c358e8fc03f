-- IDIV behind CWD by a number whose magnitude is 2 or more: it never faults, and its quotient is that of the source.
use Rattle.std.proofs.Common.{◌≡◌, ℕ, zero, suc, ◌+◌, ◌*◌, ◌/◌, ◌%◌, ◌<◌, ◌≤◌, true, false, ℤ, pos, negsuc, neg_ℤ, ◌*ℤ◌, unsigned_abs, int_div, int_rem, List, Some, None, if◌then◌else◌, refl, sym, ap, ap₂, subst, ◌∙◌, arith}
use Rattle.std.proofs.Math.Nat.{div-mul-le_self, mul-le-mul_left}
use Rattle.std.proofs.lemmas.Bool.{lt-ltb, ne_eqb}
use Rattle.std.proofs.lemmas.Bool.Decides.{nat_tests}
use Rattle.std.proofs.lemmas.Int.{ints}
use Rattle.std.specs.Prelude.{nat_lt, nat_eq, slice_index, slice_set}
use Rattle.std.specs.Int.{w16, w32, cast_signed}
use Rattle.std.specs.Option.{option_map}
use Rattle.cw_i86.specs.Products.{truncated, both, signed_quotient_of}
use Rattle.cw_i86.specs.State.{sized_register, operand}
use Rattle.cw_i86.specs.Effect.{unary, signed_divided, with_quotient}
use Rattle.cw_i86.specs.declared.instr.Instr.TheVariants as i86
use Rattle.cw_i86.specs.declared.instr.Rm.TheVariants as rms
use Rattle.cw_word.specs.FixedPoint.{FitsWord, scaled_quotient}
use Rattle.cw_word.specs.Word.{signed, unsigned}
use Rattle.cw_run86.specs.Processor.{behind, completed}
use Rattle.cw_run86.specs.Views.{View, Sees, Has, Goes, register, on, with_pair, sign_of}
use Rattle.cw_run86.proofs.Tests.{Finds}
use Rattle.cw_run86.proofs.Memory.{holds}
use Rattle.cw_run86.proofs.Goes.{goes, sees}

-- ---- the quotient

-- CWD makes a pair of words that is the number
extended : (x : ℤ) → FitsWord x → cast_signed w32 (65536 * sign_of (unsigned x) + unsigned x) ≡ x
extended (pos n) f = let s = f.sfits in grind (arith, ints, nat_tests)
extended (negsuc n) f = let s = f.sfits in grind (arith, ints, nat_tests)

abs_negative : (n : ℕ) → unsigned_abs (neg_ℤ (pos n)) ≡ n
abs_negative zero = refl
abs_negative (suc n) = refl

abs_quotient : (x y : ℤ) → unsigned_abs (int_div x y) ≡ unsigned_abs x / unsigned_abs y
abs_quotient (pos x) (pos y) = refl
abs_quotient (pos x) (negsuc y) = abs_negative (x / suc y)
abs_quotient (negsuc x) (pos y) = abs_negative (suc x / y)
abs_quotient (negsuc x) (negsuc y) = refl

abs_word : (x : ℤ) → FitsWord x → unsigned_abs x ≤ 32768
abs_word (pos n) f = let s = f.sfits in omega (arith, ints)
abs_word (negsuc n) f = let s = f.sfits in omega (arith, ints)

fits_abs : (z : ℤ) → unsigned_abs z < 32768 → FitsWord z
fits_abs (pos n) lt = omega (arith, ints)
fits_abs (negsuc n) lt = omega (arith, ints)

-- it is at most half of the greatest magnitude
small_quotient : (x n : ℤ) → FitsWord x → 2 ≤ unsigned_abs n → unsigned_abs (int_div x n) ≤ 16384
small_quotient x n f two =
    let m = unsigned_abs x in
    let k = unsigned_abs n in
    let whole = div-mul-le_self m k in
    let more = mul-le-mul_left (m / k) two in
    let small = abs_word x f in
    let e = abs_quotient x n in
    omega arith

truncates : (x n : ℤ) → FitsWord x → 2 ≤ unsigned_abs n → truncated 32768 x n ≡ Some (int_div x n, int_rem x n)
truncates x n f two =
    let some : nat_eq (unsigned_abs n) 0 ≡ false = ne_eqb (unsigned_abs n) 0 (λ e. omega arith) in
    let below : nat_lt (unsigned_abs (int_div x n)) 32768 ≡ true = let s = small_quotient x n f two in lt-ltb (unsigned_abs (int_div x n)) 32768 (omega arith) in
    ap (λ t. if t then None else (if nat_lt (unsigned_abs (int_div x n)) 32768 then Some (int_div x n, int_rem x n) else None)) some
    ∙ ap (λ t. if t then Some (int_div x n, int_rem x n) else None) below

times_one : (z : ℤ) → z *ℤ pos 1 ≡ z
times_one (pos n) = omega (arith, ints)
times_one (negsuc n) = omega (arith, ints)

unscaled : (x n : ℤ) → scaled_quotient x n (pos 0) ≡ int_div x n
unscaled x n = ap₂ int_div (times_one x) (times_one n)

pub quotient_fits : (x n : ℤ) → FitsWord x → 2 ≤ unsigned_abs n → FitsWord (scaled_quotient x n (pos 0))
quotient_fits x n f two = rw (unscaled x n) (let s = small_quotient x n f two in fits_abs (int_div x n) (omega arith))

divides : ((z : ℤ) → FitsWord z → signed (unsigned z) ≡ z) → (x n : ℤ) → FitsWord x → FitsWord n → 2 ≤ unsigned_abs n
    → signed_quotient_of w32 w16 32768 (65536 * sign_of (unsigned x) + unsigned x) (unsigned n) ≡ Some (unsigned (scaled_quotient x n (pos 0)), unsigned (int_rem x n))
divides back x n fx fn two =
    ap₂ (λ a b. option_map (both w16) (truncated 32768 a b)) (extended x fx) (back n fn) ∙ ap (option_map (both w16)) (truncates x n fx two)
    ∙ ap (λ q. Some (unsigned q, unsigned (int_rem x n))) (sym (unscaled x n))

-- ---- the instruction

divided_by : Finds → (code : List ℕ) (v : View) (r q m : ℕ) → Has code v.place (i86.Unary 7 true (rms.Reg r)) → signed_quotient_of w32 w16 32768 (65536 * register v 2 + register v 0) (register v r) ≡ Some (q, m)
    → Goes code v (with_pair q m (on (i86.Unary 7 true (rms.Reg r)) v))
unfolding unary signed_divided operand sized_register
divided_by finds code v r q m has is =
    let w = with_pair q m (on (i86.Unary 7 true (rms.Reg r)) v) in
    goes finds code v _ _ has (omega arith)
    (λ p s. let found = ap (λ rs. signed_quotient_of w32 w16 32768 (65536 * slice_index rs 2 + slice_index rs 0) (slice_index rs r)) s.registers ∙ is in
    subst (λ o. Sees code w (completed (with_quotient (behind (i86.Unary 7 true (rms.Reg r)) p.state) true o) p)) (sym found)
    (sees code v w p _ s (holds code v p s) refl (ap (λ rs. slice_set (slice_set rs 0 q) 2 m) s.registers) (ap (λ n. (n + 2) % 65536) s.place) s.overflow refl refl))

pub by_number : ((z : ℤ) → FitsWord z → signed (unsigned z) ≡ z) → Finds → (code : List ℕ) (v : View) (r : ℕ) (x n : ℤ) → Has code v.place (i86.Unary 7 true (rms.Reg r)) → FitsWord x → FitsWord n → 2 ≤ unsigned_abs n
    → register v 0 ≡ unsigned x → register v 2 ≡ sign_of (unsigned x) → register v r ≡ unsigned n
    → Goes code v (with_pair (unsigned (scaled_quotient x n (pos 0))) (unsigned (int_rem x n)) (on (i86.Unary 7 true (rms.Reg r)) v))
by_number back finds code v r x n has fx fn two low high by =
    divided_by finds code v r _ _ has
    (ap₂ (λ a b. signed_quotient_of w32 w16 32768 (65536 * a + b) (register v r)) high low ∙ ap (signed_quotient_of w32 w16 32768 (65536 * sign_of (unsigned x) + unsigned x)) by ∙ divides back x n fx fn two)
