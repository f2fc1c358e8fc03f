-- What scales, products and quotients have before a check that jumps back.
use Rattle.std.proofs.Common.{◌≡◌, ℕ, zero, suc, ◌+◌, ◌-◌, ◌^◌, ◌<◌, ℤ, pos, negsuc, ◌≤ℤ◌, ◌<ℤ◌, unsigned_abs, ◌++◌, subst, arith}
use Rattle.std.specs.Prelude.{◌==◌}
use Rattle.std.proofs.lemmas.Int.{ints}
use Rattle.cw_assemble.specs.declared.draft.Draft.{Draft}
use Rattle.cw_assemble.specs.Growing.{Adds}
use Rattle.cw_tmpl.specs.Library.{quotient_up_entry, quotient_down_entry}
use Rattle.cw_tmpl.specs.Templates.{times_before, routine_before, product_start, product_before, divisor_tested, quotient_before}
use Rattle.cw_assemble.proofs.Growing.{adds_then}

-- a multiplication by a number
pub times_as : (old new : Draft) (k n : ℕ) → k ≡ n → Adds old (times_before (k == 32768) k) new → Adds old (times_before (n == 32768) n) new
times_as old new k n e t = subst (λ x. Adds old (times_before (x == 32768) x) new) e t

-- a product that is scaled up by at least one place
pub scaled_added : (old one new : Draft) (line k n : ℕ) → 0 < n → k ≡ 2 ^ n → Adds old (product_start line) one → Adds one (times_before (k == 32768) k) new → Adds old (product_before line (pos n)) new
scaled_added old one new line k zero some e a b = absurd (omega arith)
scaled_added old one new line k (suc n) some e a b = adds_then old one new (product_start line) (times_before (2 ^ suc n == 32768) (2 ^ suc n)) a (times_as one new k (2 ^ suc n) e b)

-- a product by the sign of its scale
pub product_up_added : (old new : Draft) (line n : ℕ) (z : ℤ) → pos 0 ≤ℤ z → n ≡ unsigned_abs z → Adds old (product_before line (pos n)) new → Adds old (product_before line z) new
product_up_added old new line n (pos m) h e a = subst (λ k. Adds old (product_before line (pos k)) new) e a
product_up_added old new line n (negsuc m) h e a = absurd (omega (arith, ints))

pub product_down_added : (old new : Draft) (line n : ℕ) (z : ℤ) → z <ℤ pos 0 → n ≡ unsigned_abs z → Adds old (product_before line (negsuc (n - 1))) new → Adds old (product_before line z) new
product_down_added old new line n (pos m) h e a = absurd (omega (arith, ints))
product_down_added old new line n (negsuc m) h e a = let same : n - 1 ≡ m = omega (arith, e) in subst (λ k. Adds old (product_before line (negsuc k)) new) same a

-- a quotient
pub quotient_up_before : (old one new : Draft) (line n : ℕ) (z : ℤ) → pos 0 ≤ℤ z → n ≡ unsigned_abs z → Adds old (divisor_tested line) one → Adds one (routine_before quotient_up_entry n) new → Adds old (quotient_before line z) new
quotient_up_before old one new line n (pos m) h e a b =
    subst (λ k. Adds old (quotient_before line (pos k)) new) e (adds_then old one new (divisor_tested line) (routine_before quotient_up_entry n) a b)
quotient_up_before old one new line n (negsuc m) h e a b = absurd (omega (arith, ints))

pub quotient_down_before : (old one new : Draft) (line n : ℕ) (z : ℤ) → z <ℤ pos 0 → n ≡ unsigned_abs z → Adds old (divisor_tested line) one → Adds one (routine_before quotient_down_entry n) new → Adds old (quotient_before line z) new
quotient_down_before old one new line n (pos m) h e a b = absurd (omega (arith, ints))
quotient_down_before old one new line n (negsuc m) h e a b =
    let same : n ≡ m + 1 = omega (arith, e) in
    subst (λ k. Adds old (divisor_tested line ++ routine_before quotient_down_entry k) new) same (adds_then old one new (divisor_tested line) (routine_before quotient_down_entry n) a b)
