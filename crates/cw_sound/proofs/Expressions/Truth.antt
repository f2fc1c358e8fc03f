-- Tests that hold, and parts of them.
use Rattle.std.proofs.Common.{◌≡◌, ℕ, ◌<◌, ◌≤◌, max, List, ◌∷◌, length, Bool, true, false, IsTrue, ◌&&◌, ◌||◌, nat_le, nat_lt, ◌==◌, Some, None, refl, sym, arith}
use Rattle.std.proofs.lemmas.Bool.Decides.{nat_tests}
use Rattle.std.proofs.lemmas.Option.{none-some}
pub use Rattle.cw_writable.proofs.Coded.Fine.{no, both, parts}

pub something : {A X : Type 0} (x : X) → Some x ≡ None → A
something x e = absurd (none-some x (sym e))

pub first_true : (a b : Bool) → IsTrue (a && b) → IsTrue a
first_true a b h = (parts a b h).0

pub second_true : (a b : Bool) → IsTrue (a && b) → IsTrue b
second_true a b h = (parts a b h).1

pub either : {A : Type 0} (a b : Bool) → IsTrue (a || b) → (IsTrue a → A) → (IsTrue b → A) → A
either true b h f g = f refl
either false b h f g = g h

pub or_left : (a b : Bool) → IsTrue a → IsTrue (a || b)
or_left true b h = refl
or_left false b h = no h

pub or_right : (a b : Bool) → IsTrue b → IsTrue (a || b)
or_right true b h = refl
or_right false b h = h

pub le_true : (a b : ℕ) → a ≤ b → IsTrue (nat_le a b)
le_true a b h = grind (arith, nat_tests)

pub le_of : (a b : ℕ) → IsTrue (nat_le a b) → a ≤ b
le_of a b h = grind (arith, nat_tests)

pub lt_true : (a b : ℕ) → a < b → IsTrue (nat_lt a b)
lt_true a b h = grind (arith, nat_tests)

pub lt_of : (a b : ℕ) → IsTrue (nat_lt a b) → a < b
lt_of a b h = grind (arith, nat_tests)

-- ---- how many

pub not_one : {X : Type 0} (x y : X) (xs : List X) → (length (x ∷ y ∷ xs) == 1) ≡ false
not_one x y xs = grind (arith, nat_tests)

pub not_none : {X : Type 0} (x : X) (xs : List X) → (length (x ∷ xs) == 0) ≡ false
not_none x xs = grind (arith, nat_tests)

pub max_zero : (n : ℕ) → max 0 n ≡ n
max_zero n = omega arith

pub max_small : (a b n : ℕ) → a ≤ n → b ≤ n → max a b ≤ n
max_small a b n h k = omega (arith, h, k)
