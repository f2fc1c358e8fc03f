-- Parts of tests that hold.
use Rattle.std.proofs.Common.{◌≡◌, ℕ, zero, suc, ◌<◌, List, [], ◌∷◌, Bool, true, false, IsTrue, Some, nat_eq, slice_get, subst, refl, arith}
use Rattle.std.specs.List.{list_all}
use Rattle.std.proofs.lemmas.Bool.{eqb-true}
use Rattle.std.proofs.lemmas.Option.{none-some, same_Some}
use Rattle.cw_safety.proofs.Truth.{both}

pub all-get : {X : Type 0} (f : X → Bool) (xs : List X) (k : ℕ) (x : X) → IsTrue (list_all f xs) → slice_get xs k ≡ Some x → IsTrue (f x)
all-get f [] k x h e = absurd (none-some x e)
all-get f (y ∷ xs) zero x h e = subst (λ z. IsTrue (f z)) (same_Some y x e) (both (f y) (list_all f xs) h).0
all-get f (y ∷ xs) (suc k) x h e = all-get f xs k x (both (f y) (list_all f xs) h).1 e

-- a number that is another one is not below it
pub unequal : (a b : ℕ) (t : Bool) → nat_eq a b ≡ t → b < a → t ≡ false
unequal a b true e lt = let same : a ≡ b = eqb-true a b e in absurd (omega (arith, same, lt))
unequal a b false e lt = refl
