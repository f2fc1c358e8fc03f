-- What holds of each item of a list, and operands that are regular.
use Rattle.std.proofs.Common.{◌≡◌, ℕ, suc, ◌+◌, ◌≤◌, Bool, true, IsTrue, List, [], ◌∷◌, ◌++◌, length, map, Some, refl, arith, length-append, subst}
use Rattle.std.specs.List.{All}
use Rattle.cw_tokens.specs.LeastTokens.{separated}
use Rattle.cw_tokens.specs.TreeTokens.{between}
use Rattle.cw_grammar.specs.Trees.{sole, Operands, extended}
use Rattle.cw_derived.proofs.Held.{not_none, same_some}
use Rattle.cw_sound.specs.Expressions.Regular.{all}
use Rattle.cw_sound.proofs.Expressions.Truth.{both, parts}
use Rattle.cw_sound.proofs.Regular.Fits.{Fits}
use Rattle.cw_macro.specs.Premises.{Each}

pub each_of : {A : Type 0} (P : A → Type 0) (xs : List A) → All P xs → Each P xs
each_of P [] h = tt
each_of P (x ∷ xs) h = (h 0 x (omega arith), each_of P xs (λ k d l. h (suc k) d (omega (arith, l))))

-- ---- operands

module _ {X : Type 0} (f : X → Bool) (g : X → ℕ) where
  pub all_append : (xs ys : List X) → IsTrue (all (map f xs)) → IsTrue (all (map f ys)) → IsTrue (all (map f (xs ++ ys)))
  all_append [] ys h k = k
  all_append (x ∷ xs) ys h k = let p = parts (f x) (all (map f xs)) h in both (f x) (all (map f (xs ++ ys))) p.0 (all_append xs ys p.1 k)

  pub all_each : (xs : List X) → Each (λ x. Fits (f x) (g x)) xs → IsTrue (all (map f xs))
  all_each [] h = refl
  all_each (x ∷ xs) h = both (f x) (all (map f xs)) h.0.right (all_each xs h.1)

  pub two_each : (xs : List X) → Each (λ x. Fits (f x) (g x)) xs → length xs + length xs ≤ separated (map g xs)
  two_each [] h = omega arith
  two_each (x ∷ xs) h = omega (arith, h.0.some, two_each xs h.1)

  separated_more : (xs ys : List X) → separated (map g xs) ≤ separated (map g (xs ++ ys))
  separated_more [] ys = omega arith
  separated_more (x ∷ xs) ys = omega (arith, separated_more xs ys)

  pub between_more : (xs ys : List X) → between (map g xs) ≤ between (map g (xs ++ ys))
  between_more [] ys = omega arith
  between_more (x ∷ xs) ys = omega (arith, separated_more xs ys)

  pub sole_fits : (xs : List X) (x : X) → IsTrue (all (map f xs)) → 1 ≤ between (map g xs) → sole xs ≡ Some x → Fits (f x) (g x)
  sole_fits [] x h k q = absurd (not_none q)
  sole_fits (y ∷ []) x h k q = subst (λ (z : X). Fits (f z) (g z)) (same_some q) (record { right = (parts (f y) true h).0; some = omega (arith, k) })
  sole_fits (y ∷ z ∷ zs) x h k q = absurd (not_none q)

module _ {X O : Type 0} (f : X → Bool) (g : X → ℕ) where
  -- the second of each pair is regular, and counts a token at least
  abbrev pub Behind : List (O × X) → Type 0
  Behind rest = Each (λ (z : O × X). Unit {0} × Fits (f z.1) (g z.1)) rest

  pub all_more : (ops : Operands X O) (rest : List (O × X)) → IsTrue (all (map f ops.0)) → Behind rest → IsTrue (all (map f (extended ops rest).0))
  all_more ops [] h k = h
  all_more ops (z ∷ rest) h k = all_more (ops.0 ++ z.1 ∷ [], ops.1 ++ z.0 ∷ []) rest (all_append f g ops.0 (z.1 ∷ []) h (both (f z.1) true k.0.1.right refl)) k.1

  pub count_more : (ops : Operands X O) (rest : List (O × X)) → between (map g ops.0) ≤ between (map g (extended ops rest).0)
  count_more ops [] = omega arith
  count_more ops (z ∷ rest) = omega (arith, between_more f g ops.0 (z.1 ∷ []), count_more (ops.0 ++ z.1 ∷ [], ops.1 ++ z.0 ∷ []) rest)

abbrev pub IsEven : {X O : Type 0} → Operands X O → Type 0
IsEven ops = length ops.0 ≤ suc (length ops.1)

pub even_more : {X O : Type 0} (ops : Operands X O) (rest : List (O × X)) → IsEven ops → IsEven (extended ops rest)
even_more ops [] h = h
even_more ops (z ∷ rest) h = even_more (ops.0 ++ z.1 ∷ [], ops.1 ++ z.0 ∷ []) rest (omega (arith, h, length-append ops.0 (z.1 ∷ []), length-append ops.1 (z.0 ∷ [])))
