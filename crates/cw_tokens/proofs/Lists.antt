-- Counts of lists, and of what one step or two steps give.
use Rattle.std.proofs.Common.{◌≡◌, ℕ, suc, ◌+◌, ◌*◌, ◌≤◌, List, [], ◌∷◌, ◌++◌, length, map, Option, Some, None, refl, sym, ◌∙◌, arith}
use Rattle.std.proofs.lemmas.Option.{none-some, same_Some}
use Rattle.cw_grammar.specs.Trees.{Operands, extended, first_of}
use Rattle.cw_tokens.specs.LeastTokens.{separated, arguments}
use Rattle.cw_tokens.specs.TreeTokens.{between, total}

pub not_none : {A : Type 0} {x : A} → None ≡ Some x → ⊥
not_none {x = x} e = none-some x e

pub same_some : {A : Type 0} {x y : A} → Some x ≡ Some y → x ≡ y
same_some {x = x} {y = y} e = same_Some x y e

-- ---- operands

separated_more : {A : Type 0} (f : A → ℕ) (xs : List A) (y : A) → separated (map f (xs ++ y ∷ [])) ≡ separated (map f xs) + suc (f y)
separated_more f [] y = omega arith
separated_more f (x ∷ xs) y = omega (arith, separated_more f xs y)

between_more : {A : Type 0} (f : A → ℕ) (xs : List A) (y : A) → between (map f (xs ++ y ∷ [])) ≤ between (map f xs) + suc (f y)
between_more f [] y = omega arith
between_more f (x ∷ xs) y = omega (arith, separated_more f xs y)

pub between_extended : {A B : Type 0} (f : A → ℕ) (ops : Operands A B) (more : List (B × A)) → between (map f (extended ops more).0) ≤ between (map f ops.0) + separated (map (λ z. f z.1) more)
between_extended f ops [] = omega arith
between_extended f ops (x ∷ more) = omega (arith, between_extended f (ops.0 ++ x.1 ∷ [], ops.1 ++ x.0 ∷ []) more, between_more f ops.0 x.1)

-- a bracket is written for what stands in it
pub arguments_most : (ns : List ℕ) → arguments ns ≤ suc (separated ns)
arguments_most [] = omega arith
arguments_most (n ∷ ns) = omega arith

-- ---- steps

-- A first operand, or those of the tree in its bracket.
pub first_keeps : {A B C : Type 0} (f : A → ℕ) (h : C → ℕ) (parts : C → Operands A B) (o : Option C) (x : A) → ((c : C) → o ≡ Some c → h c ≡ f x) → ((c : C) → h c ≡ between (map f (parts c).0)) → between (map f (first_of parts o x).0) ≡ f x
first_keeps f h parts None x k l = omega arith
first_keeps f h parts (Some c) x k l = sym (l c) ∙ k c refl

-- ---- sums

pub total_most : (ns : List ℕ) → total ns ≤ separated ns
total_most [] = omega arith
total_most (n ∷ ns) = omega (arith, total_most ns)

pub all_ones : {A : Type 0} (xs : List A) → separated (map (λ x. 1) xs) ≡ 2 * length xs
all_ones [] = omega arith
all_ones (x ∷ xs) = omega (arith, all_ones xs)
