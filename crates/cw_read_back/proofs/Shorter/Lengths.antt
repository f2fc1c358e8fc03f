-- How many tokens lists of canonical tokens have.
use Rattle.std.proofs.Common.{◌≡◌, ℕ, suc, ◌+◌, ◌≤◌, List, [], ◌∷◌, ◌++◌, length, length-append, map, Option, Some, None, refl, ap, arith}
use Rattle.cw_derived.proofs.Held.{not_none, same_some}
use Rattle.cw_grammar.specs.Trees.{sole, ◌>>-◌, Operands, extended, first_of}
use Rattle.cw_show.specs.Spelling.{Spelling}
use Rattle.cw_show.specs.Canonical.{Tokens, behind_each, between, behind_operators, operation, joined, listed, ended}
use Rattle.cw_tokens.specs.LeastTokens.{separated}
use Rattle.cw_tokens.specs.TreeTokens.{total}

-- ---- lists

pub behind_each_length : {A : Type 0} (t : Spelling) (f : A → Tokens) (xs : List A) → length (behind_each t (map f xs)) ≡ separated (map (λ x. length (f x)) xs)
behind_each_length t f [] = omega arith
behind_each_length t f (x ∷ xs) = omega (arith, length-append (f x) (behind_each t (map f xs)), behind_each_length t f xs)

pub between_length : {A : Type 0} (t : Spelling) (f : A → Tokens) (x : A) (xs : List A) → length (between t (map f (x ∷ xs))) ≡ length (f x) + separated (map (λ y. length (f y)) xs)
between_length t f x xs = omega (arith, length-append (f x) (behind_each t (map f xs)), behind_each_length t f xs)

pub joined_length : {A : Type 0} (f : A → Tokens) (xs : List A) → length (joined (map f xs)) ≡ total (map (λ x. length (f x)) xs)
joined_length f [] = omega arith
joined_length f (x ∷ xs) = omega (arith, length-append (f x) (joined (map f xs)), joined_length f xs)

pub ended_length : {A : Type 0} (f : A → Tokens) (xs : List A) → length (ended (map f xs)) ≡ separated (map (λ x. length (f x)) xs)
ended_length f [] = omega arith
ended_length f (x ∷ xs) = let rest = ended (map f xs) in let s : length (ended (map f (x ∷ xs))) ≡ length (f x) + suc (length rest) = length-append (f x) _ in omega (arith, s, ended_length f xs)

separated_append : {A : Type 0} (f : A → ℕ) (xs ys : List A) → separated (map f (xs ++ ys)) ≡ separated (map f xs) + separated (map f ys)
separated_append f [] ys = omega arith
separated_append f (x ∷ xs) ys = omega (arith, separated_append f xs ys)

separated_most : {A : Type 0} (t : Spelling) (f : A → Tokens) (xs : List A) → separated (map (λ x. length (f x)) xs) ≤ suc (length (between t (map f xs)))
separated_most t f [] = omega arith
separated_most t f (x ∷ xs) = omega (arith, between_length t f x xs)

pub between_append : {A : Type 0} (t : Spelling) (f : A → Tokens) (xs ys : List A) → length (between t (map f (xs ++ ys))) ≤ length (between t (map f xs)) + suc (length (between t (map f ys)))
between_append t f [] ys = omega arith
between_append t f (x ∷ xs) ys =
    omega (arith, between_length t f x (xs ++ ys), between_length t f x xs, separated_append (λ y. length (f y)) xs ys, separated_most t f ys)

pub between_none : {A : Type 0} (t : Spelling) (f : A → Tokens) (xs : List A) → length (between t (map f (xs ++ []))) ≤ length (between t (map f xs))
between_none t f [] = omega arith
between_none t f (x ∷ xs) = omega (arith, between_length t f x (xs ++ []), between_length t f x xs, separated_append (λ y. length (f y)) xs [])

-- a list in brackets, or nothing
pub listed_most : {A : Type 0} (t : Spelling) (f : A → Tokens) (xs : List A) → length (listed t (map f xs)) ≤ 2 + length (between t (map f xs))
listed_most t f [] = omega arith
listed_most t f (x ∷ xs) =
    let all = between t (map f (x ∷ xs)) in
    let s : length (listed t (map f (x ∷ xs))) ≡ suc (length all + 1) = ap suc (length-append all _) in
    omega (arith, s)

-- ---- operands

append_grows : (a b c : Tokens) (n : ℕ) → length b ≤ length c + n → length (a ++ b) ≤ length (a ++ c) + n
append_grows a b c n h = omega (arith, length-append a b, length-append a c, h)

behind_grows : {A : Type 0} (t : Spelling) (f : A → Tokens) (xs : List A) (y : A) → length (behind_each t (map f (xs ++ y ∷ []))) ≤ length (behind_each t (map f xs)) + suc (length (f y))
behind_grows t f [] y = omega (arith, length-append (f y) [])
behind_grows t f (x ∷ xs) y = let h = append_grows (f x) (behind_each t (map f (xs ++ y ∷ []))) (behind_each t (map f xs)) (suc (length (f y))) (behind_grows t f xs y) in omega (arith, h)

pub between_grows : {A : Type 0} (t : Spelling) (f : A → Tokens) (xs : List A) (y : A) → length (between t (map f (xs ++ y ∷ []))) ≤ length (between t (map f xs)) + suc (length (f y))
between_grows t f [] y = omega (arith, length-append (f y) [])
between_grows t f (x ∷ xs) y = append_grows (f x) (behind_each t (map f (xs ++ y ∷ []))) (behind_each t (map f xs)) (suc (length (f y))) (behind_grows t f xs y)

bare_grows : {A : Type 0} (f : A → Tokens) (xs : List A) (y : A) → length (behind_operators [] (map f (xs ++ y ∷ []))) ≤ length (behind_operators [] (map f xs)) + length (f y)
bare_grows f [] y = omega (arith, length-append (f y) [])
bare_grows f (x ∷ xs) y = append_grows (f x) (behind_operators [] (map f (xs ++ y ∷ []))) (behind_operators [] (map f xs)) (length (f y)) (bare_grows f xs y)

operators_grow : {A B : Type 0} (g : B → Spelling) (f : A → Tokens) (os : List B) (xs : List A) (b : B) (y : A) → length (behind_operators (map g (os ++ b ∷ [])) (map f (xs ++ y ∷ []))) ≤ length (behind_operators (map g os) (map f xs)) + suc (length (f y))
operators_grow g f [] [] b y = omega (arith, length-append (f y) [])
operators_grow g f [] (x ∷ xs) b y =
    let h = append_grows (f x) (behind_operators [] (map f (xs ++ y ∷ []))) (behind_operators [] (map f xs)) (length (f y)) (bare_grows f xs y) in
    omega (arith, h)
operators_grow g f (o ∷ os) [] b y = omega (arith, length-append (f y) [])
operators_grow g f (o ∷ os) (x ∷ xs) b y =
    let h = append_grows (f x) (behind_operators (map g (os ++ b ∷ [])) (map f (xs ++ y ∷ []))) (behind_operators (map g os) (map f xs)) (suc (length (f y))) (operators_grow g f os xs b y) in
    omega (arith, h)

pub operation_grows : {A B : Type 0} (g : B → Spelling) (f : A → Tokens) (os : List B) (xs : List A) (b : B) (y : A) → length (operation (map g (os ++ b ∷ [])) (map f (xs ++ y ∷ []))) ≤ length (operation (map g os) (map f xs)) + suc (length (f y))
operation_grows g f os [] b y = omega (arith, length-append (f y) [])
operation_grows g f os (x ∷ xs) b y =
    append_grows (f x) (behind_operators (map g (os ++ b ∷ [])) (map f (xs ++ y ∷ []))) (behind_operators (map g os) (map f xs)) (suc (length (f y))) (operators_grow g f os xs b y)

-- more operands, each behind its operator
pub extended_most : {A B : Type 0} (size : Operands A B → ℕ) (of : A → ℕ) → ((ops : Operands A B) (b : B) (y : A) → size (ops.0 ++ y ∷ [], ops.1 ++ b ∷ []) ≤ size ops + suc (of y))
    → (ops : Operands A B) (more : List (B × A)) → size (extended ops more) ≤ size ops + separated (map (λ z. of z.1) more)
extended_most size of grows ops [] = omega arith
extended_most size of grows ops (x ∷ more) = omega (arith, extended_most size of grows (ops.0 ++ x.1 ∷ [], ops.1 ++ x.0 ∷ []) more, grows ops x.0 x.1)

-- a first operand, or those of the tree in its bracket
pub first_most : {A B C : Type 0} (size : Operands A B → ℕ) (of : A → ℕ) (parts : C → Operands A B) (o : Option C) (x : A) → size (x ∷ [], []) ≤ of x → ((c : C) → o ≡ Some c → size (parts c) ≤ of x) → size (first_of parts o x) ≤ of x
first_most size of parts None x h k = h
first_most size of parts (Some c) x h k = k c refl

-- ---- steps

-- what a step gives has no more tokens
abbrev pub Falls : {A B : Type 0} → (A → Tokens) → (B → Tokens) → (A → Option B) → Type 0
Falls {A = A} {B = B} f g step = (x : A) (y : B) → step x ≡ Some y → length (g y) ≤ length (f x)

pub sole_between : {A : Type 0} (f : A → Tokens) (t : Spelling) (xs : List A) (x : A) → sole xs ≡ Some x → length (f x) ≤ length (between t (map f xs))
sole_between f t [] x e = absurd (not_none e)
sole_between f t (y ∷ []) x e = let same = ap (λ z. length (f z)) (same_some e) in omega (arith, same, length-append (f y) [])
sole_between f t (y ∷ z ∷ zs) x e = absurd (not_none e)

pub sole_operation : {A : Type 0} (f : A → Tokens) (os : List Spelling) (xs : List A) (x : A) → sole xs ≡ Some x → length (f x) ≤ length (operation os (map f xs))
sole_operation f os [] x e = absurd (not_none e)
sole_operation f os (y ∷ []) x e = let same = ap (λ z. length (f z)) (same_some e) in omega (arith, same, length-append (f y) (behind_operators os []))
sole_operation f os (y ∷ z ∷ zs) x e = absurd (not_none e)
