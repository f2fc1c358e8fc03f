-- Lists whose items each have something, with all marks of theirs in order, and operands behind their operators.
use Rattle.std.proofs.Common.{◌≡◌, ℕ, suc, ◌+◌, List, [], ◌∷◌, ◌++◌, length, map, sym, subst, ◌∙◌, arith, append-nil, append_assoc, length-append}
use Rattle.std.proofs.lemmas.List.{length-map}
use Rattle.cw_grammar.specs.Trees.{extended}
use Rattle.cw_derived.specs.Marks.{Within}
use Rattle.cw_derived.proofs.Withins.{all_within, beyond}

pub data Many (A : Type 0) (H : A → List ℕ → Type 0) : List A → List ℕ → Type 0 where
  none : Many A H [] []
  more : {x : A} {xs : List A} {a b : List ℕ} → H x a → Many A H xs b → Many A H (x ∷ xs) (a ++ b)

pub data PairOf (A B : Type 0) (H : A → List ℕ → Type 0) (K : B → List ℕ → Type 0) : A × B → List ℕ → Type 0 where
  pair : {x : A} {y : B} {a b : List ℕ} → H x a → K y b → PairOf A B H K (x, y) (a ++ b)

pub many_map : {A B : Type 0} (f : A → B) (H : B → List ℕ → Type 0) {xs : List A} {a : List ℕ} → Many A (λ x. H (f x)) xs a → Many B H (map f xs) a
many_map f H none = none
many_map f H (more h k) = more h (many_map f H k)

-- ---- operands

extended_operands : {A B : Type 0} (us : List A) (os : List B) (rest : List (B × A)) → (extended (us, os) rest).0 ≡ us ++ map (λ x. x.1) rest
extended_operands us os [] = sym (append-nil us)
extended_operands us os (x ∷ xs) = extended_operands (us ++ x.1 ∷ []) (os ++ x.0 ∷ []) xs ∙ append_assoc us (x.1 ∷ []) (map (λ y. y.1) xs)

module _ {A B : Type 0} (H : A → List ℕ → Type 0) (wider : (x : A) (a b : List ℕ) → Within a b → H x a → H x b) where
  seconds : {rest : List (B × A)} {b : List ℕ} → Many (B × A) (PairOf B A (λ y c. Unit {0}) H) rest b → Many A H (map (λ x. x.1) rest) b
  seconds none = none
  seconds (more (pair {y = y} {a = a} {b = b} u h) k) = more (wider y b (a ++ b) (beyond a (all_within b)) h) (seconds k)

pub gathered : {A B : Type 0} (H : A → List ℕ → Type 0) (wider : (x : A) (a b : List ℕ) → Within a b → H x a → H x b) {x : A} {rest : List (B × A)} {a b : List ℕ} → H x a → Many (B × A) (PairOf B A (λ y c. Unit {0}) H) rest b
    → Many A H ((extended (x ∷ [], []) rest).0) (a ++ b)
gathered {A = A} H wider {x = x} {rest = rest} {a = a} {b = b} h k =
    subst (λ (xs : List A). Many A H xs (a ++ b)) (sym (extended_operands (x ∷ []) [] rest)) (more h (seconds H wider k))

-- one operator less than operands
pub evenly : {A B : Type 0} (us : List A) (os : List B) (rest : List (B × A)) → length us ≡ suc (length os) → length ((extended (us, os) rest).0) ≡ suc (length ((extended (us, os) rest).1))
evenly us os [] h = h
evenly us os (x ∷ xs) h =
    let a : length (us ++ x.1 ∷ []) ≡ length us + 1 = length-append us (x.1 ∷ []) in
    let b : length (os ++ x.0 ∷ []) ≡ length os + 1 = length-append os (x.0 ∷ []) in
    let c : length (us ++ x.1 ∷ []) ≡ suc (length (os ++ x.0 ∷ [])) = omega (arith, a, b, h) in
    evenly (us ++ x.1 ∷ []) (os ++ x.0 ∷ []) xs c

pub same_lengths : {A B C : Type 0} (f : A → C) (xs : List A) (os : List B) → length xs ≡ suc (length os) → length (map f xs) ≡ suc (length os)
same_lengths f xs os h = length-map xs f ∙ h
