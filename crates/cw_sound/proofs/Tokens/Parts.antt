-- What is made of a part of an expression has at most so many tokens: as an operand, where it is none, and as an argument.
use Rattle.std.proofs.Common.{◌≡◌, ℕ, ◌≤◌, Bool, true, false, List, [], ◌∷◌, ◌++◌, map, sym, subst, ◌∙◌, arith, append-nil, append_assoc}
use Rattle.cw_grammar.specs.Trees.{extended}
use Rattle.cw_make_expr.specs.Made.{Made, Placed, simply, handed_if}
use Rattle.cw_make_expr.specs.Parts.{no_argument}
use Rattle.cw_unit.specs.declared.unit.Arg.{Arg}
use Rattle.cw_unit.specs.declared.unit.Arg.TheOpen as layer
use Rattle.cw_unit.specs.declared.unit.Cond.{Cond}
use Rattle.cw_unit.specs.declared.unit.Expr.{Expr}
use Rattle.cw_tokens.specs.LeastTokens.{argument_tokens, condition_tokens, expression_tokens, reference_tokens}
use Rattle.cw_sound.proofs.Tokens.Nodes.{argument_rolled}

pub record Sized (m : Made) (n : ℕ) : Type 0 where
  pub some : 1 ≤ n
  pub made : (operand : Bool) → expression_tokens (m.made operand) ≤ n
  pub handed : argument_tokens m.handed ≤ n

pub record SizedPlace (r : Placed) (n : ℕ) : Type 0 where
  pub some : 1 ≤ n
  pub place : reference_tokens r.place ≤ n
  pub value : expression_tokens r.value ≤ n
  pub handed : argument_tokens r.handed ≤ n

pub data Sizes : List Made → List ℕ → Type 0 where
  none : Sizes [] []
  more : {m : Made} {n : ℕ} {ms : List Made} {ns : List ℕ} → Sized m n → Sizes ms ns → Sizes (m ∷ ms) (n ∷ ns)

pub data SizedTests : List Cond → List ℕ → Type 0 where
  no_test : SizedTests [] []
  more_tests : {c : Cond} {n : ℕ} {cs : List Cond} {ns : List ℕ} → condition_tokens c ≤ n → SizedTests cs ns → SizedTests (c ∷ cs) (n ∷ ns)

-- ---- what stands for an argument that is not there

pub no_argument_tokens : argument_tokens no_argument ≡ 1
no_argument_tokens = argument_rolled (layer.Special 0)

pub no_argument_least : (n : ℕ) → 1 ≤ n → argument_tokens no_argument ≤ n
no_argument_least n h = let is : argument_tokens no_argument ≡ 1 = no_argument_tokens in omega (arith, h, is)

pub handed_if_least : (b : Bool) (a : Arg) (n : ℕ) → 1 ≤ n → argument_tokens a ≤ n → argument_tokens (handed_if b a) ≤ n
handed_if_least true a n h k = k
handed_if_least false a n h k = no_argument_least n h

pub simply_sized : (e : Expr) (n : ℕ) → 1 ≤ n → expression_tokens e ≤ n → Sized (simply e) n
simply_sized e n h k = record { some = h; made = λ operand. k; handed = no_argument_least n h }

-- ---- lists whose items each have something

pub data Each (A : Type 0) (H : A → Type 0) : List A → Type 0 where
  no_item : Each A H []
  an_item : {x : A} {xs : List A} → H x → Each A H xs → Each A H (x ∷ xs)

pub sizes_of : {A : Type 0} (f : A → Made) (g : A → ℕ) {xs : List A} → Each A (λ x. Sized (f x) (g x)) xs → Sizes (map f xs) (map g xs)
sizes_of f g no_item = none
sizes_of f g (an_item h k) = more h (sizes_of f g k)

-- operands behind their operators

pub extended_operands : {A B : Type 0} (us : List A) (os : List B) (rest : List (B × A)) → (extended (us, os) rest).0 ≡ us ++ map (λ x. x.1) rest
extended_operands us os [] = sym (append-nil us)
extended_operands us os (x ∷ xs) = extended_operands (us ++ x.1 ∷ []) (os ++ x.0 ∷ []) xs ∙ append_assoc us (x.1 ∷ []) (map (λ y. y.1) xs)

operand_sizes : {A B : Type 0} (f : A → Made) (g : A → ℕ) {rest : List (B × A)} → Each (B × A) (λ y. Unit {0} × Sized (f y.1) (g y.1)) rest → Sizes (map f (map (λ y. y.1) rest)) (map g (map (λ y. y.1) rest))
operand_sizes f g no_item = none
operand_sizes f g (an_item h k) = more h.1 (operand_sizes f g k)

operand_tests : {A B : Type 0} (f : A → Cond) (g : A → ℕ) {rest : List (B × A)} → Each (B × A) (λ y. Unit {0} × (condition_tokens (f y.1) ≤ g y.1)) rest → SizedTests (map f (map (λ y. y.1) rest)) (map g (map (λ y. y.1) rest))
operand_tests f g no_item = no_test
operand_tests f g (an_item h k) = more_tests h.1 (operand_tests f g k)

-- what holds of an operand, where others stand behind their operators, holds of the operands together
pub gathered : {A B : Type 0} (f : A → Made) (g : A → ℕ) (P : List Made → List ℕ → Type 0)
    → ((x : A) (ms : List Made) (ns : List ℕ) → Sized (f x) (g x) → Sizes ms ns → P (f x ∷ ms) (g x ∷ ns))
    → (x : A) (rest : List (B × A)) → Sized (f x) (g x) → Each (B × A) (λ y. Unit {0} × Sized (f y.1) (g y.1)) rest
    → P (map f ((extended (x ∷ [], []) rest).0)) (map g ((extended (x ∷ [], []) rest).0))
gathered {A = A} f g P so x rest h k =
    subst (λ (zs : List A). P (map f zs) (map g zs)) (sym (extended_operands (x ∷ []) [] rest))
    (so x (map f (map (λ y. y.1) rest)) (map g (map (λ y. y.1) rest)) h (operand_sizes f g k))

pub gathered_tests : {A B : Type 0} (f : A → Cond) (g : A → ℕ) (P : List Cond → List ℕ → Type 0)
    → ((x : A) (cs : List Cond) (ns : List ℕ) → condition_tokens (f x) ≤ g x → SizedTests cs ns → P (f x ∷ cs) (g x ∷ ns))
    → (x : A) (rest : List (B × A)) → condition_tokens (f x) ≤ g x → Each (B × A) (λ y. Unit {0} × (condition_tokens (f y.1) ≤ g y.1)) rest
    → P (map f ((extended (x ∷ [], []) rest).0)) (map g ((extended (x ∷ [], []) rest).0))
gathered_tests {A = A} f g P so x rest h k =
    subst (λ (zs : List A). P (map f zs) (map g zs)) (sym (extended_operands (x ∷ []) [] rest))
    (so x (map f (map (λ y. y.1) rest)) (map g (map (λ y. y.1) rest)) h (operand_tests f g k))
