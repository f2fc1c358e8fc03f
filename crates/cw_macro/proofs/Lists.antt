-- Facts that hold of each item of a list, and arguments that stand behind others.
use Rattle.std.proofs.Common.{Bool, ◌||◌, ◌≡◌, ℕ, zero, suc, ◌<◌, List, [], ◌∷◌, ◌++◌, length, map, get_or, Some, None, refl, ap, subst, arith}
use Rattle.std.specs.List.{flat_map, list_any}
use Rattle.cw_macro.specs.Premises.{Each}
use Rattle.cw_macro.specs.Expansion.{Leveled, GivenArguments}

module _ {A : Type 0} (P : A → Type 0) where
  pub each_first : (ts rest : List A) (t : A) → ts ≡ t ∷ rest → Each P ts → P t
  each_first ts rest t e h = let x : Each P (t ∷ rest) = subst (Each P) e h in x.0

  pub each_rest : (ts rest : List A) (t : A) → ts ≡ t ∷ rest → Each P ts → Each P rest
  each_rest ts rest t e h = let x : Each P (t ∷ rest) = subst (Each P) e h in x.1

  pub each_append : (xs ys : List A) → Each P xs → Each P ys → Each P (xs ++ ys)
  each_append [] ys h g = g
  each_append (x ∷ xs) ys h g = (h.0, each_append xs ys h.1 g)

pub each_map : {A B : Type 0} (P : A → Type 0) (Q : B → Type 0) (f : A → B) → ((x : A) → P x → Q (f x)) → (xs : List A) → Each P xs → Each Q (map f xs)
each_map P Q f g [] h = tt
each_map P Q f g (x ∷ xs) h = (g x h.0, each_map P Q f g xs h.1)

pub each_flat_map : {A B : Type 0} (P : A → Type 0) (Q : B → Type 0) (f : A → List B) → ((x : A) → P x → Each Q (f x)) → (xs : List A) → Each P xs → Each Q (flat_map f xs)
each_flat_map P Q f g [] h = tt
each_flat_map P Q f g (x ∷ xs) h = each_append Q (f x) (flat_map f xs) (g x h.0) (each_flat_map P Q f g xs h.1)

-- ---- arguments

-- the arguments done and a first part of the next, in front of the others
abbrev pub behind : List (List Leveled) → List Leveled → GivenArguments → GivenArguments
behind args argument None = None
behind [] argument (Some (first, more, rest)) = Some (argument ++ first, more, rest)
behind (a ∷ args) argument (Some (first, more, rest)) = Some (a, args ++ (argument ++ first) ∷ more, rest)

pub each_at_map : {A B : Type 0} (P : B → Type 0) (f : A → B) (xs : List A) (i : ℕ) (d : A) → i < length xs → Each P (map f xs) → P (f (get_or xs i d))
each_at_map P f [] i d l h = absurd (omega (arith, l))
each_at_map P f (x ∷ xs) zero d l h = h.0
each_at_map P f (x ∷ xs) (suc i) d l h = each_at_map P f xs i d (omega (arith, l)) h.1

pub list_any-map : {A B : Type 0} (p : B → Bool) (f : A → B) (xs : List A) → list_any p (map f xs) ≡ list_any (λ x. p (f x)) xs
list_any-map p f [] = refl
list_any-map p f (x ∷ xs) = ap (λ (b : Bool). p (f x) || b) (list_any-map p f xs)
