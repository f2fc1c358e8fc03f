-- The declarations of an environment: each stands in the same body or outside of procedures.
use Rattle.std.proofs.Common.{◌≡◌, ◌⊎◌, inl, inr, ℕ, List, [], ◌∷◌, ◌++◌, map, Bool, true, false, cond, Option, Some, None, refl, sym, ap, subst, ◌∙◌}
use Rattle.std.specs.Prelude.{find}
use Rattle.cw_facts.specs.declared.fact.Declaration.{Declaration}
use Rattle.cw_scope.specs.Scope.{Environment, has_name, declared_in, or_else, declaration_of}
use Rattle.cw_sound.specs.Uses.Mentions.{In, Here, here, declares}

first_in : (n : List ℕ) (ds : List Declaration) (d : Declaration) → declared_in ds n ≡ Some d → In d ds
first_in n [] d e = absurd (cc)
first_in n (x ∷ xs) d e = by_test (first_in n xs d) (has_name n x) e
  where
    by_test : (find (has_name n) xs ≡ Some d → In d xs) → (b : Bool) → cond b (Some x) (find (has_name n) xs) ≡ Some d → In d (x ∷ xs)
    by_test rest true h = inl (cc)
    by_test rest false h = inr (rest h)

module _ (all : List Here) where
  pub record Near (q : Option ℕ) (d : Declaration) : Type 0 where
    pub owner : Option ℕ
    pub is_declared : In (here owner (declares d)) all
    pub is_near : (owner ≡ q) ⊎ (owner ≡ None)

  abbrev pub BlockNear : Option ℕ → List Declaration → Type 0
  BlockNear q ds = (d : Declaration) → In d ds → Near q d

  abbrev pub AllNear : Option ℕ → Environment → Type 0
  AllNear q [] = Unit {0}
  AllNear q (ds ∷ rest) = BlockNear q ds × AllNear q rest

  pub near_within : (q : Option ℕ) (env : Environment) (ds : List Declaration) → AllNear q env → BlockNear q ds → AllNear q (env ++ ds ∷ [])
  near_within q [] ds h k = (k, tt)
  near_within q (x ∷ xs) ds h k = (h.0, near_within q xs ds h.1 k)

  further : (q p : Option ℕ) (d : Declaration) → q ≡ None → Near q d → Near p d
  further q p d e n = record { owner = n.owner; is_declared = n.is_declared; is_near = outside n.is_near }
    where
      outside : (n.owner ≡ q) ⊎ (n.owner ≡ None) → (n.owner ≡ p) ⊎ (n.owner ≡ None)
      outside (inl h) = inr (h ∙ e)
      outside (inr h) = inr h

  -- in the body of a procedure that stands in no other
  pub near_inwards : (q p : Option ℕ) (env : Environment) → q ≡ None → AllNear q env → AllNear p env
  near_inwards q p [] e h = tt
  near_inwards q p (x ∷ xs) e h = (λ d i. further q p d e (h.0 d i), near_inwards q p xs e h.1)

  pub near_found : (q : Option ℕ) (env : Environment) (n : List ℕ) (d : Declaration) → AllNear q env → declaration_of env n ≡ Some d → Near q d
  near_found q [] n d h e = absurd (cc)
  near_found q (x ∷ xs) n d h e = by_inner (near_found q xs n d h.1) (declaration_of xs n) refl e
    where
      by_inner : (declaration_of xs n ≡ Some d → Near q d) → (o : Option Declaration) → declaration_of xs n ≡ o → or_else o (declared_in x n) ≡ Some d → Near q d
      by_inner rest (Some c) is k = rest (is ∙ k)
      by_inner rest None is k = h.0 d (first_in n x d k)
