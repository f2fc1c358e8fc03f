-- Elements of lists.
use Rattle.std.proofs.Common.{◌≡◌, ◌⊎◌, inl, inr, ℕ, List, [], ◌∷◌, ◌++◌, map, refl, sym, ap, subst, ◌∙◌}
use Rattle.cw_sound.specs.Uses.Mentions.{In}

module _ {X : Type 0} where
  pub in_left : (x : X) (xs ys : List X) → In x xs → In x (xs ++ ys)
  in_left x [] ys h = absurd h
  in_left x (z ∷ zs) ys (inl e) = inl e
  in_left x (z ∷ zs) ys (inr h) = inr (in_left x zs ys h)

  pub in_right : (x : X) (xs ys : List X) → In x ys → In x (xs ++ ys)
  in_right x [] ys h = h
  in_right x (z ∷ zs) ys h = inr (in_right x zs ys h)

  behind : (x z : X) (zs ys : List X) → In x zs ⊎ In x ys → In x (z ∷ zs) ⊎ In x ys
  behind x z zs ys (inl h) = inl (inr h)
  behind x z zs ys (inr h) = inr h

  pub in_either : (x : X) (xs ys : List X) → In x (xs ++ ys) → In x xs ⊎ In x ys
  in_either x [] ys h = inr h
  in_either x (z ∷ zs) ys (inl e) = inl (inl e)
  in_either x (z ∷ zs) ys (inr h) = behind x z zs ys (in_either x zs ys h)

  -- all elements of one list are of the other
  abbrev pub Sub : List X → List X → Type 0
  Sub xs ys = (x : X) → In x xs → In x ys

  pub sub_left : (xs ys all : List X) → Sub (xs ++ ys) all → Sub xs all
  sub_left xs ys all s x h = s x (in_left x xs ys h)

  pub sub_right : (xs ys all : List X) → Sub (xs ++ ys) all → Sub ys all
  sub_right xs ys all s x h = s x (in_right x xs ys h)

  -- what stands before an element, and behind it
  pub split : (x : X) (xs : List X) → In x xs → (before : List X) × (after : List X) × (xs ≡ before ++ x ∷ after)
  split x [] h = absurd h
  split x (z ∷ zs) (inl e) = ([], zs, ap (λ y. y ∷ zs) e)
  split x (z ∷ zs) (inr h) = let s = split x zs h in (z ∷ s.0, s.1, ap (λ ys. z ∷ ys) s.2)

  pub in_middle : (x : X) (before after : List X) → In x (before ++ x ∷ after)
  in_middle x [] after = inl refl
  in_middle x (z ∷ zs) after = inr (in_middle x zs after)
