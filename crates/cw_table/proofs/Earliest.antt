-- What is kept of parts that are met one after another is the earliest of all.
use Rattle.std.proofs.Common.{◌≡◌, ℕ, List, [], ◌∷◌, ◌++◌, Bool, true, false, cond, Option, Some, None, refl, sym, subst, arith, ◌⊎◌, inl, inr, nat_lt, ◌==◌, ◌&&◌, ◌||◌}
use Rattle.std.specs.List.{Contains}
use Rattle.std.proofs.lemmas.Bool.Decides.{nat_tests}
use Rattle.std.proofs.lemmas.List.Elements.{Contains-append_left, Contains-append_right, Contains-append_cases, Contains-push, Contains-push_cases}
use Rattle.cw_table.specs.Earliest.{IsEarliest, with_first, Keeps}

module _ {X : Type 0} where
  none_in : (y : X) → Contains [] y → ⊥
  none_in y c = omega (arith, c.1)

  only : (x y : X) → Contains (x ∷ []) y → x ≡ y
  only x y c = elim (Contains-push_cases [] x y c) [ inl h ↦ absurd (none_in y h) | inr e ↦ e ]

  among : (x : X) (xs : List X) (y : X) → Contains (x ∷ xs) y → (x ≡ y) ⊎ Contains xs y
  among x xs y c = elim (Contains-append_cases (x ∷ []) xs y c) [ inl h ↦ inl (only x y h) | inr h ↦ inr h ]

  pub at_front : (x : X) (xs : List X) → Contains (x ∷ xs) x
  at_front x xs = Contains-append_left (x ∷ []) xs x (Contains-push [] x)

  behind_front : (x : X) (xs : List X) (y : X) → Contains xs y → Contains (x ∷ xs) y
  behind_front x xs y c = Contains-append_right (x ∷ []) xs y c

  -- a strict order in which some things stand side by side
  pub record IsOrder (comes_before : X → X → Bool) : Type 0 where
    pub irreflexive : (x : X) → comes_before x x ≡ false
    pub asymmetric : (x y : X) → comes_before x y ≡ true → comes_before y x ≡ false
    pub transitive : (x y z : X) → comes_before x y ≡ false → comes_before y z ≡ false → comes_before x z ≡ false

  module _ (comes_before : X → X → Bool) (order : IsOrder comes_before) where
    one_alone : (x y : X) → Contains (x ∷ []) y → comes_before y x ≡ false
    one_alone x y c = subst (λ (z : X). comes_before z x ≡ false) (only x y c) (order.irreflexive x)

    pub keeps_nothing : Keeps comes_before (λ first. first) []
    keeps_nothing = record { earliest = each }
      where
        each : (first : Option X) → IsEarliest comes_before (with_first comes_before first []) first
        each None = refl
        each (Some x) = (at_front x [], one_alone x)

    -- of two, by which comes before
    of_two : (x y : X) (b : Bool) → comes_before x y ≡ b → IsEarliest comes_before (y ∷ x ∷ []) (cond b (Some x) (Some y))
    of_two x y true e =
        (behind_front y (x ∷ []) x (at_front x []), λ z c. elim (among y (x ∷ []) z c) [ inl h ↦ subst (λ (w : X). comes_before w x ≡ false) h (order.asymmetric x y e) | inr h ↦ one_alone x z h ])
    of_two x y false e =
        (at_front y (x ∷ []), λ z c. elim (among y (x ∷ []) z c) [ inl h ↦ subst (λ (w : X). comes_before w y ≡ false) h (order.irreflexive y) | inr h ↦ subst (λ (w : X). comes_before w y ≡ false) (only x z h) e ])

    pub keeps_one : (kept : Option X → Option X) (x : X) → kept None ≡ Some x → ((y : X) → kept (Some y) ≡ cond (comes_before x y) (Some x) (Some y)) → Keeps comes_before kept (x ∷ [])
    keeps_one kept x none some = record { earliest = each }
      where
        each : (first : Option X) → IsEarliest comes_before (with_first comes_before first (x ∷ [])) (kept first)
        each None = subst (IsEarliest comes_before (x ∷ [])) (sym none) (at_front x [], one_alone x)
        each (Some y) = subst (IsEarliest comes_before (y ∷ x ∷ [])) (sym (some y)) (of_two x y (comes_before x y) refl)

    joined : (xs ys : List X) (o p : Option X) → IsEarliest comes_before xs o → IsEarliest comes_before (with_first comes_before o ys) p → IsEarliest comes_before (xs ++ ys) p
    joined xs ys None p e h = subst (λ (zs : List X). IsEarliest comes_before (zs ++ ys) p) (sym e) h
    joined xs ys (Some f) None e h = absurd cc
    joined xs ys (Some f) (Some g) e h = (
      elim (among f ys g h.0) [ inl q ↦ subst (Contains (xs ++ ys)) q (Contains-append_left xs ys f e.0) | inr c ↦ Contains-append_right xs ys g c ],
      λ y c. elim (Contains-append_cases xs ys y c) [ inl d ↦ order.transitive y f g (e.1 y d) (h.1 f (at_front f ys)) | inr d ↦ h.1 y (behind_front f ys y d) ],
    )

    pub keeps_both : (a b : Option X → Option X) (xs ys : List X) → Keeps comes_before a xs → Keeps comes_before b ys → Keeps comes_before (λ first. b (a first)) (xs ++ ys)
    keeps_both a b xs ys h k = record { earliest = each }
      where
        each : (first : Option X) → IsEarliest comes_before (with_first comes_before first (xs ++ ys)) (b (a first))
        each None = joined xs ys (a None) (b (a None)) (h.earliest None) (k.earliest (a None))
        each (Some x) = joined (x ∷ xs) ys (a (Some x)) (b (a (Some x))) (h.earliest (Some x)) (k.earliest (a (Some x)))

-- ---- the order by token and then number

irreflexive : (t m : ℕ) → (nat_lt t t || (t == t && nat_lt m m)) ≡ false
irreflexive t m = grind (arith, nat_tests)

asymmetric : (t u m n : ℕ) → (nat_lt t u || (t == u && nat_lt m n)) ≡ true → (nat_lt u t || (u == t && nat_lt n m)) ≡ false
asymmetric t u m n h = grind (arith, nat_tests)

transitive : (t u v m n k : ℕ) → (nat_lt t u || (t == u && nat_lt m n)) ≡ false → (nat_lt u v || (u == v && nat_lt n k)) ≡ false → (nat_lt t v || (t == v && nat_lt m k)) ≡ false
transitive t u v m n k h g = grind (arith, nat_tests)

pub order_by : {X : Type 0} (token number : X → ℕ) → IsOrder (λ (x y : X). nat_lt (token x) (token y) || (token x == token y && nat_lt (number x) (number y)))
order_by token number = record {
  irreflexive = λ x. irreflexive (token x) (number x);
  asymmetric = λ x y. asymmetric (token x) (token y) (number x) (number y);
  transitive = λ x y z. transitive (token x) (token y) (token z) (number x) (number y) (number z);
}
