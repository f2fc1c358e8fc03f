-- The nodes of a program stand in order.
use Rattle.std.proofs.Common.{◌≡◌, ℕ, zero, suc, ◌+◌, ◌<◌, ◌≤◌, ◌⊎◌, List, [], ◌∷◌, ◌++◌, length, inl, inr, refl, sym, ◌∙◌, ap, subst, arith, Some}
use Rattle.std.specs.Prelude.{slice_get}
use Rattle.std.proofs.lemmas.Option.{none-some, same_Some}
use Rattle.std.proofs.lemmas.Bool.{cases_lt, cases_eq}
use Rattle.cw_unit.specs.declared.unit.Unit.{Unit as SourceUnit}
use Rattle.cw_unit.specs.declared.unit.Proc.{Proc}
use Rattle.cw_depth.specs.declared.node.Node.{Node}
use Rattle.cw_depth.specs.declared.node.Node.TheVariants.{Body, Procedure}
use Rattle.cw_depth.specs.CallGraph.{Before}
use Rattle.cw_depth.specs.Numbering.{bodies_from, procedures_in, procedures_from, nodes_of, IsNumbered}

-- each of these is behind a node
abbrev AllBehind : Node → List Node → Type 0
AllBehind a xs = (n : ℕ) (b : Node) → slice_get xs n ≡ Some b → Before a b

abbrev InOrder : List Node → Type 0
InOrder [] = Unit {0}
InOrder (a ∷ xs) = AllBehind a xs × InOrder xs

pub get_append : (xs ys : List Node) (n : ℕ) (b : Node) → slice_get (xs ++ ys) n ≡ Some b → ((slice_get xs n ≡ Some b)) ⊎ ((m : ℕ) × (slice_get ys m ≡ Some b))
get_append [] ys n b e = inr (n, e)
get_append (x ∷ xs) ys zero b e = inl e
get_append (x ∷ xs) ys (suc n) b e = get_append xs ys n b e

behind_append : (a : Node) (xs ys : List Node) → AllBehind a xs → AllBehind a ys → AllBehind a (xs ++ ys)
behind_append a xs ys f h n b e = elim (get_append xs ys n b e) [ inl l ↦ f n b l | inr r ↦ h r.0 b r.1 ]

order_append : (xs ys : List Node) → InOrder xs → InOrder ys → ((n : ℕ) (a : Node) → slice_get xs n ≡ Some a → AllBehind a ys) → InOrder (xs ++ ys)
order_append [] ys p q between = q
order_append (x ∷ xs) ys p q between = (behind_append x xs ys p.0 (between 0 x refl), order_append xs ys p.1 q (λ n a e. between (suc n) a e))

-- what the parts hold
pub in_bodies : (g : ℕ) (us : List SourceUnit) (n : ℕ) (b : Node) → slice_get (bodies_from g us) n ≡ Some b → (b ≡ Body (g + n)) × (n < length us)
in_bodies g [] n b e = absurd (none-some b e)
in_bodies g (u ∷ us) zero b e = (sym (same_Some (Body g) b e) ∙ ap Body (omega arith), omega arith)
in_bodies g (u ∷ us) (suc n) b e = let (same, low) = in_bodies (g + 1) us n b e in (same ∙ ap Body (omega arith), omega arith)

pub in_segment : (g q : ℕ) (ps : List Proc) (n : ℕ) (b : Node) → slice_get (procedures_in g q ps) n ≡ Some b → (b ≡ Procedure g (q + n)) × (n < length ps)
in_segment g q [] n b e = absurd (none-some b e)
in_segment g q (p ∷ ps) zero b e = (sym (same_Some (Procedure g q) b e) ∙ ap (Procedure g) (omega arith), omega arith)
in_segment g q (p ∷ ps) (suc n) b e = let (same, low) = in_segment g (q + 1) ps n b e in (same ∙ ap (Procedure g) (omega arith), omega arith)

pub in_procedures : (g : ℕ) (us : List SourceUnit) (n : ℕ) (b : Node) → slice_get (procedures_from g us) n ≡ Some b → (h : ℕ) × ((q : ℕ) × ((b ≡ Procedure h q) × (g ≤ h)))
in_procedures g [] n b e = absurd (none-some b e)
in_procedures g (u ∷ us) n b e =
    elim (get_append (procedures_in g 0 u.procs) (procedures_from (g + 1) us) n b e) [
      | inl here ↦ (g, (0 + n, ((in_segment g 0 u.procs n b here).0, omega arith)))
      | inr there ↦ let (h, (q, (same, le))) = in_procedures (g + 1) us there.0 b there.1 in (h, (q, (same, omega arith)))
    ]

bodies_order : (g : ℕ) (us : List SourceUnit) → InOrder (bodies_from g us)
bodies_order g [] = tt
bodies_order g (u ∷ us) = (λ n b e. let (same, low) = in_bodies (g + 1) us n b e in subst (λ (x : Node). Before (Body g) x) (sym same) (omega arith), bodies_order (g + 1) us)

segment_order : (g q : ℕ) (ps : List Proc) → InOrder (procedures_in g q ps)
segment_order g q [] = tt
segment_order g q (p ∷ ps) = (λ n b e. let (same, low) = in_segment g (q + 1) ps n b e in subst (λ (x : Node). Before (Procedure g q) x) (sym same) (inr (refl, omega arith)), segment_order g (q + 1) ps)

procedures_order : (g : ℕ) (us : List SourceUnit) → InOrder (procedures_from g us)
procedures_order g [] = tt
procedures_order g (u ∷ us) =
    order_append (procedures_in g 0 u.procs) (procedures_from (g + 1) us) (segment_order g 0 u.procs) (procedures_order (g + 1) us)
    (λ n a e m b f.
    let (same, low) = in_segment g 0 u.procs n a e in
    let (h, (q, (same', le))) = in_procedures (g + 1) us m b f in
    subst (λ (x : Node). Before x b) (sym same) (subst (λ (y : Node). Before (Procedure g (0 + n)) y) (sym same') (inl (omega arith))))

nodes_order : (us : List SourceUnit) → InOrder (nodes_of us)
nodes_order us =
    order_append (bodies_from 0 us) (procedures_from 0 us) (bodies_order 0 us) (procedures_order 0 us)
    (λ n a e m b f.
    let (same, low) = in_bodies 0 us n a e in
    let (h, (q, (same', le))) = in_procedures 0 us m b f in
    subst (λ (x : Node). Before x b) (sym same) (subst (λ (y : Node). Before (Body (0 + n)) y) (sym same') tt))

get_order : (xs : List Node) → InOrder xs → (n m : ℕ) (a b : Node) → slice_get xs n ≡ Some a → slice_get xs m ≡ Some b → n < m → Before a b
get_order [] p n m a b e f lt = absurd (none-some a e)
get_order (x ∷ xs) p n zero a b e f lt = absurd (omega arith)
get_order (x ∷ xs) p zero (suc m) a b e f lt = subst (λ (y : Node). Before y b) (same_Some x a e) (p.0 m b f)
get_order (x ∷ xs) p (suc n) (suc m) a b e f lt = get_order xs p.1 n m a b e f (omega arith)

pub not_itself : (a : Node) → Before a a → ⊥
not_itself (Body g) lt = omega arith
not_itself (Procedure g q) (inl lt) = omega arith
not_itself (Procedure g q) (inr both) = omega (arith, both.1)

pub not_both_ways : (a b : Node) → Before a b → Before b a → ⊥
not_both_ways (Body g) (Body h) p q = omega arith
not_both_ways (Body g) (Procedure h r) p q = q
not_both_ways (Procedure g q) (Body h) p r = p
not_both_ways (Procedure g q) (Procedure h r) (inl p) (inl p') = omega arith
not_both_ways (Procedure g q) (Procedure h r) (inl p) (inr p') = omega (arith, p'.0)
not_both_ways (Procedure g q) (Procedure h r) (inr p) (inl p') = omega (arith, p.0)
not_both_ways (Procedure g q) (Procedure h r) (inr p) (inr p') = omega (arith, p.1, p'.1)

pub numbers_order : (us : List SourceUnit) (n m : ℕ) (a b : Node) → IsNumbered us n a → IsNumbered us m b → n < m → Before a b
numbers_order us n m a b e f lt = get_order (nodes_of us) (nodes_order us) n m a b e f lt

pub order_numbers : (us : List SourceUnit) (n m : ℕ) (a b : Node) → IsNumbered us n a → IsNumbered us m b → Before a b → n < m
order_numbers us n m a b e f before =
    elim (cases_lt n m) [
      | inl lt ↦ lt
      | inr ge ↦ elim (cases_eq m n) [
        | inl same ↦ absurd (not_itself b (subst (λ (x : Node). Before x b) (same_Some a b (sym e ∙ ap (slice_get (nodes_of us)) (sym same) ∙ f)) before))
        | inr ne ↦ absurd (not_both_ways a b before (numbers_order us m n b a f e (omega arith)))
      ]
    ]
