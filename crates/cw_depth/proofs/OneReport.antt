-- What is first is one, and so is a report.
use Rattle.std.proofs.Common.{◌≡◌, ℕ, ◌≤◌, ◌⊎◌, List, [], ◌∷◌, length, map, inl, inr, refl, sym, ◌∙◌, ap, subst, arith}
use Rattle.std.proofs.lemmas.Bool.{cases_lt, cases_eq}
use Rattle.cw_unit.specs.declared.unit.Unit.{Unit as SourceUnit}
use Rattle.cw_depth.specs.declared.depth_report.Report.{Report}
use Rattle.cw_depth.specs.declared.depth_report.Report.TheVariants.{Bound, Unbounded}
use Rattle.cw_graph.specs.Chains.{HasHeight, HasNoHeight, IsReached}
use Rattle.cw_graph.specs.Reports.{IsFirst, IsFirstChain, IsBound}
use Rattle.cw_depth.specs.declared.node.Node.{Node}
use Rattle.cw_depth.specs.declared.node.Node.TheVariants.{Body, Procedure}
use Rattle.cw_depth.specs.CallGraph.{Before, Leads, IsBody, IsProcedure}
use Rattle.cw_depth.specs.Told.{told, TellsBound, TellsUnbounded, IsReport}

-- of two nodes one is before the other, or they are the same
pub in_order : (a b : Node) → Before a b ⊎ ((a ≡ b) ⊎ Before b a)
in_order (Body g) (Body h) =
    elim (cases_lt g h) [
      | inl lt ↦ inl lt
      | inr ge ↦ elim (cases_eq g h) [ inl e ↦ inr (inl (ap Body e)) | inr ne ↦ inr (inr (omega arith)) ]
    ]
in_order (Body g) (Procedure h r) = inl tt
in_order (Procedure g q) (Body h) = inr (inr tt)
in_order (Procedure g q) (Procedure h r) =
    elim (cases_eq g h) [
      | inl e ↦ elim (cases_eq q r) [
        | inl f ↦ inr (inl (ap (λ x. Procedure x q) e ∙ ap (Procedure h) f))
        | inr nf ↦ elim (cases_lt q r) [ inl lt ↦ inl (inr (e, lt)) | inr ge ↦ inr (inr (inr (sym e, omega arith))) ]
      ]
      | inr ne ↦ elim (cases_lt g h) [ inl lt ↦ inl (inl lt) | inr ge ↦ inr (inr (inl (omega arith))) ]
    ]

pub one_first : (P : Node → Type 0) (a b : Node) → IsFirst Before P a → IsFirst Before P b → a ≡ b
one_first P a b first other =
    elim (in_order a b) [
      | inl before ↦ absurd (other.none_before a first.holds before)
      | inr rest ↦ elim rest [ inl e ↦ e | inr behind ↦ absurd (first.none_before b other.holds behind) ]
    ]

one_chain : (L : Node → Node → Type 0) (a b : Node) (xs ys : List Node) → a ≡ b → length xs ≡ length ys → IsFirstChain L Before a xs → IsFirstChain L Before b ys → xs ≡ ys
one_chain L a b [] [] e size p q = refl
one_chain L a b [] (y ∷ ys) e size p q = absurd (omega arith)
one_chain L a b (x ∷ xs) [] e size p q = absurd (omega arith)
one_chain L a b (x ∷ xs) (y ∷ ys) e size p q =
    let size' : length xs ≡ length ys = omega arith in
    let Fits : Node → Type 0 = λ c. L a c × HasHeight L c (length xs) in
    let first : IsFirst Before Fits y = subst (λ (n : ℕ). IsFirst Before (λ c. L a c × HasHeight L c n) y) (sym size') (subst (λ (z : Node). IsFirst Before (λ c. L z c × HasHeight L c (length ys)) y) (sym e) q.0) in
    let same : x ≡ y = one_first Fits x y p.0 first in
    let rest : xs ≡ ys = one_chain L x y xs ys same size' p.1 q.1 in
    ap (λ z. z ∷ xs) same ∙ ap (λ zs. y ∷ zs) rest

one_bound : (units : List SourceUnit) (xs ys : List Node) → IsBound (Leads units) Before (IsBody units) xs → IsBound (Leads units) Before (IsBody units) ys → xs ≡ ys
one_bound units xs ys p q =
    let L = Leads units in
    let up : length ys ≤ length xs = p.greatest q.start (length ys) q.first.holds.0 q.first.holds.1 in
    let down : length xs ≤ length ys = q.greatest p.start (length xs) p.first.holds.0 p.first.holds.1 in
    let size : length xs ≡ length ys = omega arith in
    let first : IsFirst Before (λ a. IsBody units a × HasHeight L a (length xs)) q.start = subst (λ (n : ℕ). IsFirst Before (λ a. IsBody units a × HasHeight L a n) q.start) (sym size) q.first in
    let same : p.start ≡ q.start = one_first (λ a. IsBody units a × HasHeight L a (length xs)) p.start q.start p.first first in
    one_chain L p.start q.start xs ys same size p.follows q.follows

not_both : (units : List SourceUnit) (chain : List (ℕ × ℕ)) (segment number : ℕ) → TellsBound units chain → TellsUnbounded units segment number → ⊥
not_both units chain segment number p q =
    let (h, is) = p.bound.heights (Procedure q.from_zero number) q.first.holds.1.0 in
    q.first.holds.1.1 h is

pub one_is : (units : List SourceUnit) (one other : Report) → IsReport units one → IsReport units other → one ≡ other
one_is units (Bound chain) (Bound chain') p q = ap Bound (p.chain_is ∙ ap (map told) (one_bound units p.nodes q.nodes p.bound q.bound) ∙ sym q.chain_is)
one_is units (Bound chain) (Unbounded s n) p q = absurd (not_both units chain s n p q)
one_is units (Unbounded s n) (Bound chain) p q = absurd (not_both units chain s n q p)
one_is units (Unbounded s n) (Unbounded s' n') p q =
    let L = Leads units in
    let same = one_first (λ b. IsProcedure b × (IsReached L (IsBody units) b × HasNoHeight L b)) (Procedure p.from_zero n) (Procedure q.from_zero n') p.first q.first in
    let segment : p.from_zero ≡ q.from_zero = cc in
    let number : n ≡ n' = cc in
    let segment' : s ≡ s' = omega (arith, p.segment_is, q.segment_is) in
    ap (λ x. Unbounded x n) segment' ∙ ap (Unbounded s') number
