-- The procedures that stand as arguments.
use Rattle.std.proofs.Common.{◌≡◌, ℕ, zero, suc, ◌+◌, ◌⊎◌, List, [], ◌∷◌, ◌++◌, map, inl, inr, refl, ◌∙◌, ap, Option, Some, None}
use Rattle.std.specs.Prelude.{slice_get}
use Rattle.std.proofs.lemmas.Option.{none-some, same_Some, slice_get_within}
use Rattle.cw_unit.specs.declared.unit.Unit.{Unit as SourceUnit}
use Rattle.cw_unit.specs.declared.unit.Proc.{Proc}
use Rattle.cw_depth.specs.declared.node.Node.{Node}
use Rattle.cw_depth.specs.declared.node.Node.TheVariants.{Body, Procedure}
use Rattle.cw_depth.specs.declared.mention.Mention.{Mention}
use Rattle.cw_depth.specs.CallGraph.{segment_of, mentions_of, mentions_of_unit, mentions_of_procedure, procedure_at, handed_by, IsHanded}
use Rattle.cw_depth.specs.Numbering.{nodes_of, first_number, IsNumbered}
use Rattle.cw_depth.specs.Building.{Place, place_if, placed, joined_places, handed_in, handed_in_all}
use Rattle.cw_depth.proofs.Transport.{body_number}
use Rattle.cw_depth.proofs.Firsts.{procedure_number}

get_right : (xs ys : List Place) (i : ℕ) (y : Place) → slice_get ys i ≡ Some y → (j : ℕ) × (slice_get (xs ++ ys) j ≡ Some y)
get_right [] ys i y e = (i, e)
get_right (x ∷ xs) ys i y e = let (j, f) = get_right xs ys i y e in (suc j, f)

get_left : (xs ys : List Place) (i : ℕ) (y : Place) → slice_get xs i ≡ Some y → slice_get (xs ++ ys) i ≡ Some y
get_left [] ys i y e = absurd (none-some y e)
get_left (x ∷ xs) ys zero y e = e
get_left (x ∷ xs) ys (suc i) y e = get_left xs ys i y e

get_either : (xs ys : List Place) (i : ℕ) (y : Place) → slice_get (xs ++ ys) i ≡ Some y → ((k : ℕ) × (slice_get xs k ≡ Some y)) ⊎ ((k : ℕ) × (slice_get ys k ≡ Some y))
get_either [] ys i y e = inr (i, e)
get_either (x ∷ xs) ys zero y e = inl (0, e)
get_either (x ∷ xs) ys (suc i) y e = elim (get_either xs ys i y e) [ inl l ↦ inl (suc l.0, l.1) | inr r ↦ inr r ]

in_joined : {A : Type 0} (f : A → List Place) (xs : List A) (k i : ℕ) (x : A) (y : Place) → slice_get xs k ≡ Some x → slice_get (f x) i ≡ Some y → (j : ℕ) × (slice_get (joined_places (map f xs)) j ≡ Some y)
in_joined f [] k i x y e is = absurd (none-some x e)
in_joined f (z ∷ xs) zero i x y e is = (i, get_left (f z) (joined_places (map f xs)) i y (ap (λ w. slice_get (f w) i) (same_Some z x e) ∙ is))
in_joined f (z ∷ xs) (suc k) i x y e is = let (j, there) = in_joined f xs k i x y e is in get_right (f z) (joined_places (map f xs)) j y there

from_joined : {A : Type 0} (f : A → List Place) (xs : List A) (j : ℕ) (y : Place) → slice_get (joined_places (map f xs)) j ≡ Some y → (k : ℕ) × ((x : A) × ((slice_get xs k ≡ Some x) × ((i : ℕ) × (slice_get (f x) i ≡ Some y))))
from_joined f [] j y e = absurd (none-some y e)
from_joined f (z ∷ xs) j y e = elim (get_either (f z) (joined_places (map f xs)) j y e) [
  | inl here ↦ (0, (z, (refl, here)))
  | inr there ↦ let (k, (x, (at', is))) = from_joined f xs there.0 y there.1 in (suc k, (x, (at', is)))
]

placed_is : (us : List SourceUnit) (o : Option Place) (g q : ℕ) (p : Proc) → o ≡ Some (g, q) → procedure_at us g q ≡ Some p → slice_get (placed us o) 0 ≡ Some (g, q)
placed_is us o g q p e there = ap (λ x. slice_get (placed us x) 0) e ∙ ap (λ x. slice_get (place_if (g, q) x) 0) there

place_from : (place : Place) (o : Option Proc) (i : ℕ) (y : Place) → slice_get (place_if place o) i ≡ Some y → place ≡ y
place_from place None i y e = absurd (none-some y e)
place_from place (Some p) zero y e = same_Some place y e
place_from place (Some p) (suc i) y e = absurd (none-some y e)

placed_from : (us : List SourceUnit) (o : Option Place) (i : ℕ) (y : Place) → slice_get (placed us o) i ≡ Some y → o ≡ Some y
placed_from us None i y e = absurd (none-some y e)
placed_from us (Some place) i y e = ap (λ (x : Place). Some x) (place_from place (procedure_at us place.0 place.1) i y e)

-- a node in which something stands has a number
body_at : (us : List SourceUnit) (g k : ℕ) (m : Mention) (o : Option SourceUnit) → slice_get us g ≡ o → slice_get (mentions_of_unit o) k ≡ Some m → (n : ℕ) × IsNumbered us n (Body g)
body_at us g k m None e is = absurd (none-some m is)
body_at us g k m (Some u) e is = (g, body_number us g (slice_get_within us g u e))

procedure_there : (us : List SourceUnit) (g q k : ℕ) (m : Mention) (o : Option Proc) → procedure_at us g q ≡ o → slice_get (mentions_of_procedure o) k ≡ Some m → (n : ℕ) × IsNumbered us n (Procedure g q)
procedure_there us g q k m None e is = absurd (none-some m is)
procedure_there us g q k m (Some p) e is = (first_number us g + q, procedure_number us g q p e)

number_there : (us : List SourceUnit) (a : Node) (k : ℕ) (m : Mention) → slice_get (mentions_of us a) k ≡ Some m → (n : ℕ) × IsNumbered us n a
number_there us (Body g) k m is = body_at us g k m (slice_get us g) refl is
number_there us (Procedure g q) k m is = procedure_there us g q k m (procedure_at us g q) refl is

pub handed_listed : (us : List SourceUnit) (g q : ℕ) (p : Proc) → IsHanded us g q → procedure_at us g q ≡ Some p → (i : ℕ) × (slice_get (handed_in_all us (nodes_of us)) i ≡ Some (g, q))
handed_listed us g q p h there =
    let f : Mention → List Place = λ m. placed us (handed_by us (segment_of h.node) m) in
    let (k, at') = h.stands in
    let (i, is) = in_joined f (mentions_of us h.node) k 0 h.argument (g, q) at' (placed_is us (handed_by us (segment_of h.node) h.argument) g q p h.names there) in
    let (n, e) = number_there us h.node k h.argument at' in
    in_joined (handed_in us) (nodes_of us) n i h.node (g, q) e is

pub listed_handed : (us : List SourceUnit) (i g q : ℕ) → slice_get (handed_in_all us (nodes_of us)) i ≡ Some (g, q) → IsHanded us g q
listed_handed us i g q e =
    let (n, (a, (numbered, (j, is)))) = from_joined (handed_in us) (nodes_of us) i (g, q) e in
    let f : Mention → List Place = λ m. placed us (handed_by us (segment_of a) m) in
    let (k, (m, (at', (l, there)))) = from_joined f (mentions_of us a) j (g, q) is in
    record { node = a; argument = m; stands = (k, at'); names = placed_from us (handed_by us (segment_of a) m) l (g, q) there }
