-- Descriptors whose names are apart, and what defines them in the program in which a unit is judged.
use Rattle.std.proofs.Common.{◌≡◌, ℕ, zero, suc, ◌+◌, List, [], ◌∷◌, map, Bool, true, false, cond, IsTrue, ◌&&◌, ◌||◌, not, Option, Some, None, slice_get, refl, sym, ap, subst, ◌∙◌, arith}
use Rattle.std.specs.Str.{bytes_eq}
use Rattle.std.proofs.lemmas.Slice.Eq.{bytes_eq-Decides}
use Rattle.std.proofs.lemmas.Option.{none-some, same_Some}
use Rattle.cw_unit.specs.declared.unit.Def.{Def}
use Rattle.cw_unit.specs.declared.descriptor.Desc.{Desc}
use Rattle.cw_unit.specs.Allocation.{Name}
use Rattle.cw_unit.specs.Program.{definition_in, found_in, definition_from}
use Rattle.cw_safety.proofs.Truth.{both, no}
use Rattle.cw_comm.specs.Agreement.{listing_of}
use Rattle.cw_built.specs.Listed.{is_empty, lists_name, are_named, definition_as, defining}

when : {A : Type 0} (b : Bool) (x y : A) → b ≡ true → cond b x y ≡ x
when b x y e = ap (λ t. cond t x y) e

unless : {A : Type 0} (b : Bool) (x y : A) → b ≡ false → cond b x y ≡ y
unless b x y e = ap (λ t. cond t x y) e

pub negated : (b : Bool) → IsTrue (not b) → b ≡ false
negated true h = no h
negated false h = refl

pub same-name : (a : Name) → bytes_eq a a ≡ true
same-name a = (bytes_eq-Decides a a).1 refl

pub name-equal : (a b : Name) → bytes_eq a b ≡ true → a ≡ b
name-equal a b e = (bytes_eq-Decides a b).0 e

apart-if : (a b : Name) (t : Bool) → bytes_eq a b ≡ false → bytes_eq b a ≡ t → bytes_eq b a ≡ false
apart-if a b true h e = absurd (let same : bytes_eq a b ≡ true = (bytes_eq-Decides a b).1 (sym ((bytes_eq-Decides b a).0 e)) in let wrong : true ≡ false = sym same ∙ h in absurd (cc))
apart-if a b false h e = e

other-way : (a b : Name) → bytes_eq a b ≡ false → bytes_eq b a ≡ false
other-way a b h = apart-if a b (bytes_eq b a) h refl

neither : (a b : Bool) → IsTrue (not a && not b) → (a ≡ false) × (b ≡ false)
neither a b h = let p = both (not a) (not b) h in (negated a p.0, negated b p.1)

-- ---- lists of descriptors

pub record First (d : Desc) (ds : List Desc) : Type 0 where
  pub empty : is_empty d.name ≡ false
  pub new : lists_name d.name ds ≡ false
  pub rest : IsTrue (are_named ds)

pub first : (d : Desc) (ds : List Desc) → IsTrue (are_named (d ∷ ds)) → First d ds
first d ds h =
    let p = both (not (is_empty d.name) && not (lists_name d.name ds)) (are_named ds) h in
    let q = neither (is_empty d.name) (lists_name d.name ds) p.0 in
    record { empty = q.0; new = q.1; rest = p.1 }

left-false : (a b : Bool) → (a || b) ≡ false → (a ≡ false) × (b ≡ false)
left-false true b h = absurd (cc)
left-false false b h = (refl, h)

not-listed : (name : Name) (ds : List Desc) (k : ℕ) (x : Desc) → lists_name name ds ≡ false → slice_get ds k ≡ Some x → bytes_eq name x.name ≡ false
not-listed name [] k x h e = absurd (none-some x e)
not-listed name (d ∷ ds) zero x h e = ap (λ (y : Desc). bytes_eq name y.name) (sym (same_Some d x e)) ∙ (left-false (bytes_eq name d.name) (lists_name name ds) h).0
not-listed name (d ∷ ds) (suc k) x h e = not-listed name ds k x (left-false (bytes_eq name d.name) (lists_name name ds) h).1 e

pub has-name : (ds : List Desc) (k : ℕ) (x : Desc) → IsTrue (are_named ds) → slice_get ds k ≡ Some x → is_empty x.name ≡ false
has-name [] k x h e = absurd (none-some x e)
has-name (d ∷ ds) zero x h e = ap (λ (y : Desc). is_empty y.name) (sym (same_Some d x e)) ∙ (first d ds h).empty
has-name (d ∷ ds) (suc k) x h e = has-name ds k x (first d ds h).rest e

-- each descriptor is the first of its name
pub listing-is : (ds : List Desc) (k : ℕ) (x : Desc) → IsTrue (are_named ds) → slice_get ds k ≡ Some x → listing_of x.name ds ≡ Some x
listing-is [] k x h e = absurd (none-some x e)
listing-is (d ∷ ds) zero x h e =
    subst (λ (y : Desc). listing_of y.name (d ∷ ds) ≡ Some y) (same_Some d x e) (when (bytes_eq d.name d.name) (Some d) (listing_of d.name ds) (same-name d.name))
listing-is (d ∷ ds) (suc k) x h e =
    let f = first d ds h in
    unless (bytes_eq x.name d.name) (Some d) (listing_of x.name ds) (other-way d.name x.name (not-listed d.name ds k x f.new e)) ∙ listing-is ds k x f.rest e

apart-from-none : (name : Name) → is_empty name ≡ false → bytes_eq [] name ≡ false
apart-from-none [] h = absurd (cc)
apart-from-none (b ∷ bs) h = refl

pub no-empty : (ds : List Desc) → IsTrue (are_named ds) → lists_name [] ds ≡ false
no-empty [] h = refl
no-empty (d ∷ ds) h = let f = first d ds h in ap (λ b. b || (lists_name [] ds)) (apart-from-none d.name f.empty) ∙ no-empty ds f.rest

-- ---- what defines a name

abbrev pub found : (segment : ℕ) → List Def → Option (ℕ × Def)
found g [] = None
found g (x ∷ xs) = Some (g, x)

abbrev listed : List Def → List (ℕ × Def)
listed xs = map (λ x. (0, x)) xs

not-here : (d : Desc) (name : Name) (xs : List Def) → bytes_eq name d.name ≡ false → definition_in (defining d) name (listed xs) ≡ None
not-here d name [] h = refl
not-here d name (x ∷ xs) h = unless (bytes_eq name d.name) (Some x) (definition_in (defining d) name (listed xs)) h ∙ not-here d name xs h

found-here : (g : ℕ) (d : Desc) (xs : List Def) (rest : Option (ℕ × Def)) → rest ≡ None → found_in g (definition_in (defining d) d.name (listed xs)) rest ≡ found g xs
found-here g d [] rest h = h
found-here g d (x ∷ xs) rest h = ap (λ o. found_in g o rest) (when (bytes_eq d.name d.name) (Some x) (definition_in (defining d) d.name (listed xs)) (same-name d.name))

pub nowhere : (ds : List Desc) (g : ℕ) (name : Name) → lists_name name ds ≡ false → definition_from name g (map defining ds) ≡ None
nowhere [] g name h = refl
nowhere (d ∷ ds) g name h =
    let p = left-false (bytes_eq name d.name) (lists_name name ds) h in
    ap (λ o. found_in g o (definition_from name (g + 1) (map defining ds))) (not-here d name (definition_as d.body) p.0) ∙ nowhere ds (g + 1) name p.1

pub somewhere : (ds : List Desc) (g k : ℕ) (x : Desc) → IsTrue (are_named ds) → slice_get ds k ≡ Some x → definition_from x.name g (map defining ds) ≡ found (g + k) (definition_as x.body)
somewhere [] g k x h e = absurd (none-some x e)
somewhere (d ∷ ds) g zero x h e =
    let at : g ≡ g + 0 = omega arith in
    subst (λ (y : Desc). definition_from y.name g (map defining (d ∷ ds)) ≡ found (g + 0) (definition_as y.body)) (same_Some d x e)
    (found-here g d (definition_as d.body) (definition_from d.name (g + 1) (map defining ds)) (nowhere ds (g + 1) d.name (first d ds h).new) ∙ ap (λ n. found n (definition_as d.body)) at)
somewhere (d ∷ ds) g (suc k) x h e =
    let f = first d ds h in
    let at : (g + 1) + k ≡ g + suc k = omega arith in
    ap (λ o. found_in g o (definition_from x.name (g + 1) (map defining ds))) (not-here d x.name (definition_as d.body) (other-way d.name x.name (not-listed d.name ds k x f.new e)))
    ∙ somewhere ds (g + 1) k x f.rest e
    ∙ ap (λ n. found n (definition_as x.body)) at
