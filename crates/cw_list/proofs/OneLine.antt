-- COMMON items that have their line, and those that are left.
use Rattle.std.proofs.Common.{◌≡◌, ℕ, ◌+◌, ◌<◌, List, [], ◌∷◌, ◌++◌, length, drop, Bool, true, false, not, ◌&&◌, ◌||◌, cond, Option, None, Some, get_or, refl, sym, ap, ap₂, ◌∙◌, append_assoc}
use Rattle.std.specs.List.{filter}
use Rattle.std.specs.Borrow.{Bor}
use Rattle.std.specs.BTreeSet.{BTreeSet}
use Rattle.std.specs.List.{list_any}
use Rattle.std.specs.BTreeMap.{is_at}
use Rattle.std.specs.Ordering.{nat_cmp}
use Rattle.std.specs.Cmp.Lexicographic.{slice_cmp}
use Rattle.std.proofs.lemmas.Slice.Eq.{bytes_eq-Decides}
use Rattle.std.proofs.lemmas.List.{drop_more}
use Rattle.cw_unit.specs.Allocation.{Name, is_same_name}
use Rattle.cw_list.specs.declared.row.Row.{Row}
use Rattle.cw_list.specs.Listing.{is_common_of, same_or_none, without_common, commons_once}
use Rattle.cw_list.specs.Told.{is_told, is_told_or_none, is_repeated}

-- those that are not told yet
abbrev pub untold : BTreeSet (Bor (List ℕ)) → List Row → List Row
untold told rs = filter (λ r. not (is_repeated told r)) rs

filter-filter-if : {X : Type 0} (p q r : X → Bool) (x : X) (xs : List X) (b : Bool) → q x ≡ b → r x ≡ (q x && p x) → filter p (filter q xs) ≡ filter r xs → filter p (cond b (x ∷ filter q xs) (filter q xs)) ≡ cond (r x) (x ∷ filter r xs) (filter r xs)
filter-filter-if p q r x xs true e h rest =
    ap (λ fs. cond (p x) (x ∷ fs) fs) rest ∙ ap (λ b. cond b (x ∷ filter r xs) (filter r xs)) (sym (h ∙ ap (λ b. b && p x) e))
filter-filter-if p q r x xs false e h rest =
    rest ∙ ap (λ b. cond b (x ∷ filter r xs) (filter r xs)) (sym (h ∙ ap (λ b. b && p x) e))

filter-filter : {X : Type 0} (p q r : X → Bool) (xs : List X) → ((x : X) → r x ≡ (q x && p x)) → filter p (filter q xs) ≡ filter r xs
filter-filter p q r [] h = refl
filter-filter p q r (x ∷ xs) h = filter-filter-if p q r x xs (q x) refl (h x) (filter-filter p q r xs h)

filter-same : {X : Type 0} (p q : X → Bool) (xs : List X) → ((x : X) → p x ≡ q x) → filter p xs ≡ filter q xs
filter-same p q [] h = refl
filter-same p q (x ∷ xs) h = ap₂ (λ b fs. cond b (x ∷ fs) fs) (h x) (filter-same p q xs h)

-- what a set tells after an item
abbrev pub TellsToo : (told told' : BTreeSet (Bor (List ℕ))) → Row → Type 0
TellsToo told told' r = (m : Name) → is_told told' m ≡ (is_common_of m r || is_told told m)

equal-if : (p q : Bool) → (p ≡ true → q ≡ true) → (q ≡ true → p ≡ true) → p ≡ q
equal-if true q f g = sym (f refl)
equal-if false true f g = g refl
equal-if false false f g = refl

same-either-way : (a b : Name) → is_same_name a b ≡ is_same_name b a
same-either-way a b =
    equal-if (is_same_name a b) (is_same_name b a) (λ e. (bytes_eq-Decides b a).1 (sym ((bytes_eq-Decides a b).0 e))) (λ e. (bytes_eq-Decides a b).1 (sym ((bytes_eq-Decides b a).0 e)))

neither : (a b : Bool) → not (a || b) ≡ (not a && not b)
neither true b = refl
neither false b = refl

never : (c : Bool) → not (c && false) ≡ (not (c && false) && not (c && false))
never true = refl
never false = refl

nothing-common : (n : Name) (told told' : BTreeSet (Bor (List ℕ))) (c : Bool) (name : Option Name) → ((m : Name) → is_told told' m ≡ (is_same_name n m || is_told told m)) → not (c && is_told_or_none told' name) ≡ (not (c && same_or_none name n) && not (c && is_told_or_none told name))
nothing-common n told told' false None h = refl
nothing-common n told told' true None h = refl
nothing-common n told told' false (Some m) h = refl
nothing-common n told told' true (Some m) h =
    ap not (h m ∙ ap (λ b. b || is_told told m) (same-either-way n m)) ∙ neither (is_same_name m n) (is_told told m)

told-same : (told told' : BTreeSet (Bor (List ℕ))) (c : Bool) (name : Option Name) → ((m : Name) → is_told told' m ≡ is_told told m) → not (c && is_told_or_none told name) ≡ not (c && is_told_or_none told' name)
told-same told told' c None h = refl
told-same told told' c (Some m) h = ap (λ b. not (c && b)) (sym (h m))

-- what is left after an item
rest-if : (told told' : BTreeSet (Bor (List ℕ))) (common : Bool) (name : Option Name) (xs : List Row) → ((m : Name) → is_told told' m ≡ ((common && same_or_none name m) || is_told told m)) → untold told (cond common (without_common name xs) xs) ≡ untold told' xs
rest-if told told' false name xs h = filter-same _ _ xs (λ x. told-same told told' x.common x.name h)
rest-if told told' true None xs h = filter-same _ _ xs (λ x. told-same told told' x.common x.name h)
rest-if told told' true (Some n) xs h =
    filter-filter (λ x. not (is_repeated told x)) (λ x. not (is_common_of n x)) (λ x. not (is_repeated told' x)) xs (λ x. nothing-common n told told' x.common x.name h)

rest-of : (told told' : BTreeSet (Bor (List ℕ))) (r : Row) (xs : List Row) → TellsToo told told' r → untold told (cond r.common (without_common r.name xs) xs) ≡ untold told' xs
rest-of told told' r xs h = rest-if told told' r.common r.name xs h

untold-if : (told told' : BTreeSet (Bor (List ℕ))) (r : Row) (xs : List Row) (b : Bool) → is_repeated told r ≡ b → TellsToo told told' r → untold told (commons_once (r ∷ xs)) ≡ cond b (untold told' (commons_once xs)) (r ∷ untold told' (commons_once xs))
untold-if told told' r xs true e h =
    ap (λ b. cond (not b) (r ∷ untold told (cond r.common (without_common r.name (commons_once xs)) (commons_once xs))) (untold told (cond r.common (without_common r.name (commons_once xs)) (commons_once xs)))) e
    ∙ rest-of told told' r (commons_once xs) h
untold-if told told' r xs false e h =
    ap (λ b. cond (not b) (r ∷ untold told (cond r.common (without_common r.name (commons_once xs)) (commons_once xs))) (untold told (cond r.common (without_common r.name (commons_once xs)) (commons_once xs)))) e
    ∙ ap (λ fs. r ∷ fs) (rest-of told told' r (commons_once xs) h)

dropped : (rows : List Row) (k : ℕ) (r : Row) → k < length rows → r ≡ get_or rows k r → drop k rows ≡ r ∷ drop (k + 1) rows
dropped rows k r b e = drop_more rows k r b ∙ ap (λ x. x ∷ drop (k + 1) rows) (sym e)

-- an item that has no line of its own
pub repeated_next : (told told' : BTreeSet (Bor (List ℕ))) (rows kept : List Row) (k : ℕ) (r : Row) → k < length rows → r ≡ get_or rows k r → is_repeated told r ≡ true → TellsToo told told' r
    → kept ++ untold told (commons_once (drop k rows)) ≡ commons_once rows → kept ++ untold told' (commons_once (drop (k + 1) rows)) ≡ commons_once rows
repeated_next told told' rows kept k r b e again h before =
    ap (λ xs. kept ++ xs) (sym (ap (λ xs. untold told (commons_once xs)) (dropped rows k r b e) ∙ untold-if told told' r (drop (k + 1) rows) true again h)) ∙ before

-- one that has a line
pub fresh_next : (told told' : BTreeSet (Bor (List ℕ))) (rows kept : List Row) (k : ℕ) (r : Row) → k < length rows → r ≡ get_or rows k r → is_repeated told r ≡ false → TellsToo told told' r
    → kept ++ untold told (commons_once (drop k rows)) ≡ commons_once rows → (kept ++ r ∷ []) ++ untold told' (commons_once (drop (k + 1) rows)) ≡ commons_once rows
fresh_next told told' rows kept k r b e again h before =
    append_assoc kept (r ∷ []) (untold told' (commons_once (drop (k + 1) rows)))
    ∙ ap (λ xs. kept ++ xs) (sym (ap (λ xs. untold told (commons_once xs)) (dropped rows k r b e) ∙ untold-if told told' r (drop (k + 1) rows) false again h)) ∙ before

none-told : (told : BTreeSet (Bor (List ℕ))) (n : Name) → told.keys ≡ [] → is_told told n ≡ false
none-told told n e = ap (λ ks. list_any (is_at (λ k. slice_cmp nat_cmp n k.now)) ks) e

none-if : (told : BTreeSet (Bor (List ℕ))) (c : Bool) (name : Option Name) → told.keys ≡ [] → not (c && is_told_or_none told name) ≡ true
none-if told false name e = refl
none-if told true None e = refl
none-if told true (Some n) e = ap not (none-told told n e)

untold-none : (told : BTreeSet (Bor (List ℕ))) (x : Row) → told.keys ≡ [] → not (is_repeated told x) ≡ true
untold-none told x e = none-if told x.common x.name e

all-kept : {X : Type 0} (p : X → Bool) (xs : List X) → ((x : X) → p x ≡ true) → filter p xs ≡ xs
all-kept p [] h = refl
all-kept p (x ∷ xs) h = ap (λ b. cond b (x ∷ filter p xs) (filter p xs)) (h x) ∙ ap (λ fs. x ∷ fs) (all-kept p xs h)

pub untold_first : (told : BTreeSet (Bor (List ℕ))) (rows : List Row) → told.keys ≡ [] → untold told rows ≡ rows
untold_first told rows e = all-kept (λ x. not (is_repeated told x)) rows (λ x. untold-none told x e)
