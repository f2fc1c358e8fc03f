-- Tests joined, and whether an element of a list passes one.
use Rattle.std.proofs.Common.{◌≡◌, ℕ, ◌+◌, ◌<◌, Bool, true, false, not, ◌&&◌, List, [], ◌∷◌, length, take, get_or, refl, sym, ap, ap₂, ◌∙◌}
use Rattle.std.specs.Prelude.{◌||◌, Contains, nat_eq}
use Rattle.std.specs.List.{list_any}
use Rattle.std.specs.Str.{bytes_eq}
use Rattle.std.proofs.lemmas.Bool.{false≢true, eqb-true, eq-eqb}
use Rattle.std.proofs.lemmas.List.{take_more}
use Rattle.std.proofs.Math.Seq.{take-length}
use Rattle.std.proofs.lemmas.List.Folds.{list_any-append, list_any_at, Any-from_list_any}
use Rattle.std.proofs.lemmas.Slice.Eq.{bytes_eq-Decides}
use Rattle.cw_comm.specs.Agreement.{Name}
use Rattle.cw_pick.specs.Picking.{is_in, is_among}

pub or_false : (a : Bool) → a || false ≡ a
or_false true = refl
or_false false = refl

pub or_assoc : (a b c : Bool) → (a || b) || c ≡ a || (b || c)
or_assoc true b c = refl
or_assoc false b c = refl

pub or_same : (a b : Bool) → (b ≡ true → a ≡ true) → a ≡ a || b
or_same true b f = refl
or_same false true f = absurd (false≢true (f refl))
or_same false false f = refl

-- what becomes true in two steps, that only go up
pub two_steps : (i a b c : Bool) → (a ≡ true → b ≡ true) → (b ≡ true → c ≡ true) → (i || (b && not a)) || (c && not b) ≡ i || (c && not a)
two_steps true a b c f g = refl
two_steps false true true true f g = refl
two_steps false true true false f g = absurd (false≢true (g refl))
two_steps false true false c f g = absurd (false≢true (f refl))
two_steps false false true true f g = refl
two_steps false false true false f g = absurd (false≢true (g refl))
two_steps false false false true f g = refl
two_steps false false false false f g = refl

pub not_step : (i a : Bool) → i || (a && not a) ≡ i
not_step true a = refl
not_step false true = refl
not_step false false = refl

-- ---- an element of a list

pub any_more : {X : Type 0} (p : X → Bool) (xs : List X) (i : ℕ) (x : X) → i < length xs → x ≡ get_or xs i x → list_any p (take (i + 1) xs) ≡ list_any p (take i xs) || p x
any_more p xs i x lt is =
    ap (list_any p) (take_more xs i x lt) ∙ list_any-append p (take i xs) (get_or xs i x ∷ []) ∙ ap (λ b. list_any p (take i xs) || b) (or_false (p (get_or xs i x)) ∙ ap p (sym is))

pub all_taken : {X : Type 0} (xs : List X) (i : ℕ) → i ≡ length xs → take i xs ≡ xs
all_taken xs i e = ap (λ n. take n xs) e ∙ take-length xs

pub any_some : {X : Type 0} (p : X → Bool) (xs : List X) (x : X) → Contains xs x → p x ≡ true → list_any p xs ≡ true
any_some p xs x (k, lt, is) h = list_any_at p xs k x lt (ap p is ∙ h)

pub record Some_of {X : Type 0} (p : X → Bool) (xs : List X) : Type 0 where
  pub x : X
  pub there : Contains xs x
  pub passes : p x ≡ true

pub some_of : {X : Type 0} (p : X → Bool) (xs : List X) → list_any p xs ≡ true → Some_of p xs
some_of p xs h = let r = Any-from_list_any p xs h in record { x = r.1; there = (r.0, r.2, r.3); passes = r.4 }

pub any_same : {X : Type 0} (p q : X → Bool) (xs : List X) → ((x : X) → p x ≡ q x) → list_any p xs ≡ list_any q xs
any_same p q [] h = refl
any_same p q (x ∷ xs) h = ap₂ (λ a b. a || b) (h x) (any_same p q xs h)

pub in_list : (xs : List ℕ) (k : ℕ) → is_in xs k ≡ true → Contains xs k
in_list xs k h = let r = some_of (nat_eq k) xs h in let e : k ≡ r.x = eqb-true k r.x r.passes in (r.there.0, r.there.1, ap (get_or xs r.there.0) e ∙ r.there.2 ∙ sym e)

pub same_name : (a b : Name) → bytes_eq a b ≡ true → a ≡ b
same_name a b h = (bytes_eq-Decides a b).0 h

pub name_same : (a b : Name) → a ≡ b → bytes_eq a b ≡ true
name_same a b h = (bytes_eq-Decides a b).1 h
