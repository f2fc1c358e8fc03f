-- A part behind what it begins with, read for what that is.
use Rattle.std.proofs.Common.{◌≡◌, ℕ, true, false, List, Option, Some, Ok, Err, refl, ap, ◌∙◌}
use Rattle.cw_grammar.specs.Tokens.{Item}
use Rattle.cw_grammar.specs.Grammar.{Sort, a_from, Value, Grammar, ◌∣◌, ◌⇒◌, starts, first}
use Rattle.cw_grammar.specs.Statements.{from}
use Rattle.cw_grammar.specs.Reading.{Read, ◌>>=◌, applied, reads}

pub from_reads : (n : ℕ) (s t : Sort) (g : Grammar s) (h : Grammar (a_from s t)) (x : Value s) (ts us : List Item) → reads n g ts ≡ Ok (x, us) → reads n (from g h) ts ≡ applied x (reads n h us)
from_reads n s t g h x ts us e = go (reads n h us) refl
  where
    go : (o : Read (Value s → Value t)) → reads n h us ≡ o → reads n (from g h) ts ≡ applied x (reads n h us)
    go (Ok y) k = rw (e, k) refl
    go (Err f) k = rw (e, k) refl

pub applied_map : {A B C : Type 0} (x : A) (f : B → C) (o : Read (A → B)) → applied x (o >>= λ y. Ok ((λ a. f (y.0 a)), y.1)) ≡ (applied x o >>= λ y. Ok (f y.0, y.1))
applied_map x f (Ok y) = refl
applied_map x f (Err k) = refl

pub from_first : (n : ℕ) (s t : Sort) (g : Grammar s) (h k : Grammar (a_from s t)) (x : Value s) (ts us : List Item) → reads n g ts ≡ Ok (x, us) → starts us (first h) ≡ true → reads n (from g (h ∣ k)) ts ≡ applied x (reads n h us)
from_first n s t g h k x ts us e f =
    let b : reads n (h ∣ k) us ≡ reads n h us = rw f refl in
    from_reads n s t g (h ∣ k) x ts us e ∙ ap (λ (o : Read (Value s → Value t)). applied x o) b

pub from_other : (n : ℕ) (s t : Sort) (g : Grammar s) (h k : Grammar (a_from s t)) (x : Value s) (ts us : List Item) → reads n g ts ≡ Ok (x, us) → starts us (first h) ≡ false → reads n (from g (h ∣ k)) ts ≡ applied x (reads n k us)
from_other n s t g h k x ts us e f =
    let b : reads n (h ∣ k) us ≡ reads n k us = rw f refl in
    from_reads n s t g (h ∣ k) x ts us e ∙ ap (λ (o : Read (Value s → Value t)). applied x o) b

pub second_of : (n : ℕ) (s : Sort) (g h : Grammar s) (ts : List Item) → starts ts (first g) ≡ false → reads n (g ∣ h) ts ≡ reads n h ts
second_of n s g h ts f = rw f refl

pub first_one : (n : ℕ) (s : Sort) (g h : Grammar s) (ts : List Item) → starts ts (first g) ≡ true → reads n (g ∣ h) ts ≡ reads n g ts
first_one n s g h ts f = rw f refl

pub mapped_ok : (n : ℕ) (s t u : Sort) (h : Grammar (a_from s t)) (F : Value t → Value u) (x : Value s) (y : Value t) (us vs : List Item) → applied x (reads n h us) ≡ Ok (y, vs) → applied x (reads n {s = a_from s u} (h ⇒ (λ f a. F (f a))) us) ≡ Ok (F y, vs)
mapped_ok n s t u h F x y us vs e = applied_map x F (reads n h us) ∙ rw e refl

pub some_applied : {A B : Type 0} (x : A) (o : Read (Option A → B)) → applied x (o >>= λ y. Ok ((λ a. y.0 (Some a)), y.1)) ≡ applied (Some x) o
some_applied x (Ok y) = refl
some_applied x (Err f) = refl
