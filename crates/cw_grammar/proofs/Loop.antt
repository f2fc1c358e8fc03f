-- Reading items in a loop, which keeps those that it has read.
use Rattle.std.proofs.Common.{◌≡◌, ℕ, true, false, List, [], ◌∷◌, ◌++◌, Ok, Err, refl, sym, ap, ◌∙◌, append_assoc}
use Rattle.std.proofs.lemmas.List.{append-nil}
use Rattle.cw_grammar.specs.Tokens.{Item, code, same}
use Rattle.cw_grammar.specs.declared.stop.Stop.{Stop}
use Rattle.cw_grammar.specs.Grammar.{Sort, Value, Grammar, many, first, null, starts}
use Rattle.cw_grammar.specs.Reading.{Read, Fails, ◌>>=◌, read_with, reads, inside, Agains, turns, unbounded}
use Rattle.cw_grammar.proofs.Failing.{fails_where}
use Rattle.cw_grammar.proofs.Many.{with_item, many_end, many_more}

-- what was read before, and what is still read
abbrev pub with_front : {A : Type 0} → List A → Read (List A) → Read (List A)
with_front front o = o >>= λ y. Ok (front ++ y.0, y.1)

with_front_more : {A : Type 0} (front : List A) (x : A) (o : Read (List A)) → with_front front (with_item x o) ≡ with_front (front ++ x ∷ []) o
with_front_more {A = A} front x (Ok y) = ap (λ (z : List A). Ok (z, y.1)) (sym (append_assoc front (x ∷ []) y.0))
with_front_more front x (Err f) = refl

pub goes_on : (n : ℕ) (s : Sort) (g : Grammar s) (front : List (Value s)) (x : Value s) (ts rest : List Item) (total : Read (List (Value s))) → null g ≡ false → starts ts (first g) ≡ true → reads n g ts ≡ Ok (x, rest)
    → with_front front (reads n (many g) ts) ≡ total → with_front (front ++ x ∷ []) (reads n (many g) rest) ≡ total
goes_on n s g front x ts rest total z h e so_far =
    let one : reads n (many g) ts ≡ with_item x (reads n (many g) rest) = many_more n s g ts z h ∙ rw e refl in
    sym (with_front_more front x (reads n (many g) rest)) ∙ ap (λ (o : Read (List (Value s))). with_front front o) (sym one) ∙ so_far

pub ends : (n : ℕ) (s : Sort) (g : Grammar s) (front : List (Value s)) (ts : List Item) (total : Read (List (Value s))) → starts ts (first g) ≡ false
    → with_front front (reads n (many g) ts) ≡ total → total ≡ Ok (front, ts)
ends n s g front ts total h so_far =
    let last : with_front front (reads n (many g) ts) ≡ Ok (front ++ [], ts) = ap (λ (o : Read (List (Value s))). with_front front o) (many_end n s g ts h) in
    sym so_far ∙ last ∙ ap (λ (z : List (Value s)). Ok (z, ts)) (append-nil front)

pub fails : (e : Stop) (n : ℕ) (s : Sort) (g : Grammar s) (front : List (Value s)) (ts : List Item) (total : Read (List (Value s))) → null g ≡ false → starts ts (first g) ≡ true → Fails e (reads n g ts)
    → with_front front (reads n (many g) ts) ≡ total → Fails e total
fails e n s g front ts total z h failed so_far =
    fails_where e (reads n g ts) total (λ f is. sym so_far ∙ ap (λ (o : Read (List (Value s))). with_front front o) (many_more n s g ts z h) ∙ rw is refl) failed
