-- Reading items one after the other.
use Rattle.std.proofs.Common.{◌≡◌, ℕ, zero, suc, ◌+◌, ◌≤◌, ◌<◌, Bool, true, false, cond, List, [], ◌∷◌, ◌++◌, length, Result, Ok, Err, refl, sym, ap, subst, ◌∙◌, append_assoc, arith, inl, inr}
use Rattle.std.proofs.lemmas.List.{length-append}
use Rattle.std.proofs.lemmas.Bool.{both_ways}
use Rattle.cw_grammar.specs.Tokens.{Item, code, same}
use Rattle.cw_grammar.specs.Grammar.{Sort, a_list, Value, Rule, Grammar, many, first, null, starts}
use Rattle.cw_grammar.specs.Reading.{Fault, syntax_at, deep_at, Read, ◌>>=◌, repeat, Inside, read_with, reads, inside, Agains, turns, unbounded}
use Rattle.cw_grammar.proofs.Sound.{Found, Sound, sound}
use Rattle.cw_grammar.proofs.Begins.{Begins, Heads, begins}
use Rattle.cw_grammar.specs.Derives.{Derives}

not_empty : (ts u r : List Item) → ts ≡ u ++ r → (u ≡ [] → ⊥) → length r < length ts
not_empty ts [] r e h = absurd (h refl)
not_empty ts (t ∷ u) r e h = omega (arith, ap length e, length-append u r)

begins_not_empty : (s : Sort) (g : Grammar s) (u : List Item) → null g ≡ false → Begins s g u → u ≡ [] → ⊥
begins_not_empty s g u e (inl p) h = both_ways (null g) e p.1
begins_not_empty s g u e (inr p) h =
    let q : starts ([] ++ []) (first g) ≡ true = rw h at (p []) in
    absurd cc

pub derives_not_empty : {n : ℕ} {s : Sort} {g : Grammar s} {u : List Item} {x : Value s} → null g ≡ false → Derives n s g u x → u ≡ [] → ⊥
derives_not_empty {s = s} {g = g} {u = u} e d = begins_not_empty s g u e (begins d)

pub found_shorter : (n : ℕ) (s : Sort) (g : Grammar s) (ts : List Item) (x : Value s) (r : List Item) → null g ≡ false → Found n s g ts x r → length r < length ts
found_shorter n s g ts x r e p = not_empty ts p.text r p.parts (derives_not_empty e p.derives)

-- An item that is not null takes a token.
pub shorter : (n : ℕ) (s : Sort) (g : Grammar s) → null g ≡ false → (ts : List Item) (x : Value s × List Item) → reads n g ts ≡ Ok x → length x.1 < length ts
shorter n s g e ts x h =
    let P : Read (Value s) → Type 0 = λ o. Sound n s g ts o in
    found_shorter n s g ts x.0 x.1 e (let p : P (Ok x) = subst P h (sound n s g ts) in p)

abbrev pub with_item : {A : Type 0} → A → Read (List A) → Read (List A)
with_item x o = o >>= λ y. Ok (x ∷ y.0, y.1)

pub repeat_enough : {A : Type 0} (test : List Item → Bool) (item : List Item → Read A) → test [] ≡ false → ((ts : List Item) (x : A × List Item) → item ts ≡ Ok x → length x.1 < length ts)
    → (k l : ℕ) (ts : List Item) → length ts ≤ k → length ts ≤ l → repeat k test item ts ≡ repeat l test item ts
repeat_enough test item e sh zero zero ts hk hl = refl
repeat_enough test item e sh zero (suc l) [] hk hl = rw e refl
repeat_enough test item e sh zero (suc l) (t ∷ ts) hk hl = absurd (omega arith)
repeat_enough test item e sh (suc k) zero [] hk hl = rw e refl
repeat_enough test item e sh (suc k) zero (t ∷ ts) hk hl = absurd (omega arith)
repeat_enough {A = A} test item e sh (suc k) (suc l) ts hk hl =
    let go : (o : Read A) → item ts ≡ o → (o >>= λ x. with_item x.0 (repeat k test item x.1)) ≡ (o >>= λ x. with_item x.0 (repeat l test item x.1)) =
    elim [
      | Ok x ↦ λ h. let lt : length x.1 < length ts = sh ts x h in rw (repeat_enough test item e sh k l x.1 (omega arith) (omega arith)) refl
      | Err f ↦ λ h. refl
    ]
    in ap (λ (z : Read (List A)). cond (test ts) z (Ok ([], ts))) (go (item ts) refl)

pub many_end : (n : ℕ) (s : Sort) (g : Grammar s) (ts : List Item) → starts ts (first g) ≡ false → reads n (many g) ts ≡ Ok ([], ts)
many_end n s g [] e = refl
many_end n s g (t ∷ ts) e = rw e refl

pub many_more : (n : ℕ) (s : Sort) (g : Grammar s) (ts : List Item) → null g ≡ false → starts ts (first g) ≡ true
    → reads n (many g) ts ≡ (reads n g ts >>= λ x. with_item x.0 (reads n (many g) x.1))
many_more n s g [] e h = absurd cc
many_more n s g (t ∷ ts) e h =
    let item : List Item → Read (Value s) = λ us. reads n g us in
    let test : List Item → Bool = λ us. starts us (first g) in
    let go : (o : Read (Value s)) → item (t ∷ ts) ≡ o → (o >>= λ x. with_item x.0 (repeat (length ts) test item x.1)) ≡ (o >>= λ x. with_item x.0 (repeat (length x.1) test item x.1)) =
    elim [
      | Ok x ↦ λ q. let lt : length x.1 < length (t ∷ ts) = shorter n s g e (t ∷ ts) x q in rw (repeat_enough test item refl (shorter n s g e) (length ts) (length x.1) x.1 (omega arith) (omega arith)) refl
      | Err f ↦ λ q. refl
    ]
    in rw h (go (item (t ∷ ts)) refl)
