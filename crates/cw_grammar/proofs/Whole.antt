-- What reading a whole list says of it.
use Rattle.std.proofs.Common.{◌≡◌, ℕ, zero, suc, ◌+◌, ◌-◌, ◌≤◌, ◌<◌, Bool, true, false, List, [], ◌∷◌, ◌++◌, length, Result, Ok, Err, refl, sym, ap, subst, ◌∙◌, append_assoc, arith}
use Rattle.std.proofs.lemmas.List.{append-nil, length-append}
use Rattle.cw_grammar.specs.Tokens.{Item, code, same}
use Rattle.cw_grammar.specs.Grammar.{Sort, a_token, a_pair, a_list, Value, Rule, Grammar, one, none, ◌·◌, ◌∣◌, many, ◌⇒◌, opens, Again, again, again_first, again_next, guarded, next, starts, predictive}
use Rattle.cw_grammar.specs.Derives.{Derives, is_one, is_none, is_then, is_left, is_right, is_end, is_more, is_map, is_opens, is_again, IsViablePrefix, no_token, of_one, of_first, of_second, of_left, of_right, of_item, of_more, of_map, of_opens, of_again}
use Rattle.cw_grammar.specs.Reading.{Fault, syntax_at, deep_at, Read, read_with, reads, inside, Agains, turns, unbounded}
use Rattle.cw_grammar.proofs.Sound.{Found, Stops, Deep, Sound, sound}
use Rattle.cw_grammar.proofs.Complete.{Finds, found, too_deep, complete}
use Rattle.std.proofs.Common.{◌==◌}
use Rattle.std.proofs.lemmas.Bool.{eqb-true}
use Rattle.cw_grammar.proofs.Passes.{Passes, front_passes, left, left_le}

-- A text is a front.
pub text_is_front : {n : ℕ} {s : Sort} {g : Grammar s} {u : List Item} {x : Value s} → Derives n s g u x → IsViablePrefix n s g u
text_is_front (is_one e) = of_one e
text_is_front is_none = no_token
text_is_front (is_then d e) = of_second d (text_is_front e)
text_is_front (is_left d) = of_left (text_is_front d)
text_is_front (is_right d) = of_right (text_is_front d)
text_is_front is_end = no_token
text_is_front (is_more d e) = of_more d (text_is_front e)
text_is_front (is_map d) = of_map (text_is_front d)
text_is_front (is_opens e d) = of_opens e (text_is_front d)
text_is_front (is_again d) = of_again (text_is_front d)

-- What is derived from the whole list is read, if few enough levels open.
pub reads_text : (n : ℕ) (s : Sort) (g : Grammar s) (ts : List Item) (x : Value s) → predictive g ≡ true → Derives n s g ts x → reads n g ts ≡ Ok (x, [])
reads_text n s g ts x ok d =
    let got : Finds n n (Value s) (reads n g (ts ++ [])) x [] = complete d ok n [] refl in
    let of : Finds n n (Value s) (reads n g ts) x [] = rw append-nil at got in
    is_found of
  where
    is_found : {n : ℕ} {A : Type 0} {o : Read A} {x : A} {r : List Item} → Finds n n A o x r → o ≡ Ok (x, r)
    is_found (found e) = e
    is_found (too_deep lt k e) = absurd (omega arith)

snoc_parts : (ts u : List Item) (t : Item) (r : List Item) → ts ≡ u ++ t ∷ r → ts ≡ (u ++ t ∷ []) ++ r
snoc_parts ts u t r e = e ∙ sym (append_assoc u (t ∷ []) r)

-- What is read goes over each front of the list.
reaches : (m n : ℕ) (s : Sort) (g : Grammar s) (ts u : List Item) (t : Item) (r : List Item) (o : Read (Value s)) → predictive g ≡ true → ts ≡ u ++ t ∷ r → IsViablePrefix m s g (u ++ t ∷ []) → reads n g ts ≡ o → Passes m n (Value s) o (length r)
reaches m n s g ts u t r o ok e f h =
    let P : Read (Value s) → Type 0 = λ z. Passes m n (Value s) z (length r) in
    let here : P (reads n g ((u ++ t ∷ []) ++ r)) = front_passes f ok n r in
    let there : P (reads n g ts) = rw (snoc_parts ts u t r e) here in
    subst P h there

pub sound_at : (n : ℕ) (s : Sort) (g : Grammar s) (ts : List Item) (o : Read (Value s)) → reads n g ts ≡ o → Sound n s g ts o
sound_at n s g ts o h =
    let P : Read (Value s) → Type 0 = λ z. Sound n s g ts z in
    subst P h (sound n s g ts)

pub left_at : (n : ℕ) (s : Sort) (g : Grammar s) (ts : List Item) (o : Read (Value s)) → reads n g ts ≡ o → left o ≤ length ts
left_at n s g ts o h =
    let P : Read (Value s) → Type 0 = λ z. left z ≤ length ts in
    subst P h (left_le n s g ts)

nothing_left : (n : ℕ) (s : Sort) (g : Grammar s) (ts : List Item) (x : Value s) (r : List Item) → (length r == 0) ≡ true → Found n s g ts x r → Derives n s g ts x
nothing_left n s g ts x [] e p =
    let D : List Item → Type 0 = λ u. Derives n s g u x in
    subst D (sym (p.parts ∙ append-nil p.text)) p.derives
nothing_left n s g ts x (t ∷ r) e p = absurd (omega (arith, eqb-true (length (t ∷ r)) 0 e))

-- A tree that takes the whole list is derived from it.
pub derived_whole : (n : ℕ) (s : Sort) (g : Grammar s) (ts : List Item) (x : Value s) (r : List Item) → (length r == 0) ≡ true → reads n g ts ≡ Ok (x, r) → Derives n s g ts x
derived_whole n s g ts x r e h = nothing_left n s g ts x r e (sound_at n s g ts (Ok (x, r)) h)

abbrev done : {A : Type 0} → A × List Item → Read A
done x = Ok x

same_done : {A : Type 0} (p q : A × List Item) → done p ≡ done q → p ≡ q
same_done p q e = cc

-- A derived list has no other outcome.
pub same_tree : (n : ℕ) (s : Sort) (g : Grammar s) (ts : List Item) (x y : Value s) (r : List Item) → predictive g ≡ true → Derives n s g ts x → reads n g ts ≡ Ok (y, r) → (y ≡ x) × (r ≡ [])
same_tree n s g ts x y r ok d h =
    let e = same_done (y, r) (x, []) (sym h ∙ reads_text n s g ts x ok d) in
    (ap (λ (p : Value s × List Item). p.0) e, ap (λ (p : Value s × List Item). p.1) e)

pub no_fault : (n : ℕ) (s : Sort) (g : Grammar s) (ts : List Item) (x : Value s) (f : Fault) → predictive g ≡ true → Derives n s g ts x → reads n g ts ≡ Err f → ⊥
no_fault n s g ts x f ok d h =
    let e : reads n g ts ≡ Ok (x, []) = reads_text n s g ts x ok d in
    cc
