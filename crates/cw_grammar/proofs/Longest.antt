-- What reading says of the longest front of a list.
use Rattle.std.proofs.Common.{◌≡◌, ℕ, suc, ◌+◌, ◌-◌, ◌≤◌, ◌<◌, true, List, [], ◌∷◌, ◌++◌, length, Ok, Err, refl, sym, ap, subst, ◌∙◌, append_assoc, arith}
use Rattle.std.proofs.lemmas.List.{length-append}
use Rattle.cw_grammar.specs.Tokens.{Item}
use Rattle.cw_grammar.specs.Grammar.{Sort, Value, Grammar, predictive}
use Rattle.cw_grammar.specs.Derives.{Derives, IsViablePrefix}
use Rattle.cw_grammar.specs.Reading.{Fault, syntax_at, deep_at, Read, reads}
use Rattle.cw_grammar.specs.Parsing.{IsLongestText, IsNoText, IsDeepAt}
use Rattle.cw_grammar.proofs.Sound.{Found, Stops, Deep}
use Rattle.cw_grammar.proofs.Passes.{Passes, front_passes}
use Rattle.cw_grammar.proofs.Strict.{Strict, text_strict}
use Rattle.cw_grammar.proofs.Whole.{text_is_front, reads_text, sound_at}

-- What is read goes over each front of the list.
goes_over : (m n : ℕ) (s : Sort) (g : Grammar s) (ts v r : List Item) (o : Read (Value s)) → predictive g ≡ true → ts ≡ v ++ r → IsViablePrefix m s g v → reads n g ts ≡ o → Passes m n (Value s) o (length r)
goes_over m n s g ts v r o ok e f h =
    let P : Read (Value s) → Type 0 = λ z. Passes m n (Value s) z (length r) in
    let there : P (reads n g ts) = rw e (front_passes f ok n r) in
    subst P h there

strict_at : (m n : ℕ) (s : Sort) (g : Grammar s) (ts q r : List Item) (x : Value s) → predictive g ≡ true → ts ≡ q ++ r → Derives m s g q x → Strict m n (Value s) (reads n g ts) (length r)
strict_at m n s g ts q r x ok e d = rw e (text_strict d ok n r)

shorter_front : (ts q r v w : List Item) → ts ≡ q ++ r → ts ≡ v ++ w → length r ≤ length w → length v ≤ length q
shorter_front ts q r v w e f h = omega (arith, ap length e, ap length f, length-append q r, length-append v w)

pub read_longest : (n : ℕ) (s : Sort) (g : Grammar s) (ts : List Item) (x : Value s) (rest : List Item) → predictive g ≡ true → reads n g ts ≡ Ok (x, rest) → IsLongestText n s g ts x rest
read_longest n s g ts x rest ok h =
    let p : Found n s g ts x rest = sound_at n s g ts (Ok (x, rest)) h in
    record {
      text = p.text;
      longest = record {
        parts = p.parts;
        is_front = (n, text_is_front p.derives);
        longest = λ m v r e f. shorter_front ts p.text rest v r p.parts e (goes_over m n s g ts v r (Ok (x, rest)) ok e f h);
      };
      derives = p.derives;
    }

pub read_no_text : (n : ℕ) (s : Sort) (g : Grammar s) (ts : List Item) (k : ℕ) → predictive g ≡ true → reads n g ts ≡ Err (syntax_at k) → IsNoText n s g ts k
read_no_text n s g ts k ok h =
    let p : Stops n s g ts k = sound_at n s g ts (Err (syntax_at k)) h in
    record {
      front = p.text;
      rest = p.rest;
      longest = record {
        parts = p.parts;
        is_front = (n, p.is_front);
        longest = λ m v r e f.
            let le : k ≤ length r = goes_over m n s g ts v r (Err (syntax_at k)) ok e f h in
            shorter_front ts p.text p.rest v r p.parts e (omega (arith, le, p.left_is));
      };
      is_front = p.is_front;
      left_is = p.left_is;
      no_text = λ m x d.
          let P : Read (Value s) → Type 0 = λ z. Strict m n (Value s) z (length p.rest) in
          let there : P (reads n g ts) = strict_at m n s g ts p.text p.rest x ok p.parts d in
          let lt : k < length p.rest = subst P h there in
          absurd (omega (arith, lt, p.left_is));
    }

pub read_deep : (n : ℕ) (s : Sort) (g : Grammar s) (ts : List Item) (k : ℕ) → predictive g ≡ true → reads n g ts ≡ Err (deep_at k) → IsDeepAt n s g ts k
read_deep n s g ts k ok h =
    let p : Deep n s g ts k = sound_at n s g ts (Err (deep_at k)) h in
    let parts : ts ≡ p.stops.text ++ p.opening ∷ p.behind = p.stops.parts ∙ ap (λ (z : List Item). p.stops.text ++ z) p.begins in
    let left_is : length p.behind + 1 ≡ k = omega (arith, ap length p.begins, p.stops.left_is) in
    record {
      before = p.stops.text;
      opening = p.opening;
      rest = p.behind;
      parts = parts;
      left_is = left_is;
      is_front = p.stops.is_front;
      opens = p.is_deep;
      too_deep = λ f.
          let within : n ≤ n → k ≤ length p.behind = goes_over n n s g ts (p.stops.text ++ p.opening ∷ []) p.behind (Err (deep_at k)) ok (parts ∙ sym (append_assoc p.stops.text (p.opening ∷ []) p.behind)) f h in
          omega (arith, within (omega arith), left_is);
    }

same_parts : (u a r b : List Item) → u ++ r ≡ a ++ b → length u ≡ length a → (u ≡ a) × (r ≡ b)
same_parts [] [] r b e h = (refl, e)
same_parts [] (y ∷ a) r b e h = absurd (omega (arith, h))
same_parts (x ∷ u) [] r b e h = absurd (omega (arith, h))
same_parts (x ∷ u) (y ∷ a) r b e h =
    let p = same_parts u a r b (cc) (omega (arith, h)) in
    let q : x ≡ y = cc in
    (rw (p.0, q) refl, p.1)

abbrev done : {A : Type 0} → A × List Item → Read A
done x = Ok x

same_done : {A : Type 0} (p q : A × List Item) → done p ≡ done q → p ≡ q
same_done p q e = cc

-- A text has one tree.
pub one_tree : (n : ℕ) (s : Sort) (g : Grammar s) (q : List Item) (x y : Value s) → predictive g ≡ true → Derives n s g q x → Derives n s g q y → x ≡ y
one_tree n s g q x y ok d e = ap (λ (p : Value s × List Item). p.0) (same_done (x, []) (y, []) (sym (reads_text n s g q x ok d) ∙ reads_text n s g q y ok e))

-- What is the longest front, and a text, is read.
pub longest_read : (n : ℕ) (s : Sort) (g : Grammar s) (ts : List Item) (x : Value s) (rest : List Item) → predictive g ≡ true → IsLongestText n s g ts x rest → reads n g ts ≡ Ok (x, rest)
longest_read n s g ts x rest ok p = go (reads n g ts) refl
  where
    go : (o : Read (Value s)) → reads n g ts ≡ o → reads n g ts ≡ Ok (x, rest)
    go (Ok y) h =
        let q = read_longest n s g ts y.0 y.1 ok h in
        let a : length q.text ≤ length p.text = p.longest.longest n q.text y.1 q.longest.parts (text_is_front q.derives) in
        let b : length p.text ≤ length q.text = q.longest.longest n p.text rest p.longest.parts (text_is_front p.derives) in
        let same = same_parts q.text p.text y.1 rest (sym q.longest.parts ∙ p.longest.parts) (omega (arith, a, b)) in
        let D : List Item → Type 0 = λ z. Derives n s g z y.0 in
        let e : y.0 ≡ x = one_tree n s g p.text y.0 x ok (subst D same.0 q.derives) p.derives in
        h ∙ rw (e, same.1) refl
    go (Err (syntax_at k)) h =
        let q = read_no_text n s g ts k ok h in
        let a : length q.front ≤ length p.text = p.longest.longest n q.front q.rest q.longest.parts q.is_front in
        let b : length p.text ≤ length q.front = q.longest.longest n p.text rest p.longest.parts (text_is_front p.derives) in
        let same = same_parts p.text q.front rest q.rest (sym p.longest.parts ∙ q.longest.parts) (omega (arith, a, b)) in
        let D : List Item → Type 0 = λ z. Derives n s g z x in
        absurd (q.no_text n x (subst D same.0 p.derives))
    go (Err (deep_at k)) h =
        let q = read_deep n s g ts k ok h in
        let front : List Item = q.before ++ q.opening ∷ [] in
        let parts : ts ≡ front ++ q.rest = q.parts ∙ sym (append_assoc q.before (q.opening ∷ []) q.rest) in
        let a : length front ≤ length p.text = p.longest.longest (suc n) front q.rest parts q.opens in
        let within : n ≤ n → k ≤ length rest = goes_over n n s g ts p.text rest (Err (deep_at k)) ok p.longest.parts (text_is_front p.derives) h in
        absurd (omega (arith, within (omega arith), q.left_is, a, ap length parts, ap length p.longest.parts, length-append front q.rest, length-append p.text rest))

-- What is read is that text,
pub reads_it : (n : ℕ) (s : Sort) (g : Grammar s) (ts : List Item) (x y : Value s) (rest r : List Item) → predictive g ≡ true → reads n g ts ≡ Ok (y, r) → IsLongestText n s g ts x rest → (y ≡ x) × (r ≡ rest)
reads_it n s g ts x y rest r ok h p =
    let e = same_done (y, r) (x, rest) (sym h ∙ longest_read n s g ts x rest ok p) in
    (ap (λ (q : Value s × List Item). q.0) e, ap (λ (q : Value s × List Item). q.1) e)

-- and there is no fault.
pub reads_no_fault : (n : ℕ) (s : Sort) (g : Grammar s) (ts : List Item) (x : Value s) (rest : List Item) (f : Fault) → predictive g ≡ true → reads n g ts ≡ Err f → IsLongestText n s g ts x rest → ⊥
reads_no_fault n s g ts x rest f ok h p =
    let e : reads n g ts ≡ Ok (x, rest) = longest_read n s g ts x rest ok p in
    cc
