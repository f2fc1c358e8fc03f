-- What is derived is read, whatever follows that does not carry it on.
use Rattle.std.proofs.Common.{◌≡◌, ℕ, zero, suc, ◌+◌, ◌≤◌, ◌<◌, Bool, true, false, cond, not, ◌&&◌, ◌||◌, List, [], ◌∷◌, ◌++◌, length, Result, Ok, Err, refl, sym, ap, subst, ◌∙◌, append_assoc, arith, inl, inr, ◌⊎◌}
use Rattle.std.proofs.lemmas.Bool.{and_parts, not-true, both_ways}
use Rattle.cw_grammar.specs.Tokens.{Item, code, same}
use Rattle.cw_lex.specs.declared.token.TokenKind.{TokenKind}
use Rattle.cw_grammar.specs.Grammar.{Sort, a_token, a_pair, a_list, Value, Rule, Grammar, one, none, ◌·◌, ◌∣◌, many, ◌⇒◌, opens, Again, again, again_first, again_next, guarded, first, next, null, starts, disjoint, predictive, rule_next}
use Rattle.cw_grammar.specs.Table.{rule, again_rule}
use Rattle.cw_grammar.specs.Derives.{Derives, is_one, is_none, is_then, is_left, is_right, is_end, is_more, is_map, is_opens, is_again}
use Rattle.cw_grammar.specs.Reading.{Fault, syntax_at, deep_at, Read, ◌>>=◌, take_one, repeat, Inside, read_with, reads, inside, Agains, turns, unbounded}
use Rattle.cw_grammar.proofs.Tests.{starts_neither, starts_disjoint, starts_within}
use Rattle.cw_grammar.proofs.Begins.{Begins, Heads, begins}
use Rattle.cw_grammar.proofs.Many.{many_end, many_more, derives_not_empty}
use Rattle.cw_grammar.proofs.Table.{rule_predictive, rule_carries_on, again_predictive, again_carries_on}
use Rattle.cw_grammar.proofs.Again.{again_step}

-- The value and the rest are found, unless too many levels open.
pub data Finds (m n : ℕ) (A : Type 0) (o : Read A) (x : A) (r : List Item) : Type 0 where
  found : o ≡ Ok (x, r) → Finds m n A o x r
  too_deep : n < m → (k : ℕ) → o ≡ Err (deep_at k) → Finds m n A o x r

pub finds_bind : (m n : ℕ) (A B : Type 0) (o : Read A) (f : A × List Item → Read B) (x : A) (u : List Item) (y : B) (r : List Item) → Finds m n A o x u → Finds m n B (f (x, u)) y r → Finds m n B (o >>= f) y r
finds_bind m n A B o f x u y r (found e) q = rw e q
finds_bind m n A B o f x u y r (too_deep lt k e) q = too_deep lt k (rw e refl)

finds_inside : (m n : ℕ) (A : Type 0) (o : Read A) (x : A) (r : List Item) → Finds m n A o x r → Finds (suc m) (suc n) A o x r
finds_inside m n A o x r (found e) = found e
finds_inside m n A o x r (too_deep lt k e) = too_deep (omega arith) k e

-- What follows the first part of a sequence does not carry it on.
pub goes_over : (s t : Sort) (g : Grammar s) (h : Grammar t) (v r : List Item) → disjoint (next g) (first h) ≡ true → starts r (next (g · h)) ≡ false → Begins t h v → starts (v ++ r) (next g) ≡ false
goes_over s t g h v r d e (inr q) = starts_disjoint (v ++ r) (next g) (first h) d (q r)
goes_over s t g h v r d e (inl q) =
    let p = (starts_neither r (next h) (cond (null h) (next g ++ first h) []) e).1 in
    let both : starts r (next g ++ first h) ≡ false = rw q.1 at p in
    rw q.0 (starts_neither r (next g) (first h) both).0

abbrev pub Completes : (m n : ℕ) (s : Sort) (g : Grammar s) (w : List Item) (x : Value s) → Type 0
Completes m n s g w x = (r : List Item) → starts r (next g) ≡ false → Finds m n (Value s) (reads n g (w ++ r)) x r

complete_then : (m n : ℕ) (s t : Sort) (g : Grammar s) (h : Grammar t) (u v : List Item) (x : Value s) (y : Value t) → disjoint (next g) (first h) ≡ true → Begins t h v → Completes m n s g u x → Completes m n t h v y → Completes m n (a_pair s t) (g · h) (u ++ v) (x, y)
complete_then m n s t g h u v x y d b p q r e =
    let start = p (v ++ r) (goes_over s t g h v r d e b) in
    let rest = q r (starts_neither r (next h) _ e).0 in
    let end = finds_bind m n (Value t) (Value s × Value t) (reads n h (v ++ r)) (λ z. Ok ((x, z.0), z.1)) y r (x, y) r rest (found refl) in
    rw append_assoc (finds_bind m n (Value s) (Value s × Value t) (reads n g (u ++ (v ++ r))) (λ z. reads n h z.1 >>= λ w. Ok ((z.0, w.0), w.1)) x (v ++ r) (x, y) r start end)

complete_left : (m n : ℕ) (s : Sort) (g h : Grammar s) (u : List Item) (x : Value s) → null g ≡ false → Begins s g u → Completes m n s g u x → Completes m n s (g ∣ h) u x
complete_left m n s g h u x z (inl b) p r e = absurd (both_ways (null g) z b.1)
complete_left m n s g h u x z (inr b) p r e = rw (b r) (p r (starts_neither r (next g) _ e).0)

complete_right : (m n : ℕ) (s : Sort) (g h : Grammar s) (u : List Item) (x : Value s) → disjoint (first g) (first h) ≡ true → Begins s h u → Completes m n s h u x → Completes m n s (g ∣ h) u x
complete_right m n s g h u x d b p r e =
    let outer = (starts_neither r (next g) _ e).1 in
    let inner = starts_neither r (next h) (cond (null h) (first g) []) outer in
    let other : starts (u ++ r) (first g) ≡ false = elim b [
      | inl q ↦ (let k : starts r (first g) ≡ false = rw q.1 at inner.1 in rw q.0 k)
      | inr q ↦ starts_disjoint (u ++ r) (first g) (first h) d (q r)
    ] in
    rw other (p r inner.0)

complete_more : (m n : ℕ) (s : Sort) (g : Grammar s) (u v : List Item) (x : Value s) (xs : List (Value s)) → null g ≡ false → disjoint (next g) (first g) ≡ true → Begins s g u → Begins (a_list s) (many g) v
    → Completes m n s g u x → Completes m n (a_list s) (many g) v xs → Completes m n (a_list s) (many g) (u ++ v) (x ∷ xs)
complete_more m n s g u v x xs z d (inl b) c p q r e = absurd (both_ways (null g) z b.1)
complete_more m n s g u v x xs z d (inr b) c p q r e =
    let parts = starts_neither r (next g) (first g) e in
    let follows : starts (v ++ r) (next g) ≡ false = elim c [
      | inl k ↦ rw k.0 parts.0
      | inr k ↦ starts_disjoint (v ++ r) (next g) (first g) d (k r)
    ] in
    let start = p (v ++ r) follows in
    let rest = q r e in
    let end = finds_bind m n (List (Value s)) (List (Value s)) (reads n (many g) (v ++ r)) (λ z. Ok (x ∷ z.0, z.1)) xs r (x ∷ xs) r rest (found refl) in
    let all = finds_bind m n (Value s) (List (Value s)) (reads n g (u ++ (v ++ r))) (λ z. reads n (many g) z.1 >>= λ w. Ok (z.0 ∷ w.0, w.1)) x (v ++ r) (x ∷ xs) r start end in
    let F : Read (List (Value s)) → Type 0 = λ o. Finds m n (List (Value s)) o (x ∷ xs) r in
    rw append_assoc (subst F (sym (many_more n s g (u ++ (v ++ r)) z (b (v ++ r)))) all)

complete_map : (m n : ℕ) (s t : Sort) (f : Value s → Value t) (g : Grammar s) (u : List Item) (x : Value s) → Completes m n s g u x → Completes m n t (g ⇒ f) u (f x)
complete_map m n s t f g u x p r e = finds_bind m n (Value s) (Value t) (reads n g (u ++ r)) (λ z. Ok (f z.0, z.1)) x r (f x) r (p r e) (found refl)

complete_opens : (m n : ℕ) (s : Sort) (k : TokenKind) (q : Rule s) (t : Item) (u : List Item) (x : Value s) → same t.kind k ≡ true → ((l : ℕ) → Completes m l s (rule q) u x) → Completes (suc m) n (a_pair a_token s) (opens k q) (t ∷ u) (t, x)
unfolding inside
complete_opens m zero s k q t u x e p r h = too_deep (omega arith) (length (u ++ r) + 1) (rw e refl)
complete_opens m (suc n) s k q t u x e p r h =
    let got = finds_inside m n (Value s) (reads n (rule q) (u ++ r)) x r (p n r (starts_within r (next (rule q)) (rule_next q) (rule_carries_on q) h)) in
    rw e (finds_bind (suc m) (suc n) (Value s) (Item × Value s) (reads n (rule q) (u ++ r)) (λ y. Ok ((t, y.0), y.1)) x r (t, x) r got (found refl))

complete_again : (m n : ℕ) (s : Sort) (a : Again s) (u : List Item) (x : Value s) → Completes m n s (again_rule a) u x → Completes m n s (again a) u x
complete_again m n s a u x p r h =
    let F : Read (Value s) → Type 0 = λ o. Finds m n (Value s) o x r in
    subst F (sym (again_step n s a (u ++ r))) (p r (starts_within r (next (again_rule a)) (again_next a) (again_carries_on a) h))

pub complete : {m : ℕ} {s : Sort} {g : Grammar s} {w : List Item} {x : Value s} → Derives m s g w x → predictive g ≡ true → (n : ℕ) → Completes m n s g w x
complete (is_one {t = t} e) ok n = λ r h. found (rw e refl)
complete is_none ok n = λ r h. found refl
complete (is_then {n = m} {s = s} {t = t} {g = g} {h = h} {u = u} {v = v} {x = x} {y = y} d e) ok n =
    let a = and_parts (predictive g) (predictive h && disjoint (next g) (first h)) ok in
    let b = and_parts (predictive h) (disjoint (next g) (first h)) a.1 in
    complete_then m n s t g h u v x y b.1 (begins e) (complete d a.0 n) (complete e b.0 n)
complete (is_left {n = m} {s = s} {g = g} {h = h} {u = u} {x = x} d) ok n =
    let a = and_parts (predictive g) (predictive h && (not (null g) && disjoint (first g) (first h))) ok in
    let b = and_parts (predictive h) (not (null g) && disjoint (first g) (first h)) a.1 in
    let c = and_parts (not (null g)) (disjoint (first g) (first h)) b.1 in
    complete_left m n s g h u x (not-true (null g) c.0) (begins d) (complete d a.0 n)
complete (is_right {n = m} {s = s} {g = g} {h = h} {u = u} {x = x} d) ok n =
    let a = and_parts (predictive g) (predictive h && (not (null g) && disjoint (first g) (first h))) ok in
    let b = and_parts (predictive h) (not (null g) && disjoint (first g) (first h)) a.1 in
    let c = and_parts (not (null g)) (disjoint (first g) (first h)) b.1 in
    complete_right m n s g h u x c.1 (begins d) (complete d b.0 n)
complete (is_end {s = s} {g = g}) ok n = λ r e. found (many_end n s g r (starts_neither r (next g) (first g) e).1)
complete (is_more {n = m} {s = s} {g = g} {u = u} {v = v} {x = x} {xs = xs} d e) ok n =
    let a = and_parts (predictive g) (not (null g) && disjoint (next g) (first g)) ok in
    let b = and_parts (not (null g)) (disjoint (next g) (first g)) a.1 in
    complete_more m n s g u v x xs (not-true (null g) b.0) b.1 (begins d) (begins e) (complete d a.0 n) (complete e ok n)
complete (is_map {n = m} {s = s} {t = t} {f = f} {g = g} {u = u} {x = x} d) ok n = complete_map m n s t f g u x (complete d ok n)
complete (is_opens {n = m} {s = s} {k = k} {r = q} {t = t} {u = u} {x = x} e d) ok n = complete_opens m n s k q t u x e (complete d (rule_predictive q))
complete (is_again {n = m} {s = s} {a = a} {u = u} {x = x} d) ok n = complete_again m n s a u x (complete d (again_predictive a) n)
