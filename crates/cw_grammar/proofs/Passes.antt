-- No fault of syntax stands within a front.
use Rattle.std.proofs.Common.{◌≡◌, ℕ, zero, suc, ◌+◌, ◌≤◌, ◌<◌, Bool, true, false, cond, not, ◌&&◌, ◌||◌, List, [], ◌∷◌, ◌++◌, length, Result, Ok, Err, refl, sym, ap, subst, ◌∙◌, append_assoc, arith, inl, inr, ◌⊎◌}
use Rattle.std.proofs.lemmas.Bool.{and_parts, not-true, both_ways}
use Rattle.std.proofs.lemmas.List.{append-nil, length-append}
use Rattle.cw_grammar.specs.Tokens.{Item, code, same}
use Rattle.cw_lex.specs.declared.token.TokenKind.{TokenKind}
use Rattle.cw_grammar.specs.Grammar.{Sort, a_token, a_pair, a_list, Value, Rule, Grammar, one, none, ◌·◌, ◌∣◌, many, ◌⇒◌, opens, Again, again, again_first, again_next, guarded, first, next, null, starts, disjoint, predictive, rule_next}
use Rattle.cw_grammar.specs.Table.{rule, again_rule}
use Rattle.cw_grammar.specs.Derives.{Derives, is_one, is_none, is_then, is_left, is_right, is_end, is_more, is_map, is_opens, is_again, IsViablePrefix, no_token, of_one, of_first, of_second, of_left, of_right, of_item, of_more, of_map, of_opens, of_again}
use Rattle.cw_grammar.specs.Reading.{Fault, syntax_at, deep_at, Read, ◌>>=◌, take_one, repeat, Inside, read_with, reads, inside, Agains, turns, unbounded}
use Rattle.cw_grammar.proofs.Tests.{starts_neither, starts_disjoint}
use Rattle.cw_grammar.proofs.Sound.{Sound, sound}
use Rattle.cw_grammar.proofs.Begins.{Begins, Heads, begins, front_begins}
use Rattle.cw_grammar.proofs.Many.{many_more}
use Rattle.cw_grammar.proofs.Table.{rule_predictive, again_predictive}
use Rattle.cw_grammar.proofs.Again.{again_step}
use Rattle.cw_grammar.proofs.Complete.{Finds, found, too_deep, Completes, complete}

-- how many tokens are left where reading stops
abbrev pub left : {A : Type 0} → Read A → ℕ
left (Ok x) = length x.1
left (Err (syntax_at k)) = k
left (Err (deep_at k)) = k

sound_left_le : (n : ℕ) (s : Sort) (g : Grammar s) (ts : List Item) (o : Read (Value s)) → Sound n s g ts o → left o ≤ length ts
sound_left_le n s g ts (Ok x) p = omega (arith, ap length p.parts, length-append p.text x.1)
sound_left_le n s g ts (Err (syntax_at k)) p = omega (arith, ap length p.parts, length-append p.text p.rest, p.left_is)
sound_left_le n s g ts (Err (deep_at k)) p = omega (arith, ap length p.stops.parts, length-append p.stops.text p.stops.rest, p.stops.left_is)

pub left_le : (n : ℕ) (s : Sort) (g : Grammar s) (ts : List Item) → left (reads n g ts) ≤ length ts
left_le n s g ts = sound_left_le n s g ts (reads n g ts) (sound n s g ts)

-- Where m levels may be opened, no depth stops reading before the last l tokens; and what else stops it stands so to them.
abbrev pub Goes : (Stop : (k l : ℕ) → Type 0) (m n : ℕ) (A : Type 0) → Read A → ℕ → Type 0
Goes Stop m n A (Ok x) l = length x.1 ≤ l
Goes Stop m n A (Err (syntax_at k)) l = Stop k l
Goes Stop m n A (Err (deep_at k)) l = m ≤ n → k ≤ l

pub goes_give : (Stop : (k l : ℕ) → Type 0) (m n : ℕ) (A B : Type 0) (o : Read A) (f : A → B) (l : ℕ) → Goes Stop m n A o l → Goes Stop m n B (o >>= λ x. Ok (f x.0, x.1)) l
goes_give Stop m n A B (Ok x) f l p = p
goes_give Stop m n A B (Err (syntax_at k)) f l p = p
goes_give Stop m n A B (Err (deep_at k)) f l p = p

pub goes_inside : (Stop : (k l : ℕ) → Type 0) (m n : ℕ) (A : Type 0) (o : Read A) (l : ℕ) → Goes Stop m n A o l → Goes Stop (suc m) (suc n) A o l
goes_inside Stop m n A (Ok x) l p = p
goes_inside Stop m n A (Err (syntax_at k)) l p = p
goes_inside Stop m n A (Err (deep_at k)) l p = λ le. p (omega arith)

pub goes_second : (Stop : (k l : ℕ) → Type 0) (m n : ℕ) (A B : Type 0) (o : Read A) (f : A × List Item → Read B) (x : A) (u : List Item) (l : ℕ) → Finds m n A o x u → Goes Stop m n B (f (x, u)) l → Goes Stop m n B (o >>= f) l
goes_second Stop m n A B o f x u l (found e) p = rw e p
goes_second Stop m n A B o f x u l (too_deep lt k e) p = rw e (λ le. absurd (omega arith))

-- behind one more that is read first
pub goes_more : (Stop : (k l : ℕ) → Type 0) (m n : ℕ) (s : Sort) (g : Grammar s) (u v : List Item) (x : Value s) → null g ≡ false → disjoint (next g) (first g) ≡ true → Heads u (first g) → Heads v (first g) → Completes m n s g u x
    → ((r : List Item) → Goes Stop m n (List (Value s)) (reads n (many g) (v ++ r)) (length r)) → (r : List Item) → Goes Stop m n (List (Value s)) (reads n (many g) ((u ++ v) ++ r)) (length r)
goes_more Stop m n s g u v x z d a b c q r =
    let start = c (v ++ r) (starts_disjoint (v ++ r) (next g) (first g) d (b r)) in
    let all = goes_second Stop m n (Value s) (List (Value s)) (reads n g (u ++ (v ++ r))) (λ y. reads n (many g) y.1 >>= λ w. Ok (y.0 ∷ w.0, w.1)) x (v ++ r) (length r) start
    (goes_give Stop m n (List (Value s)) (List (Value s)) (reads n (many g) (v ++ r)) (λ w. x ∷ w) (length r) (q r)) in
    let F : Read (List (Value s)) → Type 0 = λ o. Goes Stop m n (List (Value s)) o (length r) in
    rw append_assoc (subst F (sym (many_more n s g (u ++ (v ++ r)) z (a (v ++ r)))) all)

abbrev AtMost : (k l : ℕ) → Type 0
AtMost k l = k ≤ l

-- Reading goes on to the last l tokens at least, where m levels may be opened.
abbrev pub Passes : (m n : ℕ) (A : Type 0) → Read A → ℕ → Type 0
Passes = Goes AtMost

passes_left : (m n : ℕ) (A : Type 0) (o : Read A) (l : ℕ) → left o ≤ l → Passes m n A o l
passes_left m n A (Ok x) l h = h
passes_left m n A (Err (syntax_at k)) l h = h
passes_left m n A (Err (deep_at k)) l h = λ _. h

passes_first : (m n : ℕ) (A B : Type 0) (o : Read A) (f : A × List Item → Read B) (l : ℕ) → Passes m n A o l → ((x : A × List Item) → left (f x) ≤ length x.1) → Passes m n B (o >>= f) l
passes_first m n A B (Ok x) f l p q = passes_left m n B (f x) l (omega (arith, q x))
passes_first m n A B (Err (syntax_at k)) f l p q = p
passes_first m n A B (Err (deep_at k)) f l p q = p

left_give : (A B : Type 0) (o : Read A) (f : A → B) (l : ℕ) → left o ≤ l → left (o >>= λ x. Ok (f x.0, x.1)) ≤ l
left_give A B (Ok x) f l p = p
left_give A B (Err (syntax_at k)) f l p = p
left_give A B (Err (deep_at k)) f l p = p

abbrev pub PassesAt : (m n : ℕ) (s : Sort) (g : Grammar s) (w : List Item) → Type 0
PassesAt m n s g w = (r : List Item) → Passes m n (Value s) (reads n g (w ++ r)) (length r)

starting : (s : Sort) (g : Grammar s) (w : List Item) → Begins s g w → (w ≡ []) ⊎ Heads w (first g)
starting s g w (inl p) = inl p.0
starting s g w (inr p) = inr p

pass_start : (m n : ℕ) (s t : Sort) (g : Grammar s) (h : Grammar t) (u : List Item) → PassesAt m n s g u → PassesAt m n (a_pair s t) (g · h) u
pass_start m n s t g h u p r =
    passes_first m n (Value s) (Value s × Value t) (reads n g (u ++ r)) (λ z. reads n h z.1 >>= λ w. Ok ((z.0, w.0), w.1)) (length r) (p r)
    (λ x. left_give (Value t) (Value s × Value t) (reads n h x.1) (λ w. (x.0, w)) (length x.1) (left_le n t h x.1))

pass_then : (m n : ℕ) (s t : Sort) (g : Grammar s) (h : Grammar t) (u v : List Item) (x : Value s) → disjoint (next g) (first h) ≡ true → (v ≡ []) ⊎ Heads v (first h) → PassesAt m n s g u → Completes m n s g u x → PassesAt m n t h v → PassesAt m n (a_pair s t) (g · h) (u ++ v)
pass_then m n s t g h u v x d (inl e) p c q r = rw (e, append-nil u) (pass_start m n s t g h u p r)
pass_then m n s t g h u v x d (inr b) p c q r =
    let start = c (v ++ r) (starts_disjoint (v ++ r) (next g) (first h) d (b r)) in
    rw append_assoc (goes_second AtMost m n (Value s) (Value s × Value t) (reads n g (u ++ (v ++ r))) (λ z. reads n h z.1 >>= λ w. Ok ((z.0, w.0), w.1)) x (v ++ r) (length r) start
    (goes_give AtMost m n (Value t) (Value s × Value t) (reads n h (v ++ r)) (λ w. (x, w)) (length r) (q r)))

pass_left : (m n : ℕ) (s : Sort) (g h : Grammar s) (u : List Item) → (u ≡ []) ⊎ Heads u (first g) → PassesAt m n s g u → PassesAt m n s (g ∣ h) u
pass_left m n s g h u (inl e) p r = rw e (passes_left m n (Value s) (reads n (g ∣ h) r) (length r) (left_le n s (g ∣ h) r))
pass_left m n s g h u (inr b) p r = rw (b r) (p r)

pass_right : (m n : ℕ) (s : Sort) (g h : Grammar s) (u : List Item) → disjoint (first g) (first h) ≡ true → (u ≡ []) ⊎ Heads u (first h) → PassesAt m n s h u → PassesAt m n s (g ∣ h) u
pass_right m n s g h u d (inl e) p r = rw e (passes_left m n (Value s) (reads n (g ∣ h) r) (length r) (left_le n s (g ∣ h) r))
pass_right m n s g h u d (inr b) p r =
    let other : starts (u ++ r) (first g) ≡ false = starts_disjoint (u ++ r) (first g) (first h) d (b r) in
    rw other (p r)

pass_item : (m n : ℕ) (s : Sort) (g : Grammar s) (u : List Item) → null g ≡ false → (u ≡ []) ⊎ Heads u (first g) → PassesAt m n s g u → PassesAt m n (a_list s) (many g) u
pass_item m n s g u z (inl e) p r = rw e (passes_left m n (List (Value s)) (reads n (many g) r) (length r) (left_le n (a_list s) (many g) r))
pass_item m n s g u z (inr b) p r =
    let F : Read (List (Value s)) → Type 0 = λ o. Passes m n (List (Value s)) o (length r) in
    subst F (sym (many_more n s g (u ++ r) z (b r)))
    (passes_first m n (Value s) (List (Value s)) (reads n g (u ++ r)) (λ y. reads n (many g) y.1 >>= λ w. Ok (y.0 ∷ w.0, w.1)) (length r) (p r)
    (λ y. left_give (List (Value s)) (List (Value s)) (reads n (many g) y.1) (λ w. y.0 ∷ w) (length y.1) (left_le n (a_list s) (many g) y.1)))

pass_more : (m n : ℕ) (s : Sort) (g : Grammar s) (u v : List Item) (x : Value s) → null g ≡ false → disjoint (next g) (first g) ≡ true → (u ≡ []) ⊎ Heads u (first g) → (v ≡ []) ⊎ Heads v (first g) → PassesAt m n s g u → Completes m n s g u x → PassesAt m n (a_list s) (many g) v
    → PassesAt m n (a_list s) (many g) (u ++ v)
pass_more m n s g u v x z d (inl e) b p c q r = rw e (q r)
pass_more m n s g u v x z d (inr a) (inl e) p c q r = rw (e, append-nil u) (pass_item m n s g u z (inr a) p r)
pass_more m n s g u v x z d (inr a) (inr b) p c q r = goes_more AtMost m n s g u v x z d a b c q r

pass_map : (m n : ℕ) (s t : Sort) (f : Value s → Value t) (g : Grammar s) (u : List Item) → PassesAt m n s g u → PassesAt m n t (g ⇒ f) u
pass_map m n s t f g u p r = goes_give AtMost m n (Value s) (Value t) (reads n g (u ++ r)) f (length r) (p r)

pass_opens : (m n : ℕ) (s : Sort) (k : TokenKind) (q : Rule s) (t : Item) (u : List Item) → same t.kind k ≡ true → ((l : ℕ) → PassesAt m l s (rule q) u) → PassesAt (suc m) n (a_pair a_token s) (opens k q) (t ∷ u)
unfolding inside
pass_opens m zero s k q t u e p r = rw e (λ le. absurd (omega arith))
pass_opens m (suc n) s k q t u e p r =
    rw e (goes_give AtMost (suc m) (suc n) (Value s) (Item × Value s) (reads n (rule q) (u ++ r)) (λ y. (t, y)) (length r) (goes_inside AtMost m n (Value s) (reads n (rule q) (u ++ r)) (length r) (p n r)))

pass_again : (m n : ℕ) (s : Sort) (a : Again s) (u : List Item) → PassesAt m n s (again_rule a) u → PassesAt m n s (again a) u
pass_again m n s a u p r =
    let F : Read (Value s) → Type 0 = λ o. Passes m n (Value s) o (length r) in
    subst F (sym (again_step n s a (u ++ r))) (p r)

pass_one : (m n : ℕ) (k : TokenKind) (t : Item) → same t.kind k ≡ true → PassesAt m n a_token (one k) (t ∷ [])
pass_one m n k t e r = rw e (omega arith)

pass_nothing : (m n : ℕ) (s : Sort) (g : Grammar s) → PassesAt m n s g []
pass_nothing m n s g r = passes_left m n (Value s) (reads n g r) (length r) (left_le n s g r)

-- what a grammar's test of look-ahead says of its parts
pub then_parts : (s t : Sort) (g : Grammar s) (h : Grammar t) → predictive (g · h) ≡ true → (predictive g ≡ true) × (predictive h ≡ true) × (disjoint (next g) (first h) ≡ true)
then_parts s t g h ok =
    let a = and_parts (predictive g) (predictive h && disjoint (next g) (first h)) ok in
    let b = and_parts (predictive h) (disjoint (next g) (first h)) a.1 in
    (a.0, b.0, b.1)

pub or_parts : (s : Sort) (g h : Grammar s) → predictive (g ∣ h) ≡ true → (predictive g ≡ true) × (predictive h ≡ true) × (null g ≡ false) × (disjoint (first g) (first h) ≡ true)
or_parts s g h ok =
    let a = and_parts (predictive g) (predictive h && (not (null g) && disjoint (first g) (first h))) ok in
    let b = and_parts (predictive h) (not (null g) && disjoint (first g) (first h)) a.1 in
    let c = and_parts (not (null g)) (disjoint (first g) (first h)) b.1 in
    (a.0, b.0, not-true (null g) c.0, c.1)

pub many_parts : (s : Sort) (g : Grammar s) → predictive (many g) ≡ true → (predictive g ≡ true) × (null g ≡ false) × (disjoint (next g) (first g) ≡ true)
many_parts s g ok =
    let a = and_parts (predictive g) (not (null g) && disjoint (next g) (first g)) ok in
    let b = and_parts (not (null g)) (disjoint (next g) (first g)) a.1 in
    (a.0, not-true (null g) b.0, b.1)

text_passes : {m : ℕ} {s : Sort} {g : Grammar s} {w : List Item} {x : Value s} → Derives m s g w x → predictive g ≡ true → (n : ℕ) → PassesAt m n s g w
text_passes (is_one {n = m} {k = k} {t = t} e) ok n = pass_one m n k t e
text_passes (is_none {n = m} {s = s} {x = x}) ok n = pass_nothing m n s (none x)
text_passes (is_then {n = m} {s = s} {t = t} {g = g} {h = h} {u = u} {v = v} {x = x} d e) ok n =
    let p = then_parts s t g h ok in
    pass_then m n s t g h u v x p.2 (starting t h v (begins e)) (text_passes d p.0 n) (complete d p.0 n) (text_passes e p.1 n)
text_passes (is_left {n = m} {s = s} {g = g} {h = h} {u = u} d) ok n = pass_left m n s g h u (starting s g u (begins d)) (text_passes d (or_parts s g h ok).0 n)
text_passes (is_right {n = m} {s = s} {g = g} {h = h} {u = u} d) ok n = pass_right m n s g h u (or_parts s g h ok).3 (starting s h u (begins d)) (text_passes d (or_parts s g h ok).1 n)
text_passes (is_end {n = m} {s = s} {g = g}) ok n = pass_nothing m n (a_list s) (many g)
text_passes (is_more {n = m} {s = s} {g = g} {u = u} {v = v} {x = x} d e) ok n =
    let p = many_parts s g ok in
    pass_more m n s g u v x p.1 p.2 (starting s g u (begins d)) (starting (a_list s) (many g) v (begins e)) (text_passes d p.0 n) (complete d p.0 n) (text_passes e ok n)
text_passes (is_map {n = m} {s = s} {t = t} {f = f} {g = g} {u = u} d) ok n = pass_map m n s t f g u (text_passes d ok n)
text_passes (is_opens {n = m} {s = s} {k = k} {r = q} {t = t} {u = u} e d) ok n = pass_opens m n s k q t u e (text_passes d (rule_predictive q))
text_passes (is_again {n = m} {s = s} {a = a} {u = u} d) ok n = pass_again m n s a u (text_passes d (again_predictive a) n)

-- No fault of syntax stands within a front, and none of depth within one that opens no more levels.
pub front_passes : {m : ℕ} {s : Sort} {g : Grammar s} {w : List Item} → IsViablePrefix m s g w → predictive g ≡ true → (n : ℕ) → PassesAt m n s g w
front_passes (no_token {n = m} {s = s} {g = g}) ok n = pass_nothing m n s g
front_passes (of_one {n = m} {k = k} {t = t} e) ok n = pass_one m n k t e
front_passes (of_first {n = m} {s = s} {t = t} {g = g} {h = h} {u = u} d) ok n = pass_start m n s t g h u (front_passes d (then_parts s t g h ok).0 n)
front_passes (of_second {n = m} {s = s} {t = t} {g = g} {h = h} {u = u} {v = v} {x = x} d e) ok n =
    let p = then_parts s t g h ok in
    pass_then m n s t g h u v x p.2 (front_begins e) (text_passes d p.0 n) (complete d p.0 n) (front_passes e p.1 n)
front_passes (of_left {n = m} {s = s} {g = g} {h = h} {u = u} d) ok n = pass_left m n s g h u (front_begins d) (front_passes d (or_parts s g h ok).0 n)
front_passes (of_right {n = m} {s = s} {g = g} {h = h} {u = u} d) ok n = pass_right m n s g h u (or_parts s g h ok).3 (front_begins d) (front_passes d (or_parts s g h ok).1 n)
front_passes (of_item {n = m} {s = s} {g = g} {u = u} d) ok n =
    let p = many_parts s g ok in
    pass_item m n s g u p.1 (front_begins d) (front_passes d p.0 n)
front_passes (of_more {n = m} {s = s} {g = g} {u = u} {v = v} {x = x} d e) ok n =
    let p = many_parts s g ok in
    pass_more m n s g u v x p.1 p.2 (starting s g u (begins d)) (front_begins e) (text_passes d p.0 n) (complete d p.0 n) (front_passes e ok n)
front_passes (of_map {n = m} {s = s} {t = t} {f = f} {g = g} {u = u} d) ok n = pass_map m n s t f g u (front_passes d ok n)
front_passes (of_opens {n = m} {s = s} {k = k} {r = q} {t = t} {u = u} e d) ok n = pass_opens m n s k q t u e (front_passes d (rule_predictive q))
front_passes (of_again {n = m} {s = s} {a = a} {u = u} d) ok n = pass_again m n s a u (front_passes d (again_predictive a) n)
