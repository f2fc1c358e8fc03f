-- Behind a text no fault of syntax stands at the next token: reading stops there, or goes on past it.
use Rattle.std.proofs.Common.{◌≡◌, ℕ, zero, suc, ◌+◌, ◌≤◌, ◌<◌, Bool, true, false, cond, not, ◌&&◌, ◌||◌, List, [], ◌∷◌, ◌++◌, length, Ok, Err, refl, sym, ap, subst, ◌∙◌, append_assoc, arith, inl, inr, ◌⊎◌}
use Rattle.std.proofs.lemmas.Bool.{and_parts, or_cases, both_ways, cases_lt}
use Rattle.std.proofs.lemmas.List.{append-nil, length-append}
use Rattle.cw_grammar.specs.Tokens.{Item, same}
use Rattle.cw_lex.specs.declared.token.TokenKind.{TokenKind}
use Rattle.cw_grammar.specs.Grammar.{Sort, a_token, a_pair, a_list, Value, Rule, Grammar, one, none, ◌·◌, ◌∣◌, many, ◌⇒◌, opens, Again, again, again_first, guarded, first, next, null, starts, disjoint, predictive}
use Rattle.cw_grammar.specs.Table.{rule, again_rule}
use Rattle.cw_grammar.specs.Derives.{Derives, is_one, is_none, is_then, is_left, is_right, is_end, is_more, is_map, is_opens, is_again}
use Rattle.cw_grammar.specs.Reading.{syntax_at, deep_at, Read, ◌>>=◌, reads, inside}
use Rattle.cw_grammar.proofs.Tests.{starts_disjoint, starts_append, starts_into}
use Rattle.cw_grammar.proofs.Sound.{Found, Sound, sound}
use Rattle.cw_grammar.proofs.Begins.{Begins, begins}
use Rattle.cw_grammar.proofs.Many.{many_more, many_end}
use Rattle.cw_grammar.proofs.Table.{rule_predictive, again_predictive, again_guarded, again_null, again_begun}
use Rattle.cw_grammar.proofs.Again.{again_step}
use Rattle.cw_grammar.proofs.Complete.{Finds, found, too_deep, Completes, complete}
use Rattle.cw_grammar.proofs.Passes.{left, left_le, Goes, goes_give, goes_inside, goes_second, goes_more, then_parts, or_parts, many_parts}

-- what may be nothing is derived from nothing
null_guarded : {s : Sort} (g : Grammar s) → guarded g ≡ true → null g ≡ true → (x : Value s) × Derives 0 s g [] x
null_guarded (one k) gd e = absurd cc
null_guarded (none x) gd e = (x, is_none)
null_guarded (g · h) gd e =
    let p = and_parts (null g) (null h) e in
    let q = and_parts (guarded g) (not (null g) || guarded h) gd in
    let a = null_guarded g q.0 p.0 in
    let r : (not true || guarded h) ≡ true = rw p.0 at q.1 in
    let b = null_guarded h r p.1 in
    ((a.0, b.0), is_then a.1 b.1)
null_guarded (◌∣◌ {s = s} g h) gd e =
    let q = and_parts (guarded g) (guarded h) gd in
    elim (or_cases (null g) (null h) e) as (λ _. (x : Value s) × Derives 0 s (g ∣ h) [] x) [
      | inl k ↦ (let a = null_guarded g q.0 k in (a.0, is_left a.1))
      | inr k ↦ (let a = null_guarded h q.1 k in (a.0, is_right a.1))
    ]
null_guarded (many g) gd e = ([], is_end)
null_guarded (g ⇒ f) gd e = let a = null_guarded g gd e in (f a.0, is_map a.1)
null_guarded (opens k r) gd e = absurd cc
null_guarded (again a) gd e = absurd cc

null_value : {s : Sort} (g : Grammar s) → null g ≡ true → (x : Value s) × Derives 0 s g [] x
null_value (one k) e = absurd cc
null_value (none x) e = (x, is_none)
null_value (g · h) e =
    let p = and_parts (null g) (null h) e in
    let a = null_value g p.0 in
    let b = null_value h p.1 in
    ((a.0, b.0), is_then a.1 b.1)
null_value (◌∣◌ {s = s} g h) e =
    elim (or_cases (null g) (null h) e) as (λ _. (x : Value s) × Derives 0 s (g ∣ h) [] x) [
      | inl q ↦ (let a = null_value g q in (a.0, is_left a.1))
      | inr q ↦ (let a = null_value h q in (a.0, is_right a.1))
    ]
null_value (many g) e = ([], is_end)
null_value (g ⇒ f) e = let a = null_value g e in (f a.0, is_map a.1)
null_value (opens k r) e = absurd cc
null_value (again a) e = let v = null_guarded (again_rule a) (again_guarded a) (again_null a) in (v.0, is_again v.1)

-- at a first token something is taken
abbrev pub Moves : (A : Type 0) → Read A → ℕ → Type 0
Moves A (Ok x) l = length x.1 < l
Moves A (Err (syntax_at k)) l = k < l
Moves A (Err (deep_at k)) l = k ≤ l

moves_left : (A : Type 0) (o : Read A) (l : ℕ) → left o < l → Moves A o l
moves_left A (Ok x) l h = h
moves_left A (Err (syntax_at k)) l h = h
moves_left A (Err (deep_at k)) l h = omega arith

moves_bind : (A B : Type 0) (o : Read A) (f : A × List Item → Read B) (l : ℕ) → Moves A o l → ((x : A × List Item) → left (f x) ≤ length x.1) → Moves B (o >>= f) l
moves_bind A B (Ok x) f l p q = moves_left B (f x) l (omega (arith, q x))
moves_bind A B (Err (syntax_at k)) f l p q = p
moves_bind A B (Err (deep_at k)) f l p q = p

moves_give : (A B : Type 0) (o : Read A) (f : A → B) (l : ℕ) → Moves A o l → Moves B (o >>= λ x. Ok (f x.0, x.1)) l
moves_give A B (Ok x) f l p = p
moves_give A B (Err (syntax_at k)) f l p = p
moves_give A B (Err (deep_at k)) f l p = p

left_give : (A B : Type 0) (o : Read A) (f : A → B) (l : ℕ) → left o ≤ l → left (o >>= λ x. Ok (f x.0, x.1)) ≤ l
left_give A B (Ok x) f l p = p
left_give A B (Err (syntax_at k)) f l p = p
left_give A B (Err (deep_at k)) f l p = p

is_found : (n : ℕ) (A : Type 0) (o : Read A) (x : A) (r : List Item) → Finds 0 n A o x r → o ≡ Ok (x, r)
is_found n A o x r (found e) = e
is_found n A o x r (too_deep lt k e) = absurd (omega arith)

abbrev MovesAt : (n : ℕ) (s : Sort) (g : Grammar s) → Type 0
MovesAt n s g = (ts : List Item) → starts ts (first g) ≡ true → Moves (Value s) (reads n g ts) (length ts)

moves_one : (n : ℕ) (k : TokenKind) → MovesAt n a_token (one k)
moves_one n k [] e = absurd cc
moves_one n k (t ∷ ts) e =
    let s : same t.kind k ≡ true = elim (or_cases (same t.kind k) false e) [ inl q ↦ q | inr q ↦ absurd cc ] in
    rw s (omega arith)

moves_opens : (n : ℕ) (s : Sort) (k : TokenKind) (r : Rule s) → MovesAt n (a_pair a_token s) (opens k r)
unfolding inside
moves_opens n s k r [] e = absurd cc
moves_opens zero s k r (t ∷ ts) e =
    let q : same t.kind k ≡ true = elim (or_cases (same t.kind k) false e) [ inl q ↦ q | inr q ↦ absurd cc ] in
    rw q (omega arith)
moves_opens (suc n) s k r (t ∷ ts) e =
    let q : same t.kind k ≡ true = elim (or_cases (same t.kind k) false e) [ inl q ↦ q | inr q ↦ absurd cc ] in
    rw q (moves_give (Value s) (Item × Value s) (reads n (rule r) ts) (λ y. (t, y)) (suc (length ts)) (moves_left (Value s) (reads n (rule r) ts) (suc (length ts)) (omega (arith, left_le n s (rule r) ts))))

behind_first : (n : ℕ) (s t : Sort) (g : Grammar s) (h : Grammar t) (ts : List Item) → Moves (Value s) (reads n g ts) (length ts) → Moves (Value s × Value t) (reads n (g · h) ts) (length ts)
behind_first n s t g h ts p =
    moves_bind (Value s) (Value s × Value t) (reads n g ts) (λ z. reads n h z.1 >>= λ w. Ok ((z.0, w.0), w.1)) (length ts) p
    (λ x. left_give (Value t) (Value s × Value t) (reads n h x.1) (λ w. (x.0, w)) (length x.1) (left_le n t h x.1))

moves_then : (n : ℕ) (s t : Sort) (g : Grammar s) (h : Grammar t) → predictive (g · h) ≡ true → MovesAt n s g → (null g ≡ true → MovesAt n t h) → MovesAt n (a_pair s t) (g · h)
moves_then n s t g h ok p q ts e =
    let parts = then_parts s t g h ok in
    elim (or_cases (starts ts (first g)) (starts ts (cond (null g) (first h) [])) (sym (starts_append ts (first g) (cond (null g) (first h) [])) ∙ e)) [
      | inl b ↦ behind_first n s t g h ts (p ts b)
      | inr b ↦ second parts.0 parts.2 (null g) refl b
    ]
  where
    second : predictive g ≡ true → disjoint (next g) (first h) ≡ true → (z : Bool) → null g ≡ z → starts ts (cond z (first h) []) ≡ true → Moves (Value s × Value t) (reads n (g · h) ts) (length ts)
    second okg d false f b = absurd (both_ways (starts ts []) (nothing ts) b)
      where
        nothing : (us : List Item) → starts us [] ≡ false
        nothing [] = refl
        nothing (u ∷ us) = refl
    second okg d true f b =
        let v = null_value g f in
        let skip = is_found n (Value s) (reads n g ts) v.0 ts (complete v.1 okg n ts (starts_disjoint ts (next g) (first h) d b)) in
        rw skip (moves_give (Value t) (Value s × Value t) (reads n h ts) (λ w. (v.0, w)) (length ts) (q f ts b))

moves_or : (n : ℕ) (s : Sort) (g h : Grammar s) → MovesAt n s g → MovesAt n s h → MovesAt n s (g ∣ h)
moves_or n s g h p q ts e =
    elim (starts ts (first g)) as (λ b. starts ts (first g) ≡ b → Moves (Value s) (cond b (reads n g ts) (reads n h ts)) (length ts)) [
      | true ↦ λ b. p ts b
      | false ↦ λ b. elim (or_cases (starts ts (first g)) (starts ts (first h)) (sym (starts_append ts (first g) (first h)) ∙ e)) [
        | inl c ↦ absurd (both_ways (starts ts (first g)) b c)
        | inr c ↦ q ts c
      ]
    ] refl

moves_many : (n : ℕ) (s : Sort) (g : Grammar s) → null g ≡ false → MovesAt n s g → MovesAt n (a_list s) (many g)
moves_many n s g z p ts e =
    let F : Read (List (Value s)) → Type 0 = λ o. Moves (List (Value s)) o (length ts) in
    subst F (sym (many_more n s g ts z e))
    (moves_bind (Value s) (List (Value s)) (reads n g ts) (λ y. reads n (many g) y.1 >>= λ w. Ok (y.0 ∷ w.0, w.1)) (length ts) (p ts e)
    (λ y. left_give (List (Value s)) (List (Value s)) (reads n (many g) y.1) (λ w. y.0 ∷ w) (length y.1) (left_le n (a_list s) (many g) y.1)))

moves_none : (n : ℕ) (s : Sort) (x : Value s) → MovesAt n s (none x)
moves_none n s x [] e = absurd cc
moves_none n s x (t ∷ ts) e = absurd cc

moves_map : (n : ℕ) (s t : Sort) (f : Value s → Value t) (g : Grammar s) → MovesAt n s g → MovesAt n t (g ⇒ f)
moves_map n s t f g p ts e = moves_give (Value s) (Value t) (reads n g ts) f (length ts) (p ts e)

moves_guarded : (n : ℕ) {s : Sort} (g : Grammar s) → guarded g ≡ true → predictive g ≡ true → MovesAt n s g
moves_guarded n (one k) gd ok = moves_one n k
moves_guarded n (none {s = s} x) gd ok = moves_none n s x
moves_guarded n (◌·◌ {s = s} {t = t} g h) gd ok =
    let q = and_parts (guarded g) (not (null g) || guarded h) gd in
    moves_then n s t g h ok (moves_guarded n g q.0 (then_parts s t g h ok).0) (λ z. let r : (not true || guarded h) ≡ true = rw z at q.1 in moves_guarded n h r (then_parts s t g h ok).1)
moves_guarded n (◌∣◌ {s = s} g h) gd ok =
    let q = and_parts (guarded g) (guarded h) gd in
    moves_or n s g h (moves_guarded n g q.0 (or_parts s g h ok).0) (moves_guarded n h q.1 (or_parts s g h ok).1)
moves_guarded n (many {s = s} g) gd ok = moves_many n s g (many_parts s g ok).1 (moves_guarded n g gd (many_parts s g ok).0)
moves_guarded n (◌⇒◌ {s = s} {t = t} g f) gd ok = moves_map n s t f g (moves_guarded n g gd ok)
moves_guarded n (opens {s = s} k r) gd ok = moves_opens n s k r
moves_guarded n (again a) gd ok = absurd cc

moves_again : (n : ℕ) (s : Sort) (a : Again s) → MovesAt n s (again a)
moves_again n s a ts e =
    let F : Read (Value s) → Type 0 = λ o. Moves (Value s) o (length ts) in
    subst F (sym (again_step n s a ts)) (moves_guarded n (again_rule a) (again_guarded a) (again_predictive a) ts (starts_into ts (again_first a) (first (again_rule a)) (again_begun a) e))

moves : (n : ℕ) {s : Sort} (g : Grammar s) → predictive g ≡ true → MovesAt n s g
moves n (one k) ok = moves_one n k
moves n (none {s = s} x) ok = moves_none n s x
moves n (◌·◌ {s = s} {t = t} g h) ok = moves_then n s t g h ok (moves n g (then_parts s t g h ok).0) (λ _. moves n h (then_parts s t g h ok).1)
moves n (◌∣◌ {s = s} g h) ok = moves_or n s g h (moves n g (or_parts s g h ok).0) (moves n h (or_parts s g h ok).1)
moves n (many {s = s} g) ok = moves_many n s g (many_parts s g ok).1 (moves n g (many_parts s g ok).0)
moves n (◌⇒◌ {s = s} {t = t} g f) ok = moves_map n s t f g (moves n g ok)
moves n (opens {s = s} k r) ok = moves_opens n s k r
moves n (again {s = s} a) ok = moves_again n s a

abbrev Below : (k l : ℕ) → Type 0
Below k l = k < l

-- behind a text reading stops, or goes on past the next token
abbrev pub Strict : (m n : ℕ) (A : Type 0) → Read A → ℕ → Type 0
Strict = Goes Below

strict_left : (m n : ℕ) (A : Type 0) (o : Read A) (l : ℕ) → left o < l → Strict m n A o l
strict_left m n A (Ok x) l h = omega arith
strict_left m n A (Err (syntax_at k)) l h = h
strict_left m n A (Err (deep_at k)) l h = λ _. omega arith

strict_moves : (m n : ℕ) (A : Type 0) (o : Read A) (l : ℕ) → Moves A o l → Strict m n A o l
strict_moves m n A (Ok x) l h = omega arith
strict_moves m n A (Err (syntax_at k)) l h = h
strict_moves m n A (Err (deep_at k)) l h = λ _. h

same_rest : (u a r b : List Item) → u ++ r ≡ a ++ b → length b ≡ length r → b ≡ r
same_rest [] [] r b e h = sym e
same_rest [] (y ∷ a) r b e h = absurd (omega (arith, ap length e, length-append a b))
same_rest (x ∷ u) [] r b e h = absurd (omega (arith, ap length e, length-append u r))
same_rest (x ∷ u) (y ∷ a) r b e h = same_rest u a r b (cc) h

found_rest : (n : ℕ) (s : Sort) (g : Grammar s) (u r : List Item) (y : Value s × List Item) → reads n g (u ++ r) ≡ Ok y → length y.1 ≡ length r → y.1 ≡ r
found_rest n s g u r y e h =
    let P : Read (Value s) → Type 0 = λ o. Sound n s g (u ++ r) o in
    let p : P (Ok y) = subst P e (sound n s g (u ++ r)) in
    rest p
  where
    rest : Found n s g (u ++ r) y.0 y.1 → y.1 ≡ r
    rest p = same_rest u p.text r y.1 p.parts h

strict_bind : (m n : ℕ) (A B : Type 0) (o : Read A) (f : A × List Item → Read B) (r : List Item) → Strict m n A o (length r) → ((x : A × List Item) → left (f x) ≤ length x.1)
    → ((y : A × List Item) → o ≡ Ok y → length y.1 ≡ length r → y.1 ≡ r) → ((x : A) → Strict m n B (f (x, r)) (length r)) → Strict m n B (o >>= f) (length r)
strict_bind m n A B (Ok y) f r p q same s =
    elim (cases_lt (length y.1) (length r)) [
      | inl lt ↦ strict_left m n B (f y) (length r) (omega (arith, q y))
      | inr ge ↦
          let e : y.1 ≡ r = same y refl (omega arith) in
          let F : List Item → Type 0 = λ z. Strict m n B (f (y.0, z)) (length r) in
          subst F (sym e) (s y.0)
    ]
strict_bind m n A B (Err (syntax_at k)) f r p q same s = p
strict_bind m n A B (Err (deep_at k)) f r p q same s = p

abbrev pub StrictAt : (m n : ℕ) (s : Sort) (g : Grammar s) (w : List Item) → Type 0
StrictAt m n s g w = (r : List Item) → Strict m n (Value s) (reads n g (w ++ r)) (length r)

strict_then : (m n : ℕ) (s t : Sort) (g : Grammar s) (h : Grammar t) (u v : List Item) (x : Value s) → disjoint (next g) (first h) ≡ true → Begins t h v → StrictAt m n s g u → Completes m n s g u x → StrictAt m n t h v → StrictAt m n (a_pair s t) (g · h) (u ++ v)
strict_then m n s t g h u v x d (inl b) p c q r =
    rw (b.0, append-nil u)
    (strict_bind m n (Value s) (Value s × Value t) (reads n g (u ++ r)) (λ z. reads n h z.1 >>= λ w. Ok ((z.0, w.0), w.1)) r (p r)
    (λ y. left_give (Value t) (Value s × Value t) (reads n h y.1) (λ w. (y.0, w)) (length y.1) (left_le n t h y.1))
    (found_rest n s g u r)
    (λ y. goes_give Below m n (Value t) (Value s × Value t) (reads n h r) (λ w. (y, w)) (length r) (let k = q r in rw b.0 at k)))
strict_then m n s t g h u v x d (inr b) p c q r =
    let start = c (v ++ r) (starts_disjoint (v ++ r) (next g) (first h) d (b r)) in
    rw append_assoc (goes_second Below m n (Value s) (Value s × Value t) (reads n g (u ++ (v ++ r))) (λ z. reads n h z.1 >>= λ w. Ok ((z.0, w.0), w.1)) x (v ++ r) (length r) start
    (goes_give Below m n (Value t) (Value s × Value t) (reads n h (v ++ r)) (λ w. (x, w)) (length r) (q r)))

strict_or_left : (m n : ℕ) (s : Sort) (g h : Grammar s) (u : List Item) → null g ≡ false → Begins s g u → StrictAt m n s g u → StrictAt m n s (g ∣ h) u
strict_or_left m n s g h u z (inl b) p r = absurd (both_ways (null g) z b.1)
strict_or_left m n s g h u z (inr b) p r = rw (b r) (p r)

strict_or_right : (m n : ℕ) (s : Sort) (g h : Grammar s) (u : List Item) → predictive (g ∣ h) ≡ true → Begins s h u → StrictAt m n s h u → StrictAt m n s (g ∣ h) u
strict_or_right m n s g h u ok (inr b) p r =
    let other : starts (u ++ r) (first g) ≡ false = starts_disjoint (u ++ r) (first g) (first h) (or_parts s g h ok).3 (b r) in
    rw other (p r)
strict_or_right m n s g h u ok (inl b) p r =
    let q : Strict m n (Value s) (reads n h r) (length r) = (let k = p r in rw b.0 at k) in
    let mv : MovesAt n s g = moves n g (or_parts s g h ok).0 in
    rw b.0 (either (starts r (first g)) refl q mv)
  where
    either : (c : Bool) → starts r (first g) ≡ c → Strict m n (Value s) (reads n h r) (length r) → MovesAt n s g → Strict m n (Value s) (cond (starts r (first g)) (reads n g r) (reads n h r)) (length r)
    either true e q mv = rw e (strict_moves m n (Value s) (reads n g r) (length r) (mv r e))
    either false e q mv = rw e q

strict_end : (m n : ℕ) (s : Sort) (g : Grammar s) → predictive (many g) ≡ true → StrictAt m n (a_list s) (many g) []
strict_end m n s g ok r = either (starts r (first g)) refl (moves n (many g) ok)
  where
    either : (c : Bool) → starts r (first g) ≡ c → MovesAt n (a_list s) (many g) → Strict m n (List (Value s)) (reads n (many g) r) (length r)
    either true e mv = strict_moves m n (List (Value s)) (reads n (many g) r) (length r) (mv r e)
    either false e mv =
        let F : Read (List (Value s)) → Type 0 = λ o. Strict m n (List (Value s)) o (length r) in
        subst F (sym (many_end n s g r e)) (omega arith)

strict_more : (m n : ℕ) (s : Sort) (g : Grammar s) (u v : List Item) (x : Value s) → null g ≡ false → disjoint (next g) (first g) ≡ true → Begins s g u → Begins (a_list s) (many g) v → StrictAt m n s g u → Completes m n s g u x → StrictAt m n (a_list s) (many g) v
    → StrictAt m n (a_list s) (many g) (u ++ v)
strict_more m n s g u v x z d (inl a) b p c q r = absurd (both_ways (null g) z a.1)
strict_more m n s g u v x z d (inr a) (inl b) p c q r =
    let F : Read (List (Value s)) → Type 0 = λ o. Strict m n (List (Value s)) o (length r) in
    let all = strict_bind m n (Value s) (List (Value s)) (reads n g (u ++ r)) (λ y. reads n (many g) y.1 >>= λ w. Ok (y.0 ∷ w.0, w.1)) r (p r)
    (λ y. left_give (List (Value s)) (List (Value s)) (reads n (many g) y.1) (λ w. y.0 ∷ w) (length y.1) (left_le n (a_list s) (many g) y.1))
    (found_rest n s g u r)
    (λ y. goes_give Below m n (List (Value s)) (List (Value s)) (reads n (many g) r) (λ w. y ∷ w) (length r) (let k = q r in rw b.0 at k)) in
    rw (b.0, append-nil u) (subst F (sym (many_more n s g (u ++ r) z (a r))) all)
strict_more m n s g u v x z d (inr a) (inr b) p c q r = goes_more Below m n s g u v x z d a b c q r

strict_opens : (m n : ℕ) (s : Sort) (k : TokenKind) (q : Rule s) (t : Item) (u : List Item) → same t.kind k ≡ true → ((l : ℕ) → StrictAt m l s (rule q) u) → StrictAt (suc m) n (a_pair a_token s) (opens k q) (t ∷ u)
unfolding inside
strict_opens m zero s k q t u e p r = rw e (λ le. absurd (omega arith))
strict_opens m (suc n) s k q t u e p r =
    rw e (goes_give Below (suc m) (suc n) (Value s) (Item × Value s) (reads n (rule q) (u ++ r)) (λ y. (t, y)) (length r) (goes_inside Below m n (Value s) (reads n (rule q) (u ++ r)) (length r) (p n r)))

strict_one : (m n : ℕ) (k : TokenKind) (t : Item) → same t.kind k ≡ true → StrictAt m n a_token (one k) (t ∷ [])
strict_one m n k t e r = rw e (omega arith)

strict_none : (m n : ℕ) (s : Sort) (x : Value s) → StrictAt m n s (none x) []
strict_none m n s x r = omega arith

strict_map : (m n : ℕ) (s t : Sort) (f : Value s → Value t) (g : Grammar s) (u : List Item) → StrictAt m n s g u → StrictAt m n t (g ⇒ f) u
strict_map m n s t f g u p r = goes_give Below m n (Value s) (Value t) (reads n g (u ++ r)) f (length r) (p r)

strict_again : (m n : ℕ) (s : Sort) (a : Again s) (u : List Item) → StrictAt m n s (again_rule a) u → StrictAt m n s (again a) u
strict_again m n s a u p r =
    let F : Read (Value s) → Type 0 = λ o. Strict m n (Value s) o (length r) in
    subst F (sym (again_step n s a (u ++ r))) (p r)

-- Behind a text no fault of syntax stands at the next token.
pub text_strict : {m : ℕ} {s : Sort} {g : Grammar s} {w : List Item} {x : Value s} → Derives m s g w x → predictive g ≡ true → (n : ℕ) → StrictAt m n s g w
text_strict (is_one {n = m} {k = k} {t = t} e) ok n = strict_one m n k t e
text_strict (is_none {n = m} {s = s} {x = x}) ok n = strict_none m n s x
text_strict (is_then {n = m} {s = s} {t = t} {g = g} {h = h} {u = u} {v = v} {x = x} d e) ok n =
    let p = then_parts s t g h ok in
    strict_then m n s t g h u v x p.2 (begins e) (text_strict d p.0 n) (complete d p.0 n) (text_strict e p.1 n)
text_strict (is_left {n = m} {s = s} {g = g} {h = h} {u = u} d) ok n = strict_or_left m n s g h u (or_parts s g h ok).2 (begins d) (text_strict d (or_parts s g h ok).0 n)
text_strict (is_right {n = m} {s = s} {g = g} {h = h} {u = u} d) ok n = strict_or_right m n s g h u ok (begins d) (text_strict d (or_parts s g h ok).1 n)
text_strict (is_end {n = m} {s = s} {g = g}) ok n = strict_end m n s g ok
text_strict (is_more {n = m} {s = s} {g = g} {u = u} {v = v} {x = x} d e) ok n =
    let p = many_parts s g ok in
    strict_more m n s g u v x p.1 p.2 (begins d) (begins e) (text_strict d p.0 n) (complete d p.0 n) (text_strict e ok n)
text_strict (is_map {n = m} {s = s} {t = t} {f = f} {g = g} {u = u} d) ok n = strict_map m n s t f g u (text_strict d ok n)
text_strict (is_opens {n = m} {s = s} {k = k} {r = q} {t = t} {u = u} e d) ok n = strict_opens m n s k q t u e (text_strict d (rule_predictive q))
text_strict (is_again {n = m} {s = s} {a = a} {u = u} d) ok n = strict_again m n s a u (text_strict d (again_predictive a) n)
