-- With which tokens a text begins.
use Rattle.std.proofs.Common.{◌≡◌, ℕ, suc, ◌+◌, Bool, true, false, cond, not, ◌&&◌, ◌||◌, List, [], ◌∷◌, ◌++◌, refl, sym, ap, ◌∙◌, inl, inr, ◌⊎◌, append_assoc}
use Rattle.std.proofs.lemmas.Bool.{and_from}
use Rattle.cw_grammar.specs.Tokens.{Item, code, same}
use Rattle.cw_lex.specs.declared.token.TokenKind.{TokenKind}
use Rattle.cw_grammar.specs.Grammar.{Sort, a_token, a_pair, a_list, Value, Rule, Grammar, one, none, ◌·◌, ◌∣◌, many, ◌⇒◌, opens, Again, again, again_first, again_next, guarded, member, first, null, starts}
use Rattle.cw_grammar.specs.Derives.{Derives, is_one, is_none, is_then, is_left, is_right, is_end, is_more, is_map, is_opens, is_again, IsViablePrefix, no_token, of_one, of_first, of_second, of_left, of_right, of_item, of_more, of_map, of_opens, of_again}
use Rattle.cw_grammar.proofs.Tests.{or_left, or_right, starts_left, starts_right, starts_into}
use Rattle.cw_grammar.specs.Table.{again_rule}
use Rattle.cw_grammar.proofs.Table.{again_begins}

-- the first token of w, whatever follows it
abbrev pub Heads : List Item → List TokenKind → Type 0
Heads w ks = (r : List Item) → starts (w ++ r) ks ≡ true

-- nothing, where the grammar allows it, or what begins with one of its first tokens
abbrev pub Begins : (s : Sort) (g : Grammar s) (w : List Item) → Type 0
Begins s g w = ((w ≡ []) × (null g ≡ true)) ⊎ Heads w (first g)

heads_one : (t : Item) (u : List Item) (k : TokenKind) → same t.kind k ≡ true → Heads (t ∷ u) (k ∷ [])
heads_one t u k e r = or_left (same t.kind k) false e

heads_append : (u v : List Item) (ks : List TokenKind) → Heads u ks → Heads (u ++ v) ks
heads_append u v ks h r = ap (λ (z : List Item). starts z ks) (append_assoc u v r) ∙ h (v ++ r)

begins_then : (s t : Sort) (g : Grammar s) (h : Grammar t) (u v : List Item) → Begins s g u → Begins t h v → Begins (a_pair s t) (g · h) (u ++ v)
begins_then s t g h u v (inr p) q = inr (heads_append u v _ (λ r. starts_left (u ++ r) (first g) _ (p r)))
begins_then s t g h u v (inl p) (inl q) = inl (rw (p.0, q.0) refl, and_from (null g) (null h) p.1 q.1)
begins_then s t g h u v (inl p) (inr q) = inr (rw (p.0, p.1) (λ r. starts_right (v ++ r) (first g) (first h) (q r)))

begins_left : (s : Sort) (g h : Grammar s) (u : List Item) → Begins s g u → Begins s (g ∣ h) u
begins_left s g h u (inl p) = inl (p.0, or_left (null g) (null h) p.1)
begins_left s g h u (inr p) = inr (λ r. starts_left (u ++ r) (first g) (first h) (p r))

begins_right : (s : Sort) (g h : Grammar s) (u : List Item) → Begins s h u → Begins s (g ∣ h) u
begins_right s g h u (inl p) = inl (p.0, or_right (null g) (null h) p.1)
begins_right s g h u (inr p) = inr (λ r. starts_right (u ++ r) (first g) (first h) (p r))

begins_more : (s : Sort) (g : Grammar s) (u v : List Item) → Begins s g u → Begins (a_list s) (many g) v → Begins (a_list s) (many g) (u ++ v)
begins_more s g u v (inr p) q = inr (heads_append u v _ p)
begins_more s g u v (inl p) (inl q) = inl (rw (p.0, q.0) refl, refl)
begins_more s g u v (inl p) (inr q) = inr (rw p.0 q)

begins_map : (s t : Sort) (f : Value s → Value t) (g : Grammar s) (u : List Item) → Begins s g u → Begins t (g ⇒ f) u
begins_map s t f g u (inl p) = inl p
begins_map s t f g u (inr p) = inr p

begins_again : (s : Sort) (a : Again s) (u : List Item) → Begins s (again_rule a) u → Begins s (again a) u
begins_again s a u (inl p) = inl (p.0, refl)
begins_again s a u (inr p) = inr (λ r. starts_into (u ++ r) (first (again_rule a)) (again_first a) (again_begins a) (p r))

pub begins : {n : ℕ} {s : Sort} {g : Grammar s} {w : List Item} {x : Value s} → Derives n s g w x → Begins s g w
begins (is_one {k = k} {t = t} e) = inr (heads_one t [] k e)
begins is_none = inl (refl, refl)
begins (is_then {s = s} {t = t} {g = g} {h = h} {u = u} {v = v} d e) = begins_then s t g h u v (begins d) (begins e)
begins (is_left {s = s} {g = g} {h = h} {u = u} d) = begins_left s g h u (begins d)
begins (is_right {s = s} {g = g} {h = h} {u = u} d) = begins_right s g h u (begins d)
begins is_end = inl (refl, refl)
begins (is_more {s = s} {g = g} {u = u} {v = v} d e) = begins_more s g u v (begins d) (begins e)
begins (is_map {s = s} {t = t} {f = f} {g = g} {u = u} d) = begins_map s t f g u (begins d)
begins (is_opens {k = k} {t = t} {u = u} e d) = inr (heads_one t u k e)
begins (is_again {s = s} {a = a} {u = u} d) = begins_again s a u (begins d)

-- a front is nothing, or begins with one of the first tokens
abbrev pub FrontBegins : (s : Sort) (g : Grammar s) (w : List Item) → Type 0
FrontBegins s g w = (w ≡ []) ⊎ Heads w (first g)

front_then : (s t : Sort) (g : Grammar s) (h : Grammar t) (u v : List Item) → Begins s g u → FrontBegins t h v → FrontBegins (a_pair s t) (g · h) (u ++ v)
front_then s t g h u v (inr p) q = inr (heads_append u v _ (λ r. starts_left (u ++ r) (first g) _ (p r)))
front_then s t g h u v (inl p) (inl q) = inl (rw (p.0, q) refl)
front_then s t g h u v (inl p) (inr q) = inr (rw (p.0, p.1) (λ r. starts_right (v ++ r) (first g) (first h) (q r)))

front_first : (s t : Sort) (g : Grammar s) (h : Grammar t) (u : List Item) → FrontBegins s g u → FrontBegins (a_pair s t) (g · h) u
front_first s t g h u (inl p) = inl p
front_first s t g h u (inr p) = inr (λ r. starts_left (u ++ r) (first g) _ (p r))

front_left : (s : Sort) (g h : Grammar s) (u : List Item) → FrontBegins s g u → FrontBegins s (g ∣ h) u
front_left s g h u (inl p) = inl p
front_left s g h u (inr p) = inr (λ r. starts_left (u ++ r) (first g) (first h) (p r))

front_right : (s : Sort) (g h : Grammar s) (u : List Item) → FrontBegins s h u → FrontBegins s (g ∣ h) u
front_right s g h u (inl p) = inl p
front_right s g h u (inr p) = inr (λ r. starts_right (u ++ r) (first g) (first h) (p r))

front_more : (s : Sort) (g : Grammar s) (u v : List Item) → Begins s g u → FrontBegins (a_list s) (many g) v → FrontBegins (a_list s) (many g) (u ++ v)
front_more s g u v (inr p) q = inr (heads_append u v _ p)
front_more s g u v (inl p) (inl q) = inl (rw (p.0, q) refl)
front_more s g u v (inl p) (inr q) = inr (rw p.0 q)

front_again : (s : Sort) (a : Again s) (u : List Item) → FrontBegins s (again_rule a) u → FrontBegins s (again a) u
front_again s a u (inl p) = inl p
front_again s a u (inr p) = inr (λ r. starts_into (u ++ r) (first (again_rule a)) (again_first a) (again_begins a) (p r))

pub front_begins : {n : ℕ} {s : Sort} {g : Grammar s} {w : List Item} → IsViablePrefix n s g w → FrontBegins s g w
front_begins no_token = inl refl
front_begins (of_one {k = k} {t = t} e) = inr (heads_one t [] k e)
front_begins (of_first {s = s} {t = t} {g = g} {h = h} {u = u} d) = front_first s t g h u (front_begins d)
front_begins (of_second {s = s} {t = t} {g = g} {h = h} {u = u} {v = v} d e) = front_then s t g h u v (begins d) (front_begins e)
front_begins (of_left {s = s} {g = g} {h = h} {u = u} d) = front_left s g h u (front_begins d)
front_begins (of_right {s = s} {g = g} {h = h} {u = u} d) = front_right s g h u (front_begins d)
front_begins (of_item d) = front_begins d
front_begins (of_more {s = s} {g = g} {u = u} {v = v} d e) = front_more s g u v (begins d) (front_begins e)
front_begins (of_map d) = front_begins d
front_begins (of_opens {k = k} {t = t} {u = u} e d) = inr (heads_one t u k e)
front_begins (of_again {s = s} {a = a} {u = u} d) = front_again s a u (front_begins d)
