-- A front of a front is a front within the same levels.
use Rattle.std.proofs.Common.{◌≡◌, ℕ, suc, ◌+◌, true, List, [], ◌∷◌, ◌++◌, length, refl, sym, ap, subst, ◌∙◌, inl, inr, ◌⊎◌, ◌≤◌, append_assoc, arith}
use Rattle.std.proofs.lemmas.List.{append-nil, length-append}
use Rattle.cw_grammar.specs.Parsing.{IsLongestText, IsNoText, IsDeepAt}
use Rattle.cw_grammar.proofs.Whole.{text_is_front}
use Rattle.cw_lex.specs.declared.token.TokenKind.{TokenKind}
use Rattle.cw_grammar.specs.Tokens.{Item, same}
use Rattle.cw_grammar.specs.Grammar.{Sort, a_token, a_pair, a_list, Value, Rule, Again, Grammar, one, none, ◌·◌, ◌∣◌, many, ◌⇒◌, opens, again}
use Rattle.cw_grammar.specs.Table.{rule, again_rule}
use Rattle.cw_grammar.specs.Derives.{Derives, is_one, is_none, is_then, is_left, is_right, is_end, is_more, is_map, is_opens, is_again, IsViablePrefix, no_token, of_one, of_first, of_second, of_left, of_right, of_item, of_more, of_map, of_opens, of_again}

-- where a list is cut that is put together of two
data Cut (a b u v : List Item) : Type 0 where
  in_first : (c : List Item) → a ≡ u ++ c → Cut a b u v
  in_second : (c : List Item) → u ≡ a ++ c → b ≡ c ++ v → Cut a b u v

cut : (a b u v : List Item) → a ++ b ≡ u ++ v → Cut a b u v
cut [] b u v e = in_second u refl e
cut (x ∷ a) b [] v e = in_first (x ∷ a) refl
cut (x ∷ a) b (y ∷ u) v e = more (cut a b u v (cc))
  where
    head : x ≡ y
    head = cc

    more : Cut a b u v → Cut (x ∷ a) b (y ∷ u) v
    more (in_first c f) = in_first c (rw (head, f) refl)
    more (in_second c f g) = in_second c (rw (head, f) refl) g

nothing : (n : ℕ) (s : Sort) (g : Grammar s) (u v : List Item) → [] ≡ u ++ v → IsViablePrefix n s g u
nothing n s g [] v e = no_token
nothing n s g (x ∷ u) v e = absurd cc

single : (n : ℕ) (k : TokenKind) (t : Item) (u v : List Item) → same t.kind k ≡ true → t ∷ [] ≡ u ++ v → IsViablePrefix n a_token (one k) u
single n k t [] v f e = no_token
single n k t (x ∷ []) v f e = let h : t ≡ x = cc in let F : Item → Type 0 = λ z. IsViablePrefix n a_token (one k) (z ∷ []) in subst F h (of_one f)
single n k t (x ∷ y ∷ u) v f e = absurd cc

opening : (n : ℕ) (s : Sort) (k : TokenKind) (r : Rule s) (t : Item) (w u v : List Item) → same t.kind k ≡ true → t ∷ w ≡ u ++ v → ((z : List Item) → w ≡ z ++ v → IsViablePrefix n s (rule r) z) → IsViablePrefix (suc n) (a_pair a_token s) (opens k r) u
opening n s k r t w [] v f e p = no_token
opening n s k r t w (x ∷ u) v f e p = let h : t ≡ x = cc in let F : Item → Type 0 = λ z. IsViablePrefix (suc n) (a_pair a_token s) (opens k r) (z ∷ u) in subst F h (of_opens f (p u (cc)))

both : (n : ℕ) (s t : Sort) (g : Grammar s) (h : Grammar t) (a b u v : List Item) (x : Value s) → Derives n s g a x → Cut a b u v → ((c : List Item) → a ≡ u ++ c → IsViablePrefix n s g u) → ((c : List Item) → b ≡ c ++ v → IsViablePrefix n t h c) → IsViablePrefix n (a_pair s t) (g · h) u
both n s t g h a b u v x d (in_first c f) p q = of_first (p c f)
both n s t g h a b u v x d (in_second c f k) p q = let F : List Item → Type 0 = λ z. IsViablePrefix n (a_pair s t) (g · h) z in subst F (sym f) (of_second d (q c k))

items : (n : ℕ) (s : Sort) (g : Grammar s) (a b u v : List Item) (x : Value s) → Derives n s g a x → Cut a b u v → ((c : List Item) → a ≡ u ++ c → IsViablePrefix n s g u) → ((c : List Item) → b ≡ c ++ v → IsViablePrefix n (a_list s) (many g) c) → IsViablePrefix n (a_list s) (many g) u
items n s g a b u v x d (in_first c f) p q = of_item (p c f)
items n s g a b u v x d (in_second c f k) p q = let F : List Item → Type 0 = λ z. IsViablePrefix n (a_list s) (many g) z in subst F (sym f) (of_more d (q c k))

pub text_closed : {n : ℕ} {s : Sort} {g : Grammar s} {w : List Item} {x : Value s} → Derives n s g w x → (u v : List Item) → w ≡ u ++ v → IsViablePrefix n s g u
text_closed (is_one {n = n} {k = k} {t = t} f) u v e = single n k t u v f e
text_closed (is_none {n = n} {s = s} {x = x}) u v e = nothing n s (none x) u v e
text_closed (is_then {n = n} {s = s} {t = t} {g = g} {h = h} {u = a} {v = b} {x = x} d k) u v e = both n s t g h a b u v x d (cut a b u v e) (λ c f. text_closed d u c f) (λ c f. text_closed k c v f)
text_closed (is_left d) u v e = of_left (text_closed d u v e)
text_closed (is_right d) u v e = of_right (text_closed d u v e)
text_closed (is_end {n = n} {s = s} {g = g}) u v e = nothing n (a_list s) (many g) u v e
text_closed (is_more {n = n} {s = s} {g = g} {u = a} {v = b} {x = x} d k) u v e = items n s g a b u v x d (cut a b u v e) (λ c f. text_closed d u c f) (λ c f. text_closed k c v f)
text_closed (is_map d) u v e = of_map (text_closed d u v e)
text_closed (is_opens {n = n} {s = s} {k = k} {r = r} {t = t} {u = w} f d) u v e = opening n s k r t w u v f e (λ z g. text_closed d z v g)
text_closed (is_again d) u v e = of_again (text_closed d u v e)

pub front_closed : {n : ℕ} {s : Sort} {g : Grammar s} {w : List Item} → IsViablePrefix n s g w → (u v : List Item) → w ≡ u ++ v → IsViablePrefix n s g u
front_closed (no_token {n = n} {s = s} {g = g}) u v e = nothing n s g u v e
front_closed (of_one {n = n} {k = k} {t = t} f) u v e = single n k t u v f e
front_closed (of_first d) u v e = of_first (front_closed d u v e)
front_closed (of_second {n = n} {s = s} {t = t} {g = g} {h = h} {u = a} {v = b} {x = x} d k) u v e = both n s t g h a b u v x d (cut a b u v e) (λ c f. text_closed d u c f) (λ c f. front_closed k c v f)
front_closed (of_left d) u v e = of_left (front_closed d u v e)
front_closed (of_right d) u v e = of_right (front_closed d u v e)
front_closed (of_item d) u v e = of_item (front_closed d u v e)
front_closed (of_more {n = n} {s = s} {g = g} {u = a} {v = b} {x = x} d k) u v e = items n s g a b u v x d (cut a b u v e) (λ c f. text_closed d u c f) (λ c f. front_closed k c v f)
front_closed (of_map d) u v e = of_map (front_closed d u v e)
front_closed (of_opens {n = n} {s = s} {k = k} {r = r} {t = t} {u = w} f d) u v e = opening n s k r t w u v f e (λ z g. front_closed d z v g)
front_closed (of_again d) u v e = of_again (front_closed d u v e)

empty_of : (c : List Item) → length c ≡ 0 → c ≡ []
empty_of [] e = refl
empty_of (x ∷ c) e = absurd (omega (arith, e))

-- What stands at the front of a front, and is no longer, is a front within the same levels.
within_front : (n : ℕ) (s : Sort) (g : Grammar s) (ts q r u v : List Item) → IsViablePrefix n s g q → ts ≡ q ++ r → ts ≡ u ++ v → length u ≤ length q → IsViablePrefix n s g u
within_front n s g ts q r u v p e f h = go (cut u v q r (sym f ∙ e))
  where
    go : Cut u v q r → IsViablePrefix n s g u
    go (in_first c k) =
        let z : length c ≡ 0 = omega (arith, h, ap length k, length-append q c) in
        let same : u ≡ q = k ∙ ap (λ (y : List Item). q ++ y) (empty_of c z) ∙ append-nil q in
        let F : List Item → Type 0 = λ y. IsViablePrefix n s g y in
        subst F (sym same) p
    go (in_second c k m) = front_closed p u c k

-- A fault of depth stands neither beside a fault of syntax,
pub not_both_faults : (n : ℕ) (s : Sort) (g : Grammar s) (ts : List Item) (j k : ℕ) → IsNoText n s g ts j → IsDeepAt n s g ts k → ⊥
not_both_faults n s g ts j k p d =
    let parts : ts ≡ (d.before ++ d.opening ∷ []) ++ d.rest = d.parts ∙ sym (append_assoc d.before (d.opening ∷ []) d.rest) in
    d.too_deep (within_front n s g ts p.front p.rest (d.before ++ d.opening ∷ []) d.rest p.is_front p.longest.parts parts (p.longest.longest (suc n) (d.before ++ d.opening ∷ []) d.rest parts d.opens))

-- nor beside a text.
pub not_deep_text : (n : ℕ) (s : Sort) (g : Grammar s) (ts : List Item) (x : Value s) (rest : List Item) (k : ℕ) → IsLongestText n s g ts x rest → IsDeepAt n s g ts k → ⊥
not_deep_text n s g ts x rest k p d =
    let parts : ts ≡ (d.before ++ d.opening ∷ []) ++ d.rest = d.parts ∙ sym (append_assoc d.before (d.opening ∷ []) d.rest) in
    d.too_deep (within_front n s g ts p.text rest (d.before ++ d.opening ∷ []) d.rest (text_is_front p.derives) p.longest.parts parts (p.longest.longest (suc n) (d.before ++ d.opening ∷ []) d.rest parts d.opens))
