-- What was derived and from how many tokens, where something is counted of what stands inside a level, and something is known of a rule that leads back to itself.
use Rattle.std.proofs.Common.{◌≡◌, ℕ, suc, ◌+◌, ◌≤◌, List, [], ◌∷◌, length, length-append, map, sym, subst, arith}
use Rattle.cw_lex.specs.declared.token.TokenKind.{TokenKind}
use Rattle.cw_lex.specs.declared.token.Word.{Word}
use Rattle.cw_lex.specs.Lexical.{Lexeme}
use Rattle.cw_grammar.specs.Tokens.{Item, numbered}
use Rattle.cw_grammar.specs.Grammar.{Sort, a_token, a_pair, a_list, a_position, a_name, a_number, a_sign, a_factor_sign, a_compare_sign, Value, Rule, Again, Grammar, one, none, ◌·◌, ◌∣◌, many, ◌⇒◌, opens, again}
use Rattle.cw_grammar.specs.Rules.{◌*>◌, ◌<*◌, name, number, sign, factor_sign, comparator, operator}
use Rattle.cw_grammar.specs.Table.{rule, again_rule}
use Rattle.cw_grammar.specs.Derives.{Derives, is_one, is_none, is_then, is_left, is_right, is_end, is_more, is_map, is_opens, is_again}
use Rattle.cw_tokens.specs.LeastTokens.{separated}

pub data Built (inside : (s : Sort) → Rule s → Value s → ℕ) (Within : (s : Sort) → Again s → Value s → ℕ → Type 0) : (s : Sort) → Grammar s → Value s → ℕ → Type 0 where
  b_one : {k : TokenKind} {t : Item} → Built inside Within a_token (one k) t 1
  b_none : {s : Sort} {x : Value s} → Built inside Within s (none x) x 0
  b_then : {s t : Sort} {g : Grammar s} {h : Grammar t} {u v : ℕ} {x : Value s} {y : Value t} → Built inside Within s g x u → Built inside Within t h y v → Built inside Within (a_pair s t) (g · h) (x, y) (u + v)
  b_left : {s : Sort} {g h : Grammar s} {u : ℕ} {x : Value s} → Built inside Within s g x u → Built inside Within s (g ∣ h) x u
  b_right : {s : Sort} {g h : Grammar s} {u : ℕ} {x : Value s} → Built inside Within s h x u → Built inside Within s (g ∣ h) x u
  b_end : {s : Sort} {g : Grammar s} → Built inside Within (a_list s) (many g) [] 0
  b_more : {s : Sort} {g : Grammar s} {u v : ℕ} {x : Value s} {xs : List (Value s)} → Built inside Within s g x u → Built inside Within (a_list s) (many g) xs v → Built inside Within (a_list s) (many g) (x ∷ xs) (u + v)
  b_map : {s t : Sort} {f : Value s → Value t} {g : Grammar s} {u : ℕ} {x : Value s} → Built inside Within s g x u → Built inside Within t (g ⇒ f) (f x) u
  b_opens : {s : Sort} {k : TokenKind} {r : Rule s} {t : Item} {u : ℕ} {x : Value s} → inside s r x ≤ u → Built inside Within (a_pair a_token s) (opens k r) (t, x) (suc u)
  b_again : {s : Sort} {a : Again s} {u : ℕ} {x : Value s} → Within s a x u → Built inside Within s (again a) x u

-- Each text of the grammar has at least as many tokens as this counts of its value.
abbrev pub Counts : ((s : Sort) → Rule s → Value s → ℕ) → ((s : Sort) → Again s → Value s → ℕ → Type 0) → (s : Sort) → Grammar s → (Value s → ℕ) → Type 0
Counts inside Within s g f = (x : Value s) (u : ℕ) → Built inside Within s g x u → f x ≤ u

pub length_numbered : (n : ℕ) (ts : List Lexeme) → length (numbered n ts) ≡ length ts
length_numbered n [] = omega arith
length_numbered n (t ∷ ts) = omega (arith, length_numbered (n + 1) ts)

module _ {inside : (s : Sort) → Rule s → Value s → ℕ} {Within : (s : Sort) → Again s → Value s → ℕ → Type 0} where
  -- lists

  -- each with a token more
  pub separated_counts : {s : Sort} {g : Grammar s} (f : Value s → ℕ) → Counts inside Within s g (λ x. suc (f x)) → {xs : List (Value s)} {u : ℕ} → Built inside Within (a_list s) (many g) xs u → separated (map f xs) ≤ u
  separated_counts f k b_end = omega arith
  separated_counts f k (b_more {u = u} {x = x} d e) = omega (arith, k x u d, separated_counts f k e)

  second_counts : {s t : Sort} {g : Grammar s} {h : Grammar t} (f : Value s → ℕ) → Counts inside Within t h (λ y. 1) → Counts inside Within s g f → Counts inside Within s (h *> g) (λ x. suc (f x))
  second_counts f l k x u (b_map (b_then {u = v} {v = w} {x = y} {y = z} c d)) = omega (arith, l y v c, k z w d)

  -- each behind a token
  pub behind_counts : {s t : Sort} {g : Grammar s} {h : Grammar t} (f : Value s → ℕ) → Counts inside Within t h (λ y. 1) → Counts inside Within s g f → {xs : List (Value s)} {u : ℕ} → Built inside Within (a_list s) (many (h *> g)) xs u → separated (map f xs) ≤ u
  behind_counts f l k d = separated_counts f (second_counts f l k) d

  -- pairs, of which the first is a token
  pub pairs_count : {s t : Sort} {g : Grammar s} {h : Grammar t} (f : Value t → ℕ) → Counts inside Within s g (λ y. 1) → Counts inside Within t h f → {xs : List (Value s × Value t)} {u : ℕ} → Built inside Within (a_list (a_pair s t)) (many (g · h)) xs u → separated (map (λ z. f z.1) xs) ≤ u
  pairs_count f l k b_end = omega arith
  pairs_count f l k (b_more (b_then {u = u} {v = v} {x = y} {y = x} c d) e) = omega (arith, l y u c, k x v d, pairs_count f l k e)

  -- an operand, and more of them behind operators
  pub operation_counts : {s o t : Sort} {g : Grammar s} {h : Grammar o} {f : Value s × List (Value o × Value s) → Value t} (inner : Value s → ℕ) (outer : Value t → ℕ)
      → ((y : Value s) (more : List (Value o × Value s)) → outer (f (y, more)) ≤ inner y + separated (map (λ z. inner z.1) more))
      → Counts inside Within s g inner → Counts inside Within o h (λ y. 1) → Counts inside Within t ((g · many (h · g)) ⇒ f) outer
  operation_counts inner outer most counts signs x u (b_map (b_then {u = v} {x = y} {y = more} d e)) = omega (arith, most y more, counts y v d, pairs_count inner signs counts e)

  pub token_counts : {k : TokenKind} → Counts inside Within a_token (one k) (λ y. 1)
  token_counts x u b_one = omega arith

  -- what a token closes
  pub closed_counts : {s : Sort} {g : Grammar s} {k : TokenKind} (f : Value s → ℕ) → Counts inside Within s g f → Counts inside Within s (g <* one k) (λ x. suc (f x))
  closed_counts f counts x u (b_map (b_then {u = v} {x = y} d b_one)) = omega (arith, counts y v d)

  -- names, numbers and operators

  pub name_counts : Counts inside Within a_name name (λ x. 1)
  name_counts x u (b_map b_one) = omega arith

  pub number_counts : Counts inside Within a_number number (λ x. 1)
  number_counts x u (b_map b_one) = omega arith

  pub sign_counts : Counts inside Within a_sign sign (λ x. 1)
  sign_counts x u (b_left (b_map b_one)) = omega arith
  sign_counts x u (b_right (b_map b_one)) = omega arith

  pub factor_counts : Counts inside Within a_factor_sign factor_sign (λ x. 1)
  factor_counts x u (b_left (b_map b_one)) = omega arith
  factor_counts x u (b_right (b_map b_one)) = omega arith

  pub comparator_counts : Counts inside Within a_compare_sign comparator (λ x. 1)
  comparator_counts x u (b_left (b_map b_one)) = omega arith
  comparator_counts x u (b_right (b_left (b_map b_one))) = omega arith
  comparator_counts x u (b_right (b_right (b_left (b_map b_one)))) = omega arith
  comparator_counts x u (b_right (b_right (b_right (b_left (b_map b_one))))) = omega arith
  comparator_counts x u (b_right (b_right (b_right (b_right (b_left (b_map b_one)))))) = omega arith
  comparator_counts x u (b_right (b_right (b_right (b_right (b_right (b_map b_one)))))) = omega arith

  pub operator_counts : {w : Word} → Counts inside Within a_position (operator w) (λ x. 1)
  operator_counts x u (b_map b_one) = omega arith

  -- derivations, where the count is right inside each level and in each rule that leads back to itself
  module _ (rule_counts : (s : Sort) (r : Rule s) → Counts inside Within s (rule r) (inside s r)) (again_counts : (s : Sort) (a : Again s) (x : Value s) (u : ℕ) → Built inside Within s (again_rule a) x u → Within s a x u) where
    pub built : {n : ℕ} {s : Sort} {g : Grammar s} {u : List Item} {x : Value s} → Derives n s g u x → Built inside Within s g x (length u)
    built (is_one e) = b_one
    built is_none = b_none
    built (is_then {s = s} {t = t} {g = g} {h = h} {u = u} {v = v} {x = x} {y = y} d e) = subst (λ (z : ℕ). Built inside Within (a_pair s t) (g · h) (x, y) z) (sym (length-append u v)) (b_then (built d) (built e))
    built (is_left d) = b_left (built d)
    built (is_right d) = b_right (built d)
    built is_end = b_end
    built (is_more {s = s} {g = g} {u = u} {v = v} {x = x} {xs = xs} d e) = subst (λ (z : ℕ). Built inside Within (a_list s) (many g) (x ∷ xs) z) (sym (length-append u v)) (b_more (built d) (built e))
    built (is_map d) = b_map (built d)
    built (is_opens {r = r} {u = u} {x = x} e d) = b_opens (rule_counts _ r x (length u) (built d))
    built (is_again {a = a} {u = u} {x = x} d) = b_again (again_counts _ a x (length u) (built d))
