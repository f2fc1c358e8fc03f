-- Tokens have one tree or one fault of syntax, and not both.
use Rattle.std.proofs.Common.{◌≡◌, ◌≢◌, ◌⊎◌, ℕ, zero, suc, ◌+◌, ◌-◌, ◌<◌, ◌≤◌, List, [], ◌∷◌, ◌++◌, map, length, length-append, append_assoc, append-nil, Option, None, Some, refl, sym, ap, ap₂, subst, ◌∙◌, inl, inr, arith}
use Rattle.std.specs.Prelude.{min, slice_get}
use Rattle.std.proofs.lemmas.List.{length-map}
use Rattle.cw_lex.specs.declared.token.Token.{Token}
use Rattle.cw_lex.specs.declared.token.TokenKind.{TokenKind}
use Rattle.cw_lex.specs.Lexical.{Lexeme, view}
use Rattle.cw_tree.specs.declared.segment.Raw.{Raw}
use Rattle.cw_grammar.specs.declared.fault.ParseFault.{ParseFault}
use Rattle.cw_grammar.specs.declared.fault.ParseFault.TheVariants as faults
use Rattle.cw_grammar.specs.Tokens.{Item, numbered, items}
use Rattle.cw_grammar.specs.Grammar.{Sort, a_raw, Value, Grammar}
use Rattle.cw_grammar.specs.Derives.{Derives, IsViablePrefix}
use Rattle.cw_grammar.specs.Statements.{text}
use Rattle.cw_grammar.specs.Parsing.{IsLongestFront, IsDeepAt, line_of, line_at, kind_of, syntax_fault_of, syntax_fault, deep_fault}
use Rattle.cw_grammar.proofs.Whole.{text_is_front}
use Rattle.cw_grammar.proofs.Closed.{front_closed}
use Rattle.cw_parse.specs.Texts.{IsNoWhole, IsTextFault, no_memory, no_text, too_deep}

less_or : (a b : ℕ) → (a < b) ⊎ (b ≤ a)
less_or zero zero = inr (omega arith)
less_or zero (suc b) = inl (omega arith)
less_or (suc a) zero = inr (omega arith)
less_or (suc a) (suc b) = more (less_or a b)
  where
    more : (a < b) ⊎ (b ≤ a) → (suc a < suc b) ⊎ (suc b ≤ suc a)
    more (inl h) = inl (omega (arith, h))
    more (inr h) = inr (omega (arith, h))

nothing_of : (c : List Item) → length c ≡ 0 → c ≡ []
nothing_of [] e = refl
nothing_of (x ∷ c) e = absurd (omega (arith, e))

front_of : (u v q r : List Item) → u ++ v ≡ q ++ r → length u ≤ length q → (c : List Item) × (q ≡ u ++ c)
front_of [] v q r e h = (q, refl)
front_of (x ∷ u) v [] r e h = absurd (omega (arith, h))
front_of (x ∷ u) v (y ∷ q) r e h =
    let same : x ≡ y = cc in
    let rest : u ++ v ≡ q ++ r = cc in
    let more = front_of u v q r rest (omega (arith, h)) in
    (more.0, ap₂ (λ z zs. z ∷ zs) (sym same) more.1)

-- What stands at the front of a front, and is no longer, is a front within the same levels.
within_front : (n : ℕ) (s : Sort) (g : Grammar s) (ts q r u v : List Item) → IsViablePrefix n s g q → ts ≡ q ++ r → ts ≡ u ++ v → length u ≤ length q → IsViablePrefix n s g u
within_front n s g ts q r u v p e f h =
    let c = front_of u v q r (sym f ∙ e) h in
    front_closed p u c.0 c.1

-- ---- where a fault stands

module _ (n : ℕ) (s : Sort) (g : Grammar s) (l : List Item) where
  deep_parts : (j : ℕ) (d : IsDeepAt n s g l j) → l ≡ (d.before ++ d.opening ∷ []) ++ d.rest
  deep_parts j d = d.parts ∙ sym (append_assoc d.before (d.opening ∷ []) d.rest)

  one_no_whole : (j k : ℕ) → IsNoWhole n s g l j → IsNoWhole n s g l k → j ≡ k
  one_no_whole j k p q =
      let a : length q.front ≤ length p.front = p.longest.longest n q.front q.rest q.longest.parts q.is_front in
      let b : length p.front ≤ length q.front = q.longest.longest n p.front p.rest p.longest.parts p.is_front in
      omega (arith, a, b, p.left_is, q.left_is, ap length p.longest.parts, ap length q.longest.parts, length-append p.front p.rest, length-append q.front q.rest)

  not_both : (j k : ℕ) → IsNoWhole n s g l j → IsDeepAt n s g l k → ⊥
  not_both j k p d =
      let long : length (d.before ++ d.opening ∷ []) ≤ length p.front = p.longest.longest (suc n) (d.before ++ d.opening ∷ []) d.rest (deep_parts k d) d.opens in
      d.too_deep (within_front n s g l p.front p.rest (d.before ++ d.opening ∷ []) d.rest p.is_front p.longest.parts (deep_parts k d) long)

  not_deeper : (j k : ℕ) (d : IsDeepAt n s g l j) (e : IsDeepAt n s g l k) → length d.before < length e.before → ⊥
  not_deeper j k d e less =
      d.too_deep (within_front n s g l e.before (e.opening ∷ e.rest) (d.before ++ d.opening ∷ []) d.rest e.is_front e.parts (deep_parts j d) (omega (arith, less, length-append d.before (d.opening ∷ []))))

  same_left : (j k : ℕ) (d : IsDeepAt n s g l j) (e : IsDeepAt n s g l k) → length d.before ≡ length e.before → j ≡ k
  same_left j k d e same =
      omega (arith, same, d.left_is, e.left_is, ap length d.parts, ap length e.parts, length-append d.before (d.opening ∷ d.rest), length-append e.before (e.opening ∷ e.rest))

  one_deep : (j k : ℕ) → IsDeepAt n s g l j → IsDeepAt n s g l k → j ≡ k
  one_deep j k d e = at (less_or (length d.before) (length e.before)) (less_or (length e.before) (length d.before))
    where
      at : (length d.before < length e.before) ⊎ (length e.before ≤ length d.before) → (length e.before < length d.before) ⊎ (length d.before ≤ length e.before) → j ≡ k
      at (inl h) o = absurd (not_deeper j k d e h)
      at (inr h) (inl f) = absurd (not_deeper k j e d f)
      at (inr h) (inr f) = same_left j k d e (omega (arith, h, f))

  whole_no_fault : (x : Value s) (j : ℕ) → Derives n s g l x → IsNoWhole n s g l j → ⊥
  whole_no_fault x j d p =
      let all : length l ≤ length p.front = p.longest.longest n l [] (sym (append-nil l)) (text_is_front d) in
      let none : length p.rest ≡ 0 = omega (arith, all, ap length p.longest.parts, length-append p.front p.rest) in
      let empty : p.rest ≡ [] = nothing_of p.rest none in
      let front : l ≡ p.front = p.longest.parts ∙ ap (λ r. p.front ++ r) empty ∙ append-nil p.front in
      let D : List Item → Type 0 = λ w. Derives n s g w x in
      p.no_text n x empty (subst D front d)

  whole_not_deep : (x : Value s) (j : ℕ) → Derives n s g l x → IsDeepAt n s g l j → ⊥
  whole_not_deep x j d e =
      let short : length (e.before ++ e.opening ∷ []) ≤ length l = omega (arith, ap length (deep_parts j e), length-append (e.before ++ e.opening ∷ []) e.rest) in
      e.too_deep (within_front n s g l l [] (e.before ++ e.opening ∷ []) e.rest (text_is_front d) (sym (append-nil l)) (deep_parts j e) short)

-- ---- what is told of it depends on the tokens' kinds and lines

abbrev kind_in : Option Lexeme → Option TokenKind
kind_in None = None
kind_in (Some t) = Some t.kind

abbrev line_in : Option Lexeme → ℕ
line_in None = 1
line_in (Some t) = t.line

kind_seen : (ts : List Token) (k : ℕ) → kind_of (slice_get ts k) ≡ kind_in (slice_get (map view ts) k)
kind_seen [] zero = refl
kind_seen [] (suc k) = refl
kind_seen (t ∷ ts) zero = refl
kind_seen (t ∷ ts) (suc k) = kind_seen ts k

line_seen : (ts : List Token) (k : ℕ) → line_of (slice_get ts k) ≡ line_in (slice_get (map view ts) k)
line_seen [] zero = refl
line_seen [] (suc k) = refl
line_seen (t ∷ ts) zero = refl
line_seen (t ∷ ts) (suc k) = line_seen ts k

abbrev line_from : List Lexeme → ℕ → ℕ
line_from ls k = line_in (slice_get ls (min k (length ls - 1)))

line_at_seen : (ts : List Token) (k : ℕ) → line_at ts k ≡ line_from (map view ts) k
line_at_seen ts k = line_seen ts (min k (length ts - 1)) ∙ ap (λ n. line_in (slice_get (map view ts) (min k (n - 1)))) (sym (length-map ts view))

abbrev syntax_from : List Lexeme → ℕ → ParseFault
syntax_from ls left = syntax_fault_of (kind_in (slice_get ls (length ls - left))) (line_from ls (length ls - left)) (length ls - left)

syntax_seen : (ts : List Token) (left : ℕ) → syntax_fault ts (length ts - left) ≡ syntax_from (map view ts) left
syntax_seen ts left =
    let k = length ts - left in
    ap (λ o. syntax_fault_of o (line_at ts k) k) (kind_seen ts k) ∙ ap (λ n. syntax_fault_of (kind_in (slice_get (map view ts) k)) n k) (line_at_seen ts k)
    ∙ ap (λ n. syntax_fault_of (kind_in (slice_get (map view ts) (n - left))) (line_from (map view ts) (n - left)) (n - left)) (sym (length-map ts view))

abbrev deep_from : List Lexeme → ℕ → ParseFault
deep_from ls left = faults.NestTooDeep (length ls - left + 1) (line_from ls (length ls - left))

deep_seen : (ts : List Token) (left : ℕ) → deep_fault ts (length ts - left) ≡ deep_from (map view ts) left
deep_seen ts left =
    ap (λ n. faults.NestTooDeep (length ts - left + 1) n) (line_at_seen ts (length ts - left))
    ∙ ap (λ n. faults.NestTooDeep (n - left + 1) (line_from (map view ts) (n - left))) (sym (length-map ts view))

-- a fault of tokens as they are seen
data Seen (ls : List Lexeme) : ParseFault → Type 0 where
  seen_syntax : (left : ℕ) → IsNoWhole 64 a_raw text (numbered 1 ls) left → Seen ls (syntax_from ls left)
  seen_deep : (left : ℕ) → IsDeepAt 64 a_raw text (numbered 1 ls) left → Seen ls (deep_from ls left)

seen : {ts : List Token} {f : ParseFault} → IsTextFault ts f → f ≢ faults.NoMemory → Seen (map view ts) f
seen {ts = ts} no_memory other = absurd (other refl)
seen {ts = ts} (no_text left p) other = subst (λ f. Seen (map view ts) f) (sym (syntax_seen ts left)) (seen_syntax left p)
seen {ts = ts} (too_deep left p) other = subst (λ f. Seen (map view ts) f) (sym (deep_seen ts left)) (seen_deep left p)

one_seen : {ls : List Lexeme} {f g : ParseFault} → Seen ls f → Seen ls g → f ≡ g
one_seen {ls = ls} (seen_syntax j p) (seen_syntax k q) = ap (λ n. syntax_from ls n) (one_no_whole 64 a_raw text (numbered 1 ls) j k p q)
one_seen {ls = ls} (seen_syntax j p) (seen_deep k q) = absurd (not_both 64 a_raw text (numbered 1 ls) j k p q)
one_seen {ls = ls} (seen_deep j p) (seen_syntax k q) = absurd (not_both 64 a_raw text (numbered 1 ls) k j q p)
one_seen {ls = ls} (seen_deep j p) (seen_deep k q) = ap (λ n. deep_from ls n) (one_deep 64 a_raw text (numbered 1 ls) j k p q)

none_seen : {ls : List Lexeme} {f : ParseFault} → Seen ls f → (x : Raw) → Derives 64 a_raw text (numbered 1 ls) x → ⊥
none_seen {ls = ls} (seen_syntax j p) x d = whole_no_fault 64 a_raw text (numbered 1 ls) x j d p
none_seen {ls = ls} (seen_deep j p) x d = whole_not_deep 64 a_raw text (numbered 1 ls) x j d p

pub one_fault : (ls : List Lexeme) (ts us : List Token) (f g : ParseFault) → map view ts ≡ ls → map view us ≡ ls → IsTextFault ts f → IsTextFault us g → f ≢ faults.NoMemory → g ≢ faults.NoMemory → f ≡ g
one_fault ls ts us f g a b p q other also = one_seen (subst (λ z. Seen z f) a (seen p other)) (subst (λ z. Seen z g) b (seen q also))

pub no_fault : (ls : List Lexeme) (ts : List Token) (f : ParseFault) (x : Raw) → map view ts ≡ ls → IsTextFault ts f → f ≢ faults.NoMemory → Derives 64 a_raw text (numbered 1 ls) x → ⊥
no_fault ls ts f x a p other d = none_seen (subst (λ z. Seen z f) a (seen p other)) x d
