-- The tree of a text tells how many tokens it has.
use Rattle.std.proofs.Common.{◌≡◌, ℕ, zero, suc, ◌+◌, ◌≤◌, List, [], ◌∷◌, ◌++◌, length, refl, sym, ap, subst, ◌∙◌, arith, append_assoc}
use Rattle.std.specs.Prelude.{min}
use Rattle.cw_lex.specs.declared.token.TokenKind.{TokenKind}
use Rattle.cw_lex.specs.Lexical.{Lexeme}
use Rattle.cw_tree.specs.declared.segment.Raw.{Raw}
use Rattle.cw_grammar.specs.Tokens.{Item, with_number, numbered}
use Rattle.cw_grammar.specs.Grammar.{Sort, a_token, a_pair, a_raw, Value, Grammar, one, ◌·◌, ◌⇒◌}
use Rattle.cw_grammar.specs.Derives.{Derives, is_one, is_then, is_map}
use Rattle.cw_grammar.specs.Statements.{text}

-- two parts, one after the other
record Parted (n : ℕ) (s t : Sort) (g : Grammar s) (h : Grammar t) (w : List Item) (z : Value s × Value t) : Type 0 where
  front : List Item
  rest : List Item
  parts : w ≡ front ++ rest
  second : Derives n t h rest z.1

parted : {n : ℕ} {s t : Sort} {g : Grammar s} {h : Grammar t} {w : List Item} {z : Value s × Value t} → Derives n (a_pair s t) (g · h) w z → Parted n s t g h w z
parted (is_then {u = u} {v = v} d e) = record { front = u; rest = v; parts = refl; second = e }

record Mapped (n : ℕ) (s t : Sort) (f : Value s → Value t) (g : Grammar s) (w : List Item) (y : Value t) : Type 0 where
  value : Value s
  derives : Derives n s g w value
  is : y ≡ f value

mapped : {n : ℕ} {s t : Sort} {f : Value s → Value t} {g : Grammar s} {w : List Item} {y : Value t} → Derives n t (g ⇒ f) w y → Mapped n s t f g w y
mapped (is_map {x = x} d) = record { value = x; derives = d; is = refl }

single : {n : ℕ} {k : TokenKind} {w : List Item} {t : Item} → Derives n a_token (one k) w t → w ≡ t ∷ []
single (is_one e) = refl

-- the last of tokens that are numbered from n on
last_number : (n : ℕ) (ls : List Lexeme) (us : List Item) (t : Item) → numbered n ls ≡ us ++ t ∷ [] → length ls + n ≤ 4294967295 → t.number + 1 ≡ length ls + n
last_number n [] [] t e h = cc
last_number n [] (u ∷ us) t e h = cc
last_number n (l ∷ []) [] t e h =
    let same : with_number n l ≡ t = cc in
    omega (arith, h, ap (λ (i : Item). i.number) same)
last_number n (l ∷ m ∷ ls) [] t e h = cc
last_number n (l ∷ ls) (u ∷ us) t e h =
    let rest : numbered (n + 1) ls ≡ us ++ t ∷ [] = cc in
    omega (arith, last_number (n + 1) ls us t rest (omega (arith, h)))

-- A text ends with the token FINISH, whose number is that of its tokens.
record Ends (w : List Item) (raw : Raw) : Type 0 where
  before : List Item
  last : Item
  ends : w ≡ before ++ last ∷ []
  tokens : raw.tokens ≡ last.number

ends_of : (n : ℕ) (w : List Item) (raw : Raw) → Derives n a_raw text w raw → Ends w raw
unfolding text
ends_of n w raw d =
    let m = mapped d in
    let a = parted m.derives in
    let b = parted a.second in
    let c = parted b.second in
    let z = single c.second in
    record {
      before = a.front ++ (b.front ++ c.front);
      last = m.value.1.1.1;
      ends = a.parts ∙ ap (λ r. a.front ++ r) (b.parts ∙ ap (λ r. b.front ++ r) (c.parts ∙ ap (λ r. c.front ++ r) z))
          ∙ sym (append_assoc a.front (b.front ++ c.front) (m.value.1.1.1 ∷ []) ∙ ap (λ r. a.front ++ r) (append_assoc b.front c.front (m.value.1.1.1 ∷ [])));
      tokens = ap (λ (r : Raw). r.tokens) m.is;
    }

pub counted : (n : ℕ) (expanded : List Lexeme) (raw : Raw) → Derives n a_raw text (numbered 1 expanded) raw → length expanded ≤ 65535 → raw.tokens ≡ length expanded
counted n expanded raw d few =
    let e = ends_of n (numbered 1 expanded) raw d in
    omega (arith, e.tokens, last_number 1 expanded e.before e.last e.ends (omega (arith, few)))
