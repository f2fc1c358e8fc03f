-- Texts that are spelled in one way are of a grammar, and stand for values of which something holds: by the parts of the grammar.
use Rattle.std.proofs.Common.{◌≡◌, ℕ, suc, true, List, [], ◌∷◌, ◌++◌, map, Option, Some, None, refl, sym, ap, ap₂, subst, ◌∙◌, arith}
use Rattle.std.proofs.lemmas.Bool.Decides.{nat_tests}
use Rattle.std.specs.Prelude.{option_map}
use Rattle.cw_lex.specs.declared.token.TokenKind.{TokenKind}
use Rattle.cw_lex.specs.declared.token.TokenKind.TheVariants as kinds
use Rattle.cw_lex.specs.declared.token.Word.{Word}
use Rattle.cw_lex.specs.declared.token.Symbol.{Symbol}
use Rattle.cw_lex.specs.declared.token.Symbol.TheVariants as symbols
use Rattle.cw_grammar.specs.Tokens.{Item, same}
use Rattle.cw_grammar.specs.Grammar.{Sort, a_token, a_pair, a_list, an_option, Value, Rule, Again, Grammar, one, none, ◌·◌, ◌∣◌, many, ◌⇒◌, opens, again}
use Rattle.cw_grammar.specs.Table.{rule, again_rule}
use Rattle.cw_grammar.specs.Rules.{◌*>◌, ◌<*◌, optional}
use Rattle.cw_grammar.specs.Statements.{in_round, in_square}
use Rattle.cw_grammar.specs.Derives.{Derives, is_one, is_none, is_then, is_left, is_right, is_end, is_more, is_map, is_opens, is_again}
use Rattle.cw_show.specs.Spelling.{Spelling, word, symbol}
use Rattle.cw_show.specs.Canonical.{Tokens, behind_each, between, joined, bracketed, indexed}
use Rattle.cw_show.specs.Lexing.{IsSpelled, stands_alone, a_word, a_symbol}
use Rattle.cw_read_back.specs.Expressions.ReadingBack.{spell}
use Rattle.cw_read_back.specs.Expressions.Leaves.{IsLeaf}

-- ---- token lists

same_kind : (k : TokenKind) → same k k ≡ true
same_kind k = grind (arith, nat_tests)

-- a token of the kind
pub of_kind : (t : Item) (k : TokenKind) → t.kind ≡ k → same t.kind k ≡ true
of_kind t k e = subst (λ j. same t.kind j ≡ true) e (same_kind t.kind)

-- a list whose spellings are two parts
record Parts (ts : List Item) (a b : Tokens) : Type 0 where
  front : List Item
  rest : List Item
  parts : ts ≡ front ++ rest
  front_is : map spell front ≡ a
  rest_is : map spell rest ≡ b

tail_same : {x y : Spelling} {xs ys : Tokens} → ◌≡◌ {A = Tokens} (x ∷ xs) (y ∷ ys) → (x ≡ y) × (xs ≡ ys)
tail_same e = (cc, cc)

nothing_spelled : {x : Spelling} {xs : Tokens} → ◌≡◌ {A = Tokens} [] (x ∷ xs) → ⊥
nothing_spelled e = cc

split : (ts : List Item) (a b : Tokens) → map spell ts ≡ a ++ b → Parts ts a b
split ts [] b e = record { front = []; rest = ts; parts = refl; front_is = refl; rest_is = e }
split [] (x ∷ a) b e = absurd (nothing_spelled e)
split (t ∷ ts) (x ∷ a) b e =
    let p = tail_same e in
    let q = split ts a b p.1 in
    record { front = t ∷ q.front; rest = q.rest; parts = ap (λ us. t ∷ us) q.parts; front_is = ap₂ (λ y ys. y ∷ ys) p.0 q.front_is; rest_is = q.rest_is }

-- ---- spellings

-- The token is spelled right, if it is a leaf as it must be.
abbrev pub IsShown : Spelling → Type 0
IsShown t = IsLeaf t.kind t.text → IsSpelled t

abbrev pub Shown : Tokens → Type 0
Shown [] = Unit {0}
Shown (t ∷ ts) = IsShown t × Shown ts

shown_both : (a b : Tokens) → Shown a → Shown b → Shown (a ++ b)
shown_both [] b h k = k
shown_both (t ∷ a) b h k = (h.0, shown_both a b h.1 k)

-- ---- what is read

-- The tokens are of the grammar, and what holds of their value.
pub record IsRead (n : ℕ) (s : Sort) (g : Grammar s) (ts : List Item) (P : Value s → Type 0) : Type 0 where
  pub value : Value s
  pub derives : Derives n s g ts value
  pub holds : P value

pub record Reads (n : ℕ) (s : Sort) (g : Grammar s) (a : Tokens) (P : Value s → Type 0) : Type 0 where
  pub read : (ts : List Item) → map spell ts ≡ a → IsRead n s g ts P
  pub shown : Shown a

-- a value that is the same but for positions
abbrev pub Back : ℕ → (s : Sort) → Grammar s → (Value s → Tokens) → (Value s → Value s) → Value s → Type 0
Back n s g tokens bare x = Reads n s g (tokens x) (λ d. bare d ≡ bare x)

abbrev pub Each : {A : Type 0} → (A → Type 0) → List A → Type 0
Each P [] = Unit {0}
Each P (x ∷ xs) = P x × Each P xs

-- ---- by the parts of a grammar

token_read : (n : ℕ) (k : TokenKind) (x : Spelling) → x.kind ≡ k → (ts : List Item) → map spell ts ≡ x ∷ [] → IsRead n a_token (one k) ts (λ t. (t.kind ≡ k) × (t.text ≡ x.text))
token_read n k x h [] e = absurd (nothing_spelled e)
token_read n k x h (t ∷ []) e =
    let p = (tail_same e).0 in
    let q : t.kind ≡ k = ap (λ z. z.kind) p ∙ h in
    record { value = t; derives = is_one (of_kind t k q); holds = (q, ap (λ z. z.text) p) }
token_read n k x h (t ∷ u ∷ ts) e = absurd (nothing_spelled (sym (tail_same e).1))

pub leaf : {n : ℕ} (k : TokenKind) (text : List ℕ) → IsShown (record { kind = k; text = text }) → Reads n a_token (one k) (record { kind = k; text = text } ∷ []) (λ t. (t.kind ≡ k) × (t.text ≡ text))
leaf {n = n} k text h = record { read = token_read n k (record { kind = k; text = text }) refl; shown = (h, tt) }

-- of a word or symbol nothing else is to be known
abbrev pub Any : {A : Type 0} → A → Type 0
Any x = Unit {0}

pub word_is : {n : ℕ} (w : Word) → stands_alone w ≡ true → Reads n a_token (one (kinds.Word w)) (word w ∷ []) Any
word_is {n = n} w h =
    record {
      read = λ ts e. let r = token_read n (kinds.Word w) (word w) refl ts e in record { value = r.value; derives = r.derives; holds = tt };
      shown = (λ l. a_word w h, tt);
    }

pub symbol_is : {n : ℕ} (s : Symbol) → Reads n a_token (one (kinds.Symbol s)) (symbol s ∷ []) Any
symbol_is {n = n} s =
    record {
      read = λ ts e. let r = token_read n (kinds.Symbol s) (symbol s) refl ts e in record { value = r.value; derives = r.derives; holds = tt };
      shown = (λ l. a_symbol s, tt);
    }

pub nothing : {n : ℕ} {s : Sort} {P : Value s → Type 0} (x : Value s) → P x → Reads n s (none x) [] P
nothing {n = n} {s = s} {P = P} x h = record { read = at; shown = tt }
  where
    at : (ts : List Item) → map spell ts ≡ [] → IsRead n s (none x) ts P
    at [] e = record { value = x; derives = is_none; holds = h }
    at (t ∷ ts) e = absurd (nothing_spelled (sym e))

infixr 30 ◌&◌
pub ◌&◌ : {n : ℕ} {s t : Sort} {g : Grammar s} {h : Grammar t} {a b : Tokens} {P : Value s → Type 0} {Q : Value t → Type 0} → Reads n s g a P → Reads n t h b Q → Reads n (a_pair s t) (g · h) (a ++ b) (λ z. P z.0 × Q z.1)
◌&◌ {n = n} {s = s} {t = t} {g = g} {h = h} {a = a} {b = b} k l = record {
  read = λ ts e.
      let q = split ts a b e in
      let r1 = k.read q.front q.front_is in
      let r2 = l.read q.rest q.rest_is in
      record { value = (r1.value, r2.value); derives = subst (λ us. Derives n (a_pair s t) (g · h) us (r1.value, r2.value)) (sym q.parts) (is_then r1.derives r2.derives); holds = (r1.holds, r2.holds) };
  shown = shown_both a b k.shown l.shown;
}

pub left : {n : ℕ} {s : Sort} {g h : Grammar s} {a : Tokens} {P : Value s → Type 0} → Reads n s g a P → Reads n s (g ∣ h) a P
left k = record { read = λ ts e. let r = k.read ts e in record { value = r.value; derives = is_left r.derives; holds = r.holds }; shown = k.shown }

pub right : {n : ℕ} {s : Sort} {g h : Grammar s} {a : Tokens} {P : Value s → Type 0} → Reads n s h a P → Reads n s (g ∣ h) a P
right k = record { read = λ ts e. let r = k.read ts e in record { value = r.value; derives = is_right r.derives; holds = r.holds }; shown = k.shown }

pub mapped : {n : ℕ} {s t : Sort} {g : Grammar s} {f : Value s → Value t} {a : Tokens} {P : Value s → Type 0} {Q : Value t → Type 0} → Reads n s g a P → ((z : Value s) → P z → Q (f z)) → Reads n t (g ⇒ f) a Q
mapped {f = f} k h = record { read = λ ts e. let r = k.read ts e in record { value = f r.value; derives = is_map r.derives; holds = h r.value r.holds }; shown = k.shown }

pub opened : {n : ℕ} {s : Sort} {r : Rule s} {a : Tokens} {P : Value s → Type 0} (x : Symbol) → Reads n s (rule r) a P → Reads (suc n) (a_pair a_token s) (opens (kinds.Symbol x) r) (symbol x ∷ a) (λ z. P z.1)
opened {n = n} {s = s} {r = r} {a = a} {P = P} x k = record { read = at; shown = (λ l. a_symbol x, k.shown) }
  where
    at : (ts : List Item) → map spell ts ≡ symbol x ∷ a → IsRead (suc n) (a_pair a_token s) (opens (kinds.Symbol x) r) ts (λ z. P z.1)
    at [] e = absurd (nothing_spelled e)
    at (t ∷ ts) e = let p = tail_same e in let q = k.read ts p.1 in record { value = (t, q.value); derives = is_opens (of_kind t (kinds.Symbol x) (ap (λ z. z.kind) p.0)) q.derives; holds = q.holds }

pub opened_word : {n : ℕ} {s : Sort} {r : Rule s} {a : Tokens} {P : Value s → Type 0} (w : Word) → stands_alone w ≡ true → Reads n s (rule r) a P → Reads (suc n) (a_pair a_token s) (opens (kinds.Word w) r) (word w ∷ a) (λ z. P z.1)
opened_word {n = n} {s = s} {r = r} {a = a} {P = P} w h k = record { read = at; shown = (λ l. a_word w h, k.shown) }
  where
    at : (ts : List Item) → map spell ts ≡ word w ∷ a → IsRead (suc n) (a_pair a_token s) (opens (kinds.Word w) r) ts (λ z. P z.1)
    at [] e = absurd (nothing_spelled e)
    at (t ∷ ts) e = let p = tail_same e in let q = k.read ts p.1 in record { value = (t, q.value); derives = is_opens (of_kind t (kinds.Word w) (ap (λ z. z.kind) p.0)) q.derives; holds = q.holds }

pub led_back : {n : ℕ} {s : Sort} {r : Again s} {a : Tokens} {P : Value s → Type 0} → Reads n s (again_rule r) a P → Reads n s (again r) a P
led_back k = record { read = λ ts e. let r = k.read ts e in record { value = r.value; derives = is_again r.derives; holds = r.holds }; shown = k.shown }

pub no_more_read : {n : ℕ} {s : Sort} {g : Grammar s} {P : List (Value s) → Type 0} → P [] → Reads n (a_list s) (many g) [] P
no_more_read {n = n} {s = s} {g = g} {P = P} h = record { read = at; shown = tt }
  where
    at : (ts : List Item) → map spell ts ≡ [] → IsRead n (a_list s) (many g) ts P
    at [] e = record { value = []; derives = is_end; holds = h }
    at (t ∷ ts) e = absurd (nothing_spelled (sym e))

pub more_read : {n : ℕ} {s : Sort} {g : Grammar s} {a b : Tokens} {P : Value s → Type 0} {Q R : List (Value s) → Type 0} → Reads n s g a P → Reads n (a_list s) (many g) b Q → ((z : Value s) (zs : List (Value s)) → P z → Q zs → R (z ∷ zs)) → Reads n (a_list s) (many g) (a ++ b) R
more_read {n = n} {s = s} {g = g} {a = a} {b = b} k l h = record {
  read = λ ts e.
      let q = split ts a b e in
      let r1 = k.read q.front q.front_is in
      let r2 = l.read q.rest q.rest_is in
      record { value = r1.value ∷ r2.value; derives = subst (λ us. Derives n (a_list s) (many g) us (r1.value ∷ r2.value)) (sym q.parts) (is_more r1.derives r2.derives); holds = h r1.value r2.value r1.holds r2.holds };
  shown = shown_both a b k.shown l.shown;
}

-- with other spellings that are the same, and less known of the value
pub respelled : {n : ℕ} {s : Sort} {g : Grammar s} {a b : Tokens} {P Q : Value s → Type 0} → a ≡ b → Reads n s g b P → ((z : Value s) → P z → Q z) → Reads n s g a Q
respelled {a = a} {b = b} e k h = record { read = λ ts q. let r = k.read ts (q ∙ e) in record { value = r.value; derives = r.derives; holds = h r.value r.holds }; shown = subst Shown (sym e) k.shown }

-- ---- by forms of the grammar

pub second : {n : ℕ} {s t : Sort} {g : Grammar s} {h : Grammar t} {a b : Tokens} {P : Value s → Type 0} {Q : Value t → Type 0} → Reads n s g a P → Reads n t h b Q → Reads n t (g *> h) (a ++ b) Q
second k l = mapped (k & l) (λ z p. p.1)

pub first : {n : ℕ} {s t : Sort} {g : Grammar s} {h : Grammar t} {a b : Tokens} {P : Value s → Type 0} {Q : Value t → Type 0} → Reads n s g a P → Reads n t h b Q → Reads n s (g <* h) (a ++ b) P
first k l = mapped (k & l) (λ z p. p.0)

pub rounded : {n : ℕ} {s : Sort} {g : Grammar s} {a : Tokens} {P : Value s → Type 0} → Reads n s g a P → Reads n s (in_round g) (bracketed a) P
rounded k = second (symbol_is symbols.Open) (first k (symbol_is symbols.Close))

pub squared : {n : ℕ} {s : Sort} {g : Grammar s} {a : Tokens} {P : Value s → Type 0} → Reads n s g a P → Reads n s (in_square g) (indexed a) P
squared k = second (symbol_is symbols.OpenSquare) (first k (symbol_is symbols.CloseSquare))

pub option_none : {n : ℕ} {s : Sort} {g : Grammar s} {P : Option (Value s) → Type 0} → P None → Reads n (an_option s) (optional g) [] P
option_none h = right (nothing None h)

pub option_some : {n : ℕ} {s : Sort} {g : Grammar s} {a : Tokens} {P : Value s → Type 0} {Q : Option (Value s) → Type 0} → Reads n s g a P → ((z : Value s) → P z → Q (Some z)) → Reads n (an_option s) (optional g) a Q
option_some k h = left (mapped k h)

-- Something is there, and this holds of it.
abbrev pub IsSome : {A : Type 0} → (A → Type 0) → Option A → Type 0
IsSome P None = ⊥
IsSome P (Some x) = P x

pub absent_read : {n : ℕ} {s : Sort} {g : Grammar s} → Reads n (an_option s) (optional g) [] (λ (o : Option (Value s)). o ≡ None)
absent_read = option_none refl

pub present_read : {n : ℕ} {s : Sort} {g : Grammar s} {a : Tokens} {P : Value s → Type 0} → Reads n s g a P → Reads n (an_option s) (optional g) a (IsSome P)
present_read k = option_some k (λ z h. h)

-- what is known of an item, where there is one
abbrev pub Held : {A : Type 0} → (A → Type 0) → Option A → Type 0
Held P None = Unit {0}
Held P (Some x) = P x

pub optional_read : {n : ℕ} {s : Sort} {g : Grammar s} {tokens : Value s → Tokens} {bare : Value s → Value s} (all : Option (Value s) → Tokens) → all None ≡ [] → ((x : Value s) → all (Some x) ≡ tokens x) → (o : Option (Value s)) → Held (Back n s g tokens bare) o
    → Reads n (an_option s) (optional g) (all o) (λ d. option_map bare d ≡ option_map bare o)
optional_read all e k None h = respelled e (option_none refl) (λ z q. q)
optional_read all e k (Some x) h = respelled (k x) (option_some h (λ z q. ap (λ v. Some v) q)) (λ z q. q)

-- ---- lists

pub behind_read : {n : ℕ} {s t : Sort} {g : Grammar s} {h : Grammar t} {P : Value t → Type 0} (tokens : Value s → Tokens) (bare : Value s → Value s) (w : Spelling) → Reads n t h (w ∷ []) P → (xs : List (Value s)) → Each (Back n s g tokens bare) xs
    → Reads n (a_list s) (many (h *> g)) (behind_each w (map tokens xs)) (λ ds. map bare ds ≡ map bare xs)
behind_read tokens bare w k [] h = no_more_read refl
behind_read tokens bare w k (x ∷ xs) h = more_read (second k h.0) (behind_read tokens bare w k xs h.1) (λ z zs p q. ap₂ (λ y ys. y ∷ ys) p q)

-- an item, and more behind separators
pub between_read : {n : ℕ} {s t : Sort} {g : Grammar s} {h : Grammar t} {P : Value t → Type 0} (tokens : Value s → Tokens) (bare : Value s → Value s) (w : Spelling) → Reads n t h (w ∷ []) P → (x : Value s) (xs : List (Value s)) → Back n s g tokens bare x × Each (Back n s g tokens bare) xs
    → Reads n (a_list s) (g · many (h *> g) ⇒ (λ z. z.0 ∷ z.1)) (between w (map tokens (x ∷ xs))) (λ ds. map bare ds ≡ map bare (x ∷ xs))
between_read tokens bare w k x xs h = mapped (h.0 & behind_read tokens bare w k xs h.1) (λ z p. ap₂ (λ y ys. y ∷ ys) p.0 p.1)

pub joined_read : {n : ℕ} {s : Sort} {g : Grammar s} (tokens : Value s → Tokens) (bare : Value s → Value s) (xs : List (Value s)) → Each (Back n s g tokens bare) xs → Reads n (a_list s) (many g) (joined (map tokens xs)) (λ ds. map bare ds ≡ map bare xs)
joined_read tokens bare [] h = no_more_read refl
joined_read tokens bare (x ∷ xs) h = more_read h.0 (joined_read tokens bare xs h.1) (λ z zs p q. ap₂ (λ y ys. y ∷ ys) p q)
