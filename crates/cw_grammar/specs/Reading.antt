-- Reading from left to right with one token of look-ahead. The readers are proved to give what it gives; what it
-- gives is proved to be what the grammar derives.
use Rattle.std.specs.Prelude.{◌≡◌, ℕ, zero, suc, ◌+◌, Bool, true, false, cond, List, [], ◌∷◌, length, Result, Ok, Err}
use Rattle.cw_lex.specs.declared.token.TokenKind.{TokenKind}
use Rattle.cw_grammar.specs.declared.stop.Stop.{Stop}
use Rattle.cw_grammar.specs.declared.stop.Stop.TheVariants as stops
use Rattle.cw_grammar.specs.Tokens.{Item, same}
use Rattle.cw_grammar.specs.Grammar.{Sort, Value, Rule, Grammar, one, none, ◌·◌, ◌∣◌, many, ◌⇒◌, opens, Again, again, first, starts}
use Rattle.cw_grammar.specs.Table.{rule, again_rule}

-- A fault, with the number of tokens from there to the end.
pub data Fault : Type 0 where
  syntax_at : ℕ → Fault
  deep_at : ℕ → Fault

abbrev pub Read : Type 0 → Type 0
Read A = Result (A × List Item) Fault

infixl 10 ◌>>=◌
abbrev pub ◌>>=◌ : {A B : Type 0} → Result A Fault → (A → Result B Fault) → Result B Fault
(Ok x) >>= f = f x
(Err e) >>= f = Err e

-- what is read once what stands before it is told
abbrev pub applied : {A B : Type 0} → A → Read (A → B) → Read B
applied x o = o >>= λ y. Ok (y.0 x, y.1)

abbrev pub take_one : TokenKind → List Item → Read Item
take_one k [] = Err (syntax_at 0)
take_one k (t ∷ ts) = cond (same t.kind k) (Ok (t, ts)) (Err (syntax_at (length ts + 1)))

-- Items while the next token begins one, as many as there is fuel for.
abbrev pub repeat : {A : Type 0} → ℕ → (List Item → Bool) → (List Item → Read A) → List Item → Read (List A)
repeat zero test item ts = Ok ([], ts)
repeat (suc k) test item ts = cond (test ts) (item ts >>= λ x. repeat k test item x.1 >>= λ y. Ok (x.0 ∷ y.0, y.1)) (Ok ([], ts))

abbrev pub Inside : Type 0
Inside = (s : Sort) → Rule s → List Item → Read (Value s)

abbrev pub Agains : Type 0
Agains = (s : Sort) → Again s → List Item → Read (Value s)

abbrev pub read_with : Inside → Agains → {s : Sort} → Grammar s → List Item → Read (Value s)
read_with inside agains (one k) ts = take_one k ts
read_with inside agains (none x) ts = Ok (x, ts)
read_with inside agains (g · h) ts = read_with inside agains g ts >>= λ x. read_with inside agains h x.1 >>= λ y. Ok ((x.0, y.0), y.1)
read_with inside agains (g ∣ h) ts = cond (starts ts (first g)) (read_with inside agains g ts) (read_with inside agains h ts)
read_with inside agains (many g) ts = repeat (length ts) (λ us. starts us (first g)) (λ us. read_with inside agains g us) ts
read_with inside agains (g ⇒ f) ts = read_with inside agains g ts >>= λ x. Ok (f x.0, x.1)
read_with inside agains (opens {s = s} k r) ts = take_one k ts >>= λ x. inside s r x.1 >>= λ y. Ok ((x.0, y.0), y.1)
read_with inside agains (again {s = s} a) ts = agains s a ts

-- Reading a rule that leads back to itself, m times at most. It takes a token each time, so the number of tokens bounds none.
unfoldable pub turns : Inside → ℕ → Agains
turns inside zero s a ts = Err (syntax_at (length ts))
turns inside (suc m) s a ts = read_with inside (turns inside m) (again_rule a) ts

abbrev pub unbounded : Inside → Agains
unbounded inside s a ts = turns inside (suc (length ts)) s a ts

-- Reading what stands inside a level, with n levels left to open.
unfoldable pub inside : ℕ → Inside
inside zero s r ts = Err (deep_at (length ts + 1))
inside (suc n) s r ts = read_with (inside n) (unbounded (inside n)) (rule r) ts

abbrev pub reads : (n : ℕ) {s : Sort} → Grammar s → List Item → Read (Value s)
reads n g ts = read_with (inside n) (unbounded (inside n)) g ts

abbrev pub read : ℕ → (s : Sort) → Grammar s → List Item → Read (Value s)
read n s g ts = reads n g ts

-- What a function returned, seen by view, is what reading gives, unless memory ran out.
abbrev pub Fails : {A : Type 0} → Stop → Read A → Type 0
Fails stops.Memory o = Unit {0}
Fails (stops.Syntax k) o = o ≡ Err (syntax_at k)
Fails (stops.Deep k) o = o ≡ Err (deep_at k)

abbrev pub Gives : {X A : Type 0} → (X → A × List Item) → Result X Stop → Read A → Type 0
Gives view (Ok x) o = o ≡ Ok (view x)
Gives view (Err e) o = Fails e o
