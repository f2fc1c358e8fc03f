-- Items that stand one behind the other.
use Rattle.std.specs.Prelude.{◌≡◌, ℕ, Bool, cond, List, [], ◌∷◌, length, Result, Ok, Err}
use Rattle.std.specs.Fn.{Shared}
use Rattle.cw_lex.specs.declared.token.Token as token
use Rattle.cw_lex.specs.declared.token.TokenKind.{TokenKind}
use Rattle.cw_lex.specs.declared.token.TokenKind.TheVariants as kinds
use Rattle.cw_lex.specs.declared.token.Symbol.TheVariants as symbols
use Rattle.cw_grammar.specs.declared.stop.Stop.{Stop}
use Rattle.cw_grammar.specs.Tokens.{Item, behind}
use Rattle.cw_grammar.specs.Grammar.{starts}
use Rattle.cw_grammar.specs.Reading.{Read, Gives, ◌>>=◌, repeat, take_one}

-- A function gives from each place on what is read there.
abbrev pub Reads : {F T : Type 0} → Shared F (ℕ × Unit {0}) (Result (T × ℕ) Stop) → F → List token.Token → (List Item → Read T) → Type 0
Reads {T = T} g f tokens item = (k : ℕ) (r : Result (T × ℕ) Stop) → g.post f (k, tt) r → Gives (λ x. (x.0, behind tokens x.1)) r (item (behind tokens k))

-- A function tells at each place whether an item begins there.
abbrev pub Tests : {F : Type 0} → Shared F (ℕ × Unit {0}) Bool → F → List token.Token → (List Item → Bool) → Type 0
Tests g f tokens begins = (k : ℕ) (r : Bool) → g.post f (k, tt) r → r ≡ begins (behind tokens k)

-- one behind the other
abbrev pub both : {A B : Type 0} → (List Item → Read A) → (List Item → Read B) → List Item → Read (A × B)
both first second ts = first ts >>= λ x. second x.1 >>= λ y. Ok ((x.0, y.0), y.1)

-- what is made of what is read
abbrev pub made : {A B : Type 0} → (A → B) → Read A → Read B
made f o = o >>= λ x. Ok (f x.0, x.1)

-- what was read, before a token
abbrev pub with_end : {A : Type 0} → A → TokenKind → List Item → Read A
with_end {A = A} x end ts = made {A = A × Item} (λ z. z.0) (take_one end ts >>= λ y. Ok ((x, y.0), y.1))

-- an item behind a separator
abbrev pub behind_one : {A : Type 0} → (List Item → Read Item) → (List Item → Read A) → List Item → Read A
behind_one {A = A} taken item ts = made {A = Item × A} (λ x. x.1) (both taken item ts)

-- an item, and those behind separators
abbrev pub with_separators : {A : Type 0} → (List Item → Bool) → (List Item → Read Item) → (List Item → Read A) → List Item → Read (List A)
with_separators {A = A} begins taken item ts = made {A = A × List A} (λ x. x.0 ∷ x.1) (both item (λ us. repeat (length us) begins (behind_one taken item) us) ts)

-- in round brackets
abbrev pub in_round : {A : Type 0} → (List Item → Read A) → List Item → Read A
in_round {A = A} inner ts =
    made {A = Item × A} (λ x. x.1) (both (take_one (kinds.Symbol symbols.Open)) (λ us. made {A = A × Item} (λ x. x.0) (both inner (take_one (kinds.Symbol symbols.Close)) us)) ts)

-- in round brackets, or nothing
abbrev pub if_bracketed : {A : Type 0} → (List Item → Read (List A)) → List Item → Read (List A)
if_bracketed inner ts = cond (starts ts (kinds.Symbol symbols.Open ∷ [])) (in_round inner ts) (Ok ([], ts))

-- an item and a token behind it
abbrev pub before_end : {A : Type 0} → TokenKind → (List Item → Read A) → List Item → Read A
before_end {A = A} end item ts = made {A = A × Item} (λ x. x.0) (both item (take_one end) ts)

-- items with a token behind each
abbrev pub ended : {A : Type 0} → (List Item → Bool) → TokenKind → (List Item → Read A) → List Item → Read (List A)
ended begins end item ts = repeat (length ts) begins (before_end end item) ts
