-- The longest front of a list, and the fault that stands behind it.
use Rattle.std.specs.Prelude.{◌≡◌, ℕ, suc, ◌+◌, ◌-◌, ◌≤◌, min, List, [], ◌∷◌, ◌++◌, length, slice_get, Option, Some, None, Result, Ok, Err}
use Rattle.cw_lex.specs.declared.token.TokenKind.{TokenKind}
use Rattle.cw_lex.specs.declared.token.TokenKind.TheVariants as kinds
use Rattle.cw_lex.specs.declared.token.Word.{Word}
use Rattle.cw_lex.specs.declared.token.Word.TheVariants as words
use Rattle.cw_lex.specs.declared.token.Token as token
use Rattle.cw_grammar.specs.declared.fault.ParseFault.{ParseFault}
use Rattle.cw_grammar.specs.declared.fault.ParseFault.TheVariants as faults
use Rattle.cw_grammar.specs.Tokens.{Item, behind}
use Rattle.cw_grammar.specs.Grammar.{Sort, Value, Grammar}
use Rattle.cw_grammar.specs.Derives.{Derives, IsViablePrefix}

-- No longer part from the start of the list is a front, whatever levels it opens.
pub record IsLongestFront (s : Sort) (g : Grammar s) (ts front rest : List Item) : Type 0 where
  pub parts : ts ≡ front ++ rest
  pub is_front : (m : ℕ) × IsViablePrefix m s g front
  pub longest : (m : ℕ) (v r : List Item) → ts ≡ v ++ r → IsViablePrefix m s g v → length v ≤ length front

-- The longest front is a text, which stands for the value and opens at most n levels inside one another.
pub record IsLongestText (n : ℕ) (s : Sort) (g : Grammar s) (ts : List Item) (x : Value s) (rest : List Item) : Type 0 where
  pub text : List Item
  pub longest : IsLongestFront s g ts text rest
  pub derives : Derives n s g text x

-- The longest front opens at most n levels inside one another, and is no text, whatever levels a text may open. Behind it are so many tokens.
pub record IsNoText (n : ℕ) (s : Sort) (g : Grammar s) (ts : List Item) (left : ℕ) : Type 0 where
  pub front : List Item
  pub rest : List Item
  pub longest : IsLongestFront s g ts front rest
  pub is_front : IsViablePrefix n s g front
  pub left_is : length rest ≡ left
  pub no_text : (m : ℕ) (x : Value s) → Derives m s g front x → ⊥

-- Before the last tokens, so many of them, stands a front; with the first of them it is a front that opens one level over n inside one another.
pub record IsDeepAt (n : ℕ) (s : Sort) (g : Grammar s) (ts : List Item) (left : ℕ) : Type 0 where
  pub before : List Item
  pub opening : Item
  pub rest : List Item
  pub parts : ts ≡ before ++ opening ∷ rest
  pub left_is : length rest + 1 ≡ left
  pub is_front : IsViablePrefix n s g before
  pub opens : IsViablePrefix (suc n) s g (before ++ opening ∷ [])
  pub too_deep : IsViablePrefix n s g (before ++ opening ∷ []) → ⊥

-- ---- where a fault stands

abbrev pub line_of : Option token.Token → ℕ
line_of None = 1
line_of (Some t) = t.line

-- the line of the token at a place, from 0; the end of the list has that of the last token, and 1 where there is none
abbrev pub line_at : List token.Token → ℕ → ℕ
line_at ts at = line_of (slice_get ts (min at (length ts - 1)))

abbrev pub kind_of : Option token.Token → Option TokenKind
kind_of None = None
kind_of (Some t) = Some t.kind

-- A fault of syntax at a place. The words of what this profile leaves out have a fault of their own.
abbrev pub syntax_fault_of : Option TokenKind → (line at : ℕ) → ParseFault
syntax_fault_of (Some (kinds.Word words.Floating)) line at = faults.LeftOut words.Floating line
syntax_fault_of (Some (kinds.Word words.Code)) line at = faults.LeftOut words.Code line
syntax_fault_of (Some (kinds.Word words.External)) line at = faults.LeftOut words.External line
syntax_fault_of _ line at = faults.Syntax (at + 1) line

abbrev pub syntax_fault : List token.Token → ℕ → ParseFault
syntax_fault ts at = syntax_fault_of (kind_of (slice_get ts at)) (line_at ts at) at

abbrev pub deep_fault : List token.Token → ℕ → ParseFault
deep_fault ts at = faults.NestTooDeep (at + 1) (line_at ts at)

-- The fault of the tokens from a place on: it stands at the token behind the longest front, or at the one that opens a level over n.
pub data IsFault (n : ℕ) (s : Sort) (g : Grammar s) (ts : List token.Token) (from : ℕ) : ParseFault → Type 0 where
  no_memory : IsFault n s g ts from faults.NoMemory
  no_text : (left : ℕ) → IsNoText n s g (behind ts from) left → IsFault n s g ts from (syntax_fault ts (length ts - left))
  too_deep : (left : ℕ) → IsDeepAt n s g (behind ts from) left → IsFault n s g ts from (deep_fault ts (length ts - left))

-- the value and what is left behind it, or no memory
abbrev pub IsReadOrMemory : {X : Type 0} → X → List Item → List token.Token → Result (X × ℕ) ParseFault → Type 0
IsReadOrMemory x rest ts (Ok y) = (y.0 ≡ x) × (behind ts y.1 ≡ rest)
IsReadOrMemory x rest ts (Err f) = f ≡ faults.NoMemory
