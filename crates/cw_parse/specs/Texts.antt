-- What stands in a list of tokens that is no text.
use Rattle.std.specs.Prelude.{◌≡◌, ℕ, ◌-◌, List, [], length, Result, Ok, Err}
use Rattle.cw_lex.specs.declared.token.Token as token
use Rattle.cw_tree.specs.declared.segment.Raw.{Raw}
use Rattle.cw_grammar.specs.declared.fault.ParseFault.{ParseFault}
use Rattle.cw_grammar.specs.declared.fault.ParseFault.TheVariants as faults
use Rattle.cw_grammar.specs.Tokens.{Item, items}
use Rattle.cw_grammar.specs.Grammar.{Sort, a_raw, Value, Grammar}
use Rattle.cw_grammar.specs.Statements.{text}
use Rattle.cw_grammar.specs.Derives.{Derives, IsViablePrefix}
use Rattle.cw_grammar.specs.Parsing.{IsLongestFront, IsDeepAt, syntax_fault, deep_fault}

-- The longest front opens at most n levels inside one another, and it is not the whole list or is no text, whatever
-- levels a text may open. Behind it are so many tokens.
pub record IsNoWhole (n : ℕ) (s : Sort) (g : Grammar s) (ts : List Item) (left : ℕ) : Type 0 where
  pub front : List Item
  pub rest : List Item
  pub longest : IsLongestFront s g ts front rest
  pub is_front : IsViablePrefix n s g front
  pub left_is : length rest ≡ left
  pub no_text : (m : ℕ) (x : Value s) → rest ≡ [] → Derives m s g front x → ⊥

-- The first fault of a list that is no text: it stands at the token behind the longest front, or at the one that opens a level over 64.
pub data IsTextFault (ts : List token.Token) : ParseFault → Type 0 where
  no_memory : IsTextFault ts faults.NoMemory
  no_text : (left : ℕ) → IsNoWhole 64 a_raw text (items ts) left → IsTextFault ts (syntax_fault ts (length ts - left))
  too_deep : (left : ℕ) → IsDeepAt 64 a_raw text (items ts) left → IsTextFault ts (deep_fault ts (length ts - left))

abbrev pub IsTreeOrMemory : Raw → Result Raw ParseFault → Type 0
IsTreeOrMemory x (Ok y) = y ≡ x
IsTreeOrMemory x (Err f) = f ≡ faults.NoMemory
