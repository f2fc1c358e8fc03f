-- Grammars that are the same but for their form.
use Rattle.std.specs.Prelude.{ℕ, List}
use Rattle.cw_grammar.specs.Tokens.{Item}
use Rattle.cw_grammar.specs.Grammar.{Sort, Value, Grammar}
use Rattle.cw_grammar.specs.Derives.{Derives, IsViablePrefix}

-- Both derive the same trees from the same tokens within the same levels, and have the same fronts.
pub record IsAlike (s : Sort) (g h : Grammar s) : Type 0 where
  pub derives : (n : ℕ) (u : List Item) (x : Value s) → Derives n s g u x → Derives n s h u x
  pub derived : (n : ℕ) (u : List Item) (x : Value s) → Derives n s h u x → Derives n s g u x
  pub front : (n : ℕ) (u : List Item) → IsViablePrefix n s g u → IsViablePrefix n s h u
  pub is_front : (n : ℕ) (u : List Item) → IsViablePrefix n s h u → IsViablePrefix n s g u
