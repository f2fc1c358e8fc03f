-- Operands with an operator between any two.
use Rattle.std.specs.Prelude.{Bool, List, length}
use Rattle.cw_grammar.specs.Tokens.{Item}
use Rattle.cw_grammar.specs.Trees.{Operands, extended}
use Rattle.cw_grammar.specs.Reading.{Read, repeat}
use Rattle.cw_series.specs.Series.{both, made}

-- the operands that are there, and all that follow, each behind an operator
abbrev pub chained : {A B : Type 0} → Operands A B → (List Item → Bool) → (List Item → Read B) → (List Item → Read A) → List Item → Read (Operands A B)
chained start begins operator operand ts = made (extended start) (repeat (length ts) begins (both operator operand) ts)
