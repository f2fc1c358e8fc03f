-- Tokens whose lines are counted from 1.
use Rattle.std.specs.Prelude.{◌≤◌}
use Rattle.cw_lex.specs.Lexical.{Lexeme}

abbrev pub HasLine : Lexeme → Type 0
HasLine t = 1 ≤ t.line
