-- The trees of texts.
use Rattle.std.specs.Prelude.{ℕ, List}
use Rattle.cw_lex.specs.Lexical.{Lexeme}
use Rattle.cw_tree.specs.declared.segment.Raw.{Raw}
use Rattle.cw_grammar.specs.Tokens.{numbered}
use Rattle.cw_grammar.specs.Grammar.{a_raw}
use Rattle.cw_grammar.specs.Statements.{text}
use Rattle.cw_grammar.specs.Derives.{Derives}

-- that of these tokens, with no more levels than the first number
abbrev pub IsTreeOf : ℕ → List Lexeme → Raw → Type 0
IsTreeOf n ts raw = Derives n a_raw text (numbered 1 ts) raw
