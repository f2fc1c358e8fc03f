-- The codes of symbols and words stand behind those of the other kinds of tokens.
use Rattle.std.proofs.Common.{ℕ, ◌<◌, arith}
use Rattle.cw_lex.specs.declared.token.Symbol.{Symbol}
use Rattle.cw_lex.specs.declared.token.Symbol.TheVariants as symbols
use Rattle.cw_lex.specs.declared.token.Word.{Word}
use Rattle.cw_lex.specs.declared.token.Word.TheVariants as words
use Rattle.cw_grammar.specs.Tokens.{symbol_code, word_code}

pub symbol_after : (s : Symbol) → 3 < symbol_code s
symbol_after symbols.Semicolon = omega arith
symbol_after _ = omega arith

pub word_after : (w : Word) → 3 < word_code w
word_after words.Absolute = omega arith
word_after _ = omega arith
