-- The statements of whole texts.
use Rattle.std.proofs.Common.{ℕ, suc, ◌+◌, List, [], ◌∷◌, arith}
use Rattle.std.specs.List.{All}
use Rattle.cw_lex.specs.Lexical.{Lexeme}
use Rattle.cw_tree.specs.declared.segment.Raw.{Raw}
use Rattle.cw_grammar.specs.Tokens.{numbered}
use Rattle.cw_grammar.specs.Grammar.{a_raw}
use Rattle.cw_grammar.specs.Statements.{text}
use Rattle.cw_grammar.specs.Derives.{Derives}
use Rattle.cw_macro.specs.Premises.{Each}
use Rattle.cw_sound.proofs.Expressions.Truth.{le_true}
use Rattle.cw_sound.specs.Ready.Lined.{PositionsFit}
use Rattle.cw_sound.specs.Lines.Counted.{HasLine}
use Rattle.cw_sound.proofs.Lines.Good.{Placed, good}
use Rattle.cw_sound.proofs.Lines.Rules.{rule_keeps, again_keeps, text_keeps}

each_placed : (n : ℕ) (ts : List Lexeme) → All HasLine ts → Each Placed (numbered n ts)
each_placed n [] h = tt
each_placed n (t ∷ ts) h = (
  record { line = le_true 1 t.line (h 0 t (omega arith)); few = omega arith },
  each_placed (n + 1) ts (λ k d l. h (suc k) d (omega (arith, l))),
)

pub positions : (n : ℕ) (ts : List Lexeme) (raw : Raw) → All HasLine ts → Derives n a_raw text (numbered 1 ts) raw → PositionsFit raw
positions n ts raw h d = good (λ s r. rule_keeps r) (λ s a. again_keeps a) d (each_placed 1 ts h) text_keeps
