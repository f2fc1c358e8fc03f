-- The tokens of an expansion have lines: those of the text have them, and those that a call brings have the line of the call.
use Rattle.std.proofs.Common.{ℕ, ◌≤◌, Bool, List, [], ◌∷◌, arith}
use Rattle.std.specs.Prelude.{All}
use Rattle.std.proofs.lemmas.List.Elements.{All-cons, All-nil}
use Rattle.cw_lex.specs.declared.token.Form.{Form}
use Rattle.cw_lex.specs.declared.token.Form.TheVariants.{Source}
use Rattle.cw_lex.specs.Lexical.{Lexeme, Place, Lexes, at_end, a_gap, a_token, Tokenizes, first_place}
use Rattle.cw_macro.specs.Expansion.{Expands}
use Rattle.cw_macro.specs.Premises.{Each}
use Rattle.cw_spelled.proofs.Carried.{expanded_each}
use Rattle.cw_sound.specs.Lines.Counted.{HasLine}

nothing_asked : (ts : List Lexeme) → Each (λ t. Unit {0}) ts
nothing_asked [] = tt
nothing_asked (t ∷ ts) = (tt, nothing_asked ts)

all_of : (ts : List Lexeme) → Each HasLine ts → All HasLine ts
all_of [] h = All-nil HasLine
all_of (t ∷ ts) h = All-cons HasLine t ts h.0 (all_of ts h.1)

-- the tokens of a text that begins on a line counted from 1
tokens_lined : {form : Form} {start : Place} {before rest : List ℕ} {after : Bool} {ts : List Lexeme} → 1 ≤ start.line → Lexes form start before after rest ts → Each HasLine ts
tokens_lined l at_end = tt
tokens_lined l (a_gap g d) = tokens_lined l d
tokens_lined l (a_token i t h d) = (omega (arith, l), tokens_lined l d)

pub expanded_lined : (text : List ℕ) (tokens expanded : List Lexeme) → Tokenizes Source first_place text tokens → Expands tokens expanded → All HasLine expanded
expanded_lined text tokens expanded d l = all_of expanded (expanded_each HasLine (λ t. Unit {0}) (λ t h. tt) (λ call t h u. h) (λ string body h b. nothing_asked body) tokens expanded (tokens_lined (omega arith) d) l)
