-- The tokens of a text, and those of a macro's body.
use Rattle.std.proofs.Common.{◌≡◌, ◌≢◌, ℕ, Bool, true, false, not, ◌&&◌, ◌==◌, List, subst}
use Rattle.std.specs.Prelude.{nat_le}
use Rattle.cw_lex.specs.declared.token.Form.{Form}
use Rattle.cw_lex.specs.declared.token.Form.TheVariants.{Source, MacroBody}
use Rattle.cw_lex.specs.declared.token.Word.{Word}
use Rattle.cw_lex.specs.declared.token.Word.TheVariants as words
use Rattle.cw_lex.specs.declared.token.TokenKind.{TokenKind}
use Rattle.cw_lex.specs.declared.token.TokenKind.TheVariants as kinds
use Rattle.cw_lex.specs.Items.{IsItem, IsLiteral, of_character, keeps_limit}
use Rattle.cw_lex.specs.Lexical.{Lexeme, Place, Lexes, at_end, a_gap, a_token, is_token}
use Rattle.cw_macro.specs.Premises.{Each}
use Rattle.cw_spelled.specs.Proper.{IsProperAs, IsProperToken}

true_parts : (a b c : Bool) → (a && (b && c)) ≡ true → (a && b) ≡ true
true_parts true true true h = h
true_parts true true false h = absurd cc
true_parts true false c h = h
true_parts false b c h = h

of_source : (form : Form) (w : List ℕ) → IsLiteral form w → IsLiteral Source w
of_source Source w h = h
of_source MacroBody _ (of_character w gap b h e g k) = of_character w gap b h e g (true_parts (nat_le 32 b) (nat_le b 126) (not (b == 34)) k)

no_comment : (after : Bool) (k : Word) → is_token after (kinds.Word k) ≡ true → k ≢ words.Comment
no_comment after k h e = let f : false ≡ true = subst (λ (z : Word). is_token after (kinds.Word z) ≡ true) e h in absurd cc

proper_item : (form : Form) (after : Bool) (w : List ℕ) (k : TokenKind) → IsItem form w k → is_token after k ≡ true → keeps_limit k w ≡ true → IsProperAs k w
proper_item form after w (kinds.Word k) i t h = (i, no_comment after k t)
proper_item form after w kinds.Name i t h = (i, h)
proper_item form after w kinds.Number i t h = (i, h)
proper_item form after w kinds.Text i t h = i.1
proper_item form after w kinds.BodyText i t h = i.1
proper_item form after w kinds.Literal i t h = of_source form w i
proper_item form after w (kinds.Symbol s) i t h = i

pub proper_tokens : {form : Form} {start : Place} {before rest : List ℕ} {after : Bool} {ts : List Lexeme} → Lexes form start before after rest ts → Each IsProperToken ts
proper_tokens at_end = tt
proper_tokens (a_gap g d) = proper_tokens d
proper_tokens {form = form} (a_token {w = w} {after = after} {kind = kind} l t h d) = (proper_item form after w kind l.is_item t h, proper_tokens d)
