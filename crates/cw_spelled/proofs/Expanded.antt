-- The tokens of an expansion are those of the text, of bodies and of arguments.
use Rattle.std.proofs.Common.{ℕ, List, [], ◌∷◌}
use Rattle.std.specs.Prelude.{All}
use Rattle.std.proofs.lemmas.List.Elements.{All-cons, All-nil}
use Rattle.cw_lex.specs.declared.token.Form.TheVariants.{Source}
use Rattle.cw_lex.specs.Lexical.{Lexeme, Tokenizes, first_place}
use Rattle.cw_macro.specs.Expansion.{Expands}
use Rattle.cw_macro.specs.Premises.{Each}
use Rattle.cw_spelled.specs.Proper.{IsProperToken}
use Rattle.cw_spelled.proofs.Items.{proper_tokens}
use Rattle.cw_spelled.proofs.Carried.{expanded_each}

all_of : (ts : List Lexeme) → Each IsProperToken ts → All IsProperToken ts
all_of [] h = All-nil IsProperToken
all_of (t ∷ ts) h = All-cons IsProperToken t ts h.0 (all_of ts h.1)

pub expanded_proper : (text : List ℕ) (tokens expanded : List Lexeme) → Tokenizes Source first_place text tokens → Expands tokens expanded → All IsProperToken expanded
expanded_proper text tokens expanded d l =
    all_of expanded (expanded_each IsProperToken IsProperToken (λ t h. h) (λ call t p h. h) (λ string body h b. proper_tokens b.tokenizes) tokens expanded (proper_tokens d) l)
