-- The name of a text's segment is a name of the format.
use Rattle.std.proofs.Common.{◌≡◌, ℕ, List, [], ◌∷◌, length, Bool, true, false, ◌&&◌, ◌||◌, IsTrue, nat_le}
use Rattle.std.specs.Char.{is_ascii_digit, is_ascii_uppercase}
use Rattle.std.specs.List.{list_all}
use Rattle.cw_lex.specs.Lexical.{Lexeme}
use Rattle.cw_tree.specs.declared.segment.Raw.{Raw}
use Rattle.cw_grammar.specs.Tokens.{numbered, is_identifier}
use Rattle.cw_grammar.specs.Grammar.{a_raw}
use Rattle.cw_grammar.specs.Statements.{text}
use Rattle.cw_grammar.specs.Derives.{Derives}
use Rattle.cw_derived.specs.NormalForm as normal
use Rattle.cw_derived.specs.NormalForm.{IsNormal}
use Rattle.cw_derived.proofs.Statements.{text_normal}
use Rattle.cw_derived.proofs.Derived.{derived_normal}
use Rattle.cw_fields.specs.Names.{is_name}

grouped : (a b c : Bool) → IsTrue (a && (b && c)) → IsTrue ((a && b) && c)
grouped true b c h = h
grouped false b c h = absurd (cc)

-- an identifier of a text is a name of the format
pub identifier_is_name : (w : List ℕ) → is_identifier w ≡ true → IsTrue (is_name w)
unfolding Rattle.cw_fields.specs.Names.is_name
identifier_is_name [] h = absurd (cc)
identifier_is_name (b ∷ bs) h = grouped (is_ascii_uppercase b) (list_all (λ x. is_ascii_uppercase x || is_ascii_digit x) (b ∷ bs)) (nat_le (length (b ∷ bs)) 31) h

raw_named : {n : ℕ} {x : Raw} {a : List ℕ} → IsNormal n false a_raw x a → IsTrue (is_name x.name)
raw_named (normal.is_raw f tokens h e k) = identifier_is_name f e

pub segment_named : (n : ℕ) (ts : List Lexeme) (raw : Raw) → Derives n a_raw text (numbered 1 ts) raw → IsTrue (is_name raw.name)
segment_named n ts raw d = raw_named (derived_normal false text_normal d).normal
