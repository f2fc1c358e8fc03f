-- What holds of the tokens of a text.
use Rattle.std.specs.Prelude.{ℕ, ◌+◌, ◌≤◌, List, [], ◌∷◌, length, IfSome}
use Rattle.std.specs.Str.{str_to_ascii_uppercase}
use Rattle.cw_lex.specs.declared.token.Form.TheVariants.{Source}
use Rattle.cw_lex.specs.declared.token.TokenKind.{TokenKind}
use Rattle.cw_lex.specs.declared.token.TokenKind.TheVariants as kinds
use Rattle.cw_lex.specs.Lexical.{Lexeme, Tokenizes, first_place}
use Rattle.cw_word.specs.Name.{IsName}
use Rattle.cw_macro.specs.declared.fault.TheConstants.{MOST_BYTES}
use Rattle.cw_macro.specs.Expansion.{Leveled, BodyPart, Own, Parameter, Definitions, Expansion}

abbrev pub Each : {A : Type 0} (P : A → Type 0) → List A → Type 0
Each P [] = Unit {0}
Each P (x ∷ xs) = P x × Each P xs

-- They are all tokens of a text of MOST_BYTES at most.
pub record AreOfText (tokens : List Lexeme) : Type 0 where
  pub text : List ℕ
  pub short : length text ≤ MOST_BYTES
  pub tokenizes : Tokenizes Source first_place text tokens

-- A name has 31 characters at most, and a string its quotes.
abbrev pub HasForm : List ℕ → TokenKind → Type 0
HasForm text kinds.Name = IsName (str_to_ascii_uppercase text)
HasForm text kinds.Text = 2 ≤ length text
HasForm text kinds.BodyText = 4 ≤ length text
HasForm text k = Unit {0}

-- a token that lies within a text
pub record IsWithin (t : Lexeme) : Type 0 where
  pub place : t.at + length t.text ≤ MOST_BYTES
  pub form : HasForm t.text t.kind

pub record IsPlaced (t : Leveled) : Type 0 where
  pub line : t.lexeme.line ≤ MOST_BYTES + 1
  pub within : IsWithin t.lexeme

abbrev pub IsPartWithin : BodyPart → Type 0
IsPartWithin (Own t) = IsWithin t
IsPartWithin (Parameter k) = Unit {0}

abbrev pub AreWithin : Definitions → Type 0
AreWithin definitions = (name : List ℕ) → IfSome (definitions name) (λ m. Each IsPartWithin m.body)

-- All that is held by an expansion comes from one text.
pub record IsSound (e : Expansion) : Type 0 where
  pub left : Each IsPlaced e.left
  pub definitions : AreWithin e.definitions
