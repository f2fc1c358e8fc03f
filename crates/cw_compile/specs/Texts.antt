-- From a text to its unit, pass by pass; and why a text has none.
use Rattle.std.specs.Prelude.{◌≡◌, ◌≢◌, ℕ, List, map, Ok, Err}
use Rattle.cw_lex.specs.declared.token.Form.TheVariants.{Source}
use Rattle.cw_lex.specs.declared.token.Token.{Token}
use Rattle.cw_lex.specs.Lexical.{Lexeme, view, first_place, Tokenizes, IsFirstFault}
use Rattle.cw_macro.specs.Expansion.{Expands, FailsToExpand}
use Rattle.cw_tree.specs.declared.segment.Raw.{Raw}
use Rattle.cw_grammar.specs.declared.fault.ParseFault.{ParseFault}
use Rattle.cw_grammar.specs.declared.fault.ParseFault.TheVariants as parsing
use Rattle.cw_grammar.specs.Tokens.{numbered}
use Rattle.cw_grammar.specs.Grammar.{a_raw}
use Rattle.cw_grammar.specs.Derives.{Derives}
use Rattle.cw_grammar.specs.Statements as grammar
use Rattle.cw_parse.specs.Texts.{IsTextFault}
use Rattle.cw_scope.specs.declared.resolve.Named.{Named}
use Rattle.cw_scope.specs.declared.resolve.ScopeFault.{ScopeFault}
use Rattle.cw_scope.specs.declared.resolve.ScopeFault.TheVariants as naming
use Rattle.cw_scope.specs.Outcome.{Resolves}
use Rattle.cw_type.specs.declared.check.TypeFault.{TypeFault}
use Rattle.cw_type.specs.declared.check.TypeFault.TheVariants as typing
use Rattle.cw_type.specs.Outcome.{Judges}
use Rattle.cw_unit.specs.declared.unit.Unit.{Unit as SourceUnit}
use Rattle.cw_make.specs.Made.{unit_of}
use Rattle.cw_show.specs.StatementTokens.{canonical_text}
use Rattle.cw_compile.specs.declared.fault.Refusal.{Refusal}
use Rattle.cw_compile.specs.declared.fault.Refusal.TheVariants.{Lex, Macro, Parse, Scope, Typing}
use Rattle.cw_compile.specs.declared.fault.UnitFault.{UnitFault}
use Rattle.cw_compile.specs.declared.fault.UnitFault.TheVariants.{Refused, NoMemory}

-- the most bytes of a source text
abbrev pub text_limit : ℕ
text_limit = 1048576

-- the most levels that are open inside one another
abbrev pub most_levels : ℕ
most_levels = 64

-- ---- a text, pass by pass

-- The text has tokens, which expand to these.
pub record ExpandsTo (text : List ℕ) (expanded : List Lexeme) : Type 0 where
  pub tokens : List Lexeme
  pub tokenizes : Tokenizes Source first_place text tokens
  pub expands : Expands tokens expanded

-- These are a text of the grammar, and this is its tree.
pub record HasTree (text : List ℕ) (raw : Raw) : Type 0 where
  pub expanded : List Lexeme
  pub expands : ExpandsTo text expanded
  pub derives : Derives most_levels a_raw grammar.text (numbered 1 expanded) raw

-- No rule of names is broken, and these are the declarations to which the names of the tree refer.
pub record HasNames (text : List ℕ) (named : Named) : Type 0 where
  pub tree : HasTree text named.raw.now
  pub resolves : Resolves named.raw.now (Ok named)

-- And no rule of types is broken.
pub record HasTypes (text : List ℕ) (named : Named) : Type 0 where
  pub names : HasNames text named
  pub judges : Judges named (Ok tt)

-- the unit of the text
pub record IsUnitOf (text : List ℕ) (unit : SourceUnit) : Type 0 where
  pub named : Named
  pub has : HasTypes text named
  pub unit_is : unit ≡ unit_of named

-- the canonical text of a text that has a unit
pub record IsCanonicalOf (text shown : List ℕ) : Type 0 where
  pub named : Named
  pub has : HasTypes text named
  pub shown_is : shown ≡ canonical_text named.raw.now

-- ---- why a text has no unit

-- The first fault of each pass; the passes before it find none.
abbrev pub IsRefused : (text : List ℕ) → Refusal → Type 0
IsRefused text (Lex fault) = IsFirstFault Source first_place text fault
IsRefused text (Macro fault) = (tokens : List Lexeme) × Tokenizes Source first_place text tokens × FailsToExpand tokens fault
IsRefused text (Parse fault) = (tokens : List Token) × ExpandsTo text (map view tokens) × IsTextFault tokens fault × (fault ≢ parsing.NoMemory)
IsRefused text (Scope fault) = (raw : Raw) × HasTree text raw × Resolves raw (Err fault) × (fault ≢ naming.NoMemory)
IsRefused text (Typing fault) = (named : Named) × HasNames text named × Judges named (Err fault) × (fault ≢ typing.NoMemory)

-- want of memory is free
abbrev pub IsFaultOf : (text : List ℕ) → UnitFault → Type 0
IsFaultOf text (Refused refusal) = IsRefused text refusal
IsFaultOf text NoMemory = Unit {0}
