-- What comes of a text is one thing.
use Rattle.std.specs.Prelude.{◌≡◌, ℕ, ◌≤◌, List, length}
use Rattle.cw_lex.specs.Lexical.{Lexeme}
use Rattle.cw_unit.specs.declared.unit.Unit.{Unit as SourceUnit}
use Rattle.cw_compile.specs.declared.fault.Refusal.{Refusal}
use Rattle.cw_compile.specs.Texts.{ExpandsTo, IsUnitOf, IsRefused}

-- a text has at most one unit,
abbrev pub HasOneUnit : Type 0
HasOneUnit = (text : List ℕ) (u v : SourceUnit) → IsUnitOf text u → IsUnitOf text v → u ≡ v

-- is refused for one fault at most,
abbrev pub HasOneRefusal : Type 0
HasOneRefusal = (text : List ℕ) (f g : Refusal) → IsRefused text f → IsRefused text g → f ≡ g

-- and not both.
abbrev pub HasNotBoth : Type 0
HasNotBoth = (text : List ℕ) (u : SourceUnit) (f : Refusal) → IsUnitOf text u → IsRefused text f → ⊥

-- A text expands to at most 65,535 tokens,
abbrev pub HasFewTokens : Type 0
HasFewTokens = (text : List ℕ) (expanded : List Lexeme) → ExpandsTo text expanded → length expanded ≤ 65535

-- and its unit tells how many they are.
abbrev pub CountsTokens : Type 0
CountsTokens = (text : List ℕ) (u : SourceUnit) (expanded : List Lexeme) → IsUnitOf text u → ExpandsTo text expanded → u.tokens ≡ length expanded
