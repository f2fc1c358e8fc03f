-- What the code's values stand for, as its private functions compute them.
-- What tokens expand to, Expansion says, and nothing here.
use Rattle.std.specs.Prelude.{◌≡◌, ◌<◌, Bool, true, false, nat_le, if◌then◌else◌, ℕ, Result, Ok, Err, List, [], ◌∷◌, length, map, reverse, Option, Some, None}
use Rattle.std.specs.Option.{option_map}
use Rattle.std.specs.BTreeMap.{btree_map_len, get}
use Rattle.std.specs.Ordering.{nat_cmp}
use Rattle.std.specs.declared.cmp.Ordering.{Ordering}
use Rattle.std.specs.Cmp.Lexicographic.{slice_cmp}
use Rattle.std.specs.Str.{str_to_ascii_uppercase}
use Rattle.cw_lex.specs.Lexical.{Lexeme, view}
use Rattle.cw_macro.specs.declared.left.Item.{Item}
use Rattle.cw_macro.specs.declared.left.Left.{Left}
use Rattle.cw_macro.specs.declared.expansion.Expansion.{Expansion as ExpansionRead}
use Rattle.cw_macro.specs.declared.definition.Run.{Run}
use Rattle.cw_macro.specs.declared.definition.Piece.{Piece}
use Rattle.cw_macro.specs.Premises.{Each}
use Rattle.std.specs.List.{flat_map, slice_get}
use Rattle.cw_macro.specs.declared.definition.Piece.TheVariants as pieces
use Rattle.cw_macro.specs.declared.definition.Macro.{Macro}
use Rattle.cw_macro.specs.declared.definition.Definitions.{Definitions}
use Rattle.cw_macro.specs.declared.definition.Parameters.{Parameters}
use Rattle.cw_macro.specs.declared.definition.Heading.{Heading as HeadingRead}
use Rattle.cw_macro.specs.Expansion.{Leveled, BodyPart, Own, Parameter, Macro as MacroOf, Definitions as Table, Heading, number_of, part}
use Rattle.cw_macro.specs.Expansion.{HasBody, HasNoBody, GivenArguments, Expansion, Step, Moved, Refused, Defining, defined}
use Rattle.cw_macro.specs.declared.fault.TheConstants.{MOST_REPLACED}
use Rattle.cw_macro.specs.declared.fault.MacroFault.{MacroFault}
use Rattle.cw_macro.specs.declared.fault.MacroFault.TheVariants as faults

abbrev pub leveled : Item → Leveled
leveled i = record { lexeme = view i.token; level = i.level }

abbrev pub left_of : Left → List Leveled
left_of left = reverse (map leveled left.items.items)

abbrev pub picked : Option ℕ → List BodyPart
picked None = []
picked (Some k) = Parameter k ∷ []

abbrev pub parts_at : List ℕ → List ℕ → List BodyPart
parts_at numbers picks = flat_map (λ i. picked (slice_get numbers i)) picks

abbrev pub run_parts : Run → List BodyPart
run_parts run = parts_at run.numbers run.picks

-- Each of its parameters has a number.
abbrev pub IsRun : Run → Type 0
IsRun run = Each (λ i. i < length run.numbers) run.picks

abbrev pub parts_of : Piece → List BodyPart
parts_of (pieces.Own t) = Own (view t) ∷ []
parts_of (pieces.Parameters run) = run_parts run

abbrev pub macro_view : Macro → MacroOf
macro_view m = record { parameters = m.parameters; body = flat_map parts_of m.body }

-- the order of names
abbrev pub name_cmp : List ℕ → List ℕ → Ordering
name_cmp = slice_cmp nat_cmp

abbrev pub table_of : Definitions → Table
table_of d name = option_map macro_view (get name_cmp d.macros name)

-- The numbers of these names in their order, from 0.
pub record IsNumbering (numbers : Parameters) (names : List (List ℕ)) : Type 0 where
  pub count : btree_map_len numbers.numbers ≡ length names
  pub each : (name : List ℕ) → get name_cmp numbers.numbers name ≡ number_of name names

-- What is read of parameters: these, with the tokens behind them.
pub record HasParameters (numbers : Parameters) (read : Option (List (List ℕ) × List Leveled)) (rest : List Leveled) : Type 0 where
  pub names : List (List ℕ)
  pub numbering : IsNumbering numbers names
  pub is : read ≡ Some (names, rest)

-- What is read of a heading: this one, with the tokens behind it.
pub record HasHeading (h : HeadingRead) (read : ℕ → Option (Heading × List Leveled)) (rest : List Leveled) : Type 0 where
  pub names : List (List ℕ)
  pub numbering : IsNumbering h.parameters names
  pub is : (line : ℕ) → read line ≡ Some (record { line = line; name = str_to_ascii_uppercase h.name.now; parameters = names; string = view h.string }, rest)

-- What is read of a body: its parts, or nothing.
abbrev pub IsBodyRead : Lexeme → List (List ℕ) → Option (List Piece) → Type 0
IsBodyRead string names None = HasNoBody string
IsBodyRead string names (Some body) = (tokens : List Lexeme) × HasBody string tokens × (flat_map parts_of body ≡ map (part names) tokens)

abbrev pub lists_of : List (List Item) → List (List Leveled)
lists_of = map (map leveled)

-- These arguments are given, with these tokens behind them.
abbrev pub IsGiven : List (List Leveled) → List Leveled → GivenArguments → Type 0
IsGiven [] rest o = ⊥
IsGiven (first ∷ more) rest o = o ≡ Some (first, more, rest)

abbrev pub expansion_of : ExpansionRead → Expansion
expansion_of e = record { done = map view e.done; definitions = table_of e.definitions; left = left_of e.left; count = e.count }

-- What a step leads to,
pub data Follows (e : Expansion) (step : Step) (next : Expansion) : Type 0 where
  moves : step ≡ Moved next → Follows e step next
  defines : {h : Heading} {rest : List Leveled} {body : List Lexeme} → step ≡ Defining h rest → HasBody h.string body
      → next ≡ defined e h rest body → Follows e step next

-- and its fault.
pub data Faults (step : Step) (fault : MacroFault) : Type 0 where
  refuses : step ≡ Refused fault → Faults step fault
  lacks_body : {h : Heading} {rest : List Leveled} → step ≡ Defining h rest → HasNoBody h.string → fault ≡ faults.BadDefine h.line → Faults step fault

abbrev pub IsFaultOf : Step → MacroFault → Type 0
IsFaultOf s faults.NoMemory = Unit {0}
IsFaultOf s fault = Faults s fault

abbrev pub IsMade : {A : Type 0} → Expansion → Step → Result A MacroFault → Expansion → Type 0
IsMade e s (Ok x) next = Follows e s next
IsMade e s (Err fault) next = IsFaultOf s fault

abbrev pub IsCounted : Expansion → Step → Result ℕ MacroFault → List Leveled → Type 0
IsCounted e s (Ok count) left = Follows e s (record e { left = left; count = count })
IsCounted e s (Err fault) left = IsFaultOf s fault

abbrev pub is_nil : {A : Type 0} → List A → Bool
is_nil [] = true
is_nil (x ∷ xs) = false

-- the count, where it is within the limit
abbrev pub within_limit : ℕ → Option ℕ
within_limit n = if nat_le n MOST_REPLACED then Some n else None
