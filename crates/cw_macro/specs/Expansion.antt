-- Macro expansion. Official Definition of CORAL 66, "Macro facility"; the levels, the limits and the order of the faults are this project's profile.
use Rattle.std.specs.Prelude.{◌≡◌, ℕ, zero, suc, ◌+◌, ◌-◌, Bool, true, false, not, ◌==◌, ◌&&◌, nat_lt, nat_le, max, List, []}
use Rattle.std.specs.Prelude.{◌∷◌, ◌++◌, length, take, drop, map, Option, Some, None, Result, Ok, Err, if◌then◌else◌}
use Rattle.std.specs.List.{list_any, flat_map, slice_get}
use Rattle.std.specs.Option.{option_map, option_map_or, is_some}
use Rattle.std.specs.Str.{bytes_eq, str_to_ascii_uppercase}
use Rattle.cw_lex.specs.declared.token.Form.TheVariants.{MacroBody}
use Rattle.cw_lex.specs.declared.token.Word.TheVariants as words
use Rattle.cw_lex.specs.declared.token.Symbol.TheVariants as symbols
use Rattle.cw_lex.specs.declared.token.TokenKind.{TokenKind}
use Rattle.cw_lex.specs.declared.token.TokenKind.TheVariants as kinds
use Rattle.cw_lex.specs.declared.token.LexFault.{LexFault}
use Rattle.cw_lex.specs.declared.token.Token.{Token}
use Rattle.cw_lex.specs.Lexical.{Lexeme, Place, view, Tokenizes, IsFirstFault, is_semicolon}
use Rattle.cw_macro.specs.declared.fault.MacroFault.{MacroFault}
use Rattle.cw_macro.specs.declared.fault.MacroFault.TheVariants as faults
use Rattle.cw_macro.specs.declared.fault.TheConstants.{MOST_LEVELS, MOST_TOKENS, MOST_REPLACED}
use Rattle.cw_macro.specs.declared.arguments.Bracket.{Bracket}
use Rattle.cw_macro.specs.declared.arguments.Bracket.TheVariants.{Round, Square}
use Rattle.cw_macro.specs.declared.arguments.Role.{Role}
use Rattle.cw_macro.specs.declared.arguments.Role.TheVariants.{Inside, Separates, Ends, Mismatched}

-- a token left, with the level of the calls that brought it: 0 for those of the text
pub record Leveled : Type 0 where
  pub lexeme : Lexeme
  pub level : ℕ

-- a part of a macro's body: a token, or the parameter of this number, counted from 0
pub data BodyPart : Type 0 where
  Own : Lexeme → BodyPart
  Parameter : ℕ → BodyPart

-- what a name is defined as
pub record Macro : Type 0 where
  pub parameters : ℕ
  pub body : List BodyPart

-- The definitions in force, by names in upper case.
abbrev pub Definitions : Type 0
Definitions = List ℕ → Option Macro

abbrev pub redefined : Definitions → List ℕ → Option Macro → Definitions
redefined definitions name macro n = if bytes_eq name n then macro else definitions n

-- The tokens done, the definitions in force, and the tokens left; and how many tokens the text has, with one and the
-- tokens of its replacement for each replaced call.
pub record Expansion : Type 0 where
  pub done : List Lexeme
  pub definitions : Definitions
  pub left : List Leveled
  pub count : ℕ

-- ---- tokens

abbrev pub is_name : TokenKind → Bool
is_name kinds.Name = true
is_name _ = false

abbrev pub is_string : TokenKind → Bool
is_string kinds.Text = true
is_string kinds.BodyText = true
is_string _ = false

abbrev pub is_open : TokenKind → Bool
is_open (kinds.Symbol symbols.Open) = true
is_open _ = false

abbrev pub is_close : TokenKind → Bool
is_close (kinds.Symbol symbols.Close) = true
is_close _ = false

abbrev pub is_comma : TokenKind → Bool
is_comma (kinds.Symbol symbols.Comma) = true
is_comma _ = false

-- DEFINE or DELETE
abbrev pub defines : TokenKind → Bool
defines (kinds.Word words.Define) = true
defines (kinds.Word words.Delete) = true
defines _ = false

-- Names compare without case.
abbrev pub name_of : Lexeme → List ℕ
name_of t = str_to_ascii_uppercase t.text

-- the number of the parameter of this name, counted from 0
abbrev pub number_of : List ℕ → List (List ℕ) → Option ℕ
number_of name [] = None
number_of name (p ∷ ps) = if bytes_eq name p then Some 0 else option_map suc (number_of name ps)

-- ---- definitions

-- what stands before a body: DEFINE's line, the name, the parameters, and the string with the body
pub record Heading : Type 0 where
  pub line : ℕ
  pub name : List ℕ
  pub parameters : List (List ℕ)
  pub string : Lexeme

-- Parameters of different names, with commas between them, up to a closing bracket; and the tokens behind it. Some stand before.
abbrev pub parameters : List (List ℕ) → List Leveled → Option (List (List ℕ) × List Leveled)
parameters before (name ∷ mark ∷ rest) =
    let names = before ++ name_of name.lexeme ∷ [] in
    if is_name name.lexeme.kind && not (is_some (number_of (name_of name.lexeme) before))
    then (if is_comma mark.lexeme.kind then parameters names rest else (if is_close mark.lexeme.kind then Some (names, rest) else None))
    else None
parameters before _ = None

-- no parameters, or those in brackets
abbrev pub parameters_if_any : List Leveled → Option (List (List ℕ) × List Leveled)
parameters_if_any [] = Some ([], [])
parameters_if_any (t ∷ rest) = if is_open t.lexeme.kind then parameters [] rest else Some ([], t ∷ rest)

-- the string and the semicolon behind the parameters
abbrev pub closed : ℕ → List ℕ → Option (List (List ℕ) × List Leveled) → Option (Heading × List Leveled)
closed line name (Some (ps, string ∷ mark ∷ rest)) =
    if is_string string.lexeme.kind && is_semicolon mark.lexeme.kind
    then Some (record { line = line; name = name; parameters = ps; string = string.lexeme }, rest) else None
closed line name _ = None

-- what stands behind DEFINE, up to its semicolon, and the tokens behind that
abbrev pub heading_of : ℕ → List Leveled → Option (Heading × List Leveled)
heading_of line [] = None
heading_of line (t ∷ rest) = if is_name t.lexeme.kind then closed line (name_of t.lexeme) (parameters_if_any rest) else None

-- A string of the source has one byte for its quote, and one of a body two.
abbrev pub quote_length : TokenKind → ℕ
quote_length kinds.BodyText = 2
quote_length _ = 1

abbrev pub body_place : Lexeme → Place
body_place string = record { line = string.line; at = string.at + quote_length string.kind }

-- what stands between the quotes
abbrev pub body_text : Lexeme → List ℕ
body_text string = let quote = quote_length string.kind in take (length string.text - quote - quote) (drop quote string.text)

-- The string's body has these tokens, and no DEFINE or DELETE among them.
pub record HasBody (string : Lexeme) (body : List Lexeme) : Type 0 where
  pub tokenizes : Tokenizes MacroBody (body_place string) (body_text string) body
  pub defines_nothing : list_any (λ t. defines t.kind) body ≡ false

-- The string's body has a fault, or a DEFINE or DELETE.
pub data HasNoBody (string : Lexeme) : Type 0 where
  faulty : {fault : LexFault} → IsFirstFault MacroBody (body_place string) (body_text string) fault → HasNoBody string
  redefining : {body : List Lexeme} → Tokenizes MacroBody (body_place string) (body_text string) body
      → list_any (λ t. defines t.kind) body ≡ true → HasNoBody string

abbrev pub part_if_any : Lexeme → Option ℕ → BodyPart
part_if_any t None = Own t
part_if_any t (Some k) = Parameter k

-- A name that is a parameter stands for its argument.
abbrev pub part : List (List ℕ) → Lexeme → BodyPart
part ps t = if is_name t.kind then part_if_any t (number_of (name_of t) ps) else Own t

abbrev pub macro_of : List (List ℕ) → List Lexeme → Macro
macro_of ps body = record { parameters = length ps; body = map (part ps) body }

-- ---- calls

-- What a token is inside an argument, behind the innermost bracket that is open in it: brackets are nested, and a
-- comma or a closing bracket outside them ends the argument.
abbrev pub role_of : Option Bracket → TokenKind → Role
role_of None (kinds.Symbol symbols.Comma) = Separates
role_of None (kinds.Symbol symbols.Close) = Ends
role_of None (kinds.Symbol symbols.CloseSquare) = Mismatched
role_of (Some Round) (kinds.Symbol symbols.CloseSquare) = Mismatched
role_of (Some Square) (kinds.Symbol symbols.Close) = Mismatched
role_of b k = Inside

abbrev pub innermost : List Bracket → Option Bracket
innermost [] = None
innermost (b ∷ bs) = Some b

abbrev pub outer : List Bracket → List Bracket
outer [] = []
outer (b ∷ bs) = bs

-- the brackets that are open behind a token, innermost first
abbrev pub open_behind : TokenKind → List Bracket → List Bracket
open_behind (kinds.Symbol symbols.Open) bs = Round ∷ bs
open_behind (kinds.Symbol symbols.OpenSquare) bs = Square ∷ bs
open_behind (kinds.Symbol symbols.Close) bs = outer bs
open_behind (kinds.Symbol symbols.CloseSquare) bs = outer bs
open_behind k bs = bs

-- the first argument, the others, and the tokens behind their closing bracket
abbrev pub GivenArguments : Type 0
GivenArguments = Option (List Leveled × List (List Leveled) × List Leveled)

abbrev pub with_token : Leveled → GivenArguments → GivenArguments
with_token t None = None
with_token t (Some (first, more, rest)) = Some (t ∷ first, more, rest)

abbrev pub with_argument : GivenArguments → GivenArguments
with_argument None = None
with_argument (Some (first, more, rest)) = Some ([], first ∷ more, rest)

-- a token, before what the tokens behind it give
abbrev pub given : Role → Leveled → List Leveled → GivenArguments → GivenArguments
given Inside t rest behind = with_token t behind
given Separates t rest behind = with_argument behind
given Ends t rest behind = Some ([], [], rest)
given Mismatched t rest behind = None

-- The arguments up to their closing bracket, with commas between them. Some brackets are open in the first.
abbrev pub arguments : List Bracket → List Leveled → GivenArguments
arguments bs [] = None
arguments bs (t ∷ rest) = given (role_of (innermost bs) t.lexeme.kind) t rest (arguments (open_behind t.lexeme.kind bs) rest)

-- so many arguments, and the tokens behind them
abbrev pub counted : ℕ → GivenArguments → Option (List (List Leveled) × List Leveled)
counted n None = None
counted n (Some (first, more, rest)) = if suc (length more) == n then Some (first ∷ more, rest) else None

-- the arguments in brackets of a macro with so many parameters; one without parameters has no brackets
abbrev pub argument_list : ℕ → List Leveled → Option (List (List Leveled) × List Leveled)
argument_list zero rest = Some ([], rest)
argument_list (suc n) [] = None
argument_list (suc n) (t ∷ rest) = if is_open t.lexeme.kind then counted (suc n) (arguments [] rest) else None

abbrev pub tokens_of : List (List Leveled) → BodyPart → List Leveled
tokens_of args (Own t) = record { lexeme = t; level = 0 } ∷ []
tokens_of args (Parameter k) = option_map_or (λ a. a) (slice_get args k) []

-- A token that a call brings has the line of the call, and at least the level above it.
abbrev pub brought : Leveled → Leveled → Leveled
brought call t = record { lexeme = record t.lexeme { line = call.lexeme.line }; level = max t.level (call.level + 1) }

-- what stands for a call
abbrev pub replacement : Leveled → List BodyPart → List (List Leveled) → List Leveled
replacement call body args = map (brought call) (flat_map (tokens_of args) body)

-- ---- steps

-- What a step does: nothing is left; it has no legal result; it gives the next expansion; or it reads the body of a definition, with these tokens behind.
pub data Step : Type 0 where
  Finished : Step
  Refused : MacroFault → Step
  Moved : Expansion → Step
  Defining : Heading → List Leveled → Step

-- A token moves to the tokens done, of which there are MOST_TOKENS at most.
abbrev pub moving : Expansion → Leveled → List Leveled → Step
moving e t rest = if nat_lt (length e.done) MOST_TOKENS
    then Moved (record e { done = e.done ++ t.lexeme ∷ []; left = rest }) else Refused (faults.TooLong t.lexeme.line)

abbrev pub defining : ℕ → Option (Heading × List Leveled) → Step
defining line None = Refused (faults.BadDefine line)
defining line (Some (h, rest)) = Defining h rest

abbrev pub defined : Expansion → Heading → List Leveled → List Lexeme → Expansion
defined e h rest body = record e { definitions = redefined e.definitions h.name (Some (macro_of h.parameters body)); left = rest }

abbrev pub removing : Expansion → ℕ → List ℕ → Option Macro → List Leveled → Step
removing e line name None rest = Refused (faults.NoSuchMacro line)
removing e line name (Some m) rest = Moved (record e { definitions = redefined e.definitions name None; left = rest })

abbrev pub deleting : Expansion → ℕ → List Leveled → Step
deleting e line (name ∷ mark ∷ rest) =
    if is_name name.lexeme.kind && is_semicolon mark.lexeme.kind
    then removing e line (name_of name.lexeme) (e.definitions (name_of name.lexeme)) rest
    else Refused (faults.BadDefine line)
deleting e line _ = Refused (faults.BadDefine line)

-- The replacement of a call goes in front of the tokens left.
abbrev pub replacing : Expansion → Leveled → List BodyPart → Option (List (List Leveled) × List Leveled) → Step
replacing e call body None = Refused (faults.BadCall call.lexeme.line)
replacing e call body (Some (args, rest)) =
    let brings = replacement call body args in
    let count = e.count + 1 + length brings in
    if nat_le count MOST_REPLACED then Moved (record e { left = brings ++ rest; count = count }) else Refused (faults.TooLong call.lexeme.line)

-- A defined name is a call.
abbrev pub naming : Expansion → Leveled → Option Macro → List Leveled → Step
naming e t None rest = moving e t rest
naming e t (Some m) rest = if nat_lt t.level MOST_LEVELS then replacing e t m.body (argument_list m.parameters rest) else Refused (faults.TooDeep t.lexeme.line)

abbrev pub step_at : Expansion → Leveled → List Leveled → TokenKind → Step
step_at e t rest (kinds.Word words.Define) = defining t.lexeme.line (heading_of t.lexeme.line rest)
step_at e t rest (kinds.Word words.Delete) = deleting e t.lexeme.line rest
step_at e t rest kinds.Name = naming e t (e.definitions (name_of t.lexeme)) rest
step_at e t rest k = moving e t rest

abbrev pub step_in : Expansion → List Leveled → Step
step_in e [] = Finished
step_in e (t ∷ rest) = step_at e t rest t.lexeme.kind

-- the step at the first token left
abbrev pub expansion_step : Expansion → Step
expansion_step e = step_in e e.left

-- Step after step leads to the tokens done where none is left, or to the fault of the first step without a legal result.
pub data Leads : Expansion → Result (List Lexeme) MacroFault → Type 0 where
  finished : {e : Expansion} → expansion_step e ≡ Finished → Leads e (Ok e.done)
  refused : {e : Expansion} {fault : MacroFault} → expansion_step e ≡ Refused fault → Leads e (Err fault)
  moved : {e next : Expansion} {r : Result (List Lexeme) MacroFault} → expansion_step e ≡ Moved next → Leads next r → Leads e r
  with_body : {e : Expansion} {h : Heading} {rest : List Leveled} {body : List Lexeme}
      {r : Result (List Lexeme) MacroFault} → expansion_step e ≡ Defining h rest → HasBody h.string body
      → Leads (defined e h rest body) r → Leads e r
  no_body : {e : Expansion} {h : Heading} {rest : List Leveled} → expansion_step e ≡ Defining h rest
      → HasNoBody h.string → Leads e (Err (faults.BadDefine h.line))

abbrev pub of_text : Lexeme → Leveled
of_text t = record { lexeme = t; level = 0 }

abbrev pub start : List Lexeme → Expansion
start tokens = record { done = []; definitions = λ name. None; left = map of_text tokens; count = length tokens }

-- The tokens of a text expand to these.
abbrev pub Expands : List Lexeme → List Lexeme → Type 0
Expands tokens result = Leads (start tokens) (Ok result)

-- The first fault of their expansion.
abbrev pub FailsToExpand : List Lexeme → MacroFault → Type 0
FailsToExpand tokens fault = Leads (start tokens) (Err fault)

-- What the preprocessor answers: the tokens, or the first fault, unless memory runs out.
abbrev pub IsExpansion : List Lexeme → Result (List Token) MacroFault → Type 0
IsExpansion tokens (Ok result) = Expands tokens (map view result)
IsExpansion tokens (Err faults.NoMemory) = Unit {0}
IsExpansion tokens (Err fault) = FailsToExpand tokens fault

-- Tokens have at most one result or first fault, and not both.
abbrev pub HasOneOutcome : Type 0
HasOneOutcome = (tokens : List Lexeme) (r s : Result (List Lexeme) MacroFault) → Leads (start tokens) r → Leads (start tokens) s → r ≡ s
