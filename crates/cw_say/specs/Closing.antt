-- The number of each status, and the line that closes what is told of a run.
use Rattle.std.specs.Prelude.{ℕ, ◌-◌, ◌==◌, List, [], ◌++◌, Option, None, Some, slice_get, slice_index_or, codes, decimal, if◌then◌else◌}
use Rattle.cw_say.specs.declared.status.Status.{Status}
use Rattle.cw_say.specs.declared.status.Status.TheVariants.{Ended, Usage, Refused, Unlinked, Stopped, Unfinished, NoFile, Outside, NoMemory}
use Rattle.cw_say.specs.declared.status.Status.TheVariants.{BadFile, TooLong, BadCode, Divided, TooMany, NoPlace, NoItem}
use Rattle.cw_link.specs.declared.fault.LinkFault.{LinkFault}
use Rattle.cw_link.specs.declared.fault.LinkFault.TheVariants.{SegmentTwice, Differs, DefinedTwice, Undefined, AbsoluteOutside}
use Rattle.cw_link.specs.declared.fault.LinkFault.TheVariants.{DataTooBig, ControlTooBig, PresetClash, CodeTooBig}
use Rattle.cw_link.specs.declared.fault.LinkFault.TheVariants as linking
use Rattle.cw_view.specs.declared.fault.ObjFault.{ObjFault}
use Rattle.cw_view.specs.declared.fault.ObjFault.TheVariants as objects
use Rattle.cw_image.specs.declared.fault.ImageFault.{ImageFault}
use Rattle.cw_image.specs.declared.fault.ImageFault.TheVariants as images
use Rattle.cw_hex.specs.declared.fault.HexFault.{HexFault}
use Rattle.cw_hex.specs.declared.fault.HexFault.TheVariants as hex
use Rattle.cw_lib.specs.declared.fault.LibFault.{LibFault}
use Rattle.cw_lib.specs.declared.fault.LibFault.TheVariants as libraries
use Rattle.cw_say.specs.declared.status.Bad.{Bad}
use Rattle.cw_say.specs.declared.status.Bad.TheVariants as bad
use Rattle.cw_compile.specs.declared.fault.Refusal.{Refusal}
use Rattle.cw_compile.specs.declared.fault.Refusal.TheVariants.{Lex, Macro, Parse, Scope, Typing}
use Rattle.cw_lex.specs.declared.token.LexFault.{LexFault}
use Rattle.cw_lex.specs.declared.token.LexFault.TheVariants as lexical
use Rattle.cw_macro.specs.declared.fault.MacroFault.{MacroFault}
use Rattle.cw_macro.specs.declared.fault.MacroFault.TheVariants as expansion
use Rattle.cw_lex.specs.declared.token.Word.{Word}
use Rattle.cw_lex.specs.declared.token.Word.TheVariants as words
use Rattle.cw_grammar.specs.declared.fault.ParseFault.{ParseFault}
use Rattle.cw_grammar.specs.declared.fault.ParseFault.TheVariants as parsing
use Rattle.cw_scope.specs.declared.resolve.ScopeFault.{ScopeFault}
use Rattle.cw_scope.specs.declared.resolve.ScopeFault.TheVariants as naming
use Rattle.cw_compile.specs.types.declared.check.TypeFault.{TypeFault}
use Rattle.cw_compile.specs.types.declared.check.TypeFault.TheVariants as typing
use Rattle.cw_say.specs.declared.status.Which.{Which}
use Rattle.cw_say.specs.declared.status.Which.TheVariants.{Store, Input, Out, Say}
use Rattle.cw_say.specs.declared.status.Long.{Long}
use Rattle.cw_say.specs.declared.status.Long.TheVariants.{File}
use Rattle.cw_say.specs.declared.status.Long.TheVariants as long

abbrev pub status_code : Status → ℕ
status_code Ended = 0
status_code Usage = 1
status_code (Refused file fault) = 2
status_code (Unlinked fault) = 3
status_code (Stopped kind segment line) = 4
status_code (Unfinished steps) = 5
status_code (NoFile file) = 6
status_code (Outside which) = 7
status_code NoMemory = 8
status_code (BadFile file fault) = 9
status_code (TooLong long) = 10
status_code (BadCode offset) = 11
status_code (Divided offset) = 12
status_code (TooMany count) = 13
status_code NoPlace = 14
status_code (NoItem index) = 15

-- the file with this number
abbrev pub file_name : (names : List (List ℕ)) → ℕ → List ℕ
file_name names file = slice_index_or names file []

abbrev pub which_name : Which → List ℕ
which_name Store = codes "store"
which_name Input = codes "input"
which_name Out = codes "out"
which_name Say = codes "say"

-- the names of the stops
abbrev pub stop_name : ℕ → Option (List ℕ)
stop_name kind =
    if kind == 1 then Some (codes "Overflow")
    else if kind == 2 then Some (codes "ZeroDivisor")
    else if kind == 3 then Some (codes "Switch")
    else if kind == 4 then Some (codes "Address")
    else if kind == 5 then Some (codes "Frames")
    else if kind == 6 then Some (codes "Depth")
    else if kind == 7 then Some (codes "Bounds")
    else None

abbrev pub name_or_number : Option (List ℕ) → ℕ → List ℕ
name_or_number None number = decimal number
name_or_number (Some name) number = name

-- the name of a segment by its number, counted from 1
abbrev pub segment_name : (segments : List (List ℕ)) → ℕ → Option (List ℕ)
segment_name segments number = if number == 0 then None else slice_get segments (number - 1)

-- a fault with its line: its code and its name
abbrev pub fault_line : ℕ → List ℕ → List ℕ
fault_line line name = codes ":" ++ decimal line ++ codes ": " ++ name ++ codes "\n"

abbrev pub lexical_line : LexFault → List ℕ
lexical_line (lexical.BadChar line) = fault_line line (codes "L1 BadChar")
lexical_line (lexical.OpenString line) = fault_line line (codes "L2 OpenString")
lexical_line (lexical.BadNumber line) = fault_line line (codes "L3 BadNumber")
lexical_line (lexical.LongName line) = fault_line line (codes "L4 LongName")
lexical_line (lexical.OpenComment line) = fault_line line (codes "L5 OpenComment")
lexical_line lexical.NoMemory = fault_line 0 (codes "NoMemory")

abbrev pub expansion_line : MacroFault → List ℕ
expansion_line (expansion.BadDefine line) = fault_line line (codes "M1 BadDefine")
expansion_line (expansion.BadCall line) = fault_line line (codes "M2 BadCall")
expansion_line (expansion.TooDeep line) = fault_line line (codes "M3 TooDeep")
expansion_line (expansion.TooLong line) = fault_line line (codes "M4 TooLong")
expansion_line (expansion.NoSuchMacro line) = fault_line line (codes "M5 NoSuchMacro")
expansion_line expansion.NoMemory = fault_line 0 (codes "NoMemory")

-- the same, with the name, the word or the number of the token
abbrev pub named_line : ℕ → List ℕ → List ℕ → List ℕ
named_line line name what = codes ":" ++ (decimal line ++ (codes ": " ++ (name ++ (codes " " ++ (what ++ codes "\n")))))

-- the words of what this profile leaves out; there is no such fault at another
abbrev pub left_out : Word → List ℕ
left_out words.Floating = codes "FLOATING"
left_out words.Code = codes "CODE"
left_out words.External = codes "EXTERNAL"
left_out _ = []

abbrev pub syntax_line : ParseFault → List ℕ
syntax_line (parsing.Syntax token line) = named_line line (codes "S1 Syntax") (decimal token)
syntax_line (parsing.NestTooDeep token line) = named_line line (codes "S2 NestTooDeep") (decimal token)
syntax_line (parsing.LeftOut word line) = named_line line (codes "S3 LeftOut") (left_out word)
syntax_line parsing.NoMemory = fault_line 0 (codes "NoMemory")

abbrev pub scope_line : ScopeFault → List ℕ
scope_line (naming.Undeclared name line) = named_line line (codes "N1 Undeclared") name
scope_line (naming.Twice name line) = named_line line (codes "N2 Twice") name
scope_line (naming.WrongKind name line) = named_line line (codes "N3 WrongKind") name
scope_line (naming.SpecDiffers name line) = named_line line (codes "N4 SpecDiffers") name
scope_line naming.NoMemory = fault_line 0 (codes "NoMemory")

abbrev pub type_line : TypeFault → List ℕ
type_line (typing.WrongArgs line) = fault_line line (codes "Y1 WrongArgs")
type_line (typing.ScaleRange line) = fault_line line (codes "Y2 ScaleRange")
type_line (typing.FieldRange line) = fault_line line (codes "Y3 FieldRange")
type_line (typing.BadBounds line) = fault_line line (codes "Y4 BadBounds")
type_line (typing.BadOverlay line) = fault_line line (codes "Y5 BadOverlay")
type_line (typing.BadPreset line) = fault_line line (codes "Y6 BadPreset")
type_line (typing.TooMany line) = fault_line line (codes "Y7 TooMany")
type_line (typing.NumberRange line) = fault_line line (codes "Y8 NumberRange")
type_line typing.NoMemory = fault_line 0 (codes "NoMemory")

-- behind the name of the file
abbrev pub refusal_line : Refusal → List ℕ
refusal_line (Lex fault) = lexical_line fault
refusal_line (Macro fault) = expansion_line fault
refusal_line (Parse fault) = syntax_line fault
refusal_line (Scope fault) = scope_line fault
refusal_line (Typing fault) = type_line fault

-- what clashes, and the numbers of two segments
abbrev pub clash_line : (text what : List ℕ) → (first second : ℕ) → List ℕ
clash_line text what first second = text ++ (what ++ (codes " " ++ (decimal first ++ (codes " " ++ (decimal second ++ codes "\n")))))

abbrev pub link_line : LinkFault → List ℕ
link_line (SegmentTwice name) = codes "link: K5 SegmentTwice " ++ name ++ codes "\n"
link_line (Differs name first second) = clash_line (codes "link: K1 Differs ") name first second
link_line (DefinedTwice name first second) = clash_line (codes "link: K3 DefinedTwice ") name first second
link_line (Undefined name) = codes "link: K2 Undefined " ++ name ++ codes "\n"
link_line linking.NoMemory = codes "link: NoMemory\n"
link_line (AbsoluteOutside segment address) = codes "link: P2 AbsoluteOutside " ++ decimal segment ++ codes " " ++ decimal address ++ codes "\n"
link_line (DataTooBig need) = codes "link: P1 DataTooBig " ++ decimal need ++ codes "\n"
link_line (ControlTooBig need) = codes "link: P3 ControlTooBig " ++ decimal need ++ codes "\n"
link_line (PresetClash address first second) = clash_line (codes "link: K4 PresetClash ") (decimal address) first second
link_line (CodeTooBig bytes) = codes "link: P4 CodeTooBig " ++ decimal bytes ++ codes "\n"

-- ---- bytes that are not what an action takes

-- behind a mark: what is wrong, and where, if that has a place
abbrev pub bad_line : (mark text : List ℕ) → List ℕ
bad_line mark text = mark ++ text ++ codes "\n"

abbrev pub bad_place : (mark text : List ℕ) → (place : ℕ) → List ℕ
bad_place mark text place = mark ++ (text ++ (codes " " ++ (decimal place ++ codes "\n")))

abbrev pub object_line : (mark : List ℕ) → ObjFault → List ℕ
object_line mark objects.NotObject = bad_line mark (codes "O1 NotObject")
object_line mark objects.BadVersion = bad_line mark (codes "O2 BadVersion")
object_line mark (objects.Truncated place) = bad_place mark (codes "O3 Truncated") place
object_line mark (objects.BadRecord place) = bad_place mark (codes "O4 BadRecord") place
object_line mark (objects.Trailing place) = bad_place mark (codes "O5 Trailing") place

abbrev pub image_line : ImageFault → List ℕ
image_line images.NotImage = bad_line (codes ": ") (codes "I1 NotImage")
image_line images.BadVersion = bad_line (codes ": ") (codes "I2 BadVersion")
image_line (images.Truncated place) = bad_place (codes ": ") (codes "I3 Truncated") place
image_line (images.BadField place) = bad_place (codes ": ") (codes "I4 BadField") place
image_line (images.Trailing place) = bad_place (codes ": ") (codes "I5 Trailing") place
image_line images.NoMemory = bad_line (codes ": ") (codes "NoMemory")

abbrev pub hex_line : HexFault → List ℕ
hex_line (hex.BadLine line) = bad_place (codes ": ") (codes "X1 BadLine") line
hex_line (hex.BadSum line) = bad_place (codes ": ") (codes "X2 BadSum") line
hex_line (hex.BadType line) = bad_place (codes ": ") (codes "X3 BadType") line
hex_line (hex.AfterEnd line) = bad_place (codes ": ") (codes "X4 AfterEnd") line
hex_line (hex.NoEnd line) = bad_place (codes ": ") (codes "X5 NoEnd") line
hex_line hex.NoMemory = bad_line (codes ": ") (codes "NoMemory")

-- a member that is no object, by its number, from 1, with its own fault
abbrev pub library_line : LibFault → List ℕ
library_line libraries.NotLibrary = bad_line (codes ": ") (codes "B1 NotLibrary")
library_line libraries.BadVersion = bad_line (codes ": ") (codes "B2 BadVersion")
library_line (libraries.Truncated place) = bad_place (codes ": ") (codes "B3 Truncated") place
library_line (libraries.BadField place) = bad_place (codes ": ") (codes "B4 BadField") place
library_line (libraries.BadMember member fault) = codes ": B5 BadMember " ++ (decimal member ++ object_line (codes " ") fault)
library_line (libraries.Trailing place) = bad_place (codes ": ") (codes "B6 Trailing") place

-- behind the name of the file
abbrev pub bad_file_line : Bad → List ℕ
bad_file_line (bad.Object fault) = object_line (codes ": ") fault
bad_file_line (bad.Image fault) = image_line fault
bad_file_line (bad.Hex fault) = hex_line fault
bad_file_line (bad.Library fault) = library_line fault

abbrev pub long_name : List (List ℕ) → Long → List ℕ
long_name names (File file) = file_name names file
long_name names long.Input = codes "input"

-- The last line, for the names of the files and those of the segments. At NoPlace the names are those of what the
-- stop word names, its segment and line as one; at
-- NoItem, of what it watches.
abbrev pub closing_line : (names segments : List (List ℕ)) → Status → List ℕ
closing_line names segments Ended = []
closing_line names segments Usage = codes "usage: coral66 [--data N] [--frames N] [--depth N] [--steps N] ACTION WORD...\n"
closing_line names segments (Refused file fault) = file_name names file ++ refusal_line fault
closing_line names segments (Unlinked fault) = link_line fault
closing_line names segments (Stopped kind number line) =
    codes "stopped: " ++ name_or_number (stop_name kind) kind ++ codes " " ++ name_or_number (segment_name segments number) number ++ codes " " ++ decimal line ++ codes "\n"
closing_line names segments (Unfinished steps) = codes "unfinished: " ++ decimal steps ++ codes "\n"
closing_line names segments (NoFile file) = codes "no file: " ++ file_name names file ++ codes "\n"
closing_line names segments (Outside which) = codes "fault: " ++ which_name which ++ codes "\n"
closing_line names segments NoMemory = codes "no memory\n"
closing_line names segments (BadFile file fault) = file_name names file ++ bad_file_line fault
closing_line names segments (TooLong long) = codes "too long: " ++ long_name names long ++ codes "\n"
closing_line names segments (BadCode offset) = codes "bad code: " ++ decimal offset ++ codes "\n"
closing_line names segments (Divided offset) = codes "divided: " ++ decimal offset ++ codes "\n"
closing_line names segments (TooMany count) = codes "too many: " ++ decimal count ++ codes "\n"
closing_line names segments NoPlace = codes "no place: " ++ file_name names 0 ++ codes "\n"
closing_line names segments (NoItem index) = codes "no item: " ++ file_name names index ++ codes "\n"
