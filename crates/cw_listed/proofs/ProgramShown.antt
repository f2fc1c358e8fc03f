-- The lines of a program are those of the library, and those of the pieces of its segments.
use Rattle.std.proofs.Common.{◌≡◌, ℕ, ◌+◌, ◌≤◌, List, [], ◌∷◌, ◌++◌, length, map, refl, sym, ap, ◌∙◌, arith, append-nil}
use Rattle.cw_i86.specs.declared.instr.Instr.{Instr}
use Rattle.cw_unit.specs.declared.unit.Unit.{Unit as SourceUnit}
use Rattle.cw_order.specs.declared.order.Orders.{Orders}
use Rattle.cw_tmpl.specs.Library.{library_bytes, front, joined, routines}
use Rattle.cw_tmpl.specs.Pieces.{Filling}
use Rattle.cw_tmpl.specs.ReferenceCode.{orders_code}
use Rattle.cw_listing.specs.Lines.{AreLines}
use Rattle.cw_listed.specs.Behind.{known_places}
use Rattle.cw_listed.specs.ProgramLines.{library_lines, segments_filled, segments_lines, AreCoded, program_code, program_lines}
use Rattle.cw_listing.specs.declared.line.Line.{Line}
use Rattle.cw_listing.specs.Listing.{listing}
use Rattle.cw_listing.specs.CodeListing.{IsCodeListing, notes_of, words_of}
use Rattle.cw_listing.proofs.Once.{one_way}
use Rattle.cw_i86.specs.Encoding.{bytes_of}
use Rattle.cw_tmpl.specs.declared.assembling.Code.{Code}
use Rattle.cw_routines.specs.Ways.{HasAll}
use Rattle.cw_routines.specs.Results.{Stands}
use Rattle.cw_listed.proofs.LibraryLines.{lines_then, AllInstructions, library_shown}
use Rattle.cw_listed.proofs.SegmentLines.{segments_shown}
use Rattle.cw_listed.proofs.Program.{program_known, library_known}

pub program_shown : (us : List SourceUnit) (os : List Orders) (values : List Filling) → length os ≤ length us → length values ≡ length os → AreCoded os
    → AllInstructions front → AllInstructions (joined routines)
    → AreLines (program_code values os) (known_places us (map orders_code os)) (program_lines values os)
program_shown us os values few same coded first last =
    let L = length library_bytes in
    let code = program_code values os in
    let words = known_places us (map orders_code os) in
    lines_then code words 0 L (length code) library_lines (segments_lines values L os)
    (library_shown code words (segments_filled values L os) refl (library_known us os few) first last)
    (segments_shown code words library_bytes values [] os L L refl (omega arith) refl (program_known us os few) coded same)

-- ---- the instructions of the library

all_there : (code : List ℕ) (place : ℕ) (is : List Instr) → HasAll code place is → AllInstructions is
all_there code place [] h = tt
all_there code place (i ∷ is) h = (h.0.is_instr, all_there code (place + length (bytes_of i)) is h.1)

abbrev pub LibraryStands : Type 0
LibraryStands = (code behind : List ℕ) → code ≡ library_bytes ++ behind → Stands code

first_instructions : LibraryStands → AllInstructions front
first_instructions stands = all_there library_bytes 0 front (stands library_bytes [] (sym (append-nil library_bytes))).0

last_instructions : LibraryStands → AllInstructions (joined routines)
last_instructions stands = all_there library_bytes 5 (joined routines) (stands library_bytes [] (sym (append-nil library_bytes))).1

-- ---- the lines

pub program_lines_are : LibraryStands → (us : List SourceUnit) (os : List Orders) (values : List Filling) (lines : List Line) → length os ≤ length us
    → length values ≡ length os → AreCoded os → AreLines (program_code values os) (known_places us (map orders_code os)) lines → lines ≡ program_lines values os
program_lines_are stands us os values lines few same coded h =
    one_way (program_code values os) (known_places us (map orders_code os)) 0 lines (program_lines values os) h
    (program_shown us os values few same coded (first_instructions stands) (last_instructions stands))

pub program_text : LibraryStands → (us : List SourceUnit) (os : List Orders) (values : List Filling)
    (sources : List (List ℕ)) (text : List ℕ) → length os ≤ length us
    → length values ≡ length os → AreCoded os → IsCodeListing (program_code values os) us (map orders_code os) sources text
    → text ≡ listing (program_code values os) (program_lines values os) (notes_of us (map orders_code os) sources) (words_of us (map orders_code os))
program_text stands us os values sources text few same coded h =
    let code = program_code values os in
    let cs : List Code = map orders_code os in
    h.is_text ∙ ap (λ ls. listing code ls (notes_of us cs sources) (words_of us cs)) (program_lines_are stands us os values h.lines few same coded h.are_lines)
