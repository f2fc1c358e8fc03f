-- The lines that show a whole program: those of the library, and those of the pieces of each segment.
use Rattle.std.specs.Prelude.{ℕ, ◌+◌, List, [], ◌∷◌, ◌++◌, length}
use Rattle.cw_i86.specs.declared.instr.Instr.{Instr}
use Rattle.cw_i86.specs.Encoding.{bytes_of}
use Rattle.cw_order.specs.declared.order.Orders.{Orders}
use Rattle.cw_tmpl.specs.Mnemonics.{bytes_of_all}
use Rattle.cw_tmpl.specs.Library.{front, joined, routines, library_bytes}
use Rattle.cw_tmpl.specs.Pieces.{blanks, Filling, filled, AllCoded}
use Rattle.cw_tmpl.specs.ReferenceCode.{pieces_of}
use Rattle.cw_listing.specs.declared.line.Shown.TheVariants.{Instruction, Byte}
use Rattle.cw_listing.specs.declared.line.Line.{Line}
use Rattle.cw_listed.specs.PieceLines.{piece_lines}

-- ---- the library

-- one line for each instruction, from a place on
abbrev pub instruction_lines : (place : ℕ) → List Instr → List Line
instruction_lines at [] = []
instruction_lines at (i ∷ is) = record { place = at; size = length (bytes_of i); shown = Instruction i } ∷ instruction_lines (at + length (bytes_of i)) is

-- behind the way past the library and the end stands the byte with which no instruction begins
abbrev pub library_lines : List Line
library_lines =
    instruction_lines 0 front
    ++ record { place = length (bytes_of_all front); size = 1; shown = Byte } ∷ instruction_lines (length (bytes_of_all front) + 1) (joined routines)

-- ---- segments

-- the codes of segments behind one another from a place on, each filled by the linker in its own way
abbrev pub segments_filled : List Filling → (place : ℕ) → List Orders → List ℕ
segments_filled values at [] = []
segments_filled [] at (o ∷ os) = []
segments_filled (v ∷ vs) at (o ∷ os) = filled v at (pieces_of o) ++ segments_filled vs (at + length (blanks (pieces_of o))) os

abbrev pub segments_lines : List Filling → (place : ℕ) → List Orders → List Line
segments_lines values at [] = []
segments_lines [] at (o ∷ os) = []
segments_lines (v ∷ vs) at (o ∷ os) = piece_lines v at (pieces_of o) ++ segments_lines vs (at + length (blanks (pieces_of o))) os

-- the numbers of all pieces are in range
abbrev pub AreCoded : List Orders → Type 0
AreCoded [] = Unit {0}
AreCoded (o ∷ os) = AllCoded (pieces_of o) × AreCoded os

-- the linked code of a program
abbrev pub program_code : List Filling → List Orders → List ℕ
program_code values os = library_bytes ++ segments_filled values (length library_bytes) os

abbrev pub program_lines : List Filling → List Orders → List Line
program_lines values os = library_lines ++ segments_lines values (length library_bytes) os
