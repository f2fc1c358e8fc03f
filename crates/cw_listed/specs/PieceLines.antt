-- The lines that show the pieces of code.
use Rattle.std.specs.Prelude.{ℕ, ◌+◌, ◌%◌, false, true, List, [], ◌∷◌}
use Rattle.cw_i86.specs.declared.instr.Imm.TheVariants as imm
use Rattle.cw_i86.specs.declared.instr.Instr.TheVariants as i86
use Rattle.cw_i86.specs.declared.instr.Place.TheVariants as places
use Rattle.cw_run86.specs.Views.{with_memory}
use Rattle.cw_tmpl.specs.declared.pieces.Coded.{Coded}
use Rattle.cw_tmpl.specs.declared.pieces.Coded.TheVariants as coded
use Rattle.cw_tmpl.specs.Mnemonics.{entry_of_table, change_memory, operate_number, load, memory, code_at}
use Rattle.cw_tmpl.specs.Pieces.{size_of, target_of, Filling, word_before}
use Rattle.cw_listing.specs.declared.line.Shown.{Shown}
use Rattle.cw_listing.specs.declared.line.Shown.TheVariants.{Instruction, Word}
use Rattle.cw_listing.specs.declared.line.Line.{Line}

-- what a piece is in which this word is filled in: its instruction, or a word of data
abbrev pub shown_with : ℕ → Coded → Shown
shown_with w (coded.Whole i) = Instruction i
shown_with w (coded.Move reg t) = Instruction (i86.MovImm reg (imm.Word w))
shown_with w (coded.Sum reg t) = Instruction (operate_number 0 reg w)
shown_with w (coded.Fetch reg t) = Instruction (load reg (memory (places.Direct w)))
shown_with w (coded.Load t) = Instruction (i86.MovAcc false true false w)
shown_with w (coded.Store t) = Instruction (i86.MovAcc false true true w)
shown_with w (coded.PushCode t) = Instruction (i86.PushRm (code_at w))
shown_with w (coded.Operate op reg t) = Instruction (with_memory op reg w)
shown_with w (coded.Change op reg t) = Instruction (change_memory op w reg)
shown_with w (coded.Call t) = Instruction (i86.Call w)
shown_with w (coded.Jump t) = Instruction (i86.Jump w)
shown_with w (coded.Word t) = Word
shown_with w (coded.Data n) = Word
shown_with w (coded.Way t) = Instruction (i86.JumpRm (entry_of_table w))

abbrev pub piece_line : (place w : ℕ) → Coded → Line
piece_line place w p = record { place = place; size = size_of p; shown = shown_with w p }

-- one line for each piece of code that the linker has filled, from a place on: a word holds what fits of what is filled in
abbrev pub piece_lines : Filling → (place : ℕ) → List Coded → List Line
piece_lines value at [] = []
piece_lines value at (p ∷ ps) = piece_line at (word_before value (at + size_of p) (target_of p) % 65536) p ∷ piece_lines value (at + size_of p) ps
