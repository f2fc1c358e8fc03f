-- Code with words that the linker fills.
use Rattle.std.specs.Prelude.{true, false, ℕ, ◌+◌, ◌-◌, ◌/◌, ◌%◌, ◌<◌, List, [], ◌∷◌, ◌++◌, length, slice_set, Option, Some, None}
use Rattle.cw_i86.specs.Encoding.{bytes_of, word, IsInstr}
use Rattle.cw_i86.specs.declared.instr.Imm.TheVariants as imm
use Rattle.cw_i86.specs.declared.instr.Instr.{Instr}
use Rattle.cw_i86.specs.declared.instr.Instr.TheVariants as i86
use Rattle.cw_run86.specs.Views.{with_memory}
use Rattle.cw_unit.specs.declared.layout.Reloc.{Reloc}
use Rattle.cw_i86.specs.declared.instr.Place.TheVariants as places
use Rattle.cw_tmpl.specs.Mnemonics.{entry_of_table, change_memory, operate_number, load, memory, code_at}
use Rattle.cw_tmpl.specs.declared.pieces.Limit.{Limit}
use Rattle.cw_tmpl.specs.declared.pieces.Limit.TheVariants as limit
use Rattle.cw_tmpl.specs.declared.pieces.Target.{Target}
use Rattle.cw_tmpl.specs.declared.pieces.Target.TheVariants as target
use Rattle.cw_tmpl.specs.declared.pieces.Coded.{Coded}
use Rattle.cw_tmpl.specs.declared.pieces.Coded.TheVariants as coded

-- the bytes of a piece with this word filled in
abbrev pub bytes_with : ℕ → Coded → List ℕ
bytes_with w (coded.Whole i) = bytes_of i
bytes_with w (coded.Move reg t) = bytes_of (i86.MovImm reg (imm.Word w))
bytes_with w (coded.Sum reg t) = bytes_of (operate_number 0 reg w)
bytes_with w (coded.Fetch reg t) = bytes_of (load reg (memory (places.Direct w)))
bytes_with w (coded.Load t) = bytes_of (i86.MovAcc false true false w)
bytes_with w (coded.Store t) = bytes_of (i86.MovAcc false true true w)
bytes_with w (coded.PushCode t) = bytes_of (i86.PushRm (code_at w))
bytes_with w (coded.Operate op reg t) = bytes_of (with_memory op reg w)
bytes_with w (coded.Change op reg t) = bytes_of (change_memory op w reg)
bytes_with w (coded.Call t) = bytes_of (i86.Call w)
bytes_with w (coded.Jump t) = bytes_of (i86.Jump w)
bytes_with w (coded.Word t) = word w
bytes_with w (coded.Data n) = word n
bytes_with w (coded.Way t) = bytes_of (i86.JumpRm (entry_of_table w))

-- the same with every word
abbrev pub size_of : Coded → ℕ
size_of p = length (bytes_with 0 p)

abbrev pub target_of : Coded → Option Target
target_of (coded.Whole i) = None
target_of (coded.Move reg t) = Some t
target_of (coded.Sum reg t) = Some t
target_of (coded.Fetch reg t) = Some t
target_of (coded.Load t) = Some t
target_of (coded.Store t) = Some t
target_of (coded.PushCode t) = Some t
target_of (coded.Operate op reg t) = Some t
target_of (coded.Change op reg t) = Some t
target_of (coded.Call t) = Some t
target_of (coded.Jump t) = Some t
target_of (coded.Word t) = Some t
target_of (coded.Data n) = None
target_of (coded.Way t) = Some t

-- the instruction of a piece, with the word 0; a word alone has none
abbrev pub instruction_of : Coded → Option Instr
instruction_of (coded.Whole i) = Some i
instruction_of (coded.Move reg t) = Some (i86.MovImm reg (imm.Word 0))
instruction_of (coded.Sum reg t) = Some (operate_number 0 reg 0)
instruction_of (coded.Fetch reg t) = Some (load reg (memory (places.Direct 0)))
instruction_of (coded.Load t) = Some (i86.MovAcc false true false 0)
instruction_of (coded.Store t) = Some (i86.MovAcc false true true 0)
instruction_of (coded.PushCode t) = Some (i86.PushRm (code_at 0))
instruction_of (coded.Operate op reg t) = Some (with_memory op reg 0)
instruction_of (coded.Change op reg t) = Some (change_memory op 0 reg)
instruction_of (coded.Call t) = Some (i86.Call 0)
instruction_of (coded.Jump t) = Some (i86.Jump 0)
instruction_of (coded.Word t) = None
instruction_of (coded.Data n) = None
instruction_of (coded.Way t) = Some (i86.JumpRm (entry_of_table 0))

-- the word of one that is a word alone
abbrev pub word_alone : Coded → ℕ
word_alone (coded.Data n) = n
word_alone _ = 0

-- The instruction has the numbers of its row, and a word that is known is one.
abbrev pub IsCoded : Coded → Type 0
IsCoded (coded.Whole i) = IsInstr i
IsCoded (coded.Move reg t) = IsInstr (i86.MovImm reg (imm.Word 0))
IsCoded (coded.Sum reg t) = IsInstr (operate_number 0 reg 0)
IsCoded (coded.Fetch reg t) = IsInstr (load reg (memory (places.Direct 0)))
IsCoded (coded.Load t) = Unit {0}
IsCoded (coded.Store t) = Unit {0}
IsCoded (coded.PushCode t) = Unit {0}
IsCoded (coded.Operate op reg t) = IsInstr (with_memory op reg 0)
IsCoded (coded.Change op reg t) = IsInstr (change_memory op 0 reg)
IsCoded (coded.Call t) = Unit {0}
IsCoded (coded.Jump t) = Unit {0}
IsCoded (coded.Word t) = Unit {0}
IsCoded (coded.Data n) = n < 65536
IsCoded (coded.Way t) = Unit {0}

abbrev pub AllCoded : List Coded → Type 0
AllCoded [] = Unit {0}
AllCoded (p ∷ ps) = IsCoded p × AllCoded ps

-- ---- the object's form: words 0, and relocations

abbrev pub blanks : List Coded → List ℕ
blanks [] = []
blanks (p ∷ ps) = bytes_with 0 p ++ blanks ps

abbrev pub limit_number : Limit → ℕ
limit_number limit.DataWords = 0
limit_number limit.FrameWords = 1
limit_number limit.Calls = 2
limit_number limit.Segment = 3

-- the relocation of a word at a place
abbrev pub relocation_of : ℕ → Target → Reloc
relocation_of place (target.Word family offset) = record { place = place; sort = 1; index = family; add = offset }
relocation_of place (target.Bytes family offset) = record { place = place; sort = 2; index = family; add = offset }
relocation_of place (target.Place add) = record { place = place; sort = 3; index = 0; add = add }
relocation_of place (target.Definition d) = record { place = place; sort = 4; index = d; add = 0 }
relocation_of place (target.DefinitionAhead d) = record { place = place; sort = 5; index = d; add = 0 }
relocation_of place (target.Library k) = record { place = place; sort = 6; index = k; add = 0 }
relocation_of place (target.LibraryAhead k) = record { place = place; sort = 7; index = k; add = 0 }
relocation_of place (target.Limit l) = record { place = place; sort = 8; index = limit_number l; add = 0 }
relocation_of place target.NextSegment = record { place = place; sort = 9; index = 0; add = 0 }

-- at the last two bytes of a piece that ends at a place
abbrev pub relocation_before : ℕ → Option Target → List Reloc
relocation_before end None = []
relocation_before end (Some t) = relocation_of (end - 2) t ∷ []

-- the relocations of pieces that begin at a place
abbrev pub relocations : ℕ → List Coded → List Reloc
relocations at [] = []
relocations at (p ∷ ps) = relocation_before (at + size_of p) (target_of p) ++ relocations (at + size_of p) ps

-- ---- the linker's form: words filled

-- what a relocation's sort, index and addend give at the place after the word
abbrev pub Filling : Type 0
Filling = (sort index add after : ℕ) → ℕ

abbrev pub word_of : Filling → ℕ → Reloc → ℕ
word_of value after r = value r.sort r.index r.add after

abbrev pub word_before : Filling → ℕ → Option Target → ℕ
word_before value end None = 0
word_before value end (Some t) = word_of value end (relocation_of 0 t)

-- the code as it runs, from a place
abbrev pub filled : Filling → ℕ → List Coded → List ℕ
filled value at [] = []
filled value at (p ∷ ps) =
    bytes_with (word_before value (at + size_of p) (target_of p)) p ++ filled value (at + size_of p) ps

-- what the linker does to code that stands from a base: one relocation after another
abbrev pub fill : Filling → ℕ → List Reloc → List ℕ → List ℕ
fill value base [] code = code
fill value base (r ∷ rs) code =
    let at = base + r.place in
    let w = word_of value (at + 2) r in
    fill value base rs (slice_set (slice_set code at (w % 256)) (at + 1) (w / 256 % 256))
