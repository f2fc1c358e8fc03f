-- The text of an instruction in NASM's syntax.
use Rattle.std.specs.Prelude.{ℕ, ◌+◌, ◌-◌, ◌/◌, ◌%◌, List, [], ◌∷◌, ◌++◌, Bool, nat_lt, nat_le, ◌==◌, ◌||◌, if◌then◌else◌, codes, decimal, flat_map}
use Rattle.cw_i86.specs.declared.instr.Place.{Place}
use Rattle.cw_i86.specs.declared.instr.Place.TheVariants.{Direct, Plain, Near, Far}
use Rattle.cw_i86.specs.declared.instr.Instr.{Instr}
use Rattle.cw_i86.specs.Encoding.{bytes_of}
use Rattle.cw_nasm.specs.Names.{Text, register, form}
use Rattle.cw_nasm.specs.Operations.{mnemonic_of, operands_of, is_given_back}
use Rattle.cw_nasm.specs.declared.operation.Width.{Width}
use Rattle.cw_nasm.specs.declared.operation.Width.TheVariants as width
use Rattle.cw_nasm.specs.declared.operation.Operand.{Operand}
use Rattle.cw_nasm.specs.declared.operation.Operand.TheVariants.{Nothing, Register, Memory, Number, StrictWord, Signed, Label}

-- ---- numbers

abbrev pub hex_digit : ℕ → ℕ
hex_digit n = if nat_lt n 10 then 48 + n else 55 + n

unfoldable pub two_hex : ℕ → Text
two_hex n = hex_digit (n / 16 % 16) ∷ hex_digit (n % 16) ∷ []

unfoldable pub four_hex : ℕ → Text
four_hex n = hex_digit (n / 4096 % 16) ∷ hex_digit (n / 256 % 16) ∷ hex_digit (n / 16 % 16) ∷ hex_digit (n % 16) ∷ []

-- a number of a byte or a word, told with its sign, where half is half of what the width holds
abbrev pub signed_text : (half n : ℕ) → Text
signed_text half n = if nat_lt n half then codes "+" ++ decimal n else codes "-" ++ decimal (half + half - n)

abbrev pub signed_byte : ℕ → Text
signed_byte b = signed_text 128 b

abbrev pub signed_word : ℕ → Text
signed_word w = signed_text 32768 w

-- the label of a place
abbrev pub label_of : (place : ℕ) → Text
label_of place = codes "at_" ++ four_hex place

-- ---- operands

abbrev pub width_text : Width → Text
width_text width.Unsaid = []
width_text width.Byte = codes "byte "
width_text width.Word = codes "word "

abbrev pub segment_text : (cs : Bool) → Text
segment_text cs = if cs then codes "cs:" else []

-- said where NASM would take no displacement
abbrev pub near_size : (by : ℕ) → Text
near_size by = if by == 0 then codes "byte " else []

-- said where NASM would take a displacement of a byte, or none
abbrev pub far_size : (by : ℕ) → Text
far_size by = if nat_lt by 128 || nat_le 65408 by then codes "word " else []

abbrev pub place_text : (cs : Bool) → Place → Text
place_text cs (Direct at) = segment_text cs ++ decimal at
place_text cs (Plain rm) = segment_text cs ++ form rm
place_text cs (Near rm by) = near_size by ++ segment_text cs ++ form rm ++ signed_byte by
place_text cs (Far rm by) = far_size by ++ segment_text cs ++ form rm ++ signed_word by

abbrev pub operand_text : Operand → Text
operand_text Nothing = []
operand_text (Register wide reg) = register wide reg
operand_text (Memory size mem) = width_text size ++ codes "[" ++ place_text mem.cs mem.place ++ codes "]"
operand_text (Number n) = decimal n
operand_text (StrictWord n) = codes "strict " ++ codes "word " ++ decimal n
operand_text (Signed b) = signed_byte b
operand_text (Label place) = label_of place

-- an operand behind what comes before it, if there is one
abbrev pub behind : (mark : Text) → Operand → Text
behind mark Nothing = []
behind mark o = mark ++ operand_text o

-- ---- an instruction

-- its name and its operands
abbrev pub operation_text : Instr → (place : ℕ) → Text
operation_text i place = mnemonic_of i ++ behind (codes " ") (operands_of i place).0 ++ behind (codes ",") (operands_of i place).1

abbrev pub hex_byte : ℕ → Text
hex_byte b = codes "0x" ++ two_hex b

abbrev pub next_byte : ℕ → Text
next_byte b = codes "," ++ hex_byte b

-- bytes, one after another
abbrev pub bytes_text : List ℕ → Text
bytes_text [] = []
bytes_text (b ∷ bs) = codes "db " ++ hex_byte b ++ flat_map next_byte bs

-- by its bytes, its name and operands in a comment behind them
unfoldable pub text_by_bytes : Instr → (place : ℕ) → Text
text_by_bytes i place = bytes_text (bytes_of i) ++ codes " ; " ++ operation_text i place

-- The text of an instruction at a place: by its bytes where NASM would give other ones for its name and operands.
unfoldable pub assembly_text : Instr → (place : ℕ) → Text
assembly_text i place = if is_given_back i place then operation_text i place else text_by_bytes i place
