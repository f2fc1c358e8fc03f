-- The HEX text: its lines, the records that they are, what is wrong with a line first, and what records do.
use Rattle.std.specs.Prelude.{ℕ, ◌+◌, ◌-◌, ◌*◌, ◌%◌, ◌^◌, ◌==◌, ◌&&◌, ◌||◌, not, nat_le, Bool, true, false, if◌then◌else◌}
use Rattle.std.specs.Prelude.{List, [], ◌∷◌, length, take, drop, slice_index, slice_set, Option, Some, None}
use Rattle.std.specs.List.{sum, list_all}
use Rattle.cw_hex.specs.declared.fault.HexFault.{HexFault}
use Rattle.cw_hex.specs.declared.fault.HexFault.TheVariants.{BadLine, BadSum, BadType, AfterEnd}
use Rattle.cw_hex.specs.declared.reading.Reading.{Reading}

-- ---- lines

abbrev pub begins_with_feed : List ℕ → Bool
begins_with_feed [] = false
begins_with_feed (c ∷ cs) = c == 10

-- a character put before the first line
abbrev pub grown : ℕ → List (List ℕ) → List (List ℕ)
grown c [] = (c ∷ []) ∷ []
grown c (line ∷ lines) = (c ∷ line) ∷ lines

-- A line feed ends a line. A carriage return right before one belongs to no line. The last line needs no end.
abbrev pub lines_of : List ℕ → List (List ℕ)
lines_of [] = []
lines_of (c ∷ cs) =
    if c == 10 then [] ∷ lines_of cs
    else if c == 13 && begins_with_feed cs then lines_of cs
    else grown c (lines_of cs)

-- ---- digits

-- 0 to 9, A to F and a to f
unfoldable pub is_digit : ℕ → Bool
is_digit c = (nat_le 48 c && nat_le c 57) || (nat_le 65 c && nat_le c 70) || (nat_le 97 c && nat_le c 102)

unfoldable pub digit_value : ℕ → ℕ
digit_value c =
    if nat_le 48 c && nat_le c 57 then c - 48
    else if nat_le 65 c && nat_le c 70 then c - 55
    else if nat_le 97 c && nat_le c 102 then c - 87
    else 0

-- the bytes that digits spell, two digits each
abbrev pub bytes_of : List ℕ → List ℕ
bytes_of [] = []
bytes_of (c ∷ []) = []
bytes_of (c ∷ d ∷ cs) = (16 * digit_value c + digit_value d) ∷ bytes_of cs

-- ---- records, by their bytes: length, address (2), type, data, checksum

abbrev pub length_of : List ℕ → ℕ
length_of bytes = slice_index bytes 0

abbrev pub type_of : List ℕ → ℕ
type_of bytes = slice_index bytes 3

-- two bytes from a place on, the high one first
abbrev pub word_of : List ℕ → ℕ → ℕ
word_of bytes k = 256 * slice_index bytes k + slice_index bytes (k + 1)

abbrev pub data_of : List ℕ → List ℕ
data_of bytes = take (length_of bytes) (drop 4 bytes)

-- A colon, and the digits of a length, an address, a type, so many bytes of data and a checksum.
abbrev pub is_record : List ℕ → Bool
is_record [] = false
is_record (c ∷ digits) = c == 58 && list_all is_digit digits && (length digits == 2 * (5 + length_of (bytes_of digits)))

-- data of any length, the end, the base of addresses, and the place of the first instruction
abbrev pub fits_type : (kind length : ℕ) → Bool
fits_type kind length = kind == 0 || (kind == 1 && length == 0) || (kind == 2 && length == 2) || (kind == 3 && length == 4)

-- whether a line is the record that ends a text
abbrev pub is_end : List ℕ → Bool
is_end [] = false
is_end (c ∷ digits) = type_of (bytes_of digits) == 1

abbrev pub record_fault : (is_ended : Bool) (number : ℕ) → List ℕ → Option HexFault
record_fault is_ended number bytes =
    if not (sum bytes % 256 == 0) then Some (BadSum number)
    else if not (fits_type (type_of bytes) (length_of bytes)) then Some (BadType number)
    else if is_ended then Some (AfterEnd number)
    else None

-- what is wrong with the line of this number first, where it is told whether the end came before it
abbrev pub line_fault : (is_ended : Bool) (number : ℕ) → List ℕ → Option HexFault
line_fault is_ended number [] = None
line_fault is_ended number (c ∷ digits) =
    if not (is_record (c ∷ digits)) then Some (BadLine number)
    else record_fault is_ended number (bytes_of digits)

-- ---- what records do

-- where the byte at an address goes, which is of 16 bits
abbrev pub place_of : (base address : ℕ) → ℕ
place_of base address = (base * 16 + address % 65536) % 2 ^ 20

-- Bytes from an address on. After the last address comes the first.
abbrev pub put_bytes : (base address : ℕ) → List ℕ → List ℕ → List ℕ
put_bytes base address [] memory = memory
put_bytes base address (b ∷ bs) memory =
    put_bytes base (address + 1) bs (slice_set memory (place_of base address) b)

abbrev pub after_record : List ℕ → Reading → Reading
after_record bytes r =
    if type_of bytes == 0 then record r { cpu = record r.cpu { memory = put_bytes r.base (word_of bytes 1) (data_of bytes) r.cpu.memory } }
    else if type_of bytes == 1 then record r { is_ended = true }
    else if type_of bytes == 2 then record r { base = word_of bytes 4 }
    else record r { cpu = record r.cpu { code_segment = word_of bytes 4; instruction_pointer = word_of bytes 6 } }

abbrev pub after_line : List ℕ → Reading → Reading
after_line [] r = r
after_line (c ∷ digits) r = after_record (bytes_of digits) r

-- what the lines do one after another
abbrev pub after_lines : List (List ℕ) → Reading → Reading
after_lines [] r = r
after_lines (line ∷ lines) r = after_lines lines (after_line line r)
