-- The text that is written.
use Rattle.std.specs.Prelude.{ℕ, zero, suc, ◌+◌, ◌-◌, ◌*◌, ◌/◌, ◌%◌, nat_lt, if◌then◌else◌, List, [], ◌∷◌, ◌++◌, length, take, drop}
use Rattle.std.specs.List.{sum, flat_map}

-- ---- a record

unfoldable pub digit_of : ℕ → ℕ
digit_of n = if nat_lt n 10 then 48 + n else 55 + n

abbrev pub digits_of : List ℕ → List ℕ
digits_of [] = []
digits_of (b ∷ bs) = digit_of (b / 16) ∷ digit_of (b % 16) ∷ digits_of bs

-- the byte with which bytes sum to 0
abbrev pub checksum : List ℕ → ℕ
checksum bytes = (256 - sum bytes % 256) % 256

abbrev pub record_line : List ℕ → List ℕ
record_line bytes = 58 ∷ digits_of (bytes ++ checksum bytes ∷ [])

unfoldable pub record_text : List ℕ → List ℕ
record_text bytes = record_line bytes ++ 10 ∷ []

-- the bytes of a record without the checksum
abbrev pub record_bytes : (kind address : ℕ) → List ℕ → List ℕ
record_bytes kind address bytes = length bytes ∷ address / 256 ∷ address % 256 ∷ kind ∷ bytes

-- ---- the records of an image

abbrev pub piece : ℕ → List ℕ → List ℕ
piece k bytes = take 16 (drop (16 * k) bytes)

-- the first n pieces of 16 bytes
abbrev pub pieces : ℕ → List ℕ → List (List ℕ)
pieces zero bytes = []
pieces (suc n) bytes = pieces n bytes ++ record_bytes 0 (16 * n) (piece n bytes) ∷ []

abbrev pub all_pieces : List ℕ → List (List ℕ)
all_pieces bytes = pieces ((length bytes + 15) / 16) bytes

abbrev pub base_record : ℕ → List ℕ
base_record base = record_bytes 2 0 (base / 256 ∷ base % 256 ∷ [])

abbrev pub word_bytes : List ℕ → List ℕ
word_bytes [] = []
word_bytes (w ∷ ws) = w % 256 ∷ w / 256 ∷ word_bytes ws

abbrev pub words_records : List ℕ → List (List ℕ)
words_records [] = []
words_records (w ∷ ws) = base_record 0x2000 ∷ all_pieces (word_bytes (w ∷ ws))

abbrev pub last_records : List (List ℕ)
last_records = record_bytes 3 0 (16 ∷ 0 ∷ 0 ∷ 0 ∷ []) ∷ record_bytes 1 0 [] ∷ []

abbrev pub hex_records : (code words : List ℕ) → List (List ℕ)
hex_records code words = (base_record 0x1000 ∷ all_pieces code) ++ (words_records words ++ last_records)

abbrev pub hex_text : (code words : List ℕ) → List ℕ
hex_text code words = flat_map record_text (hex_records code words)
