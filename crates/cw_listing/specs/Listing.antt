-- Lines of code as text that an assembler takes, with remarks in front of them and behind.
use Rattle.std.specs.Prelude.{ℕ, ◌≡◌, ◌+◌, ◌==◌, nat_le, nat_lt, if◌then◌else◌, List, [], ◌∷◌, ◌++◌, take}
use Rattle.std.specs.Prelude.{drop, map, flat_map, slice_index, Option, None, Some, codes, decimal}
use Rattle.std.specs.List.{prefix_len}
use Rattle.cw_i86.specs.declared.instr.Instr.{Instr}
use Rattle.cw_dec86.specs.Rows.{word_at}
use Rattle.cw_nasm.specs.Names.{Text}
use Rattle.cw_nasm.specs.Operations.{named_place}
use Rattle.cw_nasm.specs.Assembly.{two_hex, four_hex, hex_byte, label_of, assembly_text, text_by_bytes}
use Rattle.cw_listing.specs.declared.line.Shown.{Shown}
use Rattle.cw_listing.specs.declared.line.Shown.TheVariants.{Instruction, Word, Byte}
use Rattle.cw_listing.specs.declared.line.Line.{Line}
use Rattle.cw_listing.specs.declared.remark.Remark.{Remark}
use Rattle.cw_listing.specs.Lines.{is_among, AreLines}

-- ---- labels

abbrev pub shown_place : Shown → (place : ℕ) → Option ℕ
shown_place (Instruction i) place = named_place i place
shown_place Word place = None
shown_place Byte place = None

abbrev pub one_or_none : Option ℕ → List ℕ
one_or_none None = []
one_or_none (Some place) = place ∷ []

-- the places that instructions among lines refer to
abbrev pub referred_by : Line → List ℕ
referred_by l = one_or_none (shown_place l.shown l.place)

abbrev pub referred_places : List Line → List ℕ
referred_places lines = flat_map referred_by lines

-- the places at which lines begin
abbrev pub begun_places : List Line → List ℕ
begun_places lines = map (λ l. l.place) lines

-- ---- a line

-- An instruction that refers to a place at which no line begins has no label to name: it is told by its bytes.
abbrev pub instruction_text : (begun : List ℕ) → Instr → (place : ℕ) → Option ℕ → Text
instruction_text begun i place None = assembly_text i place
instruction_text begun i place (Some p) = if is_among begun p then assembly_text i place else text_by_bytes i place

abbrev pub shown_text : (code begun : List ℕ) → Shown → (place : ℕ) → Text
shown_text code begun (Instruction i) place = instruction_text begun i place (named_place i place)
shown_text code begun Word place = codes "dw " ++ decimal (word_at code place)
shown_text code begun Byte place = codes "db " ++ hex_byte (slice_index code place)

-- on a line of its own
abbrev pub label_line : (referred : List ℕ) → (place : ℕ) → Text
label_line referred place = if is_among referred place then label_of place ++ codes ":\n" else []

abbrev pub spaced_hex : ℕ → Text
spaced_hex b = codes " " ++ two_hex b

-- the bytes of a line
abbrev pub line_bytes : (code : List ℕ) → Line → List ℕ
line_bytes code l = take l.size (drop l.place code)

-- what a word means that ends at a place, if it is the first of these
abbrev pub meaning : List Remark → (end : ℕ) → Text
meaning [] end = []
meaning (w ∷ ws) end = if w.place + 2 == end then codes " " ++ w.text else []

-- in a comment the place, the bytes, and what the relocated word means that ends the line, which is the first of these words
abbrev pub comment_text : (code : List ℕ) → (words : List Remark) → Line → Text
comment_text code words l =
    codes " ; " ++ four_hex l.place ++ flat_map spaced_hex (line_bytes code l) ++ meaning words (l.place + l.size) ++ codes "\n"

-- a line: its label, if it has one, what stands there, and the comment
abbrev pub line_text : (code begun referred : List ℕ) → (words : List Remark) → Line → Text
line_text code begun referred words l =
    label_line referred l.place ++ codes " " ++ shown_text code begun l.shown l.place ++ comment_text code words l

-- ---- all lines

-- a remark on a line of its own
abbrev pub remark_text : Remark → Text
remark_text r = codes "; " ++ r.text ++ codes "\n"

-- how many remarks there are before the first that stands behind a place
abbrev pub count_up_to : (place : ℕ) → List Remark → ℕ
count_up_to place rs = prefix_len (λ r. nat_le r.place place) rs

-- how many before the first that stands at a place or behind it
abbrev pub count_before : (place : ℕ) → List Remark → ℕ
count_before place rs = prefix_len (λ r. nat_lt r.place place) rs

-- In front of a line stand the remarks, in order, up to the first that is for a later place; behind the last line all that are left. The meanings of relocated
-- words are told in order of their places.
abbrev pub lines_text : (code begun referred : List ℕ) → (notes words : List Remark) → List Line → Text
lines_text code begun referred notes words [] = flat_map remark_text notes
lines_text code begun referred notes words (l ∷ ls) =
    flat_map remark_text (take (count_up_to l.place notes) notes)
    ++ (line_text code begun referred (drop (count_before l.place words) words) l
    ++ lines_text code begun referred (drop (count_up_to l.place notes) notes) (drop (count_before l.place words) words) ls)

abbrev pub head : Text
head = codes "cpu 8086\n" ++ codes "bits 16\n" ++ codes "org 0\n"

abbrev pub listing : (code : List ℕ) → List Line → (notes words : List Remark) → Text
listing code lines notes words = head ++ lines_text code (begun_places lines) (referred_places lines) notes words lines

-- The text of code, with notes in order of their places, relocated words in order of theirs, and the places of other words of data.
pub record IsListing (code : List ℕ) (notes words : List Remark) (data_places : List ℕ) (text : Text) : Type 0 where
  pub lines : List Line
  pub are_lines : AreLines code (map (λ w. w.place) words ++ data_places) lines
  pub is_text : text ≡ listing code lines notes words
