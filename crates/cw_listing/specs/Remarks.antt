-- What is said of the places in linked code: of the run-time library, of segments with their statements, and of words.
use Rattle.std.specs.Prelude.{ℕ, ◌+◌, ◌-◌, ◌%◌, not, ◌==◌, nat_le, nat_lt, if◌then◌else◌, List, [], ◌∷◌, ◌++◌, take, drop, length}
use Rattle.std.specs.Prelude.{map, flat_map, Option, None, Some, slice_get, slice_index, slice_index_or, codes, decimal}
use Rattle.std.specs.List.{prefix_len}
use Rattle.cw_unit.specs.declared.unit.Unit.{Unit as SourceUnit}
use Rattle.cw_unit.specs.declared.unit.Item.{Item}
use Rattle.cw_unit.specs.declared.unit.Proc.{Proc}
use Rattle.cw_unit.specs.declared.unit.Label.{Label}
use Rattle.cw_unit.specs.declared.descriptor.Desc.{Desc}
use Rattle.cw_unit.specs.declared.layout.Reloc.{Reloc}
use Rattle.cw_unit.specs.Storage.{layout_of}
use Rattle.cw_tmpl.specs.Library.{library_entry, start_entry, overflow_entry, bounds_entry, enter_entry, next_step_entry}
use Rattle.cw_tmpl.specs.declared.assembling.Code.{Code}
use Rattle.cw_list.specs.Listing.{segment_owner, name_or_line}
use Rattle.cw_list.specs.Rows.{is_common, owner_of}
use Rattle.cw_nasm.specs.Names.{Text, name_in}
use Rattle.cw_nasm.specs.Assembly.{four_hex, label_of}
use Rattle.cw_listing.specs.declared.remark.Remark.{Remark}

-- ---- the run-time library

-- the names of the entries from the start of a body on
abbrev pub first_names : List Text
first_names =
    codes "start" ∷ codes "overflow" ∷ codes "zero divisor" ∷ codes "address" ∷ codes "bounds" ∷ codes "switch" ∷ codes "earlier" ∷ codes "read" ∷ []

-- and from the product on
abbrev pub last_names : List Text
last_names =
    codes "product" ∷ codes "quotient down" ∷ codes "quotient up" ∷ codes "set variable" ∷ codes "add step" ∷ codes "put variable"
    ∷ codes "exhausted" ∷ codes "enter" ∷ []

abbrev pub late_name : (entry : ℕ) → Text
late_name entry = if nat_lt entry 34 then name_in last_names (entry - 26) else if entry == 34 then codes "next step" else codes "enter stop"

-- the name of an entry; those of earlier libraries have one
abbrev pub entry_name : (entry : ℕ) → Text
entry_name entry =
    if entry == 0 then codes "end"
    else if nat_lt entry 18 then codes "earlier"
    else if nat_lt entry 26 then name_in first_names (entry - 18)
    else late_name entry

-- Where words of data stand behind a call of an entry, counted from the end of the call: the line behind that of a stop; D, F, calls and segment behind that of
-- a start; the words of the frame and the segment behind that of an enter; and the line behind the jump that follows a next step.
abbrev pub words_behind : (entry : ℕ) → List ℕ
words_behind entry =
    if entry == start_entry then 0 ∷ 2 ∷ 4 ∷ 6 ∷ []
    else if nat_lt entry overflow_entry then []
    else if nat_le entry bounds_entry then 0 ∷ []
    else if entry == enter_entry then 0 ∷ 2 ∷ []
    else if entry == next_step_entry then 5 ∷ []
    else []

abbrev pub named_entries : List ℕ
named_entries =
    0 ∷ 17 ∷ 18 ∷ 19 ∷ 20 ∷ 21 ∷ 22 ∷ 23 ∷ 25 ∷ 26 ∷ 27 ∷ 28 ∷ 29 ∷ 30 ∷ 31 ∷ 32 ∷ 33 ∷ 34 ∷ 35 ∷ []

abbrev pub library_text : (entry : ℕ) → Text
library_text entry = codes "LIBRARY " ++ entry_name entry

abbrev pub place_or_none : Option ℕ → ℕ
place_or_none None = 0
place_or_none (Some place) = place

abbrev pub entry_remark : (entry : ℕ) → Remark
entry_remark entry = record { place = place_or_none (library_entry entry); text = library_text entry }

abbrev pub library_remarks : List Remark
library_remarks = map entry_remark named_entries

-- ---- lines of a source text

-- where the lines of a text begin that stand behind one with a new line, the text beginning at a place
abbrev pub starts_behind : (place : ℕ) → List ℕ → List ℕ
starts_behind place [] = []
starts_behind place (b ∷ bs) = if b == 10 then (place + 1) ∷ starts_behind (place + 1) bs else starts_behind (place + 1) bs

abbrev pub line_starts : (source : List ℕ) → List ℕ
line_starts source = 0 ∷ starts_behind 0 source

-- A comment stays on its line: bytes that are no blank and not printed are shown as blanks below it and as question marks above; so is a backslash, which would
-- join the next line to it.
abbrev pub printed : ℕ → ℕ
printed b = if nat_lt b 32 then 32 else if nat_lt 126 b then 63 else if b == 92 then 63 else b

-- the most bytes of a source line that are shown
abbrev pub shown_width : ℕ
shown_width = 100

-- how long the first line is
abbrev pub line_length : (text : List ℕ) → ℕ
line_length text = prefix_len (λ b. not (b == 10)) text

-- the line that begins at a place of a source, as it is shown
abbrev pub line_shown : (source : List ℕ) → (start : ℕ) → Text
line_shown source start = map printed (take shown_width (take (line_length (drop start source)) (drop start source)))

-- a line by its number from 1, by where lines begin
abbrev pub source_line : (source starts : List ℕ) → (line : ℕ) → Text
source_line source starts line = line_shown source (slice_index_or starts (line - 1) (length source))

-- ---- a segment

-- its linked code begins at a place
abbrev pub segment_remark : (start : ℕ) → (name : Text) → Remark
segment_remark start name = record { place = start; text = codes "SEGMENT " ++ name ++ codes ", entry at " ++ four_hex (start % 65536) }

-- what is said of things that are numbered from 0, in order
abbrev pub numbered : {X : Type 0} → (ℕ → X → Remark) → (n : ℕ) → List X → List Remark
numbered remark n [] = []
numbered remark n (x ∷ xs) = remark n x ∷ numbered remark (n + 1) xs

-- the same of those that have a place: 0 is that of a label without a landing, and of a switch without a routine
abbrev pub placed : (ℕ → ℕ → Remark) → (n : ℕ) → List ℕ → List Remark
placed remark n [] = []
placed remark n (x ∷ xs) = if x == 0 then placed remark (n + 1) xs else remark n x ∷ placed remark (n + 1) xs

abbrev pub procedure_name : Option Proc → Text
procedure_name None = []
procedure_name (Some q) = q.name

abbrev pub procedure_remark : (start : ℕ) → List Proc → (n place : ℕ) → Remark
procedure_remark start qs n place = record { place = start + place; text = codes "PROCEDURE " ++ procedure_name (slice_get qs n) }

abbrev pub label_line_of : Option Label → ℕ
label_line_of None = 0
label_line_of (Some l) = l.line

abbrev pub label_remark : (start : ℕ) → List Label → (n place : ℕ) → Remark
label_remark start ls n place = record { place = start + place; text = codes "LABEL of line " ++ decimal (label_line_of (slice_get ls n)) }

abbrev pub switch_remark : (start n place : ℕ) → Remark
switch_remark start n place = record { place = start + place; text = codes "SWITCH " ++ decimal (n + 1) }

-- a statement, by its place in the code of the segment and its line: the segment, the line, and the text of that line
abbrev pub statement_text : (name : Text) → (source starts : List ℕ) → (line : ℕ) → Text
statement_text name source starts line = name ++ codes ":" ++ decimal line ++ codes "  " ++ source_line source starts line

abbrev pub statement_remark : (start : ℕ) → (name : Text) → (source starts : List ℕ) → ℕ × ℕ → Remark
statement_remark start name source starts s = record { place = start + s.0; text = statement_text name source starts s.1 }

abbrev pub statement_remarks : (start : ℕ) → (name : Text) → (source : List ℕ) → List (ℕ × ℕ) → List Remark
statement_remarks start name source ss = map (statement_remark start name source (line_starts source)) ss

-- all remarks on a segment
abbrev pub segment_remarks : (start : ℕ) → SourceUnit → Code → (source : List ℕ) → List Remark
segment_remarks start u c source =
    (segment_remark start u.name ∷ []) ++ numbered (procedure_remark start u.procs) 0 c.procedures ++ placed (label_remark start u.labels) 0 c.labels
    ++ placed (switch_remark start) 0 c.switches ++ statement_remarks start u.name source c.statements

-- ---- relocated words

-- the items that are the roots of families, by the families of items; families are numbered in order of their roots
abbrev pub roots_from : (item family : ℕ) → List (ℕ × ℕ) → List ℕ
roots_from item family [] = []
roots_from item family (h ∷ hs) = if h.0 == family then item ∷ roots_from (item + 1) (family + 1) hs else roots_from (item + 1) family hs

abbrev pub roots_of : SourceUnit → List ℕ
roots_of u = roots_from 0 0 (layout_of u).homes

-- an item as the storage map names it
abbrev pub item_owner : SourceUnit → Item → Text
item_owner u i = if is_common i.home then codes "COMMON" else segment_owner u.name (owner_of u.procs i.owner)

abbrev pub item_name : SourceUnit → Option Item → Text
item_name u None = []
item_name u (Some i) = item_owner u i ++ codes "." ++ name_or_line i.name i.kind i.line

-- how many words behind the first
abbrev pub offset_text : ℕ → Text
offset_text n = if n == 0 then [] else codes "+" ++ decimal n

-- a word of a family, by the item that is its root
abbrev pub word_name : SourceUnit → (roots : List ℕ) → (family offset : ℕ) → Text
word_name u roots family offset = item_name u (slice_get u.items (slice_index roots family)) ++ offset_text offset

abbrev pub descriptor_name : Option Desc → Text
descriptor_name None = []
descriptor_name (Some d) = d.name

abbrev pub limit_names : List Text
limit_names = codes "D" ∷ codes "F" ∷ codes "calls" ∷ codes "segment" ∷ []

-- What a relocated word means: the address of a word, or the word at a place in bytes; a place of the segment; what a
-- descriptor names; an entry of the library;
-- a limit of the run; or the next segment.
abbrev pub word_text : (start : ℕ) → SourceUnit → (roots : List ℕ) → Reloc → Text
word_text start u roots r =
    if r.sort == 1 then codes "address of " ++ word_name u roots r.index r.add
    else if r.sort == 2 then word_name u roots r.index r.add
    else if r.sort == 3 then label_of ((start + r.add) % 65536)
    else if nat_lt r.sort 6 then descriptor_name (slice_get u.descs r.index)
    else if nat_lt r.sort 8 then library_text r.index
    else if r.sort == 8 then name_in limit_names r.index
    else codes "next segment"

abbrev pub word_remark : (start : ℕ) → SourceUnit → (roots : List ℕ) → Reloc → Remark
word_remark start u roots r = record { place = start + r.place; text = word_text start u roots r }

abbrev pub word_remarks : (start : ℕ) → SourceUnit → Code → List Remark
word_remarks start u c = map (word_remark start u (roots_of u)) c.relocs

-- ---- words of data behind calls of the library

abbrev pub words_behind_call : (start : ℕ) → Reloc → List ℕ
words_behind_call start r = if r.sort == 7 then map (λ o. (start + r.place + 2) + o) (words_behind r.index) else []

abbrev pub data_places : (start : ℕ) → Code → List ℕ
data_places start c = flat_map (words_behind_call start) c.relocs

-- ---- segments whose codes follow one another

abbrev pub source_of : (sources : List Text) → (segment : ℕ) → Text
source_of sources segment = slice_index_or sources segment []

abbrev pub unit_remarks : (start : ℕ) → Option SourceUnit → Code → (source : List ℕ) → List Remark
unit_remarks start None c source = []
unit_remarks start (Some u) c source = segment_remarks start u c source

abbrev pub unit_words : (start : ℕ) → Option SourceUnit → Code → List Remark
unit_words start None c = []
unit_words start (Some u) c = word_remarks start u c

-- of codes that follow one another from a place on, the first being that of the unit of this number, from 0
abbrev pub remarks_from : (segment start : ℕ) → (sources : List Text) → List SourceUnit → List Code → List Remark
remarks_from segment start sources us [] = []
remarks_from segment start sources us (c ∷ cs) =
    unit_remarks start (slice_get us segment) c (source_of sources segment) ++ remarks_from (segment + 1) (start + length c.bytes) sources us cs

abbrev pub words_from : (segment start : ℕ) → List SourceUnit → List Code → List Remark
words_from segment start us [] = []
words_from segment start us (c ∷ cs) = unit_words start (slice_get us segment) c ++ words_from (segment + 1) (start + length c.bytes) us cs

abbrev pub data_from : (start : ℕ) → List Code → List ℕ
data_from start [] = []
data_from start (c ∷ cs) = data_places start c ++ data_from (start + length c.bytes) cs
