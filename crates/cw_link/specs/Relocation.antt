-- What a relocated word of a segment gets.
use Rattle.std.specs.Prelude.{ℕ, ◌+◌, ◌-◌, ◌*◌, ◌%◌, ◌==◌, List, slice_index, if◌then◌else◌, Option, None, Some}
use Rattle.cw_unit.specs.declared.layout.Limits.{Limits}
use Rattle.cw_tmpl.specs.Library.{library_entry}
use Rattle.cw_tmpl.specs.Pieces.{Filling}

abbrev pub word : ℕ → ℕ
word n = n % 65536

-- a word less another, modulo 65,536
abbrev pub word_less : ℕ → ℕ → ℕ
word_less a b = word (a + (65536 - word b))

-- the place of an entry of the library, and 0 for one that it does not have
abbrev pub entry_or_zero : Option ℕ → ℕ
entry_or_zero None = 0
entry_or_zero (Some place) = place

-- What decides the words of a segment: the addresses of its families, those of the definitions of its descriptors (0 for one without), where
-- its code begins, its number from 1, and where the next segment is entered or the program ends.
pub record Links : Type 0 where
  pub homes : List ℕ
  pub definitions : List ℕ
  pub start : ℕ
  pub number : ℕ
  pub next : ℕ

-- the words of data, those of the frame area, the calls that may be active, and the number of the segment
abbrev pub limit_word : Limits → (number index : ℕ) → ℕ
limit_word limits number index =
    if index == 0 then word limits.area
    else if index == 1 then word limits.frames
    else if index == 2 then word limits.depth
    else word number

-- by the sort of the relocation; after is the place behind the word
abbrev pub linked_word : Links → Limits → Filling
linked_word links limits sort index add after =
    if sort == 1 then word (slice_index links.homes index + add)
    else if sort == 2 then word (2 * (slice_index links.homes index + add))
    else if sort == 3 then word (links.start + add)
    else if sort == 4 then slice_index links.definitions index
    else if sort == 5 then word_less (slice_index links.definitions index) after
    else if sort == 6 then entry_or_zero (library_entry index)
    else if sort == 7 then word_less (entry_or_zero (library_entry index)) after
    else if sort == 8 then limit_word limits links.number index
    else if sort == 9 then links.next
    else 0
