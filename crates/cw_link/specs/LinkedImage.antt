-- The image of objects: the library's code and that of each object in order, with each relocated word filled; and the words of the data area that
-- presets fill, up to the last that is not 0.
use Rattle.std.specs.Prelude.{ℕ, zero, suc, ◌+◌, nat_eq, if◌then◌else◌, List, [], ◌∷◌, ◌++◌, length, map}
use Rattle.std.specs.Prelude.{Option, Some, None, option_map, slice_get, slice_index, slice_index_or}
use Rattle.cw_unit.specs.declared.descriptor.Desc.{Desc}
use Rattle.cw_unit.specs.declared.layout.Limits.{Limits}
use Rattle.cw_unit.specs.declared.layout.Preset.{Preset}
use Rattle.cw_unit.specs.declared.layout.Map.{Map}
use Rattle.cw_unit.specs.Allocation.{SegmentStorage, map_of}
use Rattle.cw_tmpl.specs.Library.{library_bytes, library_entry}
use Rattle.cw_tmpl.specs.Pieces.{fill}
use Rattle.cw_comm.specs.declared.face.Face.{Face}
use Rattle.cw_comm.specs.Agreement.{or_else, has_name}
use Rattle.cw_place.specs.declared.space.Space.{Space}
use Rattle.cw_image.specs.declared.image.Image.{Image}
use Rattle.cw_link.specs.Contents.{Contents}
use Rattle.cw_link.specs.Presets.{FilledWord, first_at}
use Rattle.cw_link.specs.Relocation.{word, entry_or_zero, Links, linked_word}

-- ---- what the passes before need

abbrev pub face_of : Contents → Face
face_of c = record { name = c.name; descs = c.descs; defined = map (λ d. d.0) c.definitions }

abbrev pub faces_of : List Contents → List Face
faces_of cs = map face_of cs

abbrev pub space_of : Contents → Space
space_of c = record { families = c.families; need = c.body.need }

abbrev pub spaces_of : List Contents → List Space
spaces_of cs = map space_of cs

abbrev pub storage_of : Contents → SegmentStorage
storage_of c = record { names = map (λ d. d.name) c.descs; families = c.families }

abbrev pub linked_map : List Contents → Map
linked_map cs = map_of (map storage_of cs)

-- ---- the words of the data area

abbrev pub filled_word : (segment : ℕ) → (homes : List ℕ) → Preset → FilledWord
filled_word segment homes p = record { segment = segment; address = slice_index homes p.family + p.offset; word = p.word }

-- the presets of segments from number g on, counted from 0, in order of segment and record
abbrev pub presets_from : (g : ℕ) → (homes : List (List ℕ)) → List Contents → List FilledWord
presets_from g homes [] = []
presets_from g homes (c ∷ cs) = map (filled_word (g + 1) (slice_index_or homes g [])) c.presets ++ presets_from (g + 1) homes cs

abbrev pub linked_presets : List Contents → List FilledWord
linked_presets cs = presets_from 0 (linked_map cs).homes cs

abbrev pub word_or_zero : Option FilledWord → ℕ
word_or_zero None = 0
word_or_zero (Some p) = p.word

-- so many words from an address on
abbrev pub words_from : (address n : ℕ) → List FilledWord → List ℕ
words_from a zero ps = []
words_from a (suc n) ps = word_or_zero (first_at a ps) ∷ words_from (a + 1) n ps

abbrev pub unless_last_zero : ℕ → List ℕ → List ℕ
unless_last_zero w [] = if nat_eq w 0 then [] else w ∷ []
unless_last_zero w (v ∷ vs) = w ∷ v ∷ vs

-- up to the last that is not 0
abbrev pub without_last_zeros : List ℕ → List ℕ
without_last_zeros [] = []
without_last_zeros (w ∷ ws) = unless_last_zero w (without_last_zeros ws)

-- ---- the code

abbrev pub joined_code : List Contents → List ℕ
joined_code [] = []
joined_code (c ∷ cs) = c.code ++ joined_code cs

-- where the code ends that begins at a place
abbrev pub code_end : (start : ℕ) → List Contents → ℕ
code_end start [] = start
code_end start (c ∷ cs) = code_end (start + length c.code) cs

abbrev pub linked_size : List Contents → ℕ
linked_size cs = code_end (length library_bytes) cs

-- the place of a name's first definition in a segment
abbrev pub definition_in : (name : List ℕ) → List Desc → List (ℕ × ℕ) → Option ℕ
definition_in name ds [] = None
definition_in name ds (d ∷ more) = if has_name name (slice_get ds d.0) then Some d.1 else definition_in name ds more

-- its address: the first of these segments that defines it counts, and their code begins at a place
abbrev pub definition_from : (start : ℕ) → (name : List ℕ) → List Contents → Option ℕ
definition_from start name [] = None
definition_from start name (c ∷ cs) = or_else
    (option_map (λ place. word (start + place)) (definition_in name c.descs c.definitions))
    (definition_from (start + length c.code) name cs)

abbrev pub definition_address : List Contents → (name : List ℕ) → ℕ
definition_address cs name = entry_or_zero (definition_from (length library_bytes) name cs)

-- where these segments are entered, or the program ends
abbrev pub next_entry : (start : ℕ) → List Contents → ℕ
next_entry start [] = entry_or_zero (library_entry 0)
next_entry start (c ∷ cs) = word (start + c.body.entry)

-- what decides the words of segment number g, counted from 0, whose code begins at a place and which others follow
abbrev pub links_at : (all : List Contents) → (g start : ℕ) → Contents → (after : List Contents) → Links
links_at all g start c after = record {
  homes = slice_index_or (linked_map all).homes g [];
  definitions = map (λ d. definition_address all d.name) c.descs;
  start = start;
  number = g + 1;
  next = next_entry (start + length c.code) after;
}

-- one segment's relocated words after another's
abbrev pub filled_from : (all : List Contents) → Limits → (g start : ℕ) → List Contents → (code : List ℕ) → List ℕ
filled_from all limits g start [] code = code
filled_from all limits g start (c ∷ cs) code =
    filled_from all limits (g + 1) (start + length c.code) cs (fill (linked_word (links_at all g start c cs) limits) start c.relocs code)

abbrev pub linked_code : List Contents → Limits → List ℕ
linked_code cs limits = filled_from cs limits 0 (length library_bytes) cs (library_bytes ++ joined_code cs)

-- ---- the image

abbrev pub linked_image : List Contents → Limits → Image
linked_image cs limits = record {
  area = limits.area;
  frames = limits.frames;
  depth = limits.depth;
  names = map (λ c. c.name) cs;
  words = without_last_zeros (words_from 0 limits.area (linked_presets cs));
  code = linked_code cs limits;
}
