-- The watch that a stop means in objects that were linked.
use Rattle.std.specs.Prelude.{◌≡◌, ◌≢◌, ◌≤◌, ℕ, min, nat_lt, IsSome, All, take, ◌+◌, ◌<◌, ◌==◌, ◌&&◌, if◌then◌else◌, List, [], ◌∷◌, ◌++◌, length}
use Rattle.std.specs.Prelude.{flat_map, Option, Some, None, slice_get, slice_index, slice_index_or, Result, Ok, Err, codes, decimal}
use Rattle.std.specs.Str.{bytes_eq}
use Rattle.cw_fields.specs.Names.{is_empty}
use Rattle.cw_unit.specs.Allocation.{is_same_name}
use Rattle.cw_unit.specs.Program.{is_frame_family}
use Rattle.cw_unit.specs.declared.layout.Family.{Family}
use Rattle.cw_unit.specs.declared.layout.Limits.{Limits}
use Rattle.cw_unit.specs.declared.layout.Map.{Map}
use Rattle.cw_view.specs.Payloads.{ItemEntry}
use Rattle.cw_view.specs.Reading.{item_in, statement_in}
use Rattle.cw_tmpl.specs.Library.{library_bytes}
use Rattle.cw_link.specs.Contents.{values_in}
use Rattle.cw_link.specs.Relocation.{word}
use Rattle.cw_object.specs.ObjectContents.{payloads_of, contents_in}
use Rattle.cw_list.specs.Listing.{unnamed}
use Rattle.cw_stop.specs.declared.stopping.Stop.{Stop}
use Rattle.cw_stop.specs.declared.stopping.Watched.{Watched}
use Rattle.cw_trace.specs.declared.watch.Watch.{Watch}
use Rattle.cw_trace.specs.declared.watch.WatchedWord.{WatchedWord}
use Rattle.cw_watch.specs.declared.lines.ItemLine.{ItemLine}
use Rattle.cw_watch.specs.declared.fault.WatchFault.{WatchFault}
use Rattle.cw_watch.specs.declared.fault.WatchFault.TheVariants.{NoPlace, NoItem, NoMemory}

abbrev pub Bytes : Type 0
Bytes = List ℕ

-- ---- places

-- the places of a line among statements, each told with its place in the code and its line, where the code begins there
abbrev pub places_at : (start line : ℕ) → List (ℕ × ℕ) → List ℕ
places_at start line [] = []
places_at start line (s ∷ ss) = if s.1 == line then word (start + s.0) ∷ places_at start line ss else places_at start line ss

-- those of a segment's statements, if the segment has the name
abbrev pub segment_places : (start : ℕ) → (name : List ℕ) → (line : ℕ) → (segment : List ℕ) → List (ℕ × ℕ) → List ℕ
segment_places start name line segment statements = if is_same_name segment name then places_at start line statements else []

abbrev pub object_places : (start : ℕ) → (name : List ℕ) → (line : ℕ) → (object : Bytes) → List ℕ
object_places start name line object = segment_places start name line (contents_in object).name (values_in statement_in (payloads_of 10 object))

-- those of objects whose codes stand one after another
abbrev pub places_from : (start : ℕ) → (name : List ℕ) → (line : ℕ) → List Bytes → List ℕ
places_from start name line [] = []
places_from start name line (o ∷ os) = object_places start name line o ++ places_from (start + length (contents_in o).code) name line os

-- the places in the linked code at which a statement begins of the stop's segment and line
abbrev pub stop_places : Stop → List Bytes → List ℕ
stop_places stop objects = places_from (length library_bytes) stop.segment stop.line objects

-- ---- items

-- what stands in the storage map for an item: its owner and its name, or its line where it has none
abbrev pub owner_text : (segment : List ℕ) → ItemEntry → List ℕ
owner_text segment i = if i.common then codes "COMMON" else if is_empty i.owner then segment else segment ++ (codes "." ++ i.owner)

abbrev pub name_text : ItemEntry → List ℕ
name_text i = if is_empty i.name then unnamed i.kind ++ decimal i.line else i.name

abbrev pub item_text : (segment : List ℕ) → ItemEntry → List ℕ
item_text segment i = owner_text segment i ++ (codes "." ++ name_text i)

-- the line of an item that has an address, by the families of its segment and where these stand; an item of a frame has none
abbrev pub line_of : (segment : List ℕ) → List Family → (homes : List ℕ) → ItemEntry → List ItemLine
line_of segment families homes i =
    if is_frame_family (slice_get families i.family) then []
    else record { text = item_text segment i; address = slice_index homes i.family + i.offset; words = i.words } ∷ []

-- those of an object's items
abbrev pub object_lines : (homes : List ℕ) → (object : Bytes) → List ItemLine
object_lines homes object = flat_map (line_of (contents_in object).name (contents_in object).families homes) (values_in item_in (payloads_of 4 object))

-- those of objects, of which the first has this number from 0, in order of segment and place in the text
abbrev pub lines_from : (g : ℕ) → (homes : List (List ℕ)) → List Bytes → List ItemLine
lines_from g homes [] = []
lines_from g homes (o ∷ os) = object_lines (slice_index_or homes g []) o ++ lines_from (g + 1) homes os

-- the first, or the second where that has a lower address
abbrev pub lower : ℕ × ℕ → Option (ℕ × ℕ) → Option (ℕ × ℕ)
lower place None = Some place
lower place (Some other) = if nat_lt other.0 place.0 then Some other else Some place

-- Where the item stands that a text names, and its words: where several have the text, the item of the lowest address, and the first of these. That one
-- has the first line in the storage map, whose lines come by address, then segment, then place in the text.
abbrev pub item_at : (text : List ℕ) → List ItemLine → Option (ℕ × ℕ)
item_at text [] = None
item_at text (line ∷ lines) = if bytes_eq line.text text then lower (line.address, line.words) (item_at text lines) else item_at text lines

-- The item stands on a line of the text, than which no other has a lower address, and none in front of it as low a one.
pub record IsFirstItem (text : List ℕ) (lines : List ItemLine) (place : ℕ × ℕ) : Type 0 where
  pub at : ℕ
  pub line : ItemLine
  pub stands : slice_get lines at ≡ Some line
  pub named : line.text ≡ text
  pub place_is : place ≡ (line.address, line.words)
  pub lowest : (k : ℕ) (other : ItemLine) → slice_get lines k ≡ Some other → other.text ≡ text → line.address ≤ other.address
  pub first : (k : ℕ) (other : ItemLine) → slice_get lines k ≡ Some other → other.text ≡ text → k < at → line.address < other.address

abbrev pub FirstItem : (text : List ℕ) → List ItemLine → Option (ℕ × ℕ) → Type 0
FirstItem text lines None = (k : ℕ) (other : ItemLine) → slice_get lines k ≡ Some other → other.text ≢ text
FirstItem text lines (Some place) = IsFirstItem text lines place

-- ---- watched words

-- the address of a word of an item, where the item has such a word and it stands in the data area
abbrev pub word_in_item : (area : ℕ) → (k : ℕ) → Option (ℕ × ℕ) → Option ℕ
word_in_item area k None = None
word_in_item area k (Some (address, words)) = if nat_lt k words && nat_lt (address + k) area then Some (address + k) else None

-- the address that a watched name means, if it means one
abbrev pub watched_address : List ItemLine → (area : ℕ) → Watched → Option ℕ
watched_address lines area watched = word_in_item area watched.word (item_at watched.text lines)

-- each of them means the word of its place
abbrev pub MeanWords : List ItemLine → (area : ℕ) → List Watched → List WatchedWord → Type 0
MeanWords lines area [] [] = Unit {0}
MeanWords lines area [] (found ∷ more) = ⊥
MeanWords lines area (watched ∷ others) [] = ⊥
MeanWords lines area (watched ∷ others) (found ∷ more) = (found.text ≡ watched.text)
    × (watched_address lines area watched ≡ Some found.address) × MeanWords lines area others more

-- The watched name of this number is the first that means no word.
pub record IsFirstNone (lines : List ItemLine) (area : ℕ) (watched : List Watched) (number : ℕ) : Type 0 where
  pub name : Watched
  pub stands : slice_get watched number ≡ Some name
  pub none : watched_address lines area name ≡ None
  pub before : All (λ other. IsSome (watched_address lines area other)) (take number watched)

-- what comes of all of them: the number of a name is told up to 65,535
abbrev pub AnswersWords : List ItemLine → (area : ℕ) → List Watched → Result (List WatchedWord) WatchFault → Type 0
AnswersWords lines area watched (Ok words) = MeanWords lines area watched words
AnswersWords lines area watched (Err NoPlace) = ⊥
AnswersWords lines area watched (Err (NoItem index)) = (number : ℕ) × IsFirstNone lines area watched number × (index ≡ min number 65535)
AnswersWords lines area watched (Err NoMemory) = Unit {0}

-- ---- the watch

pub record IsWatch (objects : List Bytes) (homes : Map) (limits : Limits) (stop : Stop) (watch : Watch) : Type 0 where
  pub segment : watch.segment ≡ stop.segment
  pub line : watch.line ≡ stop.line
  pub places : watch.places ≡ stop_places stop objects
  pub some : 0 < length watch.places
  pub words : MeanWords (lines_from 0 homes.homes objects) limits.area stop.watched watch.words

-- What a stop means: a watch; or no statement begins at the stop; or some do, and a watched name means no word.
abbrev pub AnswersWatch : List Bytes → Map → Limits → Stop → Result Watch WatchFault → Type 0
AnswersWatch objects homes limits stop (Ok watch) = IsWatch objects homes limits stop watch
AnswersWatch objects homes limits stop (Err NoPlace) = stop_places stop objects ≡ []
AnswersWatch objects homes limits stop (Err (NoItem index)) =
    (0 < length (stop_places stop objects))
    × ((number : ℕ) × IsFirstNone (lines_from 0 homes.homes objects) limits.area stop.watched number
    × (index ≡ min number 65535))
AnswersWatch objects homes limits stop (Err NoMemory) = Unit {0}
