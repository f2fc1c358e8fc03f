-- The words of preset lists: the values of a list fill the words of the declared items in order, and a void place skips a word.
-- Official Definition of CORAL 66, "Presetting"; BS 5905, "Presetting". That the presets in the brackets of a table fill its elements entry
-- by entry is this project's profile.
use Rattle.std.specs.Prelude.{ℕ, zero, suc, nat_eq, nat_le, min, ◌+◌, ◌-◌, ◌*◌, ◌%◌, ◌^◌, List, [], ◌∷◌, ◌++◌, length}
use Rattle.std.specs.Prelude.{take, drop, Bool, true, false, ◌&&◌, Option, Some, None, if◌then◌else◌}
use Rattle.std.specs.Map.{lookup}
use Rattle.indexmap.specs.IndexMap.{insert_entry}
use Rattle.cw_word.specs.Decimal.{decimal_floor}
use Rattle.cw_word.specs.BitField.{with_field}
use Rattle.cw_tree.specs.declared.leaf.RawName.{RawName}
use Rattle.cw_tree.specs.declared.leaf.RawSize.{RawSize}
use Rattle.cw_tree.specs.declared.items.RawPlace.{RawPlace}
use Rattle.cw_tree.specs.declared.items.RawPlace.TheVariants as place
use Rattle.cw_tree.specs.declared.items.RawPresets.{RawPresets}
use Rattle.cw_tree.specs.declared.items.RawGroup.{RawGroup}
use Rattle.cw_tree.specs.declared.items.RawElem.{RawElem}
use Rattle.cw_tree.specs.declared.items.RawElem.TheVariants as elem
use Rattle.cw_tree.specs.declared.items.RawTable.{RawTable}
use Rattle.cw_tree.specs.declared.items.RawData.{RawData}
use Rattle.cw_tree.specs.declared.items.RawData.TheVariants as items
use Rattle.cw_amount.specs.Amounts.{octal_word, is_negative, place_amount}
use Rattle.cw_make_items.specs.scale.Kinds.{fraction_of, element_fraction}
use Rattle.cw_data.specs.Presets.{behind_each, table_entries}
use Rattle.cw_make_items.specs.things.Things.{amount_or_none, group_words, words_of_table}
use Rattle.cw_make_items.specs.number.Numbers.{next_short}
use Rattle.cw_make_items.specs.Types.{within, width_of}
use Rattle.cw_preset.specs.Strings.{Words, Rows}

-- ---- values

-- a number with its sign, as a word
abbrev pub as_word : (negative : Bool) → ℕ → ℕ
as_word false n = n % 65536
as_word true n = (65536 - n % 65536) % 65536

-- the word of a place at a scale; none of a void one
abbrev pub place_word : (scale : ℕ) → RawPlace → Option ℕ
place_word f (place.Void at) = None
place_word f (place.Number s n) = Some (as_word (is_negative s) (decimal_floor n.number.whole n.number.digits n.number.places f))
place_word f (place.Octal s o) = Some (as_word (is_negative s) (amount_or_none (octal_word o.number.number) * 2 ^ f))
place_word f (place.Literal s l) = Some (as_word (is_negative s) (l.byte * 2 ^ f))

abbrev pub word_if : (offset : ℕ) → Option ℕ → Words
word_if o None = []
word_if o (Some w) = (o, w) ∷ []

-- places for words from an offset on
abbrev pub places_words : (scale offset : ℕ) → List RawPlace → Words
places_words f o [] = []
places_words f o (p ∷ ps) = word_if o (place_word f p) ++ places_words f (next_short o) ps

-- ---- items that have so many words each

abbrev pub named_rows : (scale words : ℕ) → List RawName → List RawPlace → Rows
named_rows f w [] places = []
named_rows f w (n ∷ ns) places = record { token = n.at.token; item = places_words f 0 (take w places) } ∷ named_rows f w ns (drop w places)

abbrev pub groups_rows : (scale : ℕ) → List RawGroup → List RawPlace → Rows
groups_rows f [] places = []
groups_rows f (g ∷ gs) places = named_rows f (group_words g) g.names places ++ groups_rows f gs (behind_each (group_words g) g.names places)

-- ---- the elements of tables

abbrev pub word_in : Words → (offset : ℕ) → ℕ
word_in ws o = amount_or_none (lookup (nat_eq o) ws)

abbrev pub put_part : (t b before value : ℕ) → ℕ
put_part t b before v = if nat_le 1 t && nat_le (t + b) 16 then with_field before t b v else before

-- a word with the value of an element in it
abbrev pub element_put : RawElem → (before value : ℕ) → ℕ
element_put (elem.Word n t w) before v = v
element_put (elem.Part n u t f w b) before v = put_part (within 255 (place_amount t)) (within 255 (place_amount b)) before v

abbrev pub element_word : RawElem → ℕ
element_word (elem.Word n t w) = within 65535 (place_amount w)
element_word (elem.Part n u t f w b) = within 65535 (place_amount w)

-- A word is at the place of its first element in the list; its other bits are 0 at first.
abbrev pub stored : (offset : ℕ) → RawElem → Option ℕ → Words → Words
stored o e None ws = ws
stored o e (Some v) ws = insert_entry nat_eq ws o (element_put e (word_in ws o) v)

-- an entry whose first word has this offset
abbrev pub entry_words : (first : ℕ) → List RawElem → List RawPlace → Words → Words
entry_words first [] places ws = ws
entry_words first (e ∷ es) [] ws = ws
entry_words first (e ∷ es) (p ∷ ps) ws = entry_words first es ps (stored (min (first + element_word e) 65535) e (place_word (element_fraction e) p) ws)

abbrev pub entries_words : (entries width first : ℕ) → List RawElem → List RawPlace → Words → Words
entries_words zero width first es places ws = ws
entries_words (suc n) width first es places ws =
    entries_words n width (min (first + width) 65535) es (drop (length es) places) (entry_words first es places ws)

abbrev pub elements_words : RawSize → List RawElem → List RawPlace → Words
elements_words s es places = entries_words (table_entries (place_amount s.first) (place_amount s.second)) (width_of s) 0 es places []

-- ---- declarations

abbrev pub singles_preset : (scale : ℕ) → List RawName → Option RawPresets → Rows
singles_preset f ns None = []
singles_preset f ns (Some p) = named_rows f 1 ns p.places

abbrev pub groups_preset : (scale : ℕ) → List RawGroup → Option RawPresets → Rows
groups_preset f gs None = []
groups_preset f gs (Some p) = groups_rows f gs p.places

-- one table has one of the two kinds
abbrev pub table_preset : RawTable → (inside behind : Option RawPresets) → Rows
table_preset t (Some p) behind = record { token = t.name.at.token; item = elements_words t.size t.elems p.places } ∷ []
table_preset t None (Some p) = record { token = t.name.at.token; item = places_words 0 0 (take (words_of_table t) p.places) } ∷ []
table_preset t None None = []

abbrev pub data_rows : RawData → Rows
data_rows (items.Singles t ns presets) = singles_preset (fraction_of t) ns presets
data_rows (items.Arrays t gs presets) = groups_preset (fraction_of t) gs presets
data_rows (items.Table t inside behind) = table_preset t inside behind
