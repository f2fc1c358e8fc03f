-- The places of a preset list: each has a value that fits a word, and there are no more of them than words.
-- Official Definition of CORAL 66, "Presetting"; BS 5905, "Presetting".
use Rattle.std.specs.Prelude.{ℕ, zero, suc, nat_le, nat_lt, ◌-◌, ◌*◌, ◌^◌, List, [], ◌∷◌, length, drop, Bool}
use Rattle.std.specs.Prelude.{true, false, ◌&&◌, not, Option, Some, None, is_some, if◌then◌else◌}
use Rattle.cw_word.specs.Decimal.{decimal_floor}
use Rattle.cw_tree.specs.declared.leaf.Position.{Position}
use Rattle.cw_tree.specs.declared.leaf.RawName.{RawName}
use Rattle.cw_tree.specs.declared.leaf.RawSign.{RawSign}
use Rattle.cw_tree.specs.declared.leaf.RawOctal.{RawOctal}
use Rattle.cw_word.specs.Number.{Number}
use Rattle.cw_tree.specs.declared.items.RawPlace.{RawPlace}
use Rattle.cw_tree.specs.declared.items.RawPlace.TheVariants as place
use Rattle.cw_tree.specs.declared.items.RawGroup.{RawGroup}
use Rattle.cw_tree.specs.declared.items.RawRange.{RawRange}
use Rattle.cw_tree.specs.declared.leaf.RawSize.{RawSize}
use Rattle.cw_scale.specs.declared.fault.Rule.TheVariants as rule
use Rattle.cw_scale.specs.Faults.{Judgement, fine, wrong, unless, both}
use Rattle.cw_amount.specs.Amounts.{octal_word, is_negative, place_amount}
use Rattle.cw_tree.specs.declared.items.RawElem.{RawElem}
use Rattle.cw_tree.specs.declared.items.RawElem.TheVariants as elem
use Rattle.cw_scale.specs.Kinds.{element_fraction}
use Rattle.cw_data.specs.declared.presets.Room.{Room}
use Rattle.cw_data.specs.Data.{good_bounds, range_span, good_size}

-- whether a number with its sign fits a word
abbrev pub fits_signed : (negative : Bool) → ℕ → Bool
fits_signed true n = nat_le n 32768
fits_signed false n = nat_le n 32767

-- whether it fits so many bits of one
abbrev pub fits_part : (unsigned : Bool) → (bits : ℕ) → (negative : Bool) → ℕ → Bool
fits_part true bits true n = nat_le n 0
fits_part true bits false n = nat_lt n (2 ^ bits)
fits_part false bits true n = nat_le n (2 ^ (bits - 1))
fits_part false bits false n = nat_lt n (2 ^ (bits - 1))

-- 16 bits, with a sign or without, hold what a word does
abbrev pub fits_room : Room → (negative : Bool) → ℕ → Bool
fits_room r negative n = if nat_le 16 r.bits then fits_signed negative n else fits_part r.unsigned r.bits negative n

abbrev pub whole_word : Room
whole_word = record { unsigned = false; bits = 16 }

-- a word at a scale, by its sign and its size
abbrev pub word_fits : Room → (negative : Bool) → (scale : ℕ) → (word : ℕ) → Bool
word_fits r negative f w =
    if nat_lt w 32768 then fits_room r negative (w * 2 ^ f) else fits_room r (not negative) ((65536 - w) * 2 ^ f)

abbrev pub octal_fits : Room → (negative : Bool) → (scale : ℕ) → Option ℕ → Bool
octal_fits r negative f None = true
octal_fits r negative f (Some w) = word_fits r negative f w

abbrev pub number_fits : Room → (negative : Bool) → (scale : ℕ) → Number → Bool
number_fits r negative f n = fits_room r negative (decimal_floor n.whole n.digits n.places f)

-- where a place begins
abbrev pub begins : Option RawSign → Position → Position
begins None at = at
begins (Some s) at = s.at

abbrev pub place_position : RawPlace → Position
place_position (place.Void at) = at
place_position (place.Number s n) = begins s n.at
place_position (place.Octal s o) = begins s o.at
place_position (place.Literal s l) = begins s l.at

abbrev pub octal_judged : RawOctal → Judgement
octal_judged o = unless (is_some (octal_word o.number.number)) rule.NumberRange o.number.at

-- the value of a place at a scale, which is at most 15
abbrev pub place_judged : Room → (scale : ℕ) → RawPlace → Judgement
place_judged r f (place.Void at) = fine
place_judged r f (place.Number s n) = unless (nat_le f 15 && number_fits r (is_negative s) f n.number) rule.BadPreset (begins s n.at)
place_judged r f (place.Octal s o) =
    both (octal_judged o) (unless (nat_le f 15 && octal_fits r (is_negative s) f (octal_word o.number.number)) rule.BadPreset (begins s o.at))
place_judged r f (place.Literal s l) = unless (nat_le f 15 && fits_room r (is_negative s) (l.byte * 2 ^ f)) rule.BadPreset (begins s l.at)

abbrev pub places_judged : (scale : ℕ) → List RawPlace → Judgement
places_judged f [] = fine
places_judged f (p ∷ more) = both (place_judged whole_word f p) (places_judged f more)

-- ---- how many

-- the places behind those of some items, which have so many words each
abbrev pub behind_each : (words : ℕ) → List RawName → List RawPlace → List RawPlace
behind_each words [] places = places
behind_each words (n ∷ ns) places = behind_each words ns (drop words places)

-- the first place for which there is no word
abbrev pub left_over : List RawPlace → Judgement
left_over [] = fine
left_over (p ∷ more) = wrong rule.BadPreset (place_position p)

-- single items have a word each
abbrev pub singles_preset : (scale : ℕ) → List RawName → List RawPlace → Judgement
singles_preset f ns places = both (places_judged f places) (left_over (behind_each 1 ns places))

-- ---- arrays and tables; one that is refused counts as one word

abbrev pub array_words : RawRange → Option RawRange → ℕ
array_words r None = if good_bounds r None then range_span r else 1
array_words r (Some s) = if good_bounds r (Some s) then range_span r * range_span s else 1

abbrev pub behind_groups : List RawGroup → List RawPlace → List RawPlace
behind_groups [] places = places
behind_groups (g ∷ gs) places = behind_groups gs (behind_each (array_words g.bounds.first g.bounds.second) g.names places)

abbrev pub arrays_preset : (scale : ℕ) → List RawGroup → List RawPlace → Judgement
arrays_preset f gs places = both (places_judged f places) (left_over (behind_groups gs places))

-- the words of a table have the scale 0
abbrev pub table_words : Option ℕ → Option ℕ → ℕ
table_words (Some w) (Some n) = if good_size (Some w) (Some n) then w * n else 1
table_words _ _ = 1

abbrev pub table_preset : RawSize → List RawPlace → Judgement
table_preset s places = both (places_judged 0 places) (left_over (drop (table_words (place_amount s.first) (place_amount s.second)) places))

-- ---- presets in the brackets of a table: the elements of the first entry in order, then those of the next

abbrev pub bits_in : Option ℕ → ℕ
bits_in None = 16
bits_in (Some n) = if nat_le n 16 then n else 16

abbrev pub element_room : RawElem → Room
element_room (elem.Word n t w) = whole_word
element_room (elem.Part n unsigned t f w b) = record { unsigned = unsigned; bits = bits_in (place_amount t) }

abbrev pub entry_judged : List RawElem → List RawPlace → Judgement
entry_judged [] places = fine
entry_judged (e ∷ es) [] = fine
entry_judged (e ∷ es) (p ∷ more) = both (place_judged (element_room e) (element_fraction e) p) (entry_judged es more)

abbrev pub entries_preset : (entries : ℕ) → List RawElem → List RawPlace → Judgement
entries_preset zero es places = left_over places
entries_preset (suc n) es places = both (entry_judged es places) (entries_preset n es (drop (length es) places))

-- a table that is refused counts as one entry
abbrev pub table_entries : Option ℕ → Option ℕ → ℕ
table_entries (Some w) (Some n) = if good_size (Some w) (Some n) then n else 1
table_entries _ _ = 1

abbrev pub elements_preset : RawSize → List RawElem → List RawPlace → Judgement
elements_preset s es places = entries_preset (table_entries (place_amount s.first) (place_amount s.second)) es places
