-- What a unit's layout asks of the unit: each base is there and stands before what is overlaid on it, an item of a frame has a
-- procedure, and all places and presets have room.
use Rattle.std.specs.Prelude.{ℕ, suc, ◌+◌, nat_lt, nat_le, List, [], ◌∷◌, length, Bool, true, false, ◌&&◌, Option, Some, None}
use Rattle.std.specs.List.{list_all}
use Rattle.cw_unit.specs.declared.unit.Unit.{Unit as SourceUnit}
use Rattle.cw_unit.specs.declared.unit.Item.{Item}
use Rattle.cw_unit.specs.declared.unit.Proc.{Proc}
use Rattle.cw_unit.specs.declared.unit.Home.{Home}
use Rattle.cw_unit.specs.declared.unit.Home.TheVariants as home
use Rattle.cw_unit.specs.declared.descriptor.Desc.{Desc}
use Rattle.cw_unit.specs.Storage.{base_of_home, family_offset, frame_size}

-- the owner of an item of a frame is one of so many procedures
abbrev pub is_owned : (procedures : ℕ) → Option ℕ → Bool
is_owned n None = false
is_owned n (Some q) = nat_lt q n

-- a base stands before the item of this number
abbrev pub is_before : (item : ℕ) → Option (ℕ × ℕ) → Bool
is_before i None = true
is_before i (Some b) = nat_lt b.0 i

-- the home of the item of this number
abbrev pub is_home : SourceUnit → (item : ℕ) → (owner : Option ℕ) → Home → Bool
is_home u i owner (home.Common d) = is_before i (base_of_home u (home.Common d))
is_home u i owner home.Own = true
is_home u i owner (home.Absolute a) = true
is_home u i owner home.Frame = is_owned (length u.procs) owner
is_home u i owner (home.Over b offset) = nat_lt b i

-- an item ends within the words that a place can tell
abbrev pub ends_in_reach : SourceUnit → (item : ℕ) → (words : ℕ) → Bool
ends_in_reach u i words = nat_lt (family_offset u i + words) 65536

abbrev pub is_preset : (words : ℕ) → ℕ × ℕ → Bool
is_preset words p = nat_lt p.0 words

abbrev pub is_item : SourceUnit → (item : ℕ) → Item → Bool
is_item u i x = is_home u i x.owner x.home && (ends_in_reach u i x.words && list_all (is_preset x.words) x.presets)

-- the items from this number on
abbrev pub are_items : SourceUnit → (item : ℕ) → List Item → Bool
are_items u i [] = true
are_items u i (x ∷ xs) = is_item u i x && are_items u (suc i) xs

-- the frames of the procedures from this number on
abbrev pub are_frames : SourceUnit → (procedure : ℕ) → List Proc → Bool
are_frames u q [] = true
are_frames u q (p ∷ ps) = nat_lt (frame_size u q) 65536 && are_frames u (suc q) ps

-- the base of a COMMON item is one of so many descriptors
abbrev pub is_base : (descriptors : ℕ) → Option (ℕ × ℕ) → Bool
is_base n None = true
is_base n (Some b) = nat_lt b.0 n

abbrev pub are_bases : SourceUnit → Bool
are_bases u = list_all (λ (d : Desc). is_base (length u.descs) d.over) u.descs

-- an item's number is a word, and so is how many there are
abbrev pub is_stored : SourceUnit → Bool
is_stored u = nat_le (length u.items) 65535 && (are_bases u && (are_items u 0 u.items && are_frames u 0 u.procs))
