-- The tables of the passes.
use Rattle.std.specs.Prelude.{◌≡◌, ℕ, ◌+◌, ◌<◌, List, length, slice_index, set, Option, Some, None}
use Rattle.cw_unit.specs.declared.unit.Unit.{Unit as SourceUnit}
use Rattle.cw_unit.specs.declared.unit.Home.{Home}
use Rattle.cw_unit.specs.declared.unit.Home.TheVariants as home
use Rattle.cw_unit.specs.declared.layout.Preset.{Preset}
use Rattle.cw_unit.specs.declared.layout.Sort.{Sort}
use Rattle.cw_unit.specs.declared.layout.Sort.TheVariants as sort
use Rattle.cw_unit.specs.Storage.{item_of_from, base_of, family_of, family_extent}

-- for each descriptor the number of its item
pub record TellsItems (u : SourceUnit) (numbers : List ℕ) : Type 0 where
  pub len : length numbers ≡ length u.descs
  pub at : (d : ℕ) → d < length u.descs → slice_index numbers d ≡ item_of_from 0 d u.items

-- for each family how many words it takes
pub record TellsExtents (u : SourceUnit) (extents : List ℕ) : Type 0 where
  pub len : length extents ≡ length u.items
  pub at : (r : ℕ) → r < length u.items → base_of u r ≡ None → slice_index extents (family_of u r) ≡ family_extent u r

-- a preset word of an item with this home
abbrev pub preset_in : ℕ × ℕ → ℕ × ℕ → Preset
preset_in home p = record { family = home.0; offset = home.1 + p.0; word = p.1 }

-- the words so far of a procedure's frame
abbrev pub frame_at : (frames : List ℕ) → (owner : Option ℕ) → ℕ
frame_at frames None = 0
frame_at frames (Some q) = slice_index frames q

abbrev pub grown_frame : (frames : List ℕ) → (owner : Option ℕ) → (extent : ℕ) → List ℕ
grown_frame frames None extent = frames
grown_frame frames (Some q) extent = set frames q (slice_index frames q + extent)

-- the sort of a root, where the frames have so many words before it
abbrev pub sort_with : (frames : List ℕ) → (owner : Option ℕ) → Home → Sort
sort_with frames owner (home.Common d) = sort.Common d
sort_with frames owner home.Own = sort.Own
sort_with frames owner (home.Absolute a) = sort.Absolute a
sort_with frames owner home.Frame = sort.Frame (frame_at frames owner)
sort_with frames owner (home.Over b o) = sort.Own

-- the words of the frames with it
abbrev pub grown_frames : (frames : List ℕ) → (owner : Option ℕ) → Home → (extent : ℕ) → List ℕ
grown_frames frames owner home.Frame extent = grown_frame frames owner extent
grown_frames frames owner _ extent = frames
