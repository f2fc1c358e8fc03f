-- Storage families. OVERLAY puts an item on words of another, its base; an item together with all that are overlaid on it, directly
-- or through others, is a family. Here bases are followed back: where an item stands in its family, and how far the family reaches.
use Rattle.std.specs.Prelude.{ℕ, zero, suc, ◌+◌, max, nat_eq, List, [], ◌∷◌, ◌++◌, map, take, Bool, true}
use Rattle.std.specs.Prelude.{false, ◌&&◌, Option, Some, None, is_none, slice_get, if◌then◌else◌}
use Rattle.cw_unit.specs.declared.unit.Unit.{Unit as SourceUnit}
use Rattle.cw_unit.specs.declared.unit.Item.{Item}
use Rattle.cw_unit.specs.declared.unit.Proc.{Proc}
use Rattle.cw_unit.specs.declared.unit.Home.{Home}
use Rattle.cw_unit.specs.declared.unit.Home.TheVariants as home
use Rattle.cw_unit.specs.declared.descriptor.Desc.{Desc}
use Rattle.cw_unit.specs.declared.layout.Layout.{Layout}
use Rattle.cw_unit.specs.declared.layout.Family.{Family}
use Rattle.cw_unit.specs.declared.layout.Preset.{Preset}
use Rattle.cw_unit.specs.declared.layout.Sort.{Sort}
use Rattle.cw_unit.specs.declared.layout.Sort.TheVariants as sort

-- ---- bases

-- whether an item is that of a descriptor of the COMMON lists
abbrev pub is_item_of : (descriptor : ℕ) → Home → Bool
is_item_of d (home.Common e) = nat_eq d e
is_item_of d _ = false

-- the number of a descriptor's item, where these are the items from number n on
abbrev pub item_of_from : (n descriptor : ℕ) → List Item → ℕ
item_of_from n d [] = 0
item_of_from n d (i ∷ is) = if is_item_of d i.home then n else item_of_from (n + 1) d is

abbrev pub overlay_in : Option Desc → Option (ℕ × ℕ)
overlay_in None = None
overlay_in (Some d) = d.over

abbrev pub common_base : SourceUnit → Option (ℕ × ℕ) → Option (ℕ × ℕ)
common_base u None = None
common_base u (Some b) = Some (item_of_from 0 b.0 u.items, b.1)

-- the base of an item with this home, if it has one, and the word of the base at which the item begins
abbrev pub base_of_home : SourceUnit → Home → Option (ℕ × ℕ)
base_of_home u (home.Over i offset) = Some (i, offset)
base_of_home u (home.Common d) = common_base u (overlay_in (slice_get u.descs d))
base_of_home u home.Own = None
base_of_home u (home.Absolute a) = None
base_of_home u home.Frame = None

abbrev pub base_of_item : SourceUnit → Option Item → Option (ℕ × ℕ)
base_of_item u None = None
base_of_item u (Some i) = base_of_home u i.home

abbrev pub base_of : SourceUnit → (item : ℕ) → Option (ℕ × ℕ)
base_of u i = base_of_item u (slice_get u.items i)

-- at most n bases are followed back: a base stands before what is overlaid on it, so an item has no more of them than its number
abbrev pub root_within : (n : ℕ) → SourceUnit → (item : ℕ) → ℕ
root_within zero u i = i
root_within (suc n) u i = elim (base_of u i) [ None ↦ i | Some b ↦ root_within n u b.0 ]

abbrev pub offset_within : (n : ℕ) → SourceUnit → (item : ℕ) → ℕ
offset_within zero u i = 0
offset_within (suc n) u i = elim (base_of u i) [ None ↦ 0 | Some b ↦ b.1 + offset_within n u b.0 ]

-- the item of a family that has no base
abbrev pub root_of : SourceUnit → (item : ℕ) → ℕ
root_of u i = root_within i u i

-- where an item stands in its family: the sum of the offsets on the way to the root
abbrev pub family_offset : SourceUnit → (item : ℕ) → ℕ
family_offset u i = offset_within i u i

-- ---- families

abbrev pub extent_from : (n : ℕ) → SourceUnit → (root : ℕ) → List Item → ℕ
extent_from n u r [] = 0
extent_from n u r (i ∷ is) = max (if nat_eq (root_of u n) r then family_offset u n + i.words else 0) (extent_from (n + 1) u r is)

-- how many words a family takes: up to the end of the item that reaches furthest
abbrev pub family_extent : SourceUnit → (root : ℕ) → ℕ
family_extent u r = extent_from 0 u r u.items

-- how many of these items are roots
abbrev pub roots_in : SourceUnit → List Item → ℕ
roots_in u [] = 0
roots_in u (i ∷ is) = (if is_none (base_of_home u i.home) then 1 else 0) + roots_in u is

-- the number of an item's family: families are in order of their roots
abbrev pub family_of : SourceUnit → (item : ℕ) → ℕ
family_of u i = roots_in u (take (root_of u i) u.items)

-- ---- frames

abbrev pub is_frame_home : Home → Bool
is_frame_home home.Frame = true
is_frame_home _ = false

abbrev pub is_owner : (procedure : ℕ) → Option ℕ → Bool
is_owner q None = false
is_owner q (Some p) = nat_eq q p

abbrev pub frame_words_from : (n : ℕ) → SourceUnit → (procedure : ℕ) → List Item → ℕ
frame_words_from n u q [] = 0
frame_words_from n u q (i ∷ is) =
    (if is_frame_home i.home && is_owner q i.owner then family_extent u n else 0) + frame_words_from (n + 1) u q is

-- the words that the families of these first items take in the frame of a procedure
abbrev pub frame_words : SourceUnit → (procedure : ℕ) → List Item → ℕ
frame_words u q is = frame_words_from 0 u q is

-- a procedure's frame has its families one after another
abbrev pub frame_size : SourceUnit → (procedure : ℕ) → ℕ
frame_size u q = frame_words u q u.items

abbrev pub frame_sizes_from : (q : ℕ) → SourceUnit → List Proc → List ℕ
frame_sizes_from q u [] = []
frame_sizes_from q u (p ∷ ps) = frame_size u q ∷ frame_sizes_from (q + 1) u ps

abbrev pub frame_offset : SourceUnit → (owner : Option ℕ) → (root : ℕ) → ℕ
frame_offset u None r = 0
frame_offset u (Some q) r = frame_words u q (take r u.items)

-- ---- the layout of a unit

abbrev pub sort_of : SourceUnit → (root : ℕ) → (owner : Option ℕ) → Home → Sort
sort_of u r owner (home.Common d) = sort.Common d
sort_of u r owner home.Own = sort.Own
sort_of u r owner (home.Absolute a) = sort.Absolute a
sort_of u r owner home.Frame = sort.Frame (frame_offset u owner r)
sort_of u r owner (home.Over b o) = sort.Own

abbrev pub family_at : SourceUnit → (root : ℕ) → Item → Family
family_at u r i = record { sort = sort_of u r i.owner i.home; extent = family_extent u r }

abbrev pub families_from : (n : ℕ) → SourceUnit → List Item → List Family
families_from n u [] = []
families_from n u (i ∷ is) =
    if is_none (base_of_home u i.home) then family_at u n i ∷ families_from (n + 1) u is else families_from (n + 1) u is

-- each item's family and its offset there
abbrev pub positions_from : (n : ℕ) → SourceUnit → List Item → List (ℕ × ℕ)
positions_from n u [] = []
positions_from n u (i ∷ is) = (family_of u n, family_offset u n) ∷ positions_from (n + 1) u is

abbrev pub preset_at : SourceUnit → (item : ℕ) → ℕ × ℕ → Preset
preset_at u i p = record { family = family_of u i; offset = family_offset u i + p.0; word = p.1 }

abbrev pub presets_from : (n : ℕ) → SourceUnit → List Item → List Preset
presets_from n u [] = []
presets_from n u (i ∷ is) = map (preset_at u n) i.presets ++ presets_from (n + 1) u is

abbrev pub layout_of : SourceUnit → Layout
layout_of u =
    record {
      families = families_from 0 u u.items;
      homes = positions_from 0 u u.items;
      frames = frame_sizes_from 0 u u.procs;
      words = presets_from 0 u u.items;
    }
