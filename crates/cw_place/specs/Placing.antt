-- How far the families of segments are placed. Families are taken by their keys, in order.
use Rattle.std.specs.Prelude.{◌≡◌, ◌≤◌, ◌<◌, ℕ, min, List, [], ◌∷◌, ◌++◌, map, take, length, Option, None, Some, slice_get, slice_index_or, if◌then◌else◌}
use Rattle.cw_unit.specs.Allocation.{name_at, SegmentStorage, FamilyKey, Shared, is_same_key, keys_in_segment, keys_from, first_keys}
use Rattle.cw_unit.specs.Allocation.{absolute_ranges, first_fit, Placed, placed_from, last_end_of, common_extent}
use Rattle.cw_comm.specs.declared.face.Agreed.{Agreed}
use Rattle.cw_place.specs.declared.space.Space.{Space}
use Rattle.cw_place.specs.declared.sweep.Span.{Span}
use Rattle.cw_place.specs.declared.placing.Placing.{Placing}
use Rattle.std.specs.List.{All}
use Rattle.cw_place.specs.Sweep.{ranges_of, IsSpan, IsSwept, ArePassed}
use Rattle.cw_place.specs.Segments.{segment_storage}
use Rattle.cw_place.specs.Placement.{told_words}

-- ---- the extents of names

-- for each name the largest extent that segments give it
pub record TellsExtents (agreed : Agreed) (ss : List SegmentStorage) (extents : List ℕ) : Type 0 where
  pub count : length extents ≡ length agreed.names
  pub extent : (k : ℕ) → k < length agreed.names → slice_index_or extents k 0 ≡ common_extent (name_at agreed.names k) ss

-- ---- the spans between which families fit

pub record AreSweptFor (ss : List SegmentStorage) (spans : List Span) : Type 0 where
  pub swept : IsSwept spans
  pub each : All IsSpan spans
  pub fits : (extent address : ℕ) → first_fit (ranges_of spans) extent address ≡ first_fit (absolute_ranges ss) extent address

-- ---- the families that are placed

-- the keys of the first families of a segment, where all segments before it are taken whole
abbrev pub keys_of_some : (segment families : ℕ) → Option SegmentStorage → List FamilyKey
keys_of_some g n None = []
keys_of_some g n (Some s) = keys_in_segment g s.names 0 (take n s.families)

abbrev pub keys_before : List SegmentStorage → (segment family : ℕ) → List FamilyKey
keys_before ss g n = keys_from 0 (take g ss) ++ keys_of_some g n (slice_get ss g)

abbrev pub placed_by : List SegmentStorage → List FamilyKey → List Placed
placed_by ss ks = placed_from ss (absolute_ranges ss) 0 (first_keys ks)

-- an address, as far as a word tells it
abbrev pub told_address : ℕ → ℕ
told_address a = min a 65535

abbrev pub with_told_start : Placed → Placed
with_told_start p = record { key = p.key; start = told_address p.start; extent = p.extent }

abbrev pub told : List Placed → List Placed
told ps = map with_told_start ps

-- where a family begins, if it is placed
abbrev pub start_if_placed : FamilyKey → List Placed → Option ℕ
start_if_placed key [] = None
start_if_placed key (p ∷ ps) = if is_same_key key p.key then Some p.start else start_if_placed key ps

-- the families before one of a segment
abbrev pub placed_before : Agreed → List Space → (segment family : ℕ) → List Placed
placed_before agreed spaces g n = let ss = segment_storage agreed spaces in placed_by ss (keys_before ss g n)

-- these families are placed
pub record HasPlaced (agreed : Agreed) (spans : List Span) (ps : List Placed) (p : Placing) : Type 0 where
  pub count : length p.starts.items ≡ length agreed.names
  pub starts : (k : ℕ) → k < length agreed.names → slice_index_or p.starts.items k None ≡ start_if_placed (Shared (name_at agreed.names k)) (told ps)
  pub end : p.sweep.address ≡ told_words (last_end_of 0 ps)
  pub within : p.sweep.passed ≤ length spans
  pub passed : ArePassed spans p.sweep.passed p.sweep.address
