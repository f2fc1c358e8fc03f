-- What a unit's layout asks of the unit: its storage is well formed, and each number has room in the layout. A checked unit has it.
use Rattle.std.specs.Prelude.{◌≡◌, ℕ, ◌<◌, ◌≤◌, Some, length, slice_get}
use Rattle.cw_unit.specs.declared.unit.Unit.{Unit as SourceUnit}
use Rattle.cw_unit.specs.declared.unit.Item.{Item}
use Rattle.cw_unit.specs.declared.unit.Home.TheVariants as home
use Rattle.cw_unit.specs.declared.descriptor.Desc.{Desc}
use Rattle.cw_unit.specs.Storage.{family_extent, frame_size}
use Rattle.cw_unit.specs.ValidStorage.{IsStorable}

pub record HasLayout (u : SourceUnit) : Type 0 where
  pub storable : IsStorable u
  pub item_count : length u.items ≤ 65536
  pub extents : (r : ℕ) → family_extent u r < 65536
  pub frames : (q : ℕ) → frame_size u q < 65536
  -- the base of a COMMON item is one too
  pub common_bases : (d : ℕ) (desc : Desc) (b : ℕ × ℕ) → slice_get u.descs d ≡ Some desc → desc.over ≡ Some b → b.0 < length u.descs
  pub frame_owners : (n q : ℕ) (i : Item) → slice_get u.items n ≡ Some i → i.home ≡ home.Frame → i.owner ≡ Some q → q < length u.procs
  -- what is preset is a word of the item
  pub preset_places : (n k : ℕ) (i : Item) (p : ℕ × ℕ) → slice_get u.items n ≡ Some i → slice_get i.presets k ≡ Some p → p.0 < i.words
