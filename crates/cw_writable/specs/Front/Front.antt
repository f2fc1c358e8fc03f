-- What the format of objects asks of the items of a unit.
use Rattle.std.specs.Prelude.{◌≡◌, ℕ, ◌+◌, ◌<◌, ◌≤◌, nat_lt, [], length, Bool, ◌&&◌, IsTrue, Some, slice_get, nat_eq, ◌||◌}
use Rattle.std.specs.List.{list_all}
use Rattle.cw_unit.specs.declared.unit.Unit.{Unit as SourceUnit}
use Rattle.cw_unit.specs.declared.unit.Item.{Item}
use Rattle.cw_unit.specs.declared.unit.Home.TheVariants as home
use Rattle.cw_unit.specs.Storage.{root_of, family_offset, frame_size}
use Rattle.cw_unit.specs.ValidStorage.{IsStorable}
use Rattle.cw_fields.specs.Names.{is_empty, is_name_or_empty}
use Rattle.cw_view.specs.ObjectFormat.{is_named}
use Rattle.cw_view.specs.Payloads.{ItemEntry}
use Rattle.cw_obj.specs.ReferenceObject.{entry_of}

-- items are few, and each ends within the words that an area may have
pub record ItemsFit (u : SourceUnit) : Type 0 where
  pub storable : IsStorable u
  pub few : length u.items ≤ 65535
  pub reach : (i : ℕ) (x : Item) → slice_get u.items i ≡ Some x → family_offset u i + x.words ≤ 32768

-- where items stand
pub record HomesFit (u : SourceUnit) : Type 0 where
  pub common : (i : ℕ) (x : Item) (d : ℕ) → slice_get u.items i ≡ Some x → x.home ≡ home.Common d → d < length u.descs
  pub descriptors : length u.descs ≤ 65536
  pub absolute : (i : ℕ) (x : Item) (a : ℕ) → slice_get u.items i ≡ Some x → x.home ≡ home.Absolute a → a < 65536
  pub frames : (i : ℕ) (x : Item) (q : ℕ) → slice_get u.items i ≡ Some x → x.home ≡ home.Frame → x.owner ≡ Some q → frame_size u q ≤ 32768

-- what items hold at the start; what stands in a frame holds nothing
pub record PresetsFit (u : SourceUnit) : Type 0 where
  pub within : (i : ℕ) (x : Item) → slice_get u.items i ≡ Some x → IsTrue (list_all (λ (p : ℕ × ℕ). nat_lt p.0 x.words) x.presets)
  pub words : (i : ℕ) (x : Item) → slice_get u.items i ≡ Some x → IsTrue (list_all (λ (p : ℕ × ℕ). nat_lt p.1 65536) x.presets)
  pub apart : (i : ℕ) (x r : Item) → slice_get u.items i ≡ Some x → slice_get u.items (root_of u i) ≡ Some r → r.home ≡ home.Frame → x.presets ≡ []

-- an entry's names and line
abbrev pub is_titled : ItemEntry → Bool
is_titled i = is_name_or_empty i.owner && (is_name_or_empty i.name && (nat_lt i.line 65536 && (is_empty i.name || nat_eq i.line 0)))

-- how items are called; neither hangs on where an item stands
pub record ItemsNamed (u : SourceUnit) : Type 0 where
  pub titled : (i : ℕ) (x : Item) → slice_get u.items i ≡ Some x → IsTrue (is_titled (entry_of u (0, 0) x))
  pub called : (i : ℕ) (x : Item) → slice_get u.items i ≡ Some x → IsTrue (is_named (entry_of u (0, 0) x))
