-- What a text stores stands in its unit, where the bodies that see it may name it.
use Rattle.std.specs.Prelude.{◌≡◌, ℕ, ◌+◌, ◌≤◌, List, length, All, true, IsTrue, Option, Some, None, slice_get}
use Rattle.std.specs.List.{list_all}
use Rattle.cw_table.specs.Rows.{item_at}
use Rattle.cw_table.specs.declared.table.Row.{Row}
use Rattle.cw_facts.specs.declared.fact.Declaration.{Declaration}
use Rattle.cw_facts.specs.Text.{text_facts}
use Rattle.cw_scope.specs.declared.resolve.Named.{Named}
use Rattle.cw_items.specs.declared.thing.Sort.TheVariants as sort
use Rattle.cw_items.specs.declared.thing.Thing.{Thing}
use Rattle.cw_items.specs.Families.{frame_of}
use Rattle.cw_items.specs.Things.{text_things}
use Rattle.cw_number.specs.declared.numbered.Numbered.TheVariants as numbered
use Rattle.cw_number.specs.Listed.{listed_of}
use Rattle.cw_number.specs.Numbers.{item_rows, numbers_of}
use Rattle.cw_make_items.specs.Items.{addresses_of, item_of}
use Rattle.cw_preset.specs.Held.{held_of}
use Rattle.cw_make.specs.Made.{unit_of}
use Rattle.cw_unit.specs.declared.unit.Item.{Item}
use Rattle.cw_unit.specs.declared.unit.Unit.{Unit as SourceUnit}
use Rattle.cw_unit.specs.Storage.{family_offset}
use Rattle.cw_unit.specs.ValidStorage.{IsStorable}
use Rattle.cw_built.specs.Stored.{is_preset, are_bases}
use Rattle.cw_gen_expr.specs.NamedItems.{has_words}
use Rattle.cw_sound.specs.Items.Bodies.{MayName, Stored, is_other, facts_stored}

-- ---- the things of a text

abbrev pub things_of : Named → List Thing
things_of named = text_things named named.raw.now

abbrev pub item_made : Named → Thing → Item
item_made named = item_of named.declarations (numbers_of named) (listed_of named.raw.now) (addresses_of named.raw.now.comms) (held_of named.raw.now)

-- a thing is the item of its number, with the words that it has
pub record IsStored (named : Named) (i : ℕ) (t : Thing) : Type 0 where
  pub item : slice_get (unit_of named).items i ≡ Some (item_made named t)
  pub number : item_at (numbers_of named) t.at.token ≡ Some (numbered.Item i)
  pub has : (who : Option ℕ) (words : ℕ) → MayName (numbers_of named) who (frame_of t.sort t.owner) → words ≤ t.words
      → IsTrue (has_words (unit_of named) who i words)
  pub has_word : 1 ≤ t.words
  pub has_four : t.sort ≡ sort.Loop → t.words ≡ 4

-- the token is that of an item with these words, which the body may name
abbrev pub IsThere : Named → Stored → Type 0
IsThere named x = (i : ℕ) × (item_at (numbers_of named) x.token ≡ Some (numbered.Item i)) × IsTrue (has_words (unit_of named) x.who i x.words)

pub record ItemsStand (named : Named) : Type 0 where
  pub things : (i : ℕ) (t : Thing) → slice_get (things_of named) i ≡ Some t → IsStored named i t
  -- each declaration of an item, each string and each FOR, in the body where it stands
  pub facts : All (IsThere named) (facts_stored (numbers_of named) (text_facts named.raw.now) None)
  -- no other declaration is one of an item
  pub others : All (λ (r : Row Declaration). is_other r.item.kind ≡ true → item_at (item_rows 0 (things_of named)) r.token ≡ None) named.declarations
  -- what the segment's body may name, each procedure may
  pub anywhere : (who : Option ℕ) (i words : ℕ) → IsTrue (has_words (unit_of named) None i words) → IsTrue (has_words (unit_of named) who i words)

-- what holds of the storage of a unit
pub record StorageStands (u : SourceUnit) : Type 0 where
  pub few : length u.items ≤ 65535
  pub storable : IsStorable u
  -- each item ends within the words that an area may have
  pub reach : (i : ℕ) (x : Item) → slice_get u.items i ≡ Some x → family_offset u i + x.words ≤ 32768
  -- what it holds at the start lies within it
  pub presets : (i : ℕ) (x : Item) → slice_get u.items i ≡ Some x → IsTrue (list_all (is_preset x.words) x.presets)
  pub bases : IsTrue (are_bases u)
