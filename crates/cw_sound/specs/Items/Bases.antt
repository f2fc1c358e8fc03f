-- What is overlaid stands on a thing before it, which the bodies that may name the one may name too.
use Rattle.std.specs.Prelude.{◌≡◌, ℕ, ◌<◌, List, Option, Some, slice_get}
use Rattle.cw_table.specs.declared.table.Row.{Row}
use Rattle.cw_table.specs.Rows.{place_at}
use Rattle.cw_items.specs.declared.thing.Base.{Base}
use Rattle.cw_items.specs.declared.thing.Thing.{Thing}
use Rattle.cw_items.specs.Families.{frame_of}
use Rattle.cw_number.specs.declared.listed.Listing.{Listing}
use Rattle.cw_make_items.specs.Lookup.{Numbers}
use Rattle.cw_sound.specs.Items.Bodies.{MayName}

-- of a thing at a place among all, and its base
pub record BaseStands (numbers : Numbers) (listed : List (Row Listing)) (things : List Thing) (i : ℕ) (t : Thing) (b : Base) : Type 0 where
  pub place : ℕ
  pub base : Thing
  pub there : slice_get things place ≡ Some base
  pub at_token : base.at.token ≡ b.token
  pub before : place < i
  pub seen : (who : Option ℕ) → MayName numbers who (frame_of t.sort t.owner) → MayName numbers who (frame_of base.sort base.owner)
  -- what COMMON lists is overlaid on what it lists
  pub listed_too : (d : ℕ) → place_at listed t.at.token ≡ Some d → (e : ℕ) × (place_at listed b.token ≡ Some e)

abbrev pub BasesStand : Numbers → List (Row Listing) → List Thing → Type 0
BasesStand numbers listed things = (i : ℕ) (t : Thing) (b : Base) → slice_get things i ≡ Some t → t.base ≡ Some b → BaseStands numbers listed things i t b
