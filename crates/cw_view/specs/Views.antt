-- What the code's values stand for.
use Rattle.cw_unit.specs.declared.layout.ItemView.{ItemView}
use Rattle.std.specs.Prelude.{◌≡◌, ℕ, Option, Some, None, Result, Ok, Err}
use Rattle.cw_view.specs.declared.building.DescFault.{DescFault}
use Rattle.cw_view.specs.declared.building.DescFault.TheVariants.{NotDesc, NoMemory}
use Rattle.cw_unit.specs.declared.descriptor.Desc.{Desc}
use Rattle.cw_unit.specs.declared.descriptor.Spec.{Spec}
use Rattle.cw_unit.specs.declared.descriptor.SpecParam.{SpecParam, roll-SpecParam}
use Rattle.cw_unit.specs.declared.descriptor.SpecParam.TheOpen as layer
use Rattle.cw_view.specs.Payloads.{ItemEntry}

-- an item without where its names lie in memory
abbrev pub entry_of : ItemView → ItemEntry
entry_of i = record {
  owner = i.owner.now;
  name = i.name.now;
  line = i.line;
  kind = i.kind;
  common = i.common;
  family = i.family;
  offset = i.offset;
  words = i.words;
}

-- the overlay's base of a descriptor that was read
abbrev pub base_of : Option Desc → Option (Option (ℕ × ℕ))
base_of None = None
base_of (Some d) = Some d.over

abbrev pub proc_of : Spec → SpecParam
proc_of s = roll-SpecParam (layer.Proc s)

-- what a builder answers, seen by view, is what reading gives, unless memory is wanted
abbrev pub BuiltOr : {B : Type 0} → DescFault → Option B → Type 0
BuiltOr NotDesc read = read ≡ None
BuiltOr NoMemory read = Unit {0}

abbrev pub Builds : {A B : Type 0} → (A → B) → Result A DescFault → Option B → Type 0
Builds view (Ok x) read = read ≡ Some (view x)
Builds view (Err f) read = BuiltOr f read
