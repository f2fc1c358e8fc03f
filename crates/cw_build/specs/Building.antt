-- What comes of compiling a unit, and of linking units.
use Rattle.std.specs.Prelude.{◌≡◌, List, Result, Ok, Err}
use Rattle.cw_unit.specs.declared.unit.Unit.{Unit as SourceUnit}
use Rattle.cw_unit.specs.declared.layout.Limits.{Limits}
use Rattle.cw_unit.specs.Storage.{layout_of}
use Rattle.cw_unit.specs.Allocation.{storage_map}
use Rattle.cw_link.specs.declared.fault.LinkFault.{LinkFault}
use Rattle.cw_link.specs.declared.fault.LinkFault.TheVariants as faults
use Rattle.cw_link.specs.declared.linking.Linked.{Linked}
use Rattle.cw_build.specs.Compiled.{object_of}
use Rattle.cw_build.specs.Linking.{Links, IsLinkFault, image_of}
use Rattle.cw_build.specs.declared.made.Made.{Made}

-- what a unit is compiled to
pub record IsMadeOf (u : SourceUnit) (made : Made) : Type 0 where
  pub layout : made.layout ≡ layout_of u
  pub object : made.object ≡ object_of u

-- what units are linked to
pub record IsLinkedOf (us : List SourceUnit) (limits : Limits) (linked : Linked) : Type 0 where
  pub links : Links us limits
  pub image : linked.image ≡ image_of us limits
  pub map : linked.map ≡ storage_map us

abbrev pub FailsToLink : List SourceUnit → Limits → LinkFault → Type 0
FailsToLink us limits faults.NoMemory = Unit {0}
FailsToLink us limits fault = IsLinkFault us limits fault

abbrev pub AnswersLinking : List SourceUnit → Limits → Result Linked LinkFault → Type 0
AnswersLinking us limits (Ok linked) = IsLinkedOf us limits linked
AnswersLinking us limits (Err fault) = FailsToLink us limits fault
