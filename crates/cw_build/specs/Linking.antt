-- What objects link to, and the first reason why they do not; and units, by their objects.
use Rattle.std.specs.Prelude.{◌≢◌, ◌≤◌, ℕ, List}
use Rattle.cw_unit.specs.declared.unit.Unit.{Unit as SourceUnit}
use Rattle.cw_unit.specs.declared.layout.Limits.{Limits}
use Rattle.cw_unit.specs.Program.{program_of}
use Rattle.cw_image.specs.declared.image.Image.{Image}
use Rattle.cw_link.specs.Contents.{Contents}
use Rattle.cw_link.specs.LinkedImage.{linked_size, linked_image}
use Rattle.cw_link.specs.LinkFaults.{HaveWords, IsFirstLinkFault}
use Rattle.cw_link.specs.declared.fault.LinkFault.{LinkFault}
use Rattle.cw_link.specs.declared.fault.LinkFault.TheVariants.{NoMemory}
use Rattle.cw_list.specs.Rows.{program_listing}
use Rattle.cw_build.specs.Compiled.{contents_of_units}

-- ---- objects

-- The objects link: the segments agree, they have a storage map, no word has two values, and the code is not too long.
pub record AreLinked (cs : List Contents) (limits : Limits) : Type 0 where
  pub words : HaveWords cs limits
  pub code : linked_size cs ≤ 65536

-- the first fault of objects that do not link
pub record IsFault (cs : List Contents) (limits : Limits) (fault : LinkFault) : Type 0 where
  pub first : IsFirstLinkFault cs limits fault
  pub is_fault : fault ≢ NoMemory

-- ---- units

abbrev pub Links : List SourceUnit → Limits → Type 0
Links us limits = AreLinked (contents_of_units us) limits

abbrev pub IsLinkFault : List SourceUnit → Limits → LinkFault → Type 0
IsLinkFault us limits fault = IsFault (contents_of_units us) limits fault

-- the image of units
unfoldable pub image_of : List SourceUnit → Limits → Image
image_of us limits = linked_image (contents_of_units us) limits

-- the text of their storage map
unfoldable pub map_text : List SourceUnit → Limits → List ℕ
map_text us limits = program_listing (program_of us limits)
