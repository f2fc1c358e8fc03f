-- What is linked of the files of a call, as the functions of this crate tell each other.
use Rattle.std.specs.Prelude.{◌≤◌, List, length, All}
use Rattle.cw_unit.specs.declared.unit.Unit.{Unit as SourceUnit}
use Rattle.cw_unit.specs.declared.layout.Limits.{Limits}
use Rattle.cw_place.specs.Placement.{IsLimits}
use Rattle.cw_build.specs.Compiled.{IsCompilable}
use Rattle.cw_files.specs.Reading.{AreSegmentsOf}
use Rattle.cw_files.specs.declared.segments.Segments.{Segments}

-- units that can be compiled, 200 at most, and what they were compiled to
pub record AreLinkable (us : List SourceUnit) (segments : Segments) (limits : Limits) : Type 0 where
  pub are : AreSegmentsOf us segments
  pub compiled : All IsCompilable us
  pub few : length us ≤ 200
  pub within : IsLimits limits
