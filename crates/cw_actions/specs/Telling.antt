-- Laws of the units of texts, by which their depth is told.
use Rattle.std.specs.Prelude.{ℕ, ◌<◌, ◌≤◌, List, length}
use Rattle.cw_unit.specs.declared.unit.Unit.{Unit as SourceUnit}
use Rattle.cw_compile.specs.Texts.{IsUnitOf}
use Rattle.cw_depth.specs.declared.depth_report.Report.{Report}
use Rattle.cw_depth.specs.Told.{IsReport}
use Rattle.cw_files.specs.Reading.{HaveValues}
use Rattle.cw_files.specs.Texts.{HasUnit}
use Rattle.cw_correct.specs.Results.{BoundsRuns}

-- the procedures of a text's unit have numbers of two bytes
abbrev pub HasFewProcedures : Type 0
HasFewProcedures = (text : List ℕ) (u : SourceUnit) → IsUnitOf text u → length u.procs ≤ 65536

-- the depth report of the units of texts is a bound of their runs
abbrev pub ReportBoundsRuns : Type 0
ReportBoundsRuns =
    (texts : List (List ℕ)) (units : List SourceUnit) (report : Report) → 0 < length units
    → HaveValues HasUnit texts units → IsReport units report → BoundsRuns units report
