-- What `depth` writes: how many calls can be active at once, and then the procedures of a longest chain of calls, one a line; or the first procedure that can
-- be called and behind which no chain of calls is the longest.
use Rattle.std.specs.Prelude.{ℕ, ◌-◌, List, ◌++◌, length, flat_map, Option, None, Some, slice_get, codes, decimal}
use Rattle.cw_unit.specs.declared.unit.Unit.{Unit as SourceUnit}
use Rattle.cw_unit.specs.declared.unit.Proc.{Proc}
use Rattle.cw_depth.specs.declared.depth_report.Report.{Report}
use Rattle.cw_depth.specs.declared.depth_report.Report.TheVariants.{Bound, Unbounded}

abbrev pub procedure_name : Option Proc → List ℕ
procedure_name None = codes ""
procedure_name (Some p) = p.name

-- the name of a segment and that of its procedure of this number
abbrev pub place_in : Option SourceUnit → (number : ℕ) → List ℕ
place_in None q = codes ""
place_in (Some u) q = u.name ++ (codes "." ++ procedure_name (slice_get u.procs q))

-- by the number of the segment, from 1, and that of the procedure in it, from 0
abbrev pub place_text : List SourceUnit → ℕ × ℕ → List ℕ
place_text us place = place_in (slice_get us (place.0 - 1)) place.1

abbrev pub place_line : List SourceUnit → ℕ × ℕ → List ℕ
place_line us place = place_text us place ++ codes "\n"

abbrev pub depth_text : List SourceUnit → Report → List ℕ
depth_text us (Bound chain) = codes "depth " ++ (decimal (length chain) ++ (codes "\n" ++ flat_map (place_line us) chain))
depth_text us (Unbounded segment number) = codes "depth none " ++ place_line us (segment, number)
