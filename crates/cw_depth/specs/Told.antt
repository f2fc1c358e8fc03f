-- The depth report of a program. Segments are told from 1, procedures from 0 in their segment.
use Rattle.std.specs.Prelude.{◌≡◌, ℕ, ◌+◌, List, map}
use Rattle.cw_unit.specs.declared.unit.Unit.{Unit as SourceUnit}
use Rattle.cw_depth.specs.declared.depth_report.Report.{Report}
use Rattle.cw_depth.specs.declared.depth_report.Report.TheVariants.{Bound, Unbounded}
use Rattle.cw_graph.specs.Reports.{IsBound, IsUnbounded}
use Rattle.cw_depth.specs.declared.node.Node.{Node}
use Rattle.cw_depth.specs.declared.node.Node.TheVariants.{Body, Procedure}
use Rattle.cw_depth.specs.CallGraph.{Before, Leads, IsBody, IsProcedure}

-- how a procedure is told; no chain tells a body
abbrev pub told : Node → ℕ × ℕ
told (Body g) = (0, 0)
told (Procedure g q) = (g + 1, q)

-- a longest chain of procedures
pub record TellsBound (units : List SourceUnit) (chain : List (ℕ × ℕ)) : Type 0 where
  pub nodes : List Node
  pub bound : IsBound (Leads units) Before (IsBody units) nodes
  pub chain_is : chain ≡ map told nodes

-- the first procedure that is reached and has no height
pub record TellsUnbounded (units : List SourceUnit) (segment number : ℕ) : Type 0 where
  pub from_zero : ℕ
  pub first : IsUnbounded (Leads units) Before (IsBody units) IsProcedure (Procedure from_zero number)
  pub segment_is : segment ≡ from_zero + 1

abbrev pub IsReport : List SourceUnit → Report → Type 0
IsReport units (Bound chain) = TellsBound units chain
IsReport units (Unbounded segment number) = TellsUnbounded units segment number
