use Rattle.std.proofs.Common.{◌∙◌, ap, map, List, ℕ}
use Rattle.cw_depth.specs.Numbering.{node_at}
use Rattle.cw_depth.specs.Told.{told}
use Rattle.cw_depth.proofs.Reporting.{bound_told, unbounded_told}
use Rattle.cw_depth.proofs.depth_report.report_by_nodes.Goals as goal

pub returns-in-Bound : goal.returns-in-Bound
returns-in-Bound c =
    let us = c.args.units.now in
    bound_told us c.in_ok-graph.graph c.in-Bound.chain _ c.in_ok-graph.ensures (c.in_ok-told_chain-in-Bound.ensures ∙ ap (λ (xs : List ℕ). map told (map (node_at us) xs)) c.as_slice.ensures) (rw c.in-Bound.is at c.in_ok-chain.ensures)

pub returns : goal.returns
returns c =
    unbounded_told c.args.units.now c.in_ok-graph.graph c.in-Unbounded.node _ _ c.in_ok-graph.ensures c.told-segment.ensures (rw c.in-Unbounded.is at c.in_ok-chain.ensures)
