use Rattle.std.proofs.Common.{ap, refl, ◌∙◌, length}
use Rattle.cw_depth.specs.Building.{handed_in_all}
use Rattle.cw_depth.proofs.Graphing.{graph_is}
use Rattle.cw_depth.proofs.call_graph.add_groups.Goals as goal

pub returns : goal.returns
returns c =
    let us = c.args.units.now in
    graph_is us c.args.rows c.in_ok-groups.groups c.args.heads.now c.as_slice.result.now c.requires.few
    (record {
      rows_size = c.requires.size ∙ ap length c.requires.nodes;
      rows_are = c.requires.rows;
      groups_size = c.in_ok-groups.ensures.size;
      groups_are = c.in_ok-groups.ensures.groups;
      handed_are = c.as_slice.ensures ∙ c.in_ok-handed.ensures ∙ ap (handed_in_all us) c.requires.nodes;
    })
    (record { bodies = length us; nodes = length c.args.nodes.now; rows = c.in_ok-joined.field-0 })
    refl
    (ap length c.requires.nodes)
    c.in_ok-joined.ensures
