use Rattle.std.proofs.Common.{slice_index_or, arith}
use Rattle.std.proofs.lemmas.Option.{slice_get-get_or}
use Rattle.cw_graph.specs.Rows.{row_of}
use Rattle.cw_depth.proofs.Adding.{group_more}
use Rattle.cw_depth.proofs.groups.fill_groups.Goals as goal

pub loop-segment-preserved : goal.loop-segment-preserved
loop-segment-preserved c =
    let i = c.loop-segment.segment-index in
    let handed = c.args.handed.now in
    let place = slice_index_or handed i (0, 0) in
    let at' = slice_get-get_or handed i (0, 0) c.loop-segment-test.true in
    record {
      size = omega arith;
      groups = λ j. group_more c.args.units.now handed c.args.heads.now j (row_of c.loop-segment.groups j) (row_of c.join_group.new.groups j) i place.0 place.1 at' (c.loop-segment.invariant.groups j) (c.in_ok-join_group.ensures j);
    }
