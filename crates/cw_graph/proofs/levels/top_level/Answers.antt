use Rattle.std.proofs.Common.{sym, ◌∙◌}
use Rattle.cw_graph.proofs.Tops.{top_same, top_new}
use Rattle.cw_graph.proofs.levels.top_level.Goals as goal
use Rattle.cw_graph.proofs.levels.top_level.Goals.{in-Some+then-level-top, in-Some+else-level-top, in_default}

pub loop-number-preserved : goal.loop-number-preserved
loop-number-preserved c =
    elim c.match-level_of.branch [
      | in-Some+then-level-top w ↦ rw w.top-is (top_new c.args.levels.now c.args.row.now c.loop-number.number-index _ w.in-Some.level c.loop-number.invariant (sym c.level_of.ensures ∙ w.in-Some.is) w.if-level-top.true)
      | in-Some+else-level-top w ↦ rw w.top-is (top_same c.args.levels.now c.args.row.now c.loop-number.number-index _ w.in-Some.level c.loop-number.invariant (sym c.level_of.ensures ∙ w.in-Some.is) w.if-level-top.false)
      | in_default w ↦ absurd (c.requires c.loop-number.number-index c.loop-number-test.true (sym c.level_of.ensures ∙ w.in_default.is))
    ]
