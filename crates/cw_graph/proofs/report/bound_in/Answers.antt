use Rattle.std.proofs.Common.{◌+◌, Some, ap, sym, ◌∙◌}
use Rattle.std.proofs.lemmas.Result.{IfOk-weaker}
use Rattle.cw_graph.proofs.Choices.{start_level, bound_is}
use Rattle.cw_graph.proofs.report.bound_in.Goals as goal

pub follow-requires-clause-height : goal.follow-requires-clause-height
follow-requires-clause-height c =
    start_level c.args.graph.now c.args.levels.now c.requires.whole c.requires.levels c.requires.heights c.first_highest-start.result c.height_of-height.result c.first_highest-start.ensures.inside c.height_of-height.ensures

pub returns : goal.returns
returns c =
    let start = c.first_highest-start.result in
    let level = start_level c.args.graph.now c.args.levels.now c.requires.whole c.requires.levels c.requires.heights start c.height_of-height.result c.first_highest-start.ensures.inside c.height_of-height.ensures in
    IfOk-weaker c.follow.result _ _
    (λ chain both. bound_is c.args.graph.now c.args.levels.now c.requires.whole c.requires.levels c.requires.heights start chain c.first_highest-start.ensures (level ∙ ap (λ n. Some (n + 1)) (sym both.0)) both.1)
    c.follow.ensures
