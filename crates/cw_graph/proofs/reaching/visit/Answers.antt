use Rattle.std.proofs.Common.{◌≡◌, false, arith}
use Rattle.std.proofs.lemmas.Grind.{common_steps}
use Rattle.std.proofs.lemmas.Result.{on_ok_weaker}
use Rattle.cw_graph.specs.Reaching.{flag_of}
use Rattle.cw_graph.proofs.Visiting.{visited_more}
use Rattle.cw_graph.proofs.reaching.visit.Goals as goal

pub returns-clause-visited : goal.returns-clause-visited
returns-clause-visited c =
    let none : flag_of c.args.flags.now.items c.args.number ≡ false = grind (arith, common_steps) in
    on_ok_weaker c.mark.result (λ e. visited_more c.args.graph.now c.args.flags.now.items _ c.args.order.now.items _ c.args.number c.requires.visited c.requires.number none c.requires.listed e) c.mark.ensures
