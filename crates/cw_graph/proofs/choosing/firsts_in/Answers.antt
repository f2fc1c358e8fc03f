use Rattle.std.proofs.Common.{◌≡◌, [], ◌∷◌, ◌++◌, arith}
use Rattle.std.proofs.lemmas.Grind.{common_steps}
use Rattle.cw_graph.proofs.Choices.{stand_more}
use Rattle.cw_graph.proofs.choosing.firsts_in.Goals as goal

pub loop-number-preserved : goal.loop-number-preserved
loop-number-preserved c =
    let more : c.push.new.self.items ≡ c.loop-number.firsts.items ++ c.first_of-first.result ∷ [] = grind (arith, common_steps) in
    record {
      size = grind (arith, common_steps);
      firsts = stand_more c.args.graph.now c.args.levels.now c.loop-number.firsts.items _ c.loop-number.number c.first_of-first.result (omega arith) more c.loop-number.invariant.firsts c.first_of-first.ensures;
    }

pub returns : goal.returns
returns c = record { size = grind (arith, common_steps); stand = c.loop-number.invariant.firsts }
