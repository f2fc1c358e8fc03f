use Rattle.std.proofs.Common.{◌≡◌, [], ◌∷◌, ◌++◌, List, ℕ, sym, subst, arith}
use Rattle.std.proofs.lemmas.Grind.{common_steps}
use Rattle.cw_graph.specs.Rows.{row_of}
use Rattle.cw_graph.proofs.Telling.{empty_more}
use Rattle.cw_graph.proofs.ranking.empty_rows.Goals as goal

pub loop-preserved : goal.loop-preserved
loop-preserved c =
    let more : c.push.new.self.items ≡ c.loop.rows.items ++ [] ∷ [] = grind (arith, common_steps) in
    (grind (arith, common_steps), λ a. subst (λ (rows : List (List ℕ)). row_of rows a ≡ []) (sym more) (empty_more c.loop.rows.items c.loop.invariant.1 a))
