-- How many conditional expressions stand in one another's THEN parts at most: each of them may jump once where it ends, all to one place.
use Rattle.std.specs.Prelude.{ℕ, suc, max, List, [], ◌∷◌}
use Rattle.cw_tree.specs.declared.expression.RawExpr.{RawExpr, RawExpr-F}
use Rattle.cw_tree.specs.declared.expression.RawExpr.TheOpen as layer
use Rattle.cw_tree.specs.declared.expression.RawRef.{RawRef}
use Rattle.cw_tree.specs.declared.expression.RawCond.{RawCond}
use Rattle.cw_sound.specs.Expressions.Gathered.{Gathering, primary_step, sum_step, term_step, expression_gathered, reference_gathered, condition_gathered}

abbrev pub largest : List ℕ → ℕ
largest [] = 0
largest (n ∷ ns) = max n (largest ns)

abbrev pub by_largest : Gathering ℕ
by_largest = record { nothing = 0; two = max; all = largest }

abbrev pub expression_step : RawExpr-F ℕ ℕ ℕ ℕ ℕ ℕ ℕ ℕ ℕ ℕ ℕ ℕ → ℕ
expression_step (layer.Choice at test a b) = max test (max (suc a) b)
expression_step (layer.Sum sum) = sum

abbrev pub then_levels : RawExpr → ℕ
then_levels = expression_gathered by_largest expression_step (primary_step by_largest) (sum_step by_largest) (term_step by_largest)

abbrev pub reference_levels : RawRef → ℕ
reference_levels = reference_gathered by_largest expression_step (primary_step by_largest) (sum_step by_largest) (term_step by_largest)

abbrev pub condition_levels : RawCond → ℕ
condition_levels = condition_gathered by_largest expression_step (primary_step by_largest) (sum_step by_largest) (term_step by_largest)
