-- How many levels a statement needs: of conditional expressions in one another's THEN parts, of IF in one another's THEN parts, and of FOR.
-- Each may jump once where it ends, all to one place. A value of a FOR may jump to the tail of its FOR too.
use Rattle.std.specs.Prelude.{ℕ, suc, max, map}
use Rattle.cw_tree.specs.declared.statement.RawFelem.{RawFelem}
use Rattle.cw_tree.specs.declared.statement.RawFelem.TheVariants as felem
use Rattle.cw_tree.specs.declared.statement.RawDecl.TheOpen as layer
use Rattle.cw_tree.specs.declared.statement.RawDecl.TheOpen.{RawForm-F, RawSimple-F}
use Rattle.cw_tree.specs.declared.statement.RawBlock.{RawBlock}
use Rattle.cw_tree.specs.declared.statement.RawStmt.{RawStmt}
use Rattle.cw_sound.specs.Expressions.Levels.{largest, by_largest, then_levels, condition_levels, reference_levels}
use Rattle.cw_sound.specs.Statements.Gathered as gathered
use Rattle.cw_sound.specs.Statements.Gathered.{gathered_if, block_gathered, statement_gathered}

abbrev pub element_levels : RawFelem → ℕ
element_levels (felem.One e) = suc (then_levels e)
element_levels (felem.While e c) = max (then_levels e) (condition_levels c)
element_levels (felem.Step a b c) = max (then_levels a) (max (then_levels b) (then_levels c))

abbrev pub form_step : RawForm-F ℕ ℕ ℕ ℕ ℕ ℕ → ℕ
form_step (layer.Simple s) = s
form_step (layer.If at test labels first second) = max (condition_levels test) (max (suc first) (gathered_if by_largest second))
form_step (layer.For at variable elems body) = max (reference_levels variable) (max (largest (map element_levels elems)) (max 1 body))

abbrev pub simple_step : RawSimple-F ℕ ℕ ℕ ℕ ℕ ℕ → ℕ
simple_step = gathered.simple_step by_largest then_levels reference_levels

abbrev pub block_levels : RawBlock → ℕ
block_levels = block_gathered by_largest form_step simple_step

abbrev pub statement_levels : RawStmt → ℕ
statement_levels = statement_gathered by_largest form_step simple_step
