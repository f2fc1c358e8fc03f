-- Statements whose expressions are as the grammar gives them, and in which no FOR has more than 32,766 elements.
use Rattle.std.specs.Prelude.{nat_lt, length, map, Bool, ◌&&◌}
use Rattle.cw_tree.specs.declared.statement.RawFelem.{RawFelem}
use Rattle.cw_tree.specs.declared.statement.RawFelem.TheVariants as felem
use Rattle.cw_tree.specs.declared.statement.RawDecl.TheOpen as layer
use Rattle.cw_tree.specs.declared.statement.RawDecl.TheOpen.{RawForm-F, RawSimple-F}
use Rattle.cw_tree.specs.declared.statement.RawBlock.{RawBlock}
use Rattle.cw_tree.specs.declared.statement.RawStmt.{RawStmt}
use Rattle.cw_sound.specs.Expressions.Regular.{all, by_all, is_regular, is_regular_condition, is_regular_reference}
use Rattle.cw_sound.specs.Statements.Gathered as gathered
use Rattle.cw_sound.specs.Statements.Gathered.{gathered_if, block_gathered, statement_gathered}

abbrev pub is_regular_element : RawFelem → Bool
is_regular_element (felem.One e) = is_regular e
is_regular_element (felem.While e c) = is_regular e && is_regular_condition c
is_regular_element (felem.Step a b c) = is_regular a && (is_regular b && is_regular c)

abbrev pub form_step : RawForm-F Bool Bool Bool Bool Bool Bool → Bool
form_step (layer.Simple s) = s
form_step (layer.If at test labels first second) = is_regular_condition test && (first && gathered_if by_all second)
form_step (layer.For at variable elems body) = is_regular_reference variable && (nat_lt (length elems) 32767 && (all (map is_regular_element elems) && body))

abbrev pub simple_step : RawSimple-F Bool Bool Bool Bool Bool Bool → Bool
simple_step = gathered.simple_step by_all is_regular is_regular_reference

abbrev pub is_regular_block : RawBlock → Bool
is_regular_block = block_gathered by_all form_step simple_step

abbrev pub is_regular_statement : RawStmt → Bool
is_regular_statement = statement_gathered by_all form_step simple_step
