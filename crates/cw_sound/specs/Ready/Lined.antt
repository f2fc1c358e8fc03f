-- Statements whose lines are numbered from 1, as are those of the tokens of a text.
use Rattle.std.specs.Prelude.{◌<◌, nat_le, Bool, true, ◌&&◌, IsTrue}
use Rattle.std.specs.List.{list_all}
use Rattle.cw_tree.specs.declared.leaf.Position.{Position}
use Rattle.cw_tree.specs.declared.segment.Raw.{Raw}
use Rattle.cw_tree.specs.declared.statement.RawDecl.TheOpen as layer
use Rattle.cw_tree.specs.declared.statement.RawDecl.TheOpen.{RawForm-F, RawSimple-F}
use Rattle.cw_tree.specs.declared.statement.RawBlock.{RawBlock}
use Rattle.cw_tree.specs.declared.statement.RawStmt.{RawStmt}
use Rattle.cw_make_stmt.specs.Made.{ref_position}
use Rattle.cw_sound.specs.Expressions.Regular.{by_all}
use Rattle.cw_sound.specs.Statements.Gathered.{gathered_if, block_gathered, statement_gathered}
use Rattle.cw_sound.specs.Statements.Bodies.{Body, block_bodies}

abbrev pub is_numbered : Position → Bool
is_numbered at = nat_le 1 at.line

abbrev pub form_step : RawForm-F Bool Bool Bool Bool Bool Bool → Bool
form_step (layer.Simple s) = s
form_step (layer.If at test labels first second) = is_numbered at && (first && gathered_if by_all second)
form_step (layer.For at variable elems body) = is_numbered at && body

abbrev pub simple_step : RawSimple-F Bool Bool Bool Bool Bool Bool → Bool
simple_step layer.Empty = true
simple_step (layer.Assign r e) = is_numbered (ref_position r)
simple_step (layer.AssignBits bits r e) = is_numbered bits.at
simple_step (layer.Goto at n) = is_numbered at
simple_step (layer.GotoSwitch at n e) = is_numbered at
simple_step (layer.Call n es) = is_numbered n.at
simple_step (layer.Answer at e) = is_numbered at
simple_step (layer.Block b) = b

-- what a declaration holds is no statement of the body in which it stands
abbrev pub is_lined_block : RawBlock → Bool
is_lined_block = block_gathered by_all form_step simple_step

abbrev pub is_lined_statement : RawStmt → Bool
is_lined_statement = statement_gathered by_all form_step simple_step

-- What is asked of where the parts of a text stand. Each tree of the grammar is so.
pub record PositionsFit (raw : Raw) : Type 0 where
  pub tokens : raw.tokens < 4294967296
  -- the segment's body, and those of its procedures
  pub block : IsTrue (is_lined_block raw.block)
  pub bodies : IsTrue (list_all (λ (x : Body). is_lined_statement x.statement) (block_bodies raw.block))
