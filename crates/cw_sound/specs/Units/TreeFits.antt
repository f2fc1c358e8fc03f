-- What is asked of the tree of a text, and of nothing else. Each tree of the grammar is so.
use Rattle.std.specs.Prelude.{◌≤◌, IsTrue}
use Rattle.cw_tree.specs.declared.segment.Raw.{Raw}
use Rattle.cw_gen_expr.specs.BuiltExpressions.{most_levels}
use Rattle.cw_sound.specs.Statements.Bodies.{block_bodies}
use Rattle.cw_sound.specs.Statements.Counted.{BodiesFit}
use Rattle.cw_sound.specs.Statements.Levels.{block_levels}
use Rattle.cw_sound.specs.Statements.Regular.{is_regular_block}
use Rattle.cw_sound.specs.Names.Placed.{Placed}
use Rattle.cw_sound.specs.Items.Derived.{HasRisingTokens, HasPlainProcedures}

pub record TreeFits (raw : Raw) : Type 0 where
  -- the segment's body, and those of its procedures
  pub regular : IsTrue (is_regular_block raw.block)
  pub levels : block_levels raw.block ≤ most_levels
  pub bodies : BodiesFit (block_bodies raw.block)
  -- where its parts stand among its tokens
  pub rising : HasRisingTokens raw
  pub plain : HasPlainProcedures raw
  pub placed : Placed raw
