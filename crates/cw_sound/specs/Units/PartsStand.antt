-- What stands in the outermost block of a text: its declarations, its bodies and all that it mentions stand for right things of its unit, and no
-- type in it has a fault.
use Rattle.std.specs.Prelude.{◌≡◌, true, None}
use Rattle.cw_facts.specs.Facts.{block_facts}
use Rattle.cw_scope.specs.declared.resolve.Named.{Named}
use Rattle.cw_judge.specs.Judged.{block_judged, sites_of}
use Rattle.cw_number.specs.Numbers.{numbers_of}
use Rattle.cw_make.specs.Made.{unit_of}
use Rattle.cw_sound.specs.Uses.Stands.{FactsStand}
use Rattle.cw_sound.specs.Names.Standing.{ItemsStand}
use Rattle.cw_sound.specs.Items.Items.{things_of}
use Rattle.cw_sound.specs.Statements.Answers.{AnswersStand}
use Rattle.cw_sound.specs.Statements.Bodies.{block_bodies}
use Rattle.cw_sound.specs.Statements.Counted.{Counted}

pub record PartsStand (named : Named) : Type 0 where
  pub items : ItemsStand named (numbers_of named) (unit_of named)
  pub bodies : Counted (numbers_of named) 0 (block_bodies named.raw.now.block)
  pub mentions : FactsStand named (numbers_of named) (unit_of named) (block_facts named.raw.now.block true) None
  pub answers : AnswersStand named (numbers_of named) (unit_of named) (block_facts named.raw.now.block true) None
  pub types : block_judged named (sites_of (things_of named)) named.raw.now.block None ≡ None
