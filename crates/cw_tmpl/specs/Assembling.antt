-- Code that grows piece by piece.
use Rattle.std.specs.Prelude.{◌≡◌, List, ◌++◌, length}
use Rattle.cw_tmpl.specs.declared.assembling.Assembly.{Assembly}
use Rattle.cw_tmpl.specs.declared.pieces.Coded.{Coded}
use Rattle.cw_tmpl.specs.Pieces.{blanks, relocations}

-- The pieces are behind what was there.
pub record Adds (old : Assembly) (pieces : List Coded) (new : Assembly) : Type 0 where
  pub bytes : new.bytes ≡ old.bytes ++ blanks pieces
  pub relocs : new.relocs ≡ old.relocs ++ relocations (length old.bytes) pieces
