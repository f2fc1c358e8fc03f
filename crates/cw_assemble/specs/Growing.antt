-- Code that grows piece by piece, unless it has failed.
use Rattle.std.specs.Prelude.{◌≡◌, List, false}
use Rattle.cw_tmpl.specs.declared.pieces.Coded.{Coded}
use Rattle.cw_tmpl.specs.Assembling as assembling
use Rattle.cw_assemble.specs.declared.draft.Draft.{Draft}

-- The pieces are behind what was there, unless it has failed; then it is of no use, and nothing is known of it.
pub record Adds (old : Draft) (pieces : List Coded) (new : Draft) : Type 0 where
  pub held : new.failed ≡ false → old.failed ≡ false
  pub is : new.failed ≡ false → assembling.Adds old.assembly pieces new.assembly
