-- What is added to a text. Of one that lacks a part nothing else is told.
use Rattle.std.specs.Prelude.{◌≡◌, ℕ, false, List, ◌++◌}
use Rattle.cw_show.specs.declared.written.Text.{Text}
use Rattle.cw_show.specs.Spelling.{Spelling, text_of}

-- these bytes are added
pub record Extends (old new : Text) (added : List ℕ) : Type 0 where
  pub before : new.lacking ≡ false → old.lacking ≡ false
  pub there : new.lacking ≡ false → new.bytes.items ≡ old.bytes.items ++ added

-- these tokens are added
pub record Adds (old new : Text) (ts : List Spelling) : Type 0 where
  pub text : Extends old new (text_of ts)
