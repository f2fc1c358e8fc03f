-- The item of the lowest address among those looked at.
use Rattle.std.proofs.Common.{ℕ, Option, Some, None}
use Rattle.cw_watch.specs.Watching.{lower}

-- what was found first, or a lower one that was found later
abbrev pub earlier : Option (ℕ × ℕ) → Option (ℕ × ℕ) → Option (ℕ × ℕ)
earlier None later = later
earlier (Some place) later = lower place later
