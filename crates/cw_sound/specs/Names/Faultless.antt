-- What is so of each text whose names have no fault and whose items stand.
use Rattle.std.specs.declared.result.Result.TheVariants.{Ok}
use Rattle.cw_scope.specs.declared.resolve.Named.{Named}
use Rattle.cw_scope.specs.Outcome.{Resolves}
use Rattle.cw_number.specs.Numbers.{numbers_of}
use Rattle.cw_make.specs.Made.{unit_of}
use Rattle.cw_sound.specs.Names.Placed.{Placed}
use Rattle.cw_sound.specs.Names.Standing.{ItemsStand}

abbrev pub WhereItemsStand : (Named → Type 0) → Type 0
WhereItemsStand So = (named : Named) → Resolves named.raw.now (Ok named) → Placed named.raw.now → ItemsStand named (numbers_of named) (unit_of named) → So named
