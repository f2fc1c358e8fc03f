-- What holds of the promise of each action that runs nothing.
use Rattle.cw_correct.specs.Calls.{Call}
use Rattle.cw_correct.specs.Results.{MapsRight, DepthsRight, CodesRight, ShowsRight, CompilesRight, MigratesRight, HexesRight, LibsRight, LinksRight}
use Rattle.cw_say.specs.declared.status.Status.{Status}

-- of those that write a text or a file of their files
pub record OfResults (Holds : (Right : Call → Status → Type 0) → Type 0) : Type 0 where
  pub map : Holds MapsRight
  pub depth : Holds DepthsRight
  pub code : Holds CodesRight
  pub list : Holds ShowsRight
  pub compile : Holds CompilesRight
  pub migrate : Holds MigratesRight
  pub hex : Holds HexesRight

-- and of those of libraries
pub record OfLibraries (Holds : (Right : Call → Status → Type 0) → Type 0) : Type 0 where
  pub lib : Holds LibsRight
  pub link : Holds LinksRight
