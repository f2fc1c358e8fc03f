-- How an image is loaded, and what is said before it runs, as the functions of this crate tell each other.
use Rattle.std.specs.Prelude.{◌≡◌, ◌⊎◌, ℕ, ◌<◌, ◌≤◌, List, length, Option, Result, Ok, Err}
use Rattle.cw_i86.specs.State.{State}
use Rattle.cw_i86.specs.MachineRun as run
use Rattle.cw_ports.specs.Running.{Outside}
use Rattle.cw_image.specs.declared.image.Image.{Image}
use Rattle.cw_say.specs.declared.status.Status.{Status}
use Rattle.cw_say.specs.declared.status.Status.TheVariants.{NoMemory}
use Rattle.cw_say.specs.declared.status.Status.TheVariants as statuses
use Rattle.cw_say.specs.declared.status.Which.TheVariants.{Say}
use Rattle.cw_actions.specs.Going.Runs.{Streams, Lists, ListsPart}

-- an image can be loaded: it has code, and neither that nor the words are too many
pub record CanLoad (image : Image) : Type 0 where
  pub some : 0 < length image.code
  pub code : length image.code ≤ 65536
  pub words : length image.words ≤ 32768

-- `say`, beside what an image uses
abbrev pub beside : Outside → (say : Option (List ℕ)) → (say_faults : ℕ) → Streams
beside outside say say_faults = record { outside = outside; say = say; say_faults = say_faults }

-- the image is loaded and the text was written to `say`; or memory was wanted before, or `say` failed
abbrev pub Loads : (text : List ℕ) → Image → (a b : Streams) → Result State Status → Type 0
Loads text image a b (Ok start) = run.IsStart image.code image.words start × Lists text a b
Loads text image a b (Err status) = ((status ≡ NoMemory) × (b ≡ a)) ⊎ ((status ≡ statuses.Outside Say) × ListsPart text a b)
