-- What becomes of a result that is written, by the status that comes of it.
use Rattle.std.specs.Prelude.{◌≡◌, ℕ, ◌<◌, List, length, take}
use Rattle.cw_io.specs.Bytes.{after_told}
use Rattle.cw_io.specs.Count.{Rose}
use Rattle.cw_io.specs.File.{as_file, KeptOrWhole, OthersStay, AllStay}
use Rattle.cw_files.specs.Reading.{SameCounts}
use Rattle.cw_actions.specs.Resulting.Outside.{Files, Out}
use Rattle.cw_say.specs.declared.status.Status.{Status}
use Rattle.cw_say.specs.declared.status.Status.TheVariants.{Ended, Outside, NoMemory}
use Rattle.cw_say.specs.declared.status.Which.TheVariants as which

-- to `out`: the whole, or a proper part where its count rose, or nothing for want of memory
abbrev pub GivesOut : (result : List ℕ) → (out out' : Out) → Status → Type 0
GivesOut result out out' Ended = (out'.held ≡ after_told out.held result) × (out'.faults ≡ out.faults)
GivesOut result out out' (Outside which.Out) = (count : ℕ) × (count < length result)
    × (out'.held ≡ after_told out.held (take count result)) × Rose out.faults out'.faults
GivesOut result out out' NoMemory = out' ≡ out
GivesOut result out out' status = ⊥

-- to a file: it is the result and all others stay; or the writing failed, and it is as it was or the result; or all stay for want of memory
abbrev pub GivesFile : (name result : List ℕ) → (files files' : Files) → Status → Type 0
GivesFile name result files files' Ended = (files'.told name ≡ as_file (files.told name) result)
    × OthersStay files.told files'.told name × SameCounts files.counts files'.counts
GivesFile name result files files' (Outside which.Store) = KeptOrWhole files.told files'.told name result
    × OthersStay files.told files'.told name × Rose files.counts.faults files'.counts.faults
GivesFile name result files files' NoMemory = AllStay files.told files'.told
GivesFile name result files files' status = ⊥
