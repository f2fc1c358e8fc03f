-- A line that is gathered before it is written.
use Rattle.std.specs.Prelude.{◌≡◌, ℕ, ◌<◌, ◌≤◌, List, ◌++◌, length, take, Option, Result, OnOk, OnErr}
use Rattle.cw_io.specs.Bytes.{after_told}
use Rattle.cw_io.specs.Count.{Rose}

-- What a sink holds, what is gathered for it and not yet written, and how often the sink failed.
pub record Gathered : Type 0 where
  pub held : Option (List ℕ)
  pub waiting : List ℕ
  pub faults : ℕ

abbrev pub gathered : Option (List ℕ) → List ℕ → ℕ → Gathered
gathered held waiting faults = record { held = held; waiting = waiting; faults = faults }

-- a first part of what was gathered and of the text was written, and the rest is gathered
abbrev pub KeepsRest : (held : Option (List ℕ)) (waiting : List ℕ) (held' : Option (List ℕ)) (waiting' : List ℕ) → (text : List ℕ) → Type 0
KeepsRest held waiting held' waiting' text = (written : List ℕ) × (waiting ++ text ≡ written ++ waiting') × (held' ≡ after_told held written)

-- The text was added to what is gathered, some of which may have been written; or the sink failed, and a proper first part of all this was written.
pub record Adds {E : Type 0} (old new : Gathered) (text : List ℕ) (result : Result (Unit {0}) E) : Type 0 where
  pub later : old.faults ≤ new.faults
  pub ok : OnOk result (KeepsRest old.held old.waiting new.held new.waiting text)
  pub ok_faults : OnOk result (new.faults ≡ old.faults)
  pub cut : OnErr result ((count : ℕ) × (count < length (old.waiting ++ text)) × (new.held ≡ after_told old.held (take count (old.waiting ++ text))))
  pub err : OnErr result (Rose old.faults new.faults)
