-- What a run shows, and how a call answers that runs an image.
use Rattle.std.specs.Prelude.{◌≡◌, ℕ, ◌<◌, ◌≤◌, Bool, true, false, List, [], length, take, Option}
use Rattle.cw_io.specs.Bytes.{after_told}
use Rattle.cw_i86.specs.State.{State}
use Rattle.cw_i86.specs.MachineRun as run
use Rattle.cw_ports.specs.Pieces.{input_limit}
use Rattle.cw_ports.specs.Running.{ReadsAhead, AsksInput}
use Rattle.cw_image.specs.declared.image.Image.{Image}
use Rattle.cw_correct.specs.Calls.{Call, IsUntouched}
use Rattle.cw_say.specs.declared.status.Status.{Status}
use Rattle.cw_say.specs.declared.status.Status.TheVariants.{Ended, Stopped, Unfinished, Outside, TooLong, BadCode, Divided}
use Rattle.cw_say.specs.declared.status.Which.TheVariants.{Input, Out}
use Rattle.cw_say.specs.declared.status.Long.TheVariants as long

-- ---- runs

-- what a run begins with: the state of the processor
abbrev pub Begins : Type 1
Begins = State → Type 0

-- an image begins with its code in the code area, and its words in the data area
abbrev pub begins_as : Image → Begins
begins_as image start = run.IsStart image.code image.words start

-- what shows after n instructions over an input
pub record ImageShows (begins : Begins) (input : List ℕ) (n : ℕ) (shown : run.Observed) : Type 0 where
  pub start : State
  pub is_start : begins start
  pub shows : run.Shows start input n shown

-- and what the source of the input has left afterwards, and whether it was asked for input once more
pub record ImageReads (begins : Begins) (input : List ℕ) (n : ℕ) (shown : run.Observed) (left left' : Option (List ℕ)) (is_asking : Bool) : Type 0 where
  pub shows : ImageShows begins input n shown
  pub ahead : ReadsAhead shows.shows.events left left' is_asking
  pub asks : is_asking ≡ true → AsksInput shows.start n shows.shows.events

-- ---- what is run

-- how a run of so many steps stands that ends with a status
abbrev pub Tells : (steps : ℕ) → Status → run.End → Type 0
Tells steps Ended end = end ≡ run.Ended
Tells steps (Stopped kind segment line) end = end ≡ run.Stopped kind segment line
Tells steps (Unfinished ran) end = (end ≡ run.Running) × (ran ≡ steps)
Tells steps (BadCode offset) end = end ≡ run.Bad offset
Tells steps (Divided offset) end = end ≡ run.Divided offset
Tells steps _ end = ⊥

-- The image ran, `out` got its output, and the status tells its end. No count rose but maybe that of `say`, and not for Ended.
pub record Ran (c : Call) (input : List ℕ) (begins : Begins) (n : ℕ) (shown : run.Observed) (status : Status) : Type 0 where
  pub all : n ≡ c.steps
  pub shows : ImageShows begins input n shown
  pub tells : Tells c.steps status shown.end
  pub output : c.after.out ≡ after_told c.before.out shown.output
  pub no_store_fault : c.after.store_faults ≡ c.before.store_faults
  pub no_absence : c.after.absences ≡ c.before.absences
  pub no_input_fault : c.after.input_faults ≡ c.before.input_faults
  pub no_out_fault : c.after.out_faults ≡ c.before.out_faults
  pub no_say_fault : status ≡ Ended → c.after.say_faults ≡ c.before.say_faults

-- `out` failed: it got a first part of what the image writes in some number of instructions within those of the run
pub record OutFailed (c : Call) (input : List ℕ) (begins : Begins) (n : ℕ) (shown : run.Observed) : Type 0 where
  pub within : n ≤ c.steps
  pub shows : ImageShows begins input n shown
  pub count : ℕ
  pub output : c.after.out ≡ after_told c.before.out (take count shown.output)
  pub no_input_fault : c.after.input_faults ≡ c.before.input_faults

-- The run was cut short where the input was asked for: `out` got all that the image writes in the instructions before that one.
pub record Cut (c : Call) (input : List ℕ) (begins : Begins) (n : ℕ) (shown : run.Observed) : Type 0 where
  pub within : n < c.steps
  pub shows : ImageShows begins input n shown
  pub running : shown.end ≡ run.Running
  pub output : c.after.out ≡ after_told c.before.out shown.output

-- `out` gets, and the status tells, what the image shows; and nothing where it did not run
abbrev pub RunsImage : Call → (input : List ℕ) → Begins → (n : ℕ) → (shown : run.Observed) → Status → Type 0
RunsImage c input begins n shown Ended = Ran c input begins n shown Ended
RunsImage c input begins n shown (Stopped kind segment line) = Ran c input begins n shown (Stopped kind segment line)
RunsImage c input begins n shown (Unfinished ran) = Ran c input begins n shown (Unfinished ran)
RunsImage c input begins n shown (BadCode offset) = Ran c input begins n shown (BadCode offset)
RunsImage c input begins n shown (Divided offset) = Ran c input begins n shown (Divided offset)
RunsImage c input begins n shown (Outside Out) = OutFailed c input begins n shown
RunsImage c input begins n shown (Outside Input) = Cut c input begins n shown
RunsImage c input begins n shown (TooLong long.Input) = Cut c input begins n shown × (input_limit < length input)
RunsImage c input begins n shown status = c.after.out ≡ c.before.out

-- ---- what is read

-- what is left of the input where the image ran so many instructions, and maybe tried one more that asks for input
abbrev pub Leaves : Call → (input : List ℕ) → Begins → (n : ℕ) → (shown : run.Observed) → (is_asking : Bool) → Type 0
Leaves c input begins n shown is_asking = ImageReads begins input n shown c.before.left c.after.left is_asking

-- Bytes are taken ahead of need only where the image asks for input, and then at most 4,096 more than it asked for; none where it did not run. Where the input
-- failed or was too long, the image stands at an instruction that asks, and where it failed, no byte was in hand.
abbrev pub ReadsInput : Call → (input : List ℕ) → Begins → (n : ℕ) → (shown : run.Observed) → Status → Type 0
ReadsInput c input begins n shown Ended = Leaves c input begins n shown false
ReadsInput c input begins n shown (Stopped kind segment line) = Leaves c input begins n shown false
ReadsInput c input begins n shown (Unfinished ran) = Leaves c input begins n shown false
ReadsInput c input begins n shown (BadCode offset) = Leaves c input begins n shown false
ReadsInput c input begins n shown (Divided offset) = Leaves c input begins n shown false
ReadsInput c input begins n shown (Outside Out) = (is_asking : Bool) × Leaves c input begins n shown is_asking
ReadsInput c input begins n shown (Outside Input) = (leaves : Leaves c input begins n shown true) × (leaves.ahead.hand ≡ [])
ReadsInput c input begins n shown (TooLong long.Input) = Leaves c input begins n shown true
ReadsInput c input begins n shown status = IsUntouched c.before c.after
