-- Ways of the processor through code that nothing changes, with the number of its instructions.
use Rattle.std.specs.Prelude.{◌≡◌, ℕ, ◌+◌, ◌*◌, ◌%◌, ◌≤◌, List, [], ◌∷◌, length, slice_index, false}
use Rattle.cw_i86.specs.Encoding.{bytes_of}
use Rattle.cw_i86.specs.declared.flags.Flags.{Flags}
use Rattle.cw_i86.specs.declared.instr.Instr.{Instr}
use Rattle.cw_i86.specs.MachineRun.{Stopped}
use Rattle.cw_run86.specs.Processor.{Processor, Told, processor_step, observed}
use Rattle.cw_run86.specs.Views.{View, Sees, Has, view as view_at}
use Rattle.cw_unit.specs.Stop.{StopKind, stop_number}

-- a view with registers; its place and its overflow flag are of no use
abbrev pub view : (ax cx dx bx sp bp si di : ℕ) → (cells stack : ℕ → ℕ) → (input : List ℕ) → Told → View
view ax cx dx bx sp bp si di cells stack input told = view_at 0 ax cx dx bx sp bp si di false cells stack input told

abbrev pub standing : ℕ → Flags → View → View
standing at f v = record v { place = at % 65536; overflow = f.of }

-- the processor is at a place of the code with these flags, and all else is as the view says
pub record At (code : List ℕ) (at : ℕ) (v : View) (f : Flags) (p : Processor) : Type 0 where
  pub sees : Sees code (standing at f v) p
  pub flags : p.state.flags ≡ f

-- these instructions stand in the code, one after another from a place
abbrev pub HasAll : List ℕ → ℕ → List Instr → Type 0
HasAll code place [] = Unit {0}
HasAll code place (i ∷ is) = Has code place i × HasAll code (place + length (bytes_of i)) is

-- the places of these instructions are so
abbrev pub QuietAll : (Quiet : ℕ → Type 0) → ℕ → List Instr → Type 0
QuietAll Quiet place [] = Unit {0}
QuietAll Quiet place (i ∷ is) = Quiet place × QuietAll Quiet (place + length (bytes_of i)) is

-- a word stands in the code
pub record HasWord (code : List ℕ) (place word : ℕ) : Type 0 where
  pub within : place + 2 ≤ length code
  pub is : slice_index code place + 256 * slice_index code (place + 1) ≡ word

-- So many instructions lead from one processor to another. At each the processor is at work at a place that is quiet, and this output is told.
pub data Way (Quiet : ℕ → Type 0) (code output : List ℕ) : ℕ → Processor → Processor → Type 0 where
  stay : {n : ℕ} {p q : Processor} → p ≡ q → n ≡ 0 → Way Quiet code output n p q
  go : {n m : ℕ} {p q : Processor} (v : View) → Sees code v p → Quiet v.place → v.told.output ≡ output → n ≡ 1 + m
      → Way Quiet code output m (processor_step p) q
      → Way Quiet code output n p q

-- they lead to a processor that is so
pub record Leads (Quiet : ℕ → Type 0) (code output : List ℕ) (n : ℕ) (p : Processor) (Target : Processor → Type 0) : Type 0 where
  pub reached : Processor
  pub way : Way Quiet code output n p reached
  pub there : Target reached

-- no more than so many do
pub record Within (Quiet : ℕ → Type 0) (code output : List ℕ) (bound : ℕ) (p : Processor) (Target : Processor → Type 0) : Type 0 where
  pub spent : ℕ
  pub within : spent ≤ bound
  pub leads : Leads Quiet code output spent p Target

-- ---- where they lead

-- At a place, as behind a call, with an answer in AX and the flags; the other registers but SP, BP and DI are of no use.
pub record Back (code : List ℕ) (to sp bp area : ℕ) (cells stack : ℕ → ℕ) (input : List ℕ) (told : Told) (Answers : ℕ → Flags → Type 0) (p : Processor) : Type 0 where
  pub ax : ℕ
  pub cx : ℕ
  pub dx : ℕ
  pub bx : ℕ
  pub si : ℕ
  pub flags : Flags
  pub is : At code to (view ax cx dx bx sp bp si area cells stack input told) flags p
  pub answers : Answers ax flags

-- The processor rests, and shows this stop.
pub record Over (output : List ℕ) (kind : StopKind) (segment line : ℕ) (p : Processor) : Type 0 where
  pub shows : observed p ≡ record { output = output; end = Stopped (stop_number kind) segment line }
  pub still : processor_step p ≡ p
