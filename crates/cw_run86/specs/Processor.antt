-- The 8086 with its ports as a deterministic machine.
use Rattle.std.specs.Prelude.{ℕ, zero, suc, ◌+◌, ◌*◌, List, [], ◌++◌, length, Option, Some, None}
use Rattle.cw_track.specs.Machine.{Machine}
use Rattle.cw_i86.specs.Encoding.{bytes_of}
use Rattle.cw_i86.specs.State.{State, byte_register, with_byte_register, past}
use Rattle.cw_i86.specs.Effect.{executed}
use Rattle.cw_i86.specs.declared.instr.Instr.{Instr}
use Rattle.cw_i86.specs.declared.instr.Instr.TheVariants as i86
use Rattle.cw_i86.specs.MachineRun.{Gives, taken, left_after, written_by, given_to, End, Running, Bad, Divided, end_told, Observed}
use Rattle.cw_run86.specs.Fetching.{instruction_at}

-- what was told to the ports: the bytes given to port 12h, and the last ones given to the four that tell a stop, 0 where none was
pub record Told : Type 0 where
  pub output : List ℕ
  pub kind : ℕ
  pub segment : ℕ
  pub line_low : ℕ
  pub line_high : ℕ

abbrev pub nothing_told : Told
nothing_told = record { output = []; kind = 0; segment = 0; line_low = 0; line_high = 0 }

abbrev pub with_given : (port value : ℕ) → Told → Told
with_given port value t = record {
  output = t.output ++ written_by (Gives port value);
  kind = given_to 0x13 (Gives port value) t.kind;
  segment = given_to 0x14 (Gives port value) t.segment;
  line_low = given_to 0x15 (Gives port value) t.line_low;
  line_high = given_to 0x16 (Gives port value) t.line_high;
}

-- the processor, the input that is left, what was told, and how the run stands
pub record Processor : Type 0 where
  pub state : State
  pub input : List ℕ
  pub told : Told
  pub end : End

abbrev pub with_state : State → Processor → Processor
with_state s p = record p { state = s }

abbrev pub with_end : End → Processor → Processor
with_end e p = record p { end = e }

abbrev pub completed : Option State → Processor → Processor
completed None p = with_end (Divided p.state.instruction_pointer) p
completed (Some s) p = with_state s p

-- the state behind an instruction of so many bytes
abbrev pub behind : Instr → State → State
behind i s = past s (length (bytes_of i))

abbrev pub does : Instr → Processor → Processor
does (i86.In port) p = record p { state = with_byte_register (behind (i86.In port) p.state) 0 (taken port p.input); input = left_after port p.input }
does (i86.Out port) p = record p { state = behind (i86.Out port) p.state; told = with_given port (byte_register (behind (i86.Out port) p.state) 0) p.told }
does i86.Hlt p = record p { state = behind i86.Hlt p.state; end = end_told p.told.kind p.told.segment (p.told.line_low + 256 * p.told.line_high) }
does i p = completed (executed i (behind i p.state)) p

abbrev pub fetched : Option Instr → Processor → Processor
fetched None p = with_end (Bad p.state.instruction_pointer) p
fetched (Some i) p = does i p

-- one instruction; a processor that has halted, or met bad code or a division that faults, stays as it is
abbrev pub step_at : End → Processor → Processor
step_at Running p = fetched (instruction_at p.state) p
step_at _ p = p

abbrev pub processor_step : Processor → Processor
processor_step p = step_at p.end p

abbrev pub observed : Processor → Observed
observed p = record { output = p.told.output; end = p.end }

-- the processor, where an observer makes this of what it shows; each instruction costs 1
abbrev pub processor_machine : {O : Type 0} → (Observed → O) → Machine O
processor_machine f = record { State = Processor; step = processor_step; shown = λ p. f (observed p); weight = λ p. 1 }

-- after so many instructions
abbrev pub processor_after : ℕ → Processor → Processor
processor_after zero p = p
processor_after (suc n) p = processor_after n (processor_step p)

abbrev pub processor_start : State → (input : List ℕ) → Processor
processor_start s input = record { state = s; input = input; told = nothing_told; end = Running }
