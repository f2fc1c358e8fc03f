-- Which word an operand of an instruction is, in a view: that of a register, or word k of the data or of the stack, or the word at a
-- place of the code.
use Rattle.std.specs.Prelude.{◌≡◌, ℕ, ◌+◌, ◌*◌, ◌<◌, ◌≤◌, Bool, true, false, List, length, slice_index}
use Rattle.cw_i86.specs.State.{is_stack_form}
use Rattle.cw_i86.specs.declared.flags.Flags.{Flags}
use Rattle.cw_i86.specs.declared.instr.Rm.{Rm}
use Rattle.cw_i86.specs.declared.instr.Rm.TheVariants as rms
use Rattle.cw_i86.specs.declared.instr.Place.{Place}
use Rattle.cw_i86.specs.declared.instr.Place.TheVariants.{Direct, Plain, Near, Far}
use Rattle.cw_run86.specs.Addressing.{offset_in}
use Rattle.cw_run86.specs.Processor.{processor_step, Processor}
use Rattle.cw_run86.specs.Views.{View, Sees, register, with_register, with_cell, with_stack}

pub data Location : Type 0 where
  InRegister : (register : ℕ) → Location
  InData : (number : ℕ) → Location
  InStack : (number : ℕ) → Location
  InCode : (place : ℕ) → Location

abbrev pub contents : (code : List ℕ) → View → Location → ℕ
contents code v (InRegister r) = register v r
contents code v (InData k) = v.cells k
contents code v (InStack k) = v.stack k
contents code v (InCode at) = slice_index code at + 256 * slice_index code (at + 1)

-- the code is never changed
abbrev pub with_contents : Location → (word : ℕ) → View → View
with_contents (InRegister r) w v = with_register r w v
with_contents (InData k) w v = with_cell k w v
with_contents (InStack k) w v = with_stack k w v
with_contents (InCode at) w v = v

abbrev pub IsWritable : Location → Type 0
IsWritable (InCode at) = ⊥
IsWritable o = Unit {0}

-- ---- addressing modes

-- the forms with BP are of the stack segment
abbrev pub is_of_stack : Place → Bool
is_of_stack (Direct at) = false
is_of_stack (Plain form) = is_stack_form form
is_of_stack (Near form by) = is_stack_form form
is_of_stack (Far form by) = is_stack_form form

-- the operand of an instruction is this one, where the registers hold these words
abbrev pub Denotes : (code registers : List ℕ) → Rm → Location → Type 0
Denotes code rs (rms.Reg q) (InRegister r) = q ≡ r
Denotes code rs (rms.Mem m) (InData k) = (m.cs ≡ false) × (is_of_stack m.place ≡ false) × (k < 32768) × (offset_in rs m.place ≡ 2 * k)
Denotes code rs (rms.Mem m) (InStack k) = (m.cs ≡ false) × (is_of_stack m.place ≡ true) × (k < 32768) × (offset_in rs m.place ≡ 2 * k)
Denotes code rs (rms.Mem m) (InCode at) = (m.cs ≡ true) × (at + 2 ≤ length code) × (offset_in rs m.place ≡ at)
Denotes code rs rm o = ⊥

-- the operand at a place of the segment that its form implies, and at a place of the code
abbrev pub in_memory : Place → Rm
in_memory place = rms.Mem (record { cs = false; place = place })

abbrev pub in_code : Place → Rm
in_code place = rms.Mem (record { cs = true; place = place })

-- a word that stands in the code
pub record HasWord (code : List ℕ) (at word : ℕ) : Type 0 where
  pub within : at + 2 ≤ length code
  pub is : slice_index code at + 256 * slice_index code (at + 1) ≡ word

-- ---- rows

-- from each processor with the first view, one instruction leads to one with the second, and makes this of the flags
abbrev pub GoesWith : (code : List ℕ) → (Flags → Flags) → View → View → Type 0
GoesWith code change v w = (p : Processor) → Sees code v p → Sees code w (processor_step p) × ((processor_step p).state.flags ≡ change p.state.flags)

abbrev pub same_flags : Flags → Flags
same_flags f = f

-- the processor comes to the second view with the flags that it has
abbrev pub Lands : (code : List ℕ) → View → Processor → Type 0
Lands code w p = Sees code w (processor_step p) × ((processor_step p).state.flags ≡ p.state.flags)
