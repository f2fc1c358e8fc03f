-- Shifts by one place, and by the count in CL.
use Rattle.std.proofs.Common.{◌≡◌, ℕ, ◌%◌, ◌<◌, Bool, true, false, List, refl, ap, ap₂, ◌∙◌, arith}
use Rattle.std.specs.Prelude.{slice_index, if◌then◌else◌}
use Rattle.cw_i86.specs.Shifts.{shift_of, shift_flags}
use Rattle.cw_i86.specs.State.{State}
use Rattle.cw_i86.specs.Effect.{shifted, shift_named}
use Rattle.cw_i86.specs.declared.flags.Flags.{Flags}
use Rattle.cw_i86.specs.declared.shift.ShiftOp.TheVariants.{Shl, Shr, Sar}
use Rattle.cw_i86.specs.declared.instr.Instr.TheVariants as i86
use Rattle.cw_i86.specs.declared.instr.Rm.{Rm}
use Rattle.cw_run86.specs.Views.{View, Has, on, with_overflow, shift_overflow}
use Rattle.cw_run86.proofs.Tests.{Finds}
use Rattle.cw_run86.proofs.Shifted.{up_many, down_many, down_signed_many, overflow_is}
use Rattle.cw_rows86.specs.Locations.{Location, contents, with_contents, IsWritable, Denotes, GoesWith}
use Rattle.cw_rows86.specs.Operations.{Shifting, Up, Down, DownSigned, shift_number, shifted_word, flags_shifted, places_of}
use Rattle.cw_rows86.proofs.Fitting.{FitsView, reads}
use Rattle.cw_rows86.proofs.Stepping.{by_row}
use Rattle.cw_rows86.proofs.Operating.{written_behind}

word_is : (op : Shifting) (a n : ℕ) (flags : Flags) → a < 65536 → shift_of (shift_named (shift_number op)) 32768 a n flags ≡ shifted_word op a n
word_is Up a n flags lt = up_many n a flags.cf lt
word_is Down a n flags lt = down_many n a flags.cf
word_is DownSigned a n flags lt = down_signed_many n a flags.cf lt

flags_are : (op : Shifting) (a n : ℕ) (flags : Flags) → shift_flags (shift_named (shift_number op)) 32768 a n flags ≡ flags_shifted op a n flags
flags_are Up a n flags = refl
flags_are _ a n flags = refl

overflow_shifted : (op : Shifting) (a n : ℕ) (flags : Flags) (old : Bool) → flags.of ≡ old → (flags_shifted op a n flags).of ≡ shift_overflow (shift_number op) a n old
overflow_shifted Up a n flags old e = overflow_is Shl (omega arith) n a flags old e
overflow_shifted Down a n flags old e = overflow_is Shr (omega arith) n a flags old e
overflow_shifted DownSigned a n flags old e = overflow_is Sar (omega arith) n a flags old e

count_is : (by_cl : Bool) (code : List ℕ) (v : View) (s : State) → FitsView code v s → (if by_cl then slice_index s.registers 1 % 256 else 1) ≡ places_of by_cl v
count_is true code v s f = ap (λ rs. slice_index rs 1 % 256) f.same_registers
count_is false code v s f = refl

module _ (finds : Finds) (code : List ℕ) (v : View) where
  pub shift : (op : Shifting) (by_cl : Bool) (rm : Rm) (o : Location) → Has code v.place (i86.Shift (shift_number op) true by_cl rm) → Denotes code v.registers rm o → IsWritable o → contents code v o < 65536
      → GoesWith code (flags_shifted op (contents code v o) (places_of by_cl v)) v
      (with_overflow (shift_overflow (shift_number op) (contents code v o) (places_of by_cl v) v.overflow) (with_contents o (shifted_word op (contents code v o) (places_of by_cl v)) (on (i86.Shift (shift_number op) true by_cl rm) v)))
  unfolding shifted
  shift op by_cl rm o has d able lt =
      let i = i86.Shift (shift_number op) true by_cl rm in
      let a = contents code v o in
      let n = places_of by_cl v in
      by_row finds code v _ i _ has (λ p. refl)
      (λ s b. let read = reads code v s rm o d b.fits in
      let count = count_is by_cl code v s b.fits in
      written_behind code v i rm o _ _ _ _ _ s b d able
      (ap₂ (λ x m. shift_flags (shift_named (shift_number op)) 32768 x m s.flags) read count ∙ flags_are op a n s.flags)
      (ap₂ (λ x m. shift_of (shift_named (shift_number op)) 32768 x m s.flags) read count ∙ word_is op a n s.flags lt)
      (overflow_shifted op a n s.flags v.overflow b.overflow))
