-- Moves of words.
use Rattle.std.proofs.Common.{◌≡◌, ℕ, ◌+◌, ◌-◌, ◌*◌, ◌/◌, ◌%◌, ◌<◌, Bool, true, false, List, refl, ap}
use Rattle.std.specs.Prelude.{slice_index, slice_set, if◌then◌else◌, Some}
use Rattle.std.proofs.lemmas.Bool.{lt-ltb}
use Rattle.cw_i86.specs.State.{State, sized_register, with_sized_register, operand, with_operand, segment_of, offset_of}
use Rattle.cw_i86.specs.Effect.{moved, moved_acc}
use Rattle.cw_i86.specs.declared.instr.Instr.TheVariants as i86
use Rattle.cw_i86.specs.declared.instr.Imm.TheVariants as imm
use Rattle.cw_i86.specs.declared.instr.Mem.{Mem}
use Rattle.cw_i86.specs.declared.instr.Rm.{Rm}
use Rattle.cw_i86.specs.declared.instr.Rm.TheVariants as rms
use Rattle.cw_i86.specs.declared.instr.Place.TheVariants as places
use Rattle.cw_run86.specs.Addressing.{offset_in}
use Rattle.cw_run86.proofs.Addressing.{offset_is}
use Rattle.cw_run86.specs.Views.{View, Has, register, on, with_register}
use Rattle.cw_run86.proofs.Tests.{Finds}
use Rattle.cw_run86.proofs.Stack.{once_set}
use Rattle.cw_rows86.specs.Locations.{Location, InRegister, contents, with_contents, IsWritable, Denotes, GoesWith, same_flags}
use Rattle.cw_rows86.proofs.Fitting.{FitsView, Writes, reads, writes}
use Rattle.cw_rows86.proofs.Stepping.{as_written, by_row, written}

-- a register set
pub set_register : (code : List ℕ) (u : View) (s : State) (r w written : ℕ) → FitsView code u s → written ≡ w → Writes code (with_register r w u) s (record s { registers = slice_set s.registers r written })
set_register code u s r w written f e = record {
  fits = record { memory = f.memory; same_registers = once_set _ _ r _ _ f.same_registers e; segment = f.segment };
  place = refl;
  flags = refl;
}

pub register_read : (code : List ℕ) (u : View) (s : State) (r : ℕ) → FitsView code u s → slice_index s.registers r ≡ register u r
register_read code u s r f = ap (λ rs. slice_index rs r) f.same_registers

module _ (finds : Finds) (code : List ℕ) (v : View) where
  pub number : (r w : ℕ) → Has code v.place (i86.MovImm r (imm.Word w)) → GoesWith code same_flags v (with_register r w (on (i86.MovImm r (imm.Word w)) v))
  unfolding with_sized_register
  number r w has =
      let i = i86.MovImm r (imm.Word w) in
      by_row finds code v _ i same_flags has (λ p. refl) (λ s b. written code v i (InRegister r) w s _ b (set_register code (on i v) s r w w b.fits refl))

  -- the low byte of one of the first four registers, and the high byte
  pub low_byte : (r n : ℕ) → r < 4 → Has code v.place (i86.MovImm r (imm.Byte n)) → GoesWith code same_flags v (with_register r (register v r / 256 * 256 + n) (on (i86.MovImm r (imm.Byte n)) v))
  unfolding with_sized_register
  low_byte r n low has =
      let i = i86.MovImm r (imm.Byte n) in
      let choice = λ (s : State) (t : Bool). Some (if t then (record s { registers = slice_set s.registers r (slice_index s.registers r / 256 * 256 + n) }) else (record s { registers = slice_set s.registers (r - 4) (n * 256 + slice_index s.registers (r - 4) % 256) })) in
      by_row finds code v _ i same_flags has (λ p. refl) (λ s b.
      let w = written code v i (InRegister r) (register v r / 256 * 256 + n) s _ b (set_register code (on i v) s r _ (slice_index s.registers r / 256 * 256 + n) b.fits (ap (λ x. x / 256 * 256 + n) (register_read code v s r b.fits))) in
      as_written code v _ _ _ _ (ap (choice s) (lt-ltb r 4 low)) w)

  pub into : (r : ℕ) (rm : Rm) (o : Location) → Has code v.place (i86.Mov true true r rm) → Denotes code v.registers rm o → GoesWith code same_flags v (with_register r (contents code v o) (on (i86.Mov true true r rm) v))
  unfolding moved with_sized_register
  into r rm o has d =
      let i = i86.Mov true true r rm in
      by_row finds code v _ i same_flags has (λ p. refl) (λ s b. written code v i (InRegister r) (contents code v o) s _ b (set_register code (on i v) s r _ _ b.fits (reads code v s rm o d b.fits)))

  pub out_of : (r : ℕ) (rm : Rm) (o : Location) → Has code v.place (i86.Mov true false r rm) → Denotes code v.registers rm o → IsWritable o → GoesWith code same_flags v (with_contents o (register v r) (on (i86.Mov true false r rm) v))
  unfolding moved sized_register
  out_of r rm o has d able =
      let i = i86.Mov true false r rm in
      by_row finds code v _ i same_flags has (λ p. refl) (λ s b. written code v i o (register v r) s _ b (writes code (on i v) s rm o _ (register v r) d able (register_read code v s r b.fits) b.fits))

  pub number_to : (rm : Rm) (w : ℕ) (o : Location) → Has code v.place (i86.MovRm rm (imm.Word w)) → Denotes code v.registers rm o → IsWritable o → GoesWith code same_flags v (with_contents o w (on (i86.MovRm rm (imm.Word w)) v))
  number_to rm w o has d able =
      let i = i86.MovRm rm (imm.Word w) in
      by_row finds code v _ i same_flags has (λ p. refl) (λ s b. written code v i o w s _ b (writes code (on i v) s rm o w w d able refl b.fits))

  -- AX and the word at an offset
  pub load : (cs : Bool) (at : ℕ) (o : Location) → Has code v.place (i86.MovAcc cs true false at) → Denotes code v.registers (rms.Mem (record { cs = cs; place = places.Direct at })) o
      → GoesWith code same_flags v (with_register 0 (contents code v o) (on (i86.MovAcc cs true false at) v))
  unfolding moved_acc with_sized_register operand segment_of offset_of
  load cs at o has d =
      let i = i86.MovAcc cs true false at in
      let rm = rms.Mem (record { cs = cs; place = places.Direct at }) in
      by_row finds code v _ i same_flags has (λ p. refl) (λ s b. written code v i (InRegister 0) (contents code v o) s _ b (set_register code (on i v) s 0 _ _ b.fits (reads code v s rm o d b.fits)))

  pub store : (cs : Bool) (at : ℕ) (o : Location) → Has code v.place (i86.MovAcc cs true true at) → Denotes code v.registers (rms.Mem (record { cs = cs; place = places.Direct at })) o → IsWritable o
      → GoesWith code same_flags v (with_contents o (register v 0) (on (i86.MovAcc cs true true at) v))
  unfolding moved_acc sized_register with_operand segment_of offset_of
  store cs at o has d able =
      let i = i86.MovAcc cs true true at in
      let rm = rms.Mem (record { cs = cs; place = places.Direct at }) in
      by_row finds code v _ i same_flags has (λ p. refl) (λ s b. written code v i o (register v 0) s _ b (writes code (on i v) s rm o _ (register v 0) d able (register_read code v s 0 b.fits) b.fits))

  pub offset : (r : ℕ) (m : Mem) → Has code v.place (i86.Lea r m) → GoesWith code same_flags v (with_register r (offset_in v.registers m.place) (on (i86.Lea r m) v))
  offset r m has =
      let i = i86.Lea r m in
      by_row finds code v _ i same_flags has (λ p. refl) (λ s b. written code v i (InRegister r) (offset_in v.registers m.place) s _ b (set_register code (on i v) s r _ _ b.fits (offset_is s v.registers m.place b.fits.same_registers)))
