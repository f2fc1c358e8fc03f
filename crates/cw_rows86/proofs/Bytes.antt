-- Low and high bytes of registers, and no operation.
use Rattle.std.proofs.Common.{◌≡◌, ℕ, ◌+◌, ◌-◌, ◌*◌, ◌/◌, ◌%◌, ◌<◌, Bool, true, false, List, [], ◌∷◌, refl, ap, ap₂, ◌∙◌, arith}
use Rattle.std.proofs.Math.IntN.{+ℤ_idr}
use Rattle.std.proofs.lemmas.Bool.{lt-ltb, le-ltb}
use Rattle.std.specs.Prelude.{slice_index, slice_set, nat_lt, if◌then◌else◌, Some, ◌+ℤ◌, ◌-ℤ◌, bit_and, ◌==◌, not}
use Rattle.cw_i86.specs.Sums.{overflows, signed, logic_flags}
use Rattle.cw_i86.specs.State.{State, byte_register, with_byte_register, sized_register, with_sized_register, operand, with_operand, with_flags}
use Rattle.cw_i86.specs.Effect.{alu_value, alu_flags, operated, tested, moved, exchanged, holds}
use Rattle.cw_i86.specs.declared.flags.Flags.{Flags}
use Rattle.cw_i86.specs.declared.instr.Instr.{Instr}
use Rattle.cw_i86.specs.declared.instr.Instr.TheVariants as i86
use Rattle.cw_i86.specs.declared.instr.Imm.TheVariants as imm
use Rattle.cw_i86.specs.declared.instr.Rm.TheVariants as rms
use Rattle.cw_run86.specs.Views.{View, Has, register, on, with_register, with_overflow}
use Rattle.cw_run86.proofs.Tests.{Finds}
use Rattle.cw_rows86.specs.Locations.{InRegister, GoesWith, same_flags}
use Rattle.cw_rows86.specs.Operations.{WordOperation, Add, Or, And, Subtract, Xor, Compare, number_of, low_of, with_low, byte_result_of, byte_overflow_of, byte_operated_on, byte_flags_after}
use Rattle.cw_rows86.proofs.Fitting.{FitsView, Writes}
use Rattle.cw_rows86.proofs.Stepping.{Becomes, Begins, as_written, by_row, written, written_with, quietly}
use Rattle.cw_rows86.proofs.Moving.{set_register}
use Rattle.cw_rows86.proofs.Operating.{with_these, flagged}

-- ---- a byte of a register

low_read : (code : List ℕ) (u : View) (s : State) (r : ℕ) → r < 4 → FitsView code u s → byte_register s r ≡ low_of u r
low_read code u s r low f =
    ap (λ t. if t then slice_index s.registers r % 256 else slice_index s.registers (r - 4) / 256) (lt-ltb r 4 low) ∙ ap (λ rs. slice_index rs r % 256) f.same_registers

-- the low byte is written
abbrev lower : State → (register byte : ℕ) → State
lower s r b = record s { registers = slice_set s.registers r (slice_index s.registers r / 256 * 256 + b) }

low_written : (s : State) (r b : ℕ) → r < 4 → with_byte_register s r b ≡ lower s r b
low_written s r b low = ap (λ t. if t then lower s r b else (record s { registers = slice_set s.registers (r - 4) (b * 256 + slice_index s.registers (r - 4) % 256) })) (lt-ltb r 4 low)

low_fits : (code : List ℕ) (u : View) (s : State) (r b c : ℕ) → FitsView code u s → b ≡ c → Writes code (with_low r c u) s (lower s r b)
low_fits code u s r b c f e = set_register code u s r _ _ f (ap₂ (λ rs x. slice_index rs r / 256 * 256 + x) f.same_registers e)

-- ---- the arithmetic unit on bytes

value_is : (op : WordOperation) (a b : ℕ) (carry : Bool) → alu_value (number_of op) 128 a b carry ≡ byte_result_of op a b
unfolding alu_value
value_is Add a b carry = omega arith
value_is Or a b carry = refl
value_is And a b carry = refl
value_is Subtract a b carry = omega arith
value_is Xor a b carry = refl
value_is Compare a b carry = omega arith

overflow_is : (op : WordOperation) (a b : ℕ) (flags : Flags) → (byte_flags_after op a b flags).of ≡ byte_overflow_of op a b
unfolding alu_flags
overflow_is Add a b flags = ap (overflows 128) (+ℤ_idr (signed 128 a +ℤ signed 128 b))
overflow_is Or a b flags = refl
overflow_is And a b flags = refl
overflow_is Subtract a b flags = ap (overflows 128) (+ℤ_idr (signed 128 a -ℤ signed 128 b))
overflow_is Xor a b flags = refl
overflow_is Compare a b flags = ap (overflows 128) (+ℤ_idr (signed 128 a -ℤ signed 128 b))

module _ (finds : Finds) (code : List ℕ) (v : View) where
  -- a low byte is written behind new flags
  low_behind : (i : Instr) (r a c : ℕ) (old flags : Flags) (overflow : Bool) (s : State) → r < 4 → Begins code v (on i v) s → a ≡ c → old ≡ flags → flags.of ≡ overflow
      → Becomes code v (with_overflow overflow (with_low r c (on i v))) flags (Some (with_byte_register (with_flags s old) r a))
  low_behind i r a c old flags overflow s low b ea ef of =
      let x = low_fits code (on i v) (with_flags s old) r a c (with_these code (on i v) s old b.fits) ea in
      as_written code v _ _ _ _ (ap Some (low_written (with_flags s old) r a low)) (written_with code v i (InRegister r) (register v r / 256 * 256 + c) flags overflow s _ b x.fits x.place (x.flags ∙ ef) of)

  pub on_bytes : (op : WordOperation) (r q : ℕ) → r < 4 → q < 4 → Has code v.place (i86.AluRm (number_of op) false true r (rms.Reg q))
      → GoesWith code (byte_flags_after op (low_of v r) (low_of v q)) v (byte_operated_on op r (low_of v r) (low_of v q) (on (i86.AluRm (number_of op) false true r (rms.Reg q)) v))
  unfolding operated operand with_operand sized_register with_sized_register
  on_bytes op r q lr lq has = by_row finds code v _ i _ has (λ p. refl) (λ s b. by_case op s b)
    where
      i : Instr
      i = i86.AluRm (number_of op) false true r (rms.Reg q)

      flags_are : (n : ℕ) (s : State) → FitsView code v s → alu_flags n 128 (byte_register s r) (byte_register s q) s.flags ≡ alu_flags n 128 (low_of v r) (low_of v q) s.flags
      flags_are n s f = ap₂ (λ x y. alu_flags n 128 x y s.flags) (low_read code v s r lr f) (low_read code v s q lq f)

      value : (p : WordOperation) (s : State) → FitsView code v s → alu_value (number_of p) 128 (byte_register s r) (byte_register s q) s.flags.cf ≡ byte_result_of p (low_of v r) (low_of v q)
      value p s f = ap₂ (λ x y. alu_value (number_of p) 128 x y s.flags.cf) (low_read code v s r lr f) (low_read code v s q lq f) ∙ value_is p (low_of v r) (low_of v q) s.flags.cf

      by_case : (p : WordOperation) (s : State) → Begins code v (on (i86.AluRm (number_of op) false true r (rms.Reg q)) v) s
          → Becomes code v (byte_operated_on p r (low_of v r) (low_of v q) (on (i86.AluRm (number_of op) false true r (rms.Reg q)) v)) (byte_flags_after p (low_of v r) (low_of v q) s.flags) (Some (operated s (number_of p) false (rms.Reg r) (byte_register s q)))
      by_case Add s b = low_behind (i86.AluRm (number_of op) false true r (rms.Reg q)) r _ _ _ _ _ s lr b (value Add s b.fits) (flags_are 0 s b.fits) (overflow_is Add (low_of v r) (low_of v q) s.flags)
      by_case Or s b = low_behind (i86.AluRm (number_of op) false true r (rms.Reg q)) r _ _ _ _ _ s lr b (value Or s b.fits) (flags_are 1 s b.fits) (overflow_is Or (low_of v r) (low_of v q) s.flags)
      by_case And s b = low_behind (i86.AluRm (number_of op) false true r (rms.Reg q)) r _ _ _ _ _ s lr b (value And s b.fits) (flags_are 4 s b.fits) (overflow_is And (low_of v r) (low_of v q) s.flags)
      by_case Subtract s b = low_behind (i86.AluRm (number_of op) false true r (rms.Reg q)) r _ _ _ _ _ s lr b (value Subtract s b.fits) (flags_are 5 s b.fits) (overflow_is Subtract (low_of v r) (low_of v q) s.flags)
      by_case Xor s b = low_behind (i86.AluRm (number_of op) false true r (rms.Reg q)) r _ _ _ _ _ s lr b (value Xor s b.fits) (flags_are 6 s b.fits) (overflow_is Xor (low_of v r) (low_of v q) s.flags)
      by_case Compare s b = flagged code v (i86.AluRm (number_of op) false true r (rms.Reg q)) _ _ _ s b (flags_are 7 s b.fits) (overflow_is Compare (low_of v r) (low_of v q) s.flags)

  -- TEST of low bytes
  pub test : (r q : ℕ) → r < 4 → q < 4 → Has code v.place (i86.TestRm false r (rms.Reg q))
      → GoesWith code (logic_flags 128 (bit_and (low_of v q) (low_of v r))) v (with_overflow false (on (i86.TestRm false r (rms.Reg q)) v))
  unfolding tested operand sized_register
  test r q lr lq has =
      let i = i86.TestRm false r (rms.Reg q) in
      by_row finds code v _ i _ has (λ p. refl)
      (λ s b. flagged code v i _ _ false s b (ap₂ (λ x y. logic_flags 128 (bit_and x y) s.flags) (low_read code v s q lq b.fits) (low_read code v s r lr b.fits)) refl)

  -- a number to a high byte, and the high byte of AX to its low byte
  pub high_byte : (r n : ℕ) → Has code v.place (i86.MovImm (r + 4) (imm.Byte n)) → GoesWith code same_flags v (with_register r (n * 256 + low_of v r) (on (i86.MovImm (r + 4) (imm.Byte n)) v))
  unfolding with_sized_register
  high_byte r n has =
      let i = i86.MovImm (r + 4) (imm.Byte n) in
      let not_low : nat_lt (r + 4) 4 ≡ false = le-ltb (r + 4) 4 (omega arith) in
      let same : r + 4 - 4 ≡ r = omega arith in
      let choice = λ (s : State) (t : Bool). Some (if t then lower s (r + 4) n else (record s { registers = slice_set s.registers (r + 4 - 4) (n * 256 + slice_index s.registers (r + 4 - 4) % 256) })) in
      let other = λ (s : State) (q : ℕ). Some (record s { registers = slice_set s.registers q (n * 256 + slice_index s.registers q % 256) }) in
      by_row finds code v _ i same_flags has (λ p. refl)
      (λ s b. as_written code v _ _ _ _ (ap (choice s) not_low ∙ ap (other s) same)
      (written code v i (InRegister r) (n * 256 + low_of v r) s _ b (set_register code (on i v) s r _ _ b.fits (ap (λ rs. n * 256 + slice_index rs r % 256) b.fits.same_registers))))

  pub high_to_low : Has code v.place (i86.Mov false true 0 (rms.Reg 4)) → GoesWith code same_flags v (with_low 0 (register v 0 / 256) (on (i86.Mov false true 0 (rms.Reg 4)) v))
  unfolding moved operand sized_register with_sized_register
  high_to_low has =
      let i = i86.Mov false true 0 (rms.Reg 4) in
      by_row finds code v _ i same_flags has (λ p. refl)
      (λ s b. written code v i (InRegister 0) (register v 0 / 256 * 256 + register v 0 / 256) s _ b (set_register code (on i v) s 0 _ _ b.fits (ap (λ rs. slice_index rs 0 / 256 * 256 + slice_index rs 0 / 256) b.fits.same_registers)))

  -- ---- no operation: AX and AX are exchanged

  itself : (rs : List ℕ) → slice_set rs 0 (slice_index rs 0) ≡ rs
  itself [] = refl
  itself (x ∷ rs) = refl

  pub nothing : Has code v.place (i86.XchgAx 0) → GoesWith code same_flags v (on (i86.XchgAx 0) v)
  unfolding exchanged operand with_operand sized_register with_sized_register
  nothing has =
      let i = i86.XchgAx 0 in
      by_row finds code v _ i same_flags has (λ p. refl)
      (λ s b. let same : slice_set (slice_set s.registers 0 (slice_index s.registers 0)) 0 (slice_index s.registers 0) ≡ v.registers =
      ap (λ rs. slice_set rs 0 (slice_index s.registers 0)) (itself s.registers) ∙ itself s.registers ∙ b.fits.same_registers in
      quietly code v (on i v) i s _ b (record { fits = record { memory = b.fits.memory; same_registers = same; segment = b.fits.segment }; place = refl; flags = refl }) refl refl refl refl)

-- ---- what the flags tell of a byte

pub byte_zero : (n : ℕ) (flags : Flags) → holds (logic_flags 128 n flags) 4 ≡ (n == 0)
unfolding holds
byte_zero n flags = refl

pub byte_not_zero : (n : ℕ) (flags : Flags) → holds (logic_flags 128 n flags) 5 ≡ not (n == 0)
unfolding holds
byte_not_zero n flags = refl
