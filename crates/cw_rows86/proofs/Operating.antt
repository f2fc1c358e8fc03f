-- Sums, differences, bits and comparisons.
use Rattle.std.proofs.Common.{◌≡◌, ℕ, Bool, true, false, List, refl, ap, ap₂, ◌∙◌}
use Rattle.std.specs.Prelude.{Some}
use Rattle.cw_i86.specs.Sums.{sum_of, difference_of, difference_flags}
use Rattle.cw_i86.specs.State.{State, operand, with_operand, sized_register, with_flags, sign_extended}
use Rattle.cw_i86.specs.Effect.{alu_value, alu_flags, operated, counted, negated, unary}
use Rattle.cw_i86.specs.declared.flags.Flags.{Flags}
use Rattle.cw_i86.specs.declared.instr.Instr.{Instr}
use Rattle.cw_i86.specs.declared.instr.Instr.TheVariants as i86
use Rattle.cw_i86.specs.declared.instr.Imm.TheVariants as imm
use Rattle.cw_i86.specs.declared.instr.Rm.{Rm}
use Rattle.cw_i86.specs.declared.instr.Rm.TheVariants as rms
use Rattle.cw_run86.specs.Views.{View, Has, register, on, with_overflow, word_difference, difference_overflows}
use Rattle.cw_run86.proofs.Tests.{Finds}
use Rattle.cw_run86.proofs.Sums.{plain_sum, plain_difference, plain_sum_overflows, plain_difference_overflows}
use Rattle.cw_rows86.specs.Locations.{Location, InRegister, contents, with_contents, IsWritable, Denotes, GoesWith}
use Rattle.cw_rows86.specs.Operations.{WordOperation, Add, Subtract, Compare, number_of, result_of, overflow_of, operated_on, flags_after, counted_to, count_overflows, flags_counted, Operates, Counts}
use Rattle.cw_rows86.proofs.Fitting.{FitsView, reads, writes}
use Rattle.cw_rows86.proofs.Stepping.{Becomes, Begins, by_row, written_with}
use Rattle.cw_rows86.proofs.Moving.{register_read}

-- ---- the arithmetic unit

value_is : (op : WordOperation) (a b : ℕ) (carry : Bool) → alu_value (number_of op) 32768 a b carry ≡ result_of op a b
unfolding alu_value
value_is Add a b carry = plain_sum a b
value_is Subtract a b carry = plain_difference a b
value_is Compare a b carry = plain_difference a b
value_is _ a b carry = refl

overflow_is : (op : WordOperation) (a b : ℕ) (flags : Flags) → (flags_after op a b flags).of ≡ overflow_of op a b
unfolding alu_flags
overflow_is Add a b flags = plain_sum_overflows a b
overflow_is Subtract a b flags = plain_difference_overflows a b
overflow_is Compare a b flags = plain_difference_overflows a b
overflow_is _ a b flags = refl

pub with_these : (code : List ℕ) (u : View) (s : State) (flags : Flags) → FitsView code u s → FitsView code u (with_flags s flags)
with_these code u s flags f = record { memory = f.memory; same_registers = f.same_registers; segment = f.segment }

-- a word is written into a state that got new flags
pub written_behind : (code : List ℕ) (v : View) (i : Instr) (rm : Rm) (o : Location) (old flags : Flags) (written w : ℕ) (overflow : Bool) (s : State) → Begins code v (on i v) s → Denotes code v.registers rm o → IsWritable o
    → old ≡ flags → written ≡ w → flags.of ≡ overflow → Becomes code v (with_overflow overflow (with_contents o w (on i v))) flags (Some (with_operand (with_flags s old) true rm written))
written_behind code v i rm o old flags written w overflow s b d able ef ew of =
    let x = writes code (on i v) (with_flags s old) rm o written w d able ew (with_these code (on i v) s old b.fits) in
    written_with code v i o w flags overflow s _ b x.fits x.place (x.flags ∙ ef) of

-- the view fits but for its flags
pub flagged : (code : List ℕ) (v : View) (i : Instr) (old flags : Flags) (overflow : Bool) (s : State) → Begins code v (on i v) s → old ≡ flags → flags.of ≡ overflow
    → Becomes code v (with_overflow overflow (on i v)) flags (Some (with_flags s old))
flagged code v i old flags overflow s b ef of = record {
  state = with_flags s old;
  is = refl;
  fits = with_these code v s old b.fits;
  place = b.place;
  same_flags = ef;
  overflow = ap (λ x. x.of) ef ∙ of;
  input = refl;
  told = refl;
}

operates : (op : WordOperation) (code : List ℕ) (v : View) (i : Instr) (rm : Rm) (o : Location) (other b : ℕ) (s : State) → Begins code v (on i v) s → Denotes code v.registers rm o → IsWritable o → other ≡ b
    → Becomes code v (operated_on op o (contents code v o) b (on i v)) (flags_after op (contents code v o) b s.flags) (Some (operated s (number_of op) true rm other))
unfolding operated
operates op code v i rm o other b s begin d able e = by_case op
  where
    read : operand s true rm ≡ contents code v o
    read = reads code v s rm o d begin.fits

    flags_are : (n : ℕ) → alu_flags n 32768 (operand s true rm) other s.flags ≡ alu_flags n 32768 (contents code v o) b s.flags
    flags_are n = ap₂ (λ x y. alu_flags n 32768 x y s.flags) read e

    value : (p : WordOperation) → alu_value (number_of p) 32768 (operand s true rm) other s.flags.cf ≡ result_of p (contents code v o) b
    value p = ap₂ (λ x y. alu_value (number_of p) 32768 x y s.flags.cf) read e ∙ value_is p (contents code v o) b s.flags.cf

    by_case : (p : WordOperation) → Becomes code v (operated_on p o (contents code v o) b (on i v)) (flags_after p (contents code v o) b s.flags) (Some (operated s (number_of p) true rm other))
    by_case Compare = flagged code v i _ _ _ s begin (flags_are 7) (overflow_is Compare (contents code v o) b s.flags)
    by_case p = written_behind code v i rm o _ _ _ _ _ s begin d able (flags_are (number_of p)) (value p) (overflow_is p (contents code v o) b s.flags)

module _ (finds : Finds) (code : List ℕ) (v : View) where
  -- on a register and an operand
  pub into : (op : WordOperation) (r : ℕ) (rm : Rm) (o : Location) → Has code v.place (i86.AluRm (number_of op) true true r rm) → Denotes code v.registers rm o
      → Operates code v op (i86.AluRm (number_of op) true true r rm) (InRegister r) (contents code v o)
  into op r rm o has d =
      let i = i86.AluRm (number_of op) true true r rm in
      by_row finds code v _ i _ has (λ p. refl) (λ s b. operates op code v i (rms.Reg r) (InRegister r) _ _ s b refl tt (reads code v s rm o d b.fits))

  -- on an operand and a register
  pub onto : (op : WordOperation) (r : ℕ) (rm : Rm) (o : Location) → Has code v.place (i86.AluRm (number_of op) true false r rm) → Denotes code v.registers rm o → IsWritable o
      → Operates code v op (i86.AluRm (number_of op) true false r rm) o (register v r)
  unfolding sized_register
  onto op r rm o has d able =
      let i = i86.AluRm (number_of op) true false r rm in
      by_row finds code v _ i _ has (λ p. refl) (λ s b. operates op code v i rm o _ _ s b d able (register_read code v s r b.fits))

  -- on AX, or an operand, and a number
  pub number : (op : WordOperation) (w : ℕ) → Has code v.place (i86.AluAcc (number_of op) (imm.Word w)) → Operates code v op (i86.AluAcc (number_of op) (imm.Word w)) (InRegister 0) w
  number op w has =
      let i = i86.AluAcc (number_of op) (imm.Word w) in
      by_row finds code v _ i _ has (λ p. refl) (λ s b. operates op code v i (rms.Reg 0) (InRegister 0) _ _ s b refl tt refl)

  pub number_onto : (op : WordOperation) (w : ℕ) (rm : Rm) (o : Location) → Has code v.place (i86.AluImm (number_of op) rm (imm.Word w)) → Denotes code v.registers rm o → IsWritable o
      → Operates code v op (i86.AluImm (number_of op) rm (imm.Word w)) o w
  number_onto op w rm o has d able =
      let i = i86.AluImm (number_of op) rm (imm.Word w) in
      by_row finds code v _ i _ has (λ p. refl) (λ s b. operates op code v i rm o _ _ s b d able refl)

  -- on an operand and a byte that is sign-extended
  pub byte_onto : (op : WordOperation) (n : ℕ) (rm : Rm) (o : Location) → Has code v.place (i86.AluShort (number_of op) rm n) → Denotes code v.registers rm o → IsWritable o
      → Operates code v op (i86.AluShort (number_of op) rm n) o (sign_extended n)
  byte_onto op n rm o has d able =
      let i = i86.AluShort (number_of op) rm n in
      by_row finds code v _ i _ has (λ p. refl) (λ s b. operates op code v i rm o _ _ s b d able refl)

  -- ---- by one

  count_overflow : (down : Bool) (a : ℕ) (flags : Flags) → (flags_counted down a flags).of ≡ count_overflows down a
  count_overflow true a flags = plain_difference_overflows a 1
  count_overflow false a flags = plain_sum_overflows a 1

  counts : (i : Instr) (down : Bool) (rm : Rm) (o : Location) (s : State) → Begins code v (on i v) s → Denotes code v.registers rm o → IsWritable o
      → Becomes code v (with_overflow (count_overflows down (contents code v o)) (with_contents o (counted_to down (contents code v o)) (on i v))) (flags_counted down (contents code v o) s.flags) (Some (counted s down true rm))
  unfolding counted
  counts i true rm o s b d able =
      let read = reads code v s rm o d b.fits in
      written_behind code v i rm o _ _ _ _ _ s b d able (ap (λ a. flags_counted true a s.flags) read) (ap (λ a. difference_of 32768 a 1 false) read ∙ plain_difference (contents code v o) 1) (count_overflow true (contents code v o) s.flags)
  counts i false rm o s b d able =
      let read = reads code v s rm o d b.fits in
      written_behind code v i rm o _ _ _ _ _ s b d able (ap (λ a. flags_counted false a s.flags) read) (ap (λ a. sum_of 32768 a 1 false) read ∙ plain_sum (contents code v o) 1) (count_overflow false (contents code v o) s.flags)

  pub increment : (r : ℕ) → Has code v.place (i86.Inc r) → Counts code v false (i86.Inc r) (InRegister r)
  increment r has = by_row finds code v _ (i86.Inc r) _ has (λ p. refl) (λ s b. counts (i86.Inc r) false (rms.Reg r) (InRegister r) s b refl tt)

  pub decrement : (r : ℕ) → Has code v.place (i86.Dec r) → Counts code v true (i86.Dec r) (InRegister r)
  decrement r has = by_row finds code v _ (i86.Dec r) _ has (λ p. refl) (λ s b. counts (i86.Dec r) true (rms.Reg r) (InRegister r) s b refl tt)

  pub count : (down : Bool) (rm : Rm) (o : Location) → Has code v.place (i86.IncDec down true rm) → Denotes code v.registers rm o → IsWritable o → Counts code v down (i86.IncDec down true rm) o
  count down rm o has d able = by_row finds code v _ (i86.IncDec down true rm) _ has (λ p. refl) (λ s b. counts (i86.IncDec down true rm) down rm o s b d able)

  -- ---- the negative

  pub negate : (rm : Rm) (o : Location) → Has code v.place (i86.Unary 3 true rm) → Denotes code v.registers rm o → IsWritable o
      → GoesWith code (flags_after Subtract 0 (contents code v o)) v (with_overflow (difference_overflows 0 (contents code v o)) (with_contents o (word_difference 0 (contents code v o)) (on (i86.Unary 3 true rm) v)))
  unfolding unary negated alu_flags
  negate rm o has d able =
      let i = i86.Unary 3 true rm in
      by_row finds code v _ i _ has (λ p. refl) (λ s b.
      let read = reads code v s rm o d b.fits in
      written_behind code v i rm o _ _ _ _ _ s b d able (ap (λ a. difference_flags 32768 0 a false) read) (ap (λ a. difference_of 32768 0 a false) read ∙ plain_difference 0 (contents code v o)) (plain_difference_overflows 0 (contents code v o)))
