-- The instructions that compiled code is made of, known by their bytes.
use Rattle.std.proofs.Common.{◌≡◌, ◌≢◌, ℕ, ◌+◌, ◌*◌, ◌/◌, ◌%◌, ◌^◌, ◌<◌, ◌≤◌, List, [], ◌∷◌, ◌++◌, refl, sym, ap, ◌∙◌, arith, lit<}
use Rattle.std.specs.Prelude.{Some, Bool, true, false, if◌then◌else◌}
use Rattle.cw_i86.specs.Encoding.{BeginsWith, with_rm, mod_reg_rm, word}
use Rattle.cw_i86.specs.State.{State, window, past, register, with_register, with_sized_register, sized_register, operand, with_operand, push, data_segment, word_at, value_at, with_value_at, segment_of, default_segment, offset_of, form_base, sign_extended}
use Rattle.cw_i86.specs.Effect.{executed, exchanged, pop_to, counted, holds, jumped_if, returned, called, moved, moved_acc, operated, shifted}
use Rattle.cw_i86.specs.MachineRun.{GoesOn, Silent, Steps, code_at}
use Rattle.cw_i86.specs.declared.instr.Instr.TheVariants.{AluRm, AluAcc, Inc, Dec, Push, Pop, XchgAx, Mov, MovImm, MovRm, MovAcc, Shift, Jump, JumpShort, JumpIf, Call, Ret, RetAdd}
use Rattle.cw_i86.specs.declared.instr.Imm.TheVariants.{Word}
use Rattle.cw_i86.specs.declared.instr.Place.{Place}
use Rattle.cw_i86.specs.declared.instr.Place.TheVariants.{Direct, Plain, Near}
use Rattle.cw_i86.specs.declared.instr.Rm.{Rm}
use Rattle.cw_i86.specs.declared.instr.Rm.TheVariants as rms
use Rattle.cw_cpu86.specs.Bytes.{opcode_at, byte_behind, IsWordBehind, NamesOperand}
use Rattle.cw_cpu86.proofs.Steps.{plain_steps}

-- ---- the seven bytes at CS:IP

pub code_bytes : (s : State) → code_at s ≡ opcode_at s ∷ byte_behind s 1 ∷ byte_behind s 2 ∷ byte_behind s 3 ∷ byte_behind s 4 ∷ byte_behind s 5 ∷ byte_behind s 6 ∷ []
unfolding window
code_bytes s =
    let ip = s.instruction_pointer in
    let two : ((ip + 1) % 65536 + 1) % 65536 ≡ (ip + 2) % 65536 = omega arith in
    let three : ((ip + 2) % 65536 + 1) % 65536 ≡ (ip + 3) % 65536 = omega arith in
    let four : ((ip + 3) % 65536 + 1) % 65536 ≡ (ip + 4) % 65536 = omega arith in
    let five : ((ip + 4) % 65536 + 1) % 65536 ≡ (ip + 5) % 65536 = omega arith in
    let six : ((ip + 5) % 65536 + 1) % 65536 ≡ (ip + 6) % 65536 = omega arith in
    rw (two, three, four, five, six) refl

first_byte : (s : State) (f : ℕ) → opcode_at s ≡ f → (rest : List ℕ) × (code_at s ≡ f ∷ rest)
first_byte s f e =
    let rest = byte_behind s 1 ∷ byte_behind s 2 ∷ byte_behind s 3 ∷ byte_behind s 4 ∷ byte_behind s 5 ∷ byte_behind s 6 ∷ [] in
    (rest, code_bytes s ∙ ap (λ x. x ∷ rest) e)

two_bytes : (s : State) (f by : ℕ) → opcode_at s ≡ f → by ≡ byte_behind s 1 → (rest : List ℕ) × (code_at s ≡ f ∷ by ∷ rest)
two_bytes s f by e is =
    let rest = byte_behind s 2 ∷ byte_behind s 3 ∷ byte_behind s 4 ∷ byte_behind s 5 ∷ byte_behind s 6 ∷ [] in
    (rest, code_bytes s ∙ ap (λ x. x ∷ byte_behind s 1 ∷ rest) e ∙ ap (λ x. f ∷ x ∷ rest) (sym is))

byte_and_word : (s : State) (f w : ℕ) → opcode_at s ≡ f → IsWordBehind s 1 w → (rest : List ℕ) × (code_at s ≡ f ∷ (word w ++ rest))
byte_and_word s f w e is =
    let rest = byte_behind s 3 ∷ byte_behind s 4 ∷ byte_behind s 5 ∷ byte_behind s 6 ∷ [] in
    (rest, code_bytes s ∙ ap (λ x. x ∷ byte_behind s 1 ∷ byte_behind s 2 ∷ rest) e ∙ ap (λ l. f ∷ (l ++ rest)) (sym is))

-- ---- operands in memory and registers

-- [BX], [SI]
pub at_plain : (s : State) (m form : ℕ) → m ≡ byte_behind s 1 → m < 64 → m % 8 ≡ form → form ≢ 6
    → NamesOperand s (m / 8 % 8) (rms.Mem (record { cs = false; place = Plain form })) 2
at_plain s m form is low is_form other =
    let named : m ≡ mod_reg_rm 0 (m / 8 % 8) form = omega arith in
    record {
      valid = (omega arith, other);
      stands = two_bytes s (opcode_at s) (mod_reg_rm 0 (m / 8 % 8) form) refl (sym named ∙ is);
      length = λ opcode. refl;
    }

-- [offset]
pub at_offset : (s : State) (m at : ℕ) → m ≡ byte_behind s 1 → m < 64 → m % 8 ≡ 6 → at < 2 ^ 16 → IsWordBehind s 2 at
    → NamesOperand s (m / 8 % 8) (rms.Mem (record { cs = false; place = Direct at })) 4
at_offset s m at is low form small word_is =
    let named : byte_behind s 1 ≡ mod_reg_rm 0 (m / 8 % 8) 6 = sym is ∙ omega arith in
    let rest = byte_behind s 4 ∷ byte_behind s 5 ∷ byte_behind s 6 ∷ [] in
    record {
      valid = small;
      stands = (
        rest,
        code_bytes s ∙ ap (λ x. opcode_at s ∷ x ∷ byte_behind s 2 ∷ byte_behind s 3 ∷ rest) named
            ∙ ap (λ l. opcode_at s ∷ mod_reg_rm 0 (m / 8 % 8) 6 ∷ (l ++ rest)) (sym word_is),
      );
      length = λ opcode. refl;
    }

-- [BP+byte], [BX+byte]
pub at_near : (s : State) (m form by : ℕ) → m ≡ byte_behind s 1 → 64 ≤ m → m < 128 → m % 8 ≡ form → by < 2 ^ 8 → by ≡ byte_behind s 2
    → NamesOperand s (m / 8 % 8) (rms.Mem (record { cs = false; place = Near form by })) 3
at_near s m form by is high low is_form small by_is =
    let named : byte_behind s 1 ≡ mod_reg_rm 1 (m / 8 % 8) form = sym is ∙ omega arith in
    let rest = byte_behind s 3 ∷ byte_behind s 4 ∷ byte_behind s 5 ∷ byte_behind s 6 ∷ [] in
    record {
      valid = (omega arith, small);
      stands = (
        rest,
        code_bytes s ∙ ap (λ x. opcode_at s ∷ x ∷ byte_behind s 2 ∷ rest) named
            ∙ ap (λ x. opcode_at s ∷ mod_reg_rm 1 (m / 8 % 8) form ∷ x ∷ rest) (sym by_is),
      );
      length = λ opcode. refl;
    }

pub at_register : (s : State) (m : ℕ) → m ≡ byte_behind s 1 → m < 256 → 192 ≤ m → NamesOperand s (m / 8 % 8) (rms.Reg (m % 8)) 2
at_register s m is small high =
    let named : m ≡ mod_reg_rm 3 (m / 8 % 8) (m % 8) = omega arith in
    record {
      valid = omega arith;
      stands = two_bytes s (opcode_at s) (mod_reg_rm 3 (m / 8 % 8) (m % 8)) refl (sym named ∙ is);
      length = λ opcode. refl;
    }

-- what they hold does not hang on IP
pub offset_past : (s : State) (n : ℕ) (place : Place) → offset_of (past s n) place ≡ offset_of s place
unfolding offset_of form_base
offset_past s n (Direct at) = refl
offset_past s n _ = refl

pub operand_past : (s : State) (n : ℕ) (rm : Rm) → operand (past s n) true rm ≡ operand s true rm
unfolding operand sized_register value_at segment_of
operand_past s n (rms.Reg r) = refl
operand_past s n (rms.Mem mem) = ap (λ o. word_at s.memory (segment_of s mem) o) (offset_past s n mem.place)

pub read_operand : (s : State) (memory : List ℕ) (place : Place) (segment offset w : ℕ) → memory ≡ s.memory → segment ≡ default_segment place → offset ≡ offset_of s place
    → w ≡ word_at memory segment offset → w ≡ operand s true (rms.Mem (record { cs = false; place = place }))
unfolding operand value_at segment_of
read_operand s memory place segment offset w here segment_is offset_is is =
    is ∙ ap (λ m. word_at m segment offset) here ∙ ap (λ x. word_at s.memory x offset) segment_is ∙ ap (word_at s.memory (default_segment place)) offset_is

-- ---- one instruction each

pub push_steps : (s t u : State) (r w : ℕ) → r < 8 → r ≢ 4 → opcode_at s ≡ 0x50 + r → t ≡ past s 1 → w ≡ register t r → u ≡ push t w → Steps s (GoesOn u Silent)
push_steps s t u r w low not_sp first past_is word_is after =
    let done : executed (Push r) t ≡ Some u = sym (ap Some (after ∙ ap (push t) word_is)) in
    plain_steps s t u (Push r) 1 (λ p e. cc) (λ p e. cc) (λ e. cc) (low, not_sp) (first_byte s (0x50 + r) first) refl past_is done

pub pop_steps : (s t u : State) (r : ℕ) → r < 8 → r ≢ 4 → opcode_at s ≡ 0x58 + r → t ≡ past s 1 → u ≡ pop_to t r → Steps s (GoesOn u Silent)
pop_steps s t u r low not_sp first past_is after =
    plain_steps s t u (Pop r) 1 (λ p e. cc) (λ p e. cc) (λ e. cc) (low, not_sp) (first_byte s (0x58 + r) first) refl past_is (sym (ap Some after))

-- INC and DEC
pub count_steps : (s t u : State) (down : Bool) (r : ℕ) → r < 8 → opcode_at s ≡ (if down then 0x48 else 0x40) + r → t ≡ past s 1 → u ≡ counted t down true (rms.Reg r) → Steps s (GoesOn u Silent)
count_steps s t u false r low first past_is after =
    plain_steps s t u (Inc r) 1 (λ p e. cc) (λ p e. cc) (λ e. cc) low (first_byte s (0x40 + r) first) refl past_is (sym (ap Some after))
count_steps s t u true r low first past_is after =
    plain_steps s t u (Dec r) 1 (λ p e. cc) (λ p e. cc) (λ e. cc) low (first_byte s (0x48 + r) first) refl past_is (sym (ap Some after))

pub set_steps : (s t u : State) (r w : ℕ) → r < 8 → opcode_at s ≡ 0xB8 + r → w < 2 ^ 16 → IsWordBehind s 1 w → t ≡ past s 3 → u ≡ with_register t r w → Steps s (GoesOn u Silent)
unfolding with_sized_register
set_steps s t u r w low first small word_is past_is after =
    plain_steps s t u (MovImm r (Word w)) 3 (λ p e. cc) (λ p e. cc) (λ e. cc) (low, small) (byte_and_word s (0xB8 + r) w first word_is) refl past_is (sym (ap Some after))

pub load_ax_steps : (s t u : State) (at w : ℕ) → opcode_at s ≡ 0xA1 → at < 2 ^ 16 → IsWordBehind s 1 at → t ≡ past s 3 → w ≡ word_at t.memory data_segment at → u ≡ with_register t 0 w
    → Steps s (GoesOn u Silent)
unfolding moved_acc with_sized_register value_at
load_ax_steps s t u at w first small at_is past_is word_is after =
    plain_steps s t u (MovAcc false true false at) 3 (λ p e. cc) (λ p e. cc) (λ e. cc) small (byte_and_word s 0xA1 at first at_is) refl past_is
    (sym (ap Some (after ∙ ap (with_register t 0) word_is)))

pub store_ax_steps : (s t u : State) (at w : ℕ) → opcode_at s ≡ 0xA3 → at < 2 ^ 16 → IsWordBehind s 1 at → t ≡ past s 3 → w ≡ register t 0 → u ≡ with_value_at t true data_segment at w
    → Steps s (GoesOn u Silent)
unfolding moved_acc sized_register
store_ax_steps s t u at w first small at_is past_is word_is after =
    plain_steps s t u (MovAcc false true true at) 3 (λ p e. cc) (λ p e. cc) (λ e. cc) small (byte_and_word s 0xA3 at first at_is) refl past_is
    (sym (ap Some (after ∙ ap (with_value_at t true data_segment at) word_is)))

pub load_steps : (s t u : State) (reg : ℕ) (rm : Rm) (n w : ℕ) → opcode_at s ≡ 0x8B → reg < 8 → NamesOperand s reg rm n → w ≡ operand s true rm → t ≡ past s n → u ≡ with_register t reg w
    → Steps s (GoesOn u Silent)
unfolding moved with_sized_register
load_steps s t u reg rm n w first low names word_is past_is after =
    let begins : BeginsWith (code_at s) (Mov true true reg rm) = (names.stands.0, names.stands.1 ∙ ap (λ o. with_rm o reg rm ++ names.stands.0) first) in
    let read : w ≡ operand t true rm = word_is ∙ sym (operand_past s n rm) ∙ sym (ap (λ (x : State). operand x true rm) past_is) in
    plain_steps s t u (Mov true true reg rm) n (λ p e. cc) (λ p e. cc) (λ e. cc) (low, names.valid) begins (names.length 0x8B) past_is
    (sym (ap Some (after ∙ ap (with_register t reg) read)))

pub store_steps : (s t u : State) (reg : ℕ) (place : Place) (n segment offset w : ℕ) → opcode_at s ≡ 0x89 → reg < 8 → NamesOperand s reg (rms.Mem (record { cs = false; place = place })) n
    → segment ≡ default_segment place → offset ≡ offset_of s place → t ≡ past s n → w ≡ register t reg → u ≡ with_value_at t true segment offset w → Steps s (GoesOn u Silent)
unfolding moved with_operand sized_register segment_of
store_steps s t u reg place n segment offset w first low names segment_is offset_is past_is word_is after =
    let rm = rms.Mem (record { cs = false; place = place }) in
    let begins : BeginsWith (code_at s) (Mov true false reg rm) = (names.stands.0, names.stands.1 ∙ ap (λ o. with_rm o reg rm ++ names.stands.0) first) in
    let there : offset ≡ offset_of t place = offset_is ∙ sym (offset_past s n place) ∙ sym (ap (λ (x : State). offset_of x place) past_is) in
    plain_steps s t u (Mov true false reg rm) n (λ p e. cc) (λ p e. cc) (λ e. cc) (low, names.valid) begins (names.length 0x89) past_is
    (sym (ap Some (after ∙ ap (λ x. with_value_at t true x offset w) segment_is ∙ ap (λ x. with_value_at t true (default_segment place) x w) there
    ∙ ap (with_value_at t true (default_segment place) (offset_of t place)) word_is)))

pub store_number_steps : (s t u : State) (at w : ℕ) → opcode_at s ≡ 0xC7 → byte_behind s 1 ≡ 0x06 → at < 2 ^ 16 → IsWordBehind s 2 at → w < 2 ^ 16 → IsWordBehind s 4 w
    → t ≡ past s 6 → u ≡ with_value_at t true data_segment at w → Steps s (GoesOn u Silent)
unfolding with_operand segment_of offset_of
store_number_steps s t u at w first mode small at_is fits word_is past_is after =
    let rest = byte_behind s 6 ∷ [] in
    let begins : BeginsWith (code_at s) (MovRm (rms.Mem (record { cs = false; place = Direct at })) (Word w)) = (
      rest,
      code_bytes s ∙ ap (λ x. x ∷ byte_behind s 1 ∷ byte_behind s 2 ∷ byte_behind s 3 ∷ byte_behind s 4 ∷ byte_behind s 5 ∷ rest) first
          ∙ ap (λ x. 0xC7 ∷ x ∷ byte_behind s 2 ∷ byte_behind s 3 ∷ byte_behind s 4 ∷ byte_behind s 5 ∷ rest) mode
          ∙ ap (λ l. 0xC7 ∷ 0x06 ∷ (l ++ (byte_behind s 4 ∷ byte_behind s 5 ∷ rest))) (sym at_is)
          ∙ ap (λ l. 0xC7 ∷ 0x06 ∷ (word at ++ (l ++ rest))) (sym word_is),
    ) in
    plain_steps s t u (MovRm (rms.Mem (record { cs = false; place = Direct at })) (Word w)) 6 (λ p e. cc) (λ p e. cc) (λ e. cc) (small, fits) begins refl past_is (sym (ap Some after))

pub store_slot_steps : (s t u : State) (by offset w : ℕ) → opcode_at s ≡ 0xC7 → byte_behind s 1 ≡ 0x46 → by < 2 ^ 8 → by ≡ byte_behind s 2 → w < 2 ^ 16 → IsWordBehind s 3 w
    → t ≡ past s 5 → offset ≡ (register t 5 + sign_extended by) % 65536 → u ≡ with_value_at t true 0x3000 offset w → Steps s (GoesOn u Silent)
unfolding with_operand segment_of offset_of form_base
store_slot_steps s t u by offset w first mode small by_is fits word_is past_is offset_is after =
    let rest = byte_behind s 5 ∷ byte_behind s 6 ∷ [] in
    let begins : BeginsWith (code_at s) (MovRm (rms.Mem (record { cs = false; place = Near 6 by })) (Word w)) = (
      rest,
      code_bytes s ∙ ap (λ x. x ∷ byte_behind s 1 ∷ byte_behind s 2 ∷ byte_behind s 3 ∷ byte_behind s 4 ∷ rest) first
          ∙ ap (λ x. 0xC7 ∷ x ∷ byte_behind s 2 ∷ byte_behind s 3 ∷ byte_behind s 4 ∷ rest) mode
          ∙ ap (λ x. 0xC7 ∷ 0x46 ∷ x ∷ byte_behind s 3 ∷ byte_behind s 4 ∷ rest) (sym by_is)
          ∙ ap (λ l. 0xC7 ∷ 0x46 ∷ by ∷ (l ++ rest)) (sym word_is),
    ) in
    plain_steps s t u (MovRm (rms.Mem (record { cs = false; place = Near 6 by })) (Word w)) 5 (λ p e. cc) (λ p e. cc) (λ e. cc) ((omega arith, small), fits) begins refl past_is
    (sym (ap Some (after ∙ ap (λ x. with_value_at t true 0x3000 x w) offset_is)))

pub operate_steps : (s t u : State) (op reg : ℕ) (rm : Rm) (n w : ℕ) → op < 8 → opcode_at s ≡ 8 * op + 3 → reg < 8 → NamesOperand s reg rm n → w ≡ operand s true rm
    → t ≡ past s n → u ≡ operated t op true (rms.Reg reg) w → Steps s (GoesOn u Silent)
operate_steps s t u op reg rm n w eight first low names word_is past_is after =
    let opcode : opcode_at s ≡ 8 * op + 2 * 1 + 1 = first ∙ omega arith in
    let begins : BeginsWith (code_at s) (AluRm op true true reg rm) = (names.stands.0, names.stands.1 ∙ ap (λ o. with_rm o reg rm ++ names.stands.0) opcode) in
    let read : w ≡ operand t true rm = word_is ∙ sym (operand_past s n rm) ∙ sym (ap (λ (x : State). operand x true rm) past_is) in
    plain_steps s t u (AluRm op true true reg rm) n (λ p e. cc) (λ p e. cc) (λ e. cc) (eight, low, names.valid) begins (names.length (8 * op + 2 * 1 + 1)) past_is
    (sym (ap Some (after ∙ ap (operated t op true (rms.Reg reg)) read)))

pub operate_register_steps : (s t u : State) (op m w : ℕ) → op < 8 → opcode_at s ≡ 8 * op + 1 → m ≡ byte_behind s 1 → m < 256 → 192 ≤ m
    → t ≡ past s 2 → w ≡ register t (m / 8 % 8) → u ≡ operated t op true (rms.Reg (m % 8)) w → Steps s (GoesOn u Silent)
unfolding sized_register
operate_register_steps s t u op m w eight first is small high past_is word_is after =
    let names = at_register s m is small high in
    let reg = m / 8 % 8 in
    let rm = rms.Reg (m % 8) in
    let opcode : opcode_at s ≡ 8 * op + 2 * 0 + 1 = first ∙ omega arith in
    let begins : BeginsWith (code_at s) (AluRm op true false reg rm) = (names.stands.0, names.stands.1 ∙ ap (λ o. with_rm o reg rm ++ names.stands.0) opcode) in
    plain_steps s t u (AluRm op true false reg rm) 2 (λ p e. cc) (λ p e. cc) (λ e. cc) (eight, omega arith, names.valid) begins refl past_is
    (sym (ap Some (after ∙ ap (operated t op true rm) word_is)))

pub operate_number_steps : (s t u : State) (op w : ℕ) → op < 8 → opcode_at s ≡ 8 * op + 5 → w < 2 ^ 16 → IsWordBehind s 1 w → t ≡ past s 3 → u ≡ operated t op true (rms.Reg 0) w
    → Steps s (GoesOn u Silent)
operate_number_steps s t u op w eight first small word_is past_is after =
    let opcode : opcode_at s ≡ 8 * op + 4 + 1 = first ∙ omega arith in
    plain_steps s t u (AluAcc op (Word w)) 3 (λ p e. cc) (λ p e. cc) (λ e. cc) (eight, small) (byte_and_word s (8 * op + 4 + 1) w opcode word_is) refl past_is (sym (ap Some after))

pub double_steps : (s t u : State) (m : ℕ) → opcode_at s ≡ 0xD1 → m ≡ byte_behind s 1 → m / 8 ≡ 28 → t ≡ past s 2 → u ≡ shifted t 4 true false (rms.Reg (m % 8)) → Steps s (GoesOn u Silent)
double_steps s t u m first is form past_is after =
    let named : m ≡ mod_reg_rm 3 4 (m % 8) = omega arith in
    plain_steps s t u (Shift 4 true false (rms.Reg (m % 8))) 2 (λ p e. cc) (λ p e. cc) (λ e. cc) (omega arith, (λ e. omega (arith, e)), omega arith)
    (two_bytes s 0xD1 (mod_reg_rm 3 4 (m % 8)) first (sym named ∙ is)) refl past_is (sym (ap Some after))

pub jump_if_steps : (s t u : State) (cond by : ℕ) (h : Bool) → cond < 16 → opcode_at s ≡ 0x70 + cond → by < 2 ^ 8 → by ≡ byte_behind s 1 → t ≡ past s 2 → h ≡ holds t.flags cond
    → u ≡ jumped_if t h by → Steps s (GoesOn u Silent)
jump_if_steps s t u cond by h low first small by_is past_is holds_is after =
    plain_steps s t u (JumpIf cond by) 2 (λ p e. cc) (λ p e. cc) (λ e. cc) (low, small) (two_bytes s (0x70 + cond) by first by_is) refl past_is
    (sym (ap Some (after ∙ ap (λ x. jumped_if t x by) holds_is)))

pub jump_steps : (s t u : State) (by : ℕ) → opcode_at s ≡ 0xE9 → by < 2 ^ 16 → IsWordBehind s 1 by → t ≡ past s 3 → u ≡ past t by → Steps s (GoesOn u Silent)
jump_steps s t u by first small by_is past_is after =
    plain_steps s t u (Jump by) 3 (λ p e. cc) (λ p e. cc) (λ e. cc) small (byte_and_word s 0xE9 by first by_is) refl past_is (sym (ap Some after))

pub jump_short_steps : (s t u : State) (by : ℕ) → opcode_at s ≡ 0xEB → by < 2 ^ 8 → by ≡ byte_behind s 1 → t ≡ past s 2 → u ≡ past t (sign_extended by) → Steps s (GoesOn u Silent)
jump_short_steps s t u by first small by_is past_is after =
    plain_steps s t u (JumpShort by) 2 (λ p e. cc) (λ p e. cc) (λ e. cc) small (two_bytes s 0xEB by first by_is) refl past_is (sym (ap Some after))

pub call_steps : (s t u : State) (by place : ℕ) → opcode_at s ≡ 0xE8 → by < 2 ^ 16 → IsWordBehind s 1 by → t ≡ past s 3 → place ≡ (t.instruction_pointer + by) % 65536 → u ≡ called t place
    → Steps s (GoesOn u Silent)
call_steps s t u by place first small by_is past_is place_is after =
    plain_steps s t u (Call by) 3 (λ p e. cc) (λ p e. cc) (λ e. cc) small (byte_and_word s 0xE8 by first by_is) refl past_is (sym (ap Some (after ∙ ap (called t) place_is)))

pub return_steps : (s t u : State) → opcode_at s ≡ 0xC3 → t ≡ past s 1 → u ≡ returned t 0 → Steps s (GoesOn u Silent)
return_steps s t u first past_is after =
    plain_steps s t u Ret 1 (λ p e. cc) (λ p e. cc) (λ e. cc) tt (first_byte s 0xC3 first) refl past_is (sym (ap Some after))

pub return_past_steps : (s t u : State) (n : ℕ) → opcode_at s ≡ 0xC2 → n < 2 ^ 16 → IsWordBehind s 1 n → t ≡ past s 3 → u ≡ returned t n → Steps s (GoesOn u Silent)
return_past_steps s t u n first small is past_is after =
    plain_steps s t u (RetAdd n) 3 (λ p e. cc) (λ p e. cc) (λ e. cc) small (byte_and_word s 0xC2 n first is) refl past_is (sym (ap Some after))

pub exchange_steps : (s t u : State) → opcode_at s ≡ 0x93 → t ≡ past s 1 → u ≡ exchanged t true 0 (rms.Reg 3) → Steps s (GoesOn u Silent)
exchange_steps s t u first past_is set = plain_steps s t u (XchgAx 3) 1 (λ p e. cc) (λ p e. cc) (λ e. cc) (lit< tt) (first_byte s 0x93 first) refl past_is (sym (ap Some set))
