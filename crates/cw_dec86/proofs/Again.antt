-- The bytes of an instruction are read as that instruction, whatever follows them.
use Rattle.std.proofs.Common.{◌≡◌, ℕ, zero, suc, ◌+◌, ◌*◌, ◌/◌, ◌%◌, ◌^◌, ◌<◌, ◌≢◌, Bool, true, false, List, [], ◌∷◌, ◌++◌, Some, refl, ap, ◌∙◌, append_assoc, arith, eqb, inl, inr, subst, ◌-◌}
use Rattle.std.specs.Int.{w16, to_le_bytes}
use Rattle.std.proofs.lemmas.Nat.{from_le_bytes-to_le_bytes_2}
use Rattle.std.proofs.lemmas.Bool.{ne_eqb, cases_lt}
use Rattle.std.proofs.lemmas.Bool.Decides.{nat_tests}
use Rattle.cw_i86.specs.declared.instr.Place.{Place}
use Rattle.cw_i86.specs.declared.instr.Place.TheVariants.{Direct, Plain, Near, Far}
use Rattle.cw_i86.specs.declared.instr.Rm.{Rm}
use Rattle.cw_i86.specs.declared.instr.Rm.TheVariants as rms
use Rattle.cw_i86.specs.declared.instr.Imm.{Imm}
use Rattle.cw_i86.specs.declared.instr.Imm.TheVariants.{Byte, Word}
use Rattle.cw_i86.specs.declared.instr.Instr.{Instr}
use Rattle.cw_i86.specs.declared.instr.Instr.TheVariants.{AluRm, AluAcc, Inc, Dec, Push, Pop, JumpIf, AluImm, AluShort, TestRm, XchgRm, Mov, Lea, XchgAx, Cbw, Cwd, PushF, PopF, Sahf, Lahf, MovAcc, TestAcc, MovImm, RetAdd, Ret, MovRm, Shift, Loop, In, Out, Call, Jump, JumpShort, Hlt, Cmc, Clc, Stc, TestImm, Unary, IncDec, CallRm, JumpRm, PushRm}
use Rattle.cw_i86.specs.Encoding.{bytes_of, place_bytes, with_rm, with_mem, imm_bytes, mod_reg_rm, IsInstr, IsRm, IsPlace, IsImm, bit, is_word}
use Rattle.cw_dec86.specs.Rows.{instr_at, row, operand_at, operand_row, low_row, middle_row, high_row, plain_row, has_operand, word_at}

pub each_8 : (P : ℕ → Type 0) → P 0 → P 1 → P 2 → P 3 → P 4 → P 5 → P 6 → P 7 → (n : ℕ) → n < 8 → P n
each_8 P p0 p1 p2 p3 p4 p5 p6 p7 zero h = p0
each_8 P p0 p1 p2 p3 p4 p5 p6 p7 (suc zero) h = p1
each_8 P p0 p1 p2 p3 p4 p5 p6 p7 (suc (suc zero)) h = p2
each_8 P p0 p1 p2 p3 p4 p5 p6 p7 (suc (suc (suc zero))) h = p3
each_8 P p0 p1 p2 p3 p4 p5 p6 p7 (suc (suc (suc (suc zero)))) h = p4
each_8 P p0 p1 p2 p3 p4 p5 p6 p7 (suc (suc (suc (suc (suc zero))))) h = p5
each_8 P p0 p1 p2 p3 p4 p5 p6 p7 (suc (suc (suc (suc (suc (suc zero)))))) h = p6
each_8 P p0 p1 p2 p3 p4 p5 p6 p7 (suc (suc (suc (suc (suc (suc (suc zero))))))) h = p7
each_8 P p0 p1 p2 p3 p4 p5 p6 p7 (suc (suc (suc (suc (suc (suc (suc (suc n)))))))) h = absurd (omega arith)

each_16 : (P : ℕ → Type 0) → P 0 → P 1 → P 2 → P 3 → P 4 → P 5 → P 6 → P 7 → P 8 → P 9 → P 10 → P 11 → P 12 → P 13 → P 14 → P 15 → (n : ℕ) → n < 16 → P n
each_16 P p0 p1 p2 p3 p4 p5 p6 p7 p8 p9 p10 p11 p12 p13 p14 p15 n h =
    elim (cases_lt n 8) [
      | inl lt ↦ each_8 P p0 p1 p2 p3 p4 p5 p6 p7 n lt
      | inr le ↦
          let e : 8 + (n - 8) ≡ n = omega arith in
          subst P e (each_8 (λ k. P (8 + k)) p8 p9 p10 p11 p12 p13 p14 p15 (n - 8) (omega arith))
    ]

mode_of : (mode reg rm : ℕ) → reg < 8 → rm < 8 → mod_reg_rm mode reg rm / 64 ≡ mode
mode_of mode reg rm a b = omega arith

reg_of : (mode reg rm : ℕ) → reg < 8 → rm < 8 → mod_reg_rm mode reg rm / 8 % 8 ≡ reg
reg_of mode reg rm a b = omega arith

rm_of : (mode reg rm : ℕ) → reg < 8 → rm < 8 → mod_reg_rm mode reg rm % 8 ≡ rm
rm_of mode reg rm a b = omega arith

word_again : (n : ℕ) (rest : List ℕ) → n < 2 ^ 16 → word_at (to_le_bytes w16 n ++ rest) 0 ≡ n
word_again n rest h = from_le_bytes-to_le_bytes_2 n h

place_row : (cs : Bool) (opcode reg : ℕ) (place : Place) (rest : List ℕ) → has_operand opcode ≡ true → reg < 8 → IsPlace place
    → row cs (opcode ∷ place_bytes reg place ++ rest) ≡ operand_row opcode reg (rms.Mem (record { cs = cs; place = place })) rest
unfolding row operand_at
place_row cs opcode reg (Direct at) rest has a h = rw (has, mode_of 0 reg 6 a (omega arith), rm_of 0 reg 6 a (omega arith), reg_of 0 reg 6 a (omega arith), from_le_bytes-to_le_bytes_2 at h) refl
place_row cs opcode reg (Plain rm) rest has a h = rw (has, mode_of 0 reg rm a h.0, rm_of 0 reg rm a h.0, reg_of 0 reg rm a h.0, ne_eqb rm 6 h.1) refl
place_row cs opcode reg (Near rm by) rest has a h = rw (has, mode_of 1 reg rm a h.0, rm_of 1 reg rm a h.0, reg_of 1 reg rm a h.0) refl
place_row cs opcode reg (Far rm by) rest has a h = rw (has, mode_of 2 reg rm a h.0, rm_of 2 reg rm a h.0, reg_of 2 reg rm a h.0, from_le_bytes-to_le_bytes_2 by h.1) refl

place_again : (cs : Bool) (opcode reg : ℕ) (place : Place) (rest : List ℕ) → eqb opcode 0x2E ≡ false → has_operand opcode ≡ true → reg < 8 → IsPlace place
    → instr_at (with_mem opcode reg (record { cs = cs; place = place }) ++ rest) ≡ operand_row opcode reg (rms.Mem (record { cs = cs; place = place })) rest
unfolding instr_at
place_again true opcode reg place rest ne has a h = place_row true opcode reg place rest has a h
place_again false opcode reg place rest ne has a h = rw (ne) (place_row false opcode reg place rest has a h)

pub operand_again : (opcode reg : ℕ) (rm : Rm) (rest : List ℕ) → eqb opcode 0x2E ≡ false → has_operand opcode ≡ true → reg < 8 → IsRm rm
    → instr_at (with_rm opcode reg rm ++ rest) ≡ operand_row opcode reg rm rest
unfolding instr_at row operand_at
operand_again opcode reg (rms.Reg r) rest ne has a h = rw (ne, has, mode_of 3 reg r a h, rm_of 3 reg r a h, reg_of 3 reg r a h) refl
operand_again opcode reg (rms.Mem mem) rest ne has a h = place_again mem.cs opcode reg mem.place rest ne has a h

AluRm_row : (op : ℕ) (w t : Bool) (reg : ℕ) (rm : Rm) (rest : List ℕ) → op < 8
    → operand_row (8 * op + 2 * bit t + bit w) reg rm rest ≡ Some (AluRm op w t reg rm)
unfolding operand_row
AluRm_row op true true reg rm rest h = each_8 (λ op. operand_row (8 * op + 2 * 1 + 1) reg rm rest ≡ Some (AluRm op true true reg rm)) refl refl refl refl refl refl refl refl op h
AluRm_row op true false reg rm rest h = each_8 (λ op. operand_row (8 * op + 2 * 0 + 1) reg rm rest ≡ Some (AluRm op true false reg rm)) refl refl refl refl refl refl refl refl op h
AluRm_row op false true reg rm rest h = each_8 (λ op. operand_row (8 * op + 2 * 1 + 0) reg rm rest ≡ Some (AluRm op false true reg rm)) refl refl refl refl refl refl refl refl op h
AluRm_row op false false reg rm rest h = each_8 (λ op. operand_row (8 * op + 2 * 0 + 0) reg rm rest ≡ Some (AluRm op false false reg rm)) refl refl refl refl refl refl refl refl op h

-- an opcode that an operand follows, and no prefix
pub record IsOperandOpcode (opcode : ℕ) : Type 0 where
  pub no_prefix : eqb opcode 0x2E ≡ false
  pub has : has_operand opcode ≡ true

then_row : (opcode reg : ℕ) (rm : Rm) (rest : List ℕ) (i : Instr) → IsOperandOpcode opcode → reg < 8 → IsRm rm
    → operand_row opcode reg rm rest ≡ Some i → instr_at (with_rm opcode reg rm ++ rest) ≡ Some i
then_row opcode reg rm rest i is a r e = operand_again opcode reg rm rest is.no_prefix is.has a r ∙ e

is_operand_opcode : {opcode : ℕ} → eqb opcode 0x2E ≡ false → has_operand opcode ≡ true → IsOperandOpcode opcode
is_operand_opcode a b = record { no_prefix = a; has = b }

Alu_opcode : (op w t : ℕ) → op < 8 → w < 2 → t < 2 → IsOperandOpcode (8 * op + 2 * t + w)
Alu_opcode op w t h i j = record { no_prefix = ne_eqb (8 * op + 2 * t + w) 0x2E (omega arith); has = grind (arith, nat_tests) }

bit_below : (b : Bool) → bit b < 2
bit_below true = omega arith
bit_below false = omega arith

AluImm_row : (op : ℕ) (rm : Rm) (imm : Imm) (rest : List ℕ) → IsImm imm → operand_row (0x80 + bit (is_word imm)) op rm (imm_bytes imm ++ rest) ≡ Some (AluImm op rm imm)
unfolding operand_row
AluImm_row op rm (Byte b) rest h = refl
AluImm_row op rm (Word w) rest h = ap (λ w. Some (AluImm op rm (Word w))) (word_again w rest h)

AluShort_row : (op : ℕ) (rm : Rm) (imm : ℕ) (rest : List ℕ) → op ≢ 1 → op ≢ 4 → op ≢ 6 → operand_row 0x83 op rm (imm ∷ rest) ≡ Some (AluShort op rm imm)
unfolding operand_row
AluShort_row op rm imm rest a b c = rw (ne_eqb op 1 a, ne_eqb op 4 b, ne_eqb op 6 c) refl

TestImm_row : (rm : Rm) (imm : Imm) (rest : List ℕ) → IsImm imm → operand_row (0xF6 + bit (is_word imm)) 0 rm (imm_bytes imm ++ rest) ≡ Some (TestImm rm imm)
unfolding operand_row
TestImm_row rm (Byte b) rest h = refl
TestImm_row rm (Word w) rest h = ap (λ w. Some (TestImm rm (Word w))) (word_again w rest h)

Unary_row : (op : ℕ) (wide : Bool) (rm : Rm) (rest : List ℕ) → 1 < op → operand_row (0xF6 + bit wide) op rm rest ≡ Some (Unary op wide rm)
unfolding operand_row
Unary_row op true rm rest h = rw (ne_eqb op 0 (omega arith), ne_eqb op 1 (omega arith)) refl
Unary_row op false rm rest h = rw (ne_eqb op 0 (omega arith), ne_eqb op 1 (omega arith)) refl

PushRm_row : (rm : Rm) (rest : List ℕ) → rm ≢ rms.Reg 4 → operand_row 0xFF 6 rm rest ≡ Some (PushRm rm)
unfolding operand_row
PushRm_row (rms.Reg r) rest h = let e : eqb r 4 ≡ false = ne_eqb r 4 (λ e. h (ap rms.Reg e)) in rw e refl
PushRm_row (rms.Mem mem) rest h = refl

two : (a b c : List ℕ) (i : Instr) → instr_at (a ++ (b ++ c)) ≡ Some i → instr_at ((a ++ b) ++ c) ≡ Some i
two a b c i e = rw append_assoc e

Inc_row : (r : ℕ) (rest : List ℕ) → r < 8 → instr_at ((0x40 + r) ∷ rest) ≡ Some (Inc r)
unfolding instr_at row plain_row low_row middle_row high_row
Inc_row r rest h = each_8 (λ r. instr_at ((0x40 + r) ∷ rest) ≡ Some (Inc r)) refl refl refl refl refl refl refl refl r h

Push_row : (r : ℕ) (rest : List ℕ) → r < 8 → r ≢ 4 → instr_at ((0x50 + r) ∷ rest) ≡ Some (Push r)
unfolding instr_at row plain_row low_row middle_row high_row
Push_row r rest h = each_8 (λ r. r ≢ 4 → instr_at ((0x50 + r) ∷ rest) ≡ Some (Push r)) (λ n. refl) (λ n. refl) (λ n. refl) (λ n. refl) (λ n. absurd (n refl)) (λ n. refl) (λ n. refl) (λ n. refl) r h

AluAcc_row : (op : ℕ) (imm : Imm) (rest : List ℕ) → op < 8 → IsImm imm → instr_at ((8 * op + 4 + bit (is_word imm)) ∷ imm_bytes imm ++ rest) ≡ Some (AluAcc op imm)
unfolding instr_at row plain_row low_row middle_row high_row
AluAcc_row op (Byte b) rest h w = each_8 (λ op. instr_at ((8 * op + 4 + 0) ∷ b ∷ rest) ≡ Some (AluAcc op (Byte b))) refl refl refl refl refl refl refl refl op h
AluAcc_row op (Word n) rest h w =
    each_8 (λ op. instr_at ((8 * op + 4 + 1) ∷ to_le_bytes w16 n ++ rest) ≡ Some (AluAcc op (Word n))) (ap (λ n. Some (AluAcc 0 (Word n))) (word_again n rest w)) (ap (λ n. Some (AluAcc 1 (Word n))) (word_again n rest w)) (ap (λ n. Some (AluAcc 2 (Word n))) (word_again n rest w)) (ap (λ n. Some (AluAcc 3 (Word n))) (word_again n rest w)) (ap (λ n. Some (AluAcc 4 (Word n))) (word_again n rest w)) (ap (λ n. Some (AluAcc 5 (Word n))) (word_again n rest w)) (ap (λ n. Some (AluAcc 6 (Word n))) (word_again n rest w)) (ap (λ n. Some (AluAcc 7 (Word n))) (word_again n rest w)) op h

MovAcc_row : (cs wide store : Bool) (at : ℕ) (rest : List ℕ) → at < 2 ^ 16 → instr_at (bytes_of (MovAcc cs wide store at) ++ rest) ≡ Some (MovAcc cs wide store at)
unfolding instr_at row
MovAcc_row true true true at rest h = ap (λ at. Some (MovAcc true true true at)) (word_again at rest h)
MovAcc_row true true false at rest h = ap (λ at. Some (MovAcc true true false at)) (word_again at rest h)
MovAcc_row true false true at rest h = ap (λ at. Some (MovAcc true false true at)) (word_again at rest h)
MovAcc_row true false false at rest h = ap (λ at. Some (MovAcc true false false at)) (word_again at rest h)
MovAcc_row false true true at rest h = ap (λ at. Some (MovAcc false true true at)) (word_again at rest h)
MovAcc_row false true false at rest h = ap (λ at. Some (MovAcc false true false at)) (word_again at rest h)
MovAcc_row false false true at rest h = ap (λ at. Some (MovAcc false false true at)) (word_again at rest h)
MovAcc_row false false false at rest h = ap (λ at. Some (MovAcc false false false at)) (word_again at rest h)

RetAdd_row : (n : ℕ) (rest : List ℕ) → n < 2 ^ 16 → instr_at (bytes_of (RetAdd n) ++ rest) ≡ Some (RetAdd n)
unfolding instr_at row plain_row low_row middle_row high_row
RetAdd_row n rest h = ap (λ n. Some (RetAdd n)) (word_again n rest h)

Dec_row : (r : ℕ) (rest : List ℕ) → r < 8 → instr_at ((0x48 + r) ∷ rest) ≡ Some (Dec r)
unfolding instr_at row plain_row low_row middle_row high_row
Dec_row r rest h = each_8 (λ r. instr_at ((0x48 + r) ∷ rest) ≡ Some (Dec r)) refl refl refl refl refl refl refl refl r h

XchgAx_row : (r : ℕ) (rest : List ℕ) → r < 8 → instr_at ((0x90 + r) ∷ rest) ≡ Some (XchgAx r)
unfolding instr_at row plain_row low_row middle_row high_row
XchgAx_row r rest h = each_8 (λ r. instr_at ((0x90 + r) ∷ rest) ≡ Some (XchgAx r)) refl refl refl refl refl refl refl refl r h

Pop_row : (r : ℕ) (rest : List ℕ) → r < 8 → r ≢ 4 → instr_at ((0x58 + r) ∷ rest) ≡ Some (Pop r)
unfolding instr_at row plain_row low_row
Pop_row r rest h = each_8 (λ r. r ≢ 4 → instr_at ((0x58 + r) ∷ rest) ≡ Some (Pop r)) (λ n. refl) (λ n. refl) (λ n. refl) (λ n. refl) (λ n. absurd (n refl)) (λ n. refl) (λ n. refl) (λ n. refl) r h

JumpIf_row : (c by : ℕ) (rest : List ℕ) → c < 16 → instr_at ((0x70 + c) ∷ by ∷ rest) ≡ Some (JumpIf c by)
unfolding instr_at row plain_row low_row
JumpIf_row c by rest h = each_16 (λ c. instr_at ((0x70 + c) ∷ by ∷ rest) ≡ Some (JumpIf c by)) refl refl refl refl refl refl refl refl refl refl refl refl refl refl refl refl c h

Loop_row : (k by : ℕ) (rest : List ℕ) → k < 4 → instr_at ((0xE0 + k) ∷ by ∷ rest) ≡ Some (Loop k by)
unfolding instr_at row plain_row high_row
Loop_row k by rest h = each_8 (λ k. k < 4 → instr_at ((0xE0 + k) ∷ by ∷ rest) ≡ Some (Loop k by)) (λ l. refl) (λ l. refl) (λ l. refl) (λ l. refl) (λ l. absurd (omega (arith, l))) (λ l. absurd (omega (arith, l))) (λ l. absurd (omega (arith, l))) (λ l. absurd (omega (arith, l))) k (omega arith) h

MovImm_row : (r : ℕ) (imm : Imm) (rest : List ℕ) → r < 8 → IsImm imm → instr_at ((0xB0 + 8 * bit (is_word imm) + r) ∷ imm_bytes imm ++ rest) ≡ Some (MovImm r imm)
unfolding instr_at row plain_row middle_row
MovImm_row r (Byte b) rest h w = each_8 (λ r. instr_at ((0xB0 + 8 * 0 + r) ∷ b ∷ rest) ≡ Some (MovImm r (Byte b))) refl refl refl refl refl refl refl refl r h
MovImm_row r (Word n) rest h w = each_8 (λ r. instr_at ((0xB0 + 8 * 1 + r) ∷ to_le_bytes w16 n ++ rest) ≡ Some (MovImm r (Word n))) (ap (λ n. Some (MovImm 0 (Word n))) (word_again n rest w)) (ap (λ n. Some (MovImm 1 (Word n))) (word_again n rest w)) (ap (λ n. Some (MovImm 2 (Word n))) (word_again n rest w)) (ap (λ n. Some (MovImm 3 (Word n))) (word_again n rest w)) (ap (λ n. Some (MovImm 4 (Word n))) (word_again n rest w)) (ap (λ n. Some (MovImm 5 (Word n))) (word_again n rest w)) (ap (λ n. Some (MovImm 6 (Word n))) (word_again n rest w)) (ap (λ n. Some (MovImm 7 (Word n))) (word_again n rest w)) r h

MovRm_row : (rm : Rm) (w : ℕ) (rest : List ℕ) → w < 2 ^ 16 → operand_row 0xC7 0 rm (to_le_bytes w16 w ++ rest) ≡ Some (MovRm rm (Word w))
unfolding operand_row
MovRm_row rm w rest h = ap (λ w. Some (MovRm rm (Word w))) (word_again w rest h)

Shift_row : (op : ℕ) (wide by_cl : Bool) (rm : Rm) (rest : List ℕ) → op ≢ 6 → operand_row (0xD0 + 2 * bit by_cl + bit wide) op rm rest ≡ Some (Shift op wide by_cl rm)
unfolding operand_row
Shift_row op true true rm rest h = rw (ne_eqb op 6 h) refl
Shift_row op true false rm rest h = rw (ne_eqb op 6 h) refl
Shift_row op false true rm rest h = rw (ne_eqb op 6 h) refl
Shift_row op false false rm rest h = rw (ne_eqb op 6 h) refl

word_row : (make : ℕ → Instr) (opcode n : ℕ) (rest : List ℕ) → n < 2 ^ 16 → instr_at (opcode ∷ to_le_bytes w16 n ++ rest) ≡ Some (make (word_at (to_le_bytes w16 n ++ rest) 0))
    → instr_at (opcode ∷ to_le_bytes w16 n ++ rest) ≡ Some (make n)
word_row make opcode n rest h e = e ∙ ap (λ n. Some (make n)) (word_again n rest h)

pub again : (i : Instr) (rest : List ℕ) → IsInstr i → instr_at (bytes_of i ++ rest) ≡ Some i
unfolding instr_at row plain_row low_row middle_row high_row operand_row
again (AluRm op wide to_reg reg rm) rest h = then_row _ reg rm rest _ (Alu_opcode op (bit wide) (bit to_reg) h.0 (bit_below wide) (bit_below to_reg)) h.1 h.2 (AluRm_row op wide to_reg reg rm rest h.0)
again (AluAcc op imm) rest h = AluAcc_row op imm rest h.0 h.1
again (Inc r) rest h = Inc_row r rest h
again (Dec r) rest h = Dec_row r rest h
again (Push r) rest h = Push_row r rest h.0 h.1
again (Pop r) rest h = Pop_row r rest h.0 h.1
again (JumpIf c by) rest h = JumpIf_row c by rest h.0
again (AluImm op rm (Byte b)) rest h = two (with_rm 0x80 op rm) (b ∷ []) rest _ (then_row 0x80 op rm (b ∷ rest) _ (is_operand_opcode refl refl) h.0 h.1 refl)
again (AluImm op rm (Word w)) rest h = two (with_rm 0x81 op rm) (to_le_bytes w16 w) rest _ (then_row 0x81 op rm (to_le_bytes w16 w ++ rest) _ (is_operand_opcode refl refl) h.0 h.1 (AluImm_row op rm (Word w) rest h.2))
again (AluShort op rm imm) rest h = two (with_rm 0x83 op rm) (imm ∷ []) rest _ (then_row 0x83 op rm (imm ∷ rest) _ (is_operand_opcode refl refl) h.0 h.4 (AluShort_row op rm imm rest h.1 h.2 h.3))
again (TestRm false reg rm) rest h = then_row 132 reg rm rest _ (is_operand_opcode refl refl) h.0 h.1 refl
again (TestRm true reg rm) rest h = then_row 133 reg rm rest _ (is_operand_opcode refl refl) h.0 h.1 refl
again (XchgRm false reg rm) rest h = then_row 134 reg rm rest _ (is_operand_opcode refl refl) h.0 h.1 refl
again (XchgRm true reg rm) rest h = then_row 135 reg rm rest _ (is_operand_opcode refl refl) h.0 h.1 refl
again (Mov false false reg rm) rest h = then_row 136 reg rm rest _ (is_operand_opcode refl refl) h.0 h.1 refl
again (Mov false true reg rm) rest h = then_row 138 reg rm rest _ (is_operand_opcode refl refl) h.0 h.1 refl
again (Mov true false reg rm) rest h = then_row 137 reg rm rest _ (is_operand_opcode refl refl) h.0 h.1 refl
again (Mov true true reg rm) rest h = then_row 139 reg rm rest _ (is_operand_opcode refl refl) h.0 h.1 refl
again (Lea reg mem) rest h = then_row 0x8D reg (rms.Mem mem) rest _ (is_operand_opcode refl refl) h.0 h.1 refl
again (XchgAx r) rest h = XchgAx_row r rest h
again Cbw rest h = refl
again Cwd rest h = refl
again PushF rest h = refl
again PopF rest h = refl
again Sahf rest h = refl
again Lahf rest h = refl
again (MovAcc cs wide store at) rest h = MovAcc_row cs wide store at rest h
again (TestAcc (Byte b)) rest h = refl
again (TestAcc (Word w)) rest h = word_row (λ n. TestAcc (Word n)) 0xA9 w rest h refl
again (MovImm r imm) rest h = MovImm_row r imm rest h.0 h.1
again (RetAdd n) rest h = RetAdd_row n rest h
again Ret rest h = refl
again (MovRm rm (Byte b)) rest h = two (with_rm 0xC6 0 rm) (b ∷ []) rest _ (then_row 0xC6 0 rm (b ∷ rest) _ (is_operand_opcode refl refl) (omega arith) h.0 refl)
again (MovRm rm (Word w)) rest h = two (with_rm 0xC7 0 rm) (to_le_bytes w16 w) rest _ (then_row 0xC7 0 rm (to_le_bytes w16 w ++ rest) _ (is_operand_opcode refl refl) (omega arith) h.0 (MovRm_row rm w rest h.1))
again (Shift op false false rm) rest h = then_row 208 op rm rest _ (is_operand_opcode refl refl) h.0 h.2 (Shift_row op false false rm rest h.1)
again (Shift op false true rm) rest h = then_row 210 op rm rest _ (is_operand_opcode refl refl) h.0 h.2 (Shift_row op false true rm rest h.1)
again (Shift op true false rm) rest h = then_row 209 op rm rest _ (is_operand_opcode refl refl) h.0 h.2 (Shift_row op true false rm rest h.1)
again (Shift op true true rm) rest h = then_row 211 op rm rest _ (is_operand_opcode refl refl) h.0 h.2 (Shift_row op true true rm rest h.1)
again (Loop k by) rest h = Loop_row k by rest h.0
again (In port) rest h = refl
again (Out port) rest h = refl
again (Call by) rest h = word_row Call 0xE8 by rest h refl
again (Jump by) rest h = word_row Jump 0xE9 by rest h refl
again (JumpShort by) rest h = refl
again Hlt rest h = refl
again Cmc rest h = refl
again Clc rest h = refl
again Stc rest h = refl
again (TestImm rm (Byte b)) rest h = two (with_rm 0xF6 0 rm) (b ∷ []) rest _ (then_row 0xF6 0 rm (b ∷ rest) _ (is_operand_opcode refl refl) (omega arith) h.0 refl)
again (TestImm rm (Word w)) rest h = two (with_rm 0xF7 0 rm) (to_le_bytes w16 w) rest _ (then_row 0xF7 0 rm (to_le_bytes w16 w ++ rest) _ (is_operand_opcode refl refl) (omega arith) h.0 (TestImm_row rm (Word w) rest h.1))
again (Unary op true rm) rest h = then_row 0xF7 op rm rest _ (is_operand_opcode refl refl) h.0 h.2 (Unary_row op true rm rest h.1)
again (Unary op false rm) rest h = then_row 0xF6 op rm rest _ (is_operand_opcode refl refl) h.0 h.2 (Unary_row op false rm rest h.1)
again (IncDec false false rm) rest h = then_row 254 0 rm rest _ (is_operand_opcode refl refl) (omega arith) h refl
again (IncDec false true rm) rest h = then_row 255 0 rm rest _ (is_operand_opcode refl refl) (omega arith) h refl
again (IncDec true false rm) rest h = then_row 254 1 rm rest _ (is_operand_opcode refl refl) (omega arith) h refl
again (IncDec true true rm) rest h = then_row 255 1 rm rest _ (is_operand_opcode refl refl) (omega arith) h refl
again (CallRm rm) rest h = then_row 0xFF 2 rm rest _ (is_operand_opcode refl refl) (omega arith) h refl
again (JumpRm rm) rest h = then_row 0xFF 4 rm rest _ (is_operand_opcode refl refl) (omega arith) h refl
again (PushRm rm) rest h = then_row 0xFF 6 rm rest _ (is_operand_opcode refl refl) (omega arith) h.0 (PushRm_row rm rest h.1)
