-- Chains of instructions.
use Rattle.std.proofs.Common.{◌≡◌, ℕ, suc, ◌+◌, ◌*◌, ◌/◌, ◌%◌, ◌<◌, ◌≤◌, true, false, List, [], ◌∷◌, ◌++◌, length, refl, sym, ap, subst, ◌∙◌, arith, Bool, lit<, lit≤, length-append}
use Rattle.std.specs.Prelude.{bit_and, bit_or, bit_xor}
use Rattle.cw_i86.specs.Encoding.{bytes_of, with_rm, with_mem}
use Rattle.cw_i86.specs.Sums.{sum_flags, difference_flags, logic_flags, keeping_carry}
use Rattle.cw_i86.specs.Shifts.{shift_flags}
use Rattle.cw_i86.specs.Products.{product_flags}
use Rattle.cw_i86.specs.State.{sign_extended, default_segment, data_segment}
use Rattle.cw_i86.specs.declared.shift.ShiftOp.TheVariants.{Shl, Shr, Sar}
use Rattle.cw_i86.specs.declared.flags.Flags.{Flags}
use Rattle.cw_i86.specs.declared.instr.Instr.{Instr}
use Rattle.cw_i86.specs.declared.instr.Instr.TheVariants as i86
use Rattle.cw_i86.specs.declared.instr.Imm.TheVariants as imm
use Rattle.cw_i86.specs.declared.instr.Rm.TheVariants as rms
use Rattle.cw_i86.specs.declared.instr.Place.{Place}
use Rattle.cw_i86.specs.declared.instr.Place.TheVariants.{Direct, Plain, Near, Far}
use Rattle.cw_run86.specs.Addressing.{offset_in}
use Rattle.cw_run86.specs.Several.{NeedsAll, after_all, flags_of_all}
use Rattle.cw_run86.specs.Processor.{Processor, processor_step}
use Rattle.cw_run86.specs.Views.{View, Has, register, with_register, with_cell, with_stack, with_pair, word_sum, word_difference, word_up, word_down, word_down_signed, product_low, product_high, product_overflows, sign_of}
use Rattle.cw_run86.proofs.Tests.{Finds}
use Rattle.cw_tmpl.specs.Mnemonics.{memory}
use Rattle.cw_routines.specs.Ways.{QuietAll, At, standing, HasAll, Way, stay, go, Leads, Within}
use Rattle.cw_routines.proofs.Sources.{Source, rm_of, SourceNeeds, value_of}
use Rattle.cw_routines.proofs.Acts as acts
use Rattle.cw_i86.specs.declared.instr.Rm.{Rm}

-- ---- several

-- an instruction that goes on at the next one, with what is known of the words that it reads
pub data Act : Type 0 where
  Number : (r w : ℕ) → Act
  LowByte : (b : ℕ) → Act
  HighByte : (b : ℕ) → Act
  LowFromHigh : Act
  Load : (r : ℕ) → Source → Act
  Store : Place → (r k : ℕ) → Act
  Sum : (r : ℕ) → Source → Act
  Difference : (r : ℕ) → Source → Act
  Either : (r : ℕ) → Source → Act
  One : (r : ℕ) → Source → Act
  Comparison : (r : ℕ) → Source → Act
  ComparisonShort : Source → (b : ℕ) → Act
  SumShort : (r b : ℕ) → Act
  DifferenceNumber ComparisonNumber : (w : ℕ) → Act
  LessOne : (r : ℕ) → Act
  Negative : (r : ℕ) → Act
  TestLow : Act
  OrLow : Act
  AddLow : Act
  Double : (r : ℕ) → Act
  DoubleWord : (r : ℕ) → Act
  Up : (r : ℕ) → Act
  Down : (r : ℕ) → Act
  DownSigned : (r : ℕ) → Act
  Product : (r : ℕ) → Act
  Quotient : (r : ℕ) → Act
  Sign : Act
  Exchange : (r : ℕ) → Act
  Push : (r n : ℕ) → Act
  PushFrom : Source → (n : ℕ) → Act
  Pop : (r n w m : ℕ) → Act

abbrev pub instruction : Act → Instr
instruction (Number r w) = i86.MovImm r (imm.Word w)
instruction (LowByte b) = i86.MovImm 0 (imm.Byte b)
instruction (HighByte b) = i86.MovImm 4 (imm.Byte b)
instruction LowFromHigh = i86.Mov false true 0 (rms.Reg 4)
instruction (Load r src) = i86.Mov true true r (rm_of src)
instruction (Store place r k) = i86.Mov true false r (memory place)
instruction (Sum r src) = i86.AluRm 0 true true r (rm_of src)
instruction (Difference r src) = i86.AluRm 5 true true r (rm_of src)
instruction (Either r src) = i86.AluRm 1 true true r (rm_of src)
instruction (One r src) = i86.AluRm 6 true true r (rm_of src)
instruction (Comparison r src) = i86.AluRm 7 true true r (rm_of src)
instruction (ComparisonShort src b) = i86.AluShort 7 (rm_of src) b
instruction (SumShort r b) = i86.AluShort 0 (rms.Reg r) b
instruction (DifferenceNumber w) = i86.AluAcc 5 (imm.Word w)
instruction (ComparisonNumber w) = i86.AluAcc 7 (imm.Word w)
instruction (LessOne r) = i86.Dec r
instruction (Negative r) = i86.Unary 3 true (rms.Reg r)
instruction TestLow = i86.TestRm false 0 (rms.Reg 0)
instruction OrLow = i86.AluRm 1 false true 0 (rms.Reg 0)
instruction AddLow = i86.AluRm 0 false true 0 (rms.Reg 0)
instruction (Double r) = i86.Shift 4 true false (rms.Reg r)
instruction (DoubleWord r) = i86.Shift 4 true false (rms.Reg r)
instruction (Up r) = i86.Shift 4 true true (rms.Reg r)
instruction (Down r) = i86.Shift 5 true true (rms.Reg r)
instruction (DownSigned r) = i86.Shift 7 true true (rms.Reg r)
instruction (Product r) = i86.Unary 5 true (rms.Reg r)
instruction (Quotient r) = i86.Unary 6 true (rms.Reg r)
instruction Sign = i86.Cwd
instruction (Exchange r) = i86.XchgAx r
instruction (Push r n) = i86.Push r
instruction (PushFrom src n) = i86.PushRm (rm_of src)
instruction (Pop r n w m) = i86.Pop r

-- the bytes of an instruction
abbrev pub size : Act → ℕ
size a = length (bytes_of (instruction a))

abbrev pub IsShort : Act → Type 0
IsShort a = (0 < size a) × (size a ≤ 7)

mem_short : (opcode reg : ℕ) (cs : Bool) (place : Place) → (0 < length (with_mem opcode reg (record { cs = cs; place = place }))) × (length (with_mem opcode reg (record { cs = cs; place = place })) ≤ 6)
mem_short opcode reg true (Direct at) = (lit< tt, lit≤ tt)
mem_short opcode reg true (Plain form) = (lit< tt, lit≤ tt)
mem_short opcode reg true (Near form by) = (lit< tt, lit≤ tt)
mem_short opcode reg true (Far form by) = (lit< tt, lit≤ tt)
mem_short opcode reg false (Direct at) = (lit< tt, lit≤ tt)
mem_short opcode reg false (Plain form) = (lit< tt, lit≤ tt)
mem_short opcode reg false (Near form by) = (lit< tt, lit≤ tt)
mem_short opcode reg false (Far form by) = (lit< tt, lit≤ tt)

rm_short : (opcode reg : ℕ) (rm : Rm) → (0 < length (with_rm opcode reg rm)) × (length (with_rm opcode reg rm) ≤ 6)
rm_short opcode reg (rms.Reg r) = (lit< tt, lit≤ tt)
rm_short opcode reg (rms.Mem mem) = mem_short opcode reg mem.cs mem.place

-- each has one byte at least, and few
short : (a : Act) → IsShort a
short (Load r src) = let n = rm_short 0x8B r (rm_of src) in (n.0, omega arith)
short (Store place r k) = let n = rm_short 0x89 r (memory place) in (n.0, omega arith)
short (Sum r src) = let n = rm_short 3 r (rm_of src) in (n.0, omega arith)
short (Difference r src) = let n = rm_short 43 r (rm_of src) in (n.0, omega arith)
short (Either r src) = let n = rm_short 11 r (rm_of src) in (n.0, omega arith)
short (One r src) = let n = rm_short 51 r (rm_of src) in (n.0, omega arith)
short (Comparison r src) = let n = rm_short 59 r (rm_of src) in (n.0, omega arith)
short (ComparisonShort src b) = let n = rm_short 0x83 7 (rm_of src) in (omega (arith, length-append (with_rm 0x83 7 (rm_of src)) (b ∷ [])), omega (arith, length-append (with_rm 0x83 7 (rm_of src)) (b ∷ [])))
short (PushFrom src n) = let k = rm_short 0xFF 6 (rm_of src) in (k.0, omega arith)
short _ = (lit< tt, lit≤ tt)

-- what has to be known before it
abbrev pub Needs : List ℕ → Act → View → Type 0
Needs code (Load r src) v = SourceNeeds code src v
Needs code (Store place r k) v = (default_segment place ≡ data_segment) × (k < 32768) × (offset_in v.registers place ≡ 2 * k)
Needs code (Sum r src) v = SourceNeeds code src v
Needs code (Difference r src) v = SourceNeeds code src v
Needs code (Either r src) v = SourceNeeds code src v
Needs code (One r src) v = SourceNeeds code src v
Needs code (Comparison r src) v = SourceNeeds code src v
Needs code (ComparisonShort src b) v = SourceNeeds code src v
Needs code (Double r) v = register v r < 32768
Needs code (Up r) v = register v r < 65536
Needs code (DownSigned r) v = register v r < 65536
Needs code (Quotient r) v = (0 < register v r) × ((65536 * register v 2 + register v 0) / register v r < 65536)
Needs code (Push r n) v = (n < 32768) × (register v 4 ≡ 2 * suc n % 65536)
Needs code (PushFrom src n) v = SourceNeeds code src v × (n < 32768) × (register v 4 ≡ 2 * suc n % 65536)
Needs code (Pop r n w m) v = (n < 32768) × (register v 4 ≡ 2 * n % 65536) × (v.stack n ≡ w) × (2 * suc n % 65536 ≡ m)
Needs code _ v = Unit {0}

-- the view behind it, and the flags
abbrev pub after : Act → View → View
after (Number r w) v = with_register r w v
after (LowByte b) v = with_register 0 (register v 0 / 256 * 256 + b) v
after (HighByte b) v = with_register 0 (b * 256 + register v 0 % 256) v
after LowFromHigh v = with_register 0 (register v 0 / 256 * 256 + register v 0 / 256) v
after (Load r src) v = with_register r (value_of src v) v
after (Store place r k) v = with_cell k (register v r) v
after (Sum r src) v = with_register r (word_sum (register v r) (value_of src v)) v
after (Difference r src) v = with_register r (word_difference (register v r) (value_of src v)) v
after (Either r src) v = with_register r (bit_or (register v r) (value_of src v)) v
after (One r src) v = with_register r (bit_xor (register v r) (value_of src v)) v
after (Comparison r src) v = v
after (ComparisonShort src b) v = v
after (SumShort r b) v = with_register r (word_sum (register v r) (sign_extended b)) v
after (DifferenceNumber w) v = with_register 0 (word_difference (register v 0) w) v
after (ComparisonNumber w) v = v
after (LessOne r) v = with_register r (word_difference (register v r) 1) v
after (Negative r) v = with_register r (word_difference 0 (register v r)) v
after TestLow v = v
after OrLow v = with_register 0 (register v 0 / 256 * 256 + bit_or (register v 0 % 256) (register v 0 % 256)) v
after AddLow v = with_register 0 (register v 0 / 256 * 256 + (register v 0 % 256 + register v 0 % 256 + 0) % 256) v
after (Double r) v = with_register r (2 * register v r) v
after (DoubleWord r) v = with_register r (2 * register v r % 65536) v
after (Up r) v = with_register r (word_up (register v r) (register v 1 % 256)) v
after (Down r) v = with_register r (word_down (register v r) (register v 1 % 256)) v
after (DownSigned r) v = with_register r (word_down_signed (register v r) (register v 1 % 256)) v
after (Product r) v = with_pair (product_low (register v 0) (register v r)) (product_high (register v 0) (register v r)) v
after (Quotient r) v = with_pair ((65536 * register v 2 + register v 0) / register v r) ((65536 * register v 2 + register v 0) % register v r) v
after Sign v = with_register 2 (sign_of (register v 0)) v
after (Exchange r) v = with_register 0 (register v r) (with_register r (register v 0) v)
after (Push r n) v = with_register 4 (2 * n) (with_stack n (register v r) v)
after (PushFrom src n) v = with_register 4 (2 * n) (with_stack n (value_of src v) v)
after (Pop r n w m) v = with_register r w (with_register 4 m v)

abbrev pub flags_after : Act → View → Flags → Flags
flags_after (Sum r src) v f = sum_flags 32768 (register v r) (value_of src v) false
flags_after (Difference r src) v f = difference_flags 32768 (register v r) (value_of src v) false
flags_after (Either r src) v f = logic_flags 32768 (bit_or (register v r) (value_of src v)) f
flags_after (One r src) v f = logic_flags 32768 (bit_xor (register v r) (value_of src v)) f
flags_after (Comparison r src) v f = difference_flags 32768 (register v r) (value_of src v) false
flags_after (ComparisonShort src b) v f = difference_flags 32768 (value_of src v) (sign_extended b) false
flags_after (SumShort r b) v f = sum_flags 32768 (register v r) (sign_extended b) false
flags_after (DifferenceNumber w) v f = difference_flags 32768 (register v 0) w false
flags_after (ComparisonNumber w) v f = difference_flags 32768 (register v 0) w false
flags_after (LessOne r) v f = keeping_carry f (difference_flags 32768 (register v r) 1 false)
flags_after (Negative r) v f = difference_flags 32768 0 (register v r) false
flags_after TestLow v f = logic_flags 128 (bit_and (register v 0 % 256) (register v 0 % 256)) f
flags_after OrLow v f = logic_flags 128 (bit_or (register v 0 % 256) (register v 0 % 256)) f
flags_after AddLow v f = sum_flags 128 (register v 0 % 256) (register v 0 % 256) false
flags_after (Double r) v f = shift_flags Shl 32768 (register v r) 1 f
flags_after (DoubleWord r) v f = shift_flags Shl 32768 (register v r) 1 f
flags_after (Up r) v f = shift_flags Shl 32768 (register v r) (register v 1 % 256) f
flags_after (Down r) v f = shift_flags Shr 32768 (register v r) (register v 1 % 256) f
flags_after (DownSigned r) v f = shift_flags Sar 32768 (register v r) (register v 1 % 256) f
flags_after (Product r) v f = product_flags (product_overflows (register v 0) (register v r)) f
flags_after _ v f = f

abbrev pub codes : List Act → List Instr
codes [] = []
codes (a ∷ list) = instruction a ∷ codes list

-- the place behind them
abbrev pub behind : List Act → ℕ → ℕ
behind [] at = at
behind (a ∷ list) at = behind list (at + size a)

pub not_before : (list : List Act) (at : ℕ) → at ≤ behind list at
not_before [] at = omega arith
not_before (a ∷ list) at = let le = not_before list (at + size a) in omega arith

-- their code, and what stands behind it
pub piece : (code : List ℕ) (at : ℕ) (list : List Act) (rest : List Instr) → HasAll code at (codes list ++ rest) → HasAll code at (codes list) × HasAll code (behind list at) rest
piece code at [] rest h = (tt, h)
piece code at (a ∷ list) rest h = let r = piece code (at + size a) list rest h.1 in ((h.0, r.0), r.1)

-- none tells anything
quiet : (a : Act) (v : View) → (after a v).told ≡ v.told
quiet (Pop r n w m) v = refl
quiet _ v = refl

module _ (finds : Finds) where
  step : (a : Act) {code : List ℕ} {at : ℕ} {v : View} {f : Flags} {p : Processor} → Has code at (instruction a) → Needs code a v → At code at v f p
      → At code (at + size a) (after a v) (flags_after a v f) (processor_step p)
  step (Number r w) h n s = acts.number finds s r w h
  step (LowByte b) h n s = acts.low_byte finds s b h
  step (HighByte b) h n s = acts.high_byte finds s b h
  step LowFromHigh h n s = acts.low_from_high finds s h
  step (Load r src) h n s = acts.load finds s r src (short (Load r src)).0 (short (Load r src)).1 h n
  step (Store place r k) h n s = acts.store finds s place r k (short (Store place r k)).0 (short (Store place r k)).1 h n.0 n.1 n.2
  step (Sum r src) h n s = acts.sum finds s r src (short (Sum r src)).0 (short (Sum r src)).1 h n
  step (Difference r src) h n s = acts.difference finds s r src (short (Difference r src)).0 (short (Difference r src)).1 h n
  step (Either r src) h n s = acts.either finds s r src (short (Either r src)).0 (short (Either r src)).1 h n
  step (One r src) h n s = acts.one_of finds s r src (short (One r src)).0 (short (One r src)).1 h n
  step (Comparison r src) h n s = acts.comparison finds s r src (short (Comparison r src)).0 (short (Comparison r src)).1 h n
  step (ComparisonShort src b) h n s = acts.comparison_short finds s src b (short (ComparisonShort src b)).0 (short (ComparisonShort src b)).1 h n
  step (SumShort r b) h n s = acts.sum_short finds s r b h
  step (DifferenceNumber w) h n s = acts.difference_number finds s w h
  step (ComparisonNumber w) h n s = acts.comparison_number finds s w h
  step (LessOne r) h n s = acts.less_one finds s r h
  step (Negative r) h n s = acts.negative finds s r h
  step TestLow h n s = acts.test_low finds s h
  step OrLow h n s = acts.or_low finds s h
  step AddLow h n s = acts.add_low finds s h
  step (Double r) h n s = acts.double finds s r h n
  step (DoubleWord r) h n s = acts.double_word finds s r h
  step (Up r) h n s = acts.up finds s r h n
  step (Down r) h n s = acts.down_by finds s r h
  step (DownSigned r) h n s = acts.down_signed finds s r h n
  step (Product r) h n s = acts.product finds s r h
  step (Quotient r) h n s = acts.quotient finds s r h n.0 n.1
  step Sign h n s = acts.extend finds s h
  step (Exchange r) h n s = acts.exchange finds s r h
  step (Push r n) h needs s = acts.push finds s r n h needs.0 needs.1
  step (PushFrom src n) h needs s = acts.push_from finds s src n (short (PushFrom src n)).0 (short (PushFrom src n)).1 h needs.0 needs.1 needs.2
  step (Pop r n w m) h needs s = acts.pop finds s r n w m h needs.0 needs.1 needs.2 needs.3

-- ---- ways

-- the places of a list are quiet where all from the first one on are
quiets_of : {Quiet : ℕ → Type 0} (list : List Act) {at : ℕ} → ((k : ℕ) → at ≤ k → k < behind list at → Quiet k) → QuietAll Quiet at (codes list)
quiets_of [] quiet_all = tt
quiets_of (a ∷ list) {at} quiet_all =
    let some = (short a).0 in
    let up = not_before list (at + size a) in
    (quiet_all at (omega arith) (omega arith), quiets_of list (λ k lo hi. quiet_all k (omega arith) hi))

module _ (Quiet : ℕ → Type 0) (code output : List ℕ) where
  pub done : {p : Processor} {T : Processor → Type 0} → T p → Leads Quiet code output 0 p T
  done {p} t = record { reached = p; way = stay refl refl; there = t }

  -- where what they lead to is more than what is asked for
  pub onward : {n : ℕ} {p : Processor} {T U : Processor → Type 0} → ((q : Processor) → T q → U q) → Leads Quiet code output n p T → Leads Quiet code output n p U
  onward f l = record { reached = l.reached; way = l.way; there = f l.reached l.there }

  join : {m : ℕ} {q r : Processor} (n t : ℕ) (p : Processor) → t ≡ n + m → Way Quiet code output n p q → Way Quiet code output m q r → Way Quiet code output t p r
  join {m} {q} {r} n t p e (stay same z) w =
      let e' : m ≡ t = omega arith in
      subst (λ x. Way Quiet code output t x r) (sym same) (subst (λ k. Way Quiet code output k q r) e' w)
  join {m} {q} {r} n t p e (go {m = k} v s quiet told more rest) w = go v s quiet told (let x : t ≡ 1 + (k + m) = omega arith in x) (join k (k + m) (processor_step p) refl rest w)

  -- so many instructions, and what they lead on to
  pub afterwards : {p : Processor} {T U : Processor → Type 0} (n bound limit : ℕ) → n + bound ≤ limit → Leads Quiet code output n p T
      → ((q : Processor) → T q → Within Quiet code output bound q U) → Within Quiet code output limit p U
  afterwards {p = p} n bound limit le l on =
      let d = on l.reached l.there in
      let within = d.within in
      record {
        spent = n + d.spent;
        within = omega arith;
        leads = record { reached = d.leads.reached; way = join n (n + d.spent) p refl l.way d.leads.way; there = d.leads.there };
      }

  pub both : {p : Processor} {T U : Processor → Type 0} (n m : ℕ) → Leads Quiet code output n p T → ((q : Processor) → T q → Leads Quiet code output m q U)
      → Leads Quiet code output (n + m) p U
  both {p = p} n m l on =
      let d = on l.reached l.there in
      record { reached = d.reached; way = join n (n + m) p refl l.way d.way; there = d.there }

  -- a number of instructions within a bound
  pub within : {p : Processor} {T : Processor → Type 0} (n bound : ℕ) → n ≤ bound → Leads Quiet code output n p T → Within Quiet code output bound p T
  within n bound le l = record { spent = n; within = le; leads = l }

  module _ (finds : Finds) where
    -- one instruction, and the way on
    pub more : {at to n : ℕ} {v w : View} {f g : Flags} {p : Processor} {T : Processor → Type 0} → At code at v f p → Quiet (at % 65536) → v.told.output ≡ output
        → At code to w g (processor_step p)
        → ((q : Processor) → At code to w g q → Leads Quiet code output n q T) → Leads Quiet code output (suc n) p T
    more {at} {n = n} {v = v} {f = f} {p = p} s quiet told s' on =
        let l = on (processor_step p) s' in
        record { reached = l.reached; way = go (standing at f v) s.sees quiet told (let x : suc n ≡ 1 + n = omega arith in x) l.way; there = l.there }

    -- the last one
    pub last : {at : ℕ} {v : View} {f : Flags} {p : Processor} {T : Processor → Type 0} → At code at v f p → Quiet (at % 65536) → v.told.output ≡ output → T (processor_step p)
        → Leads Quiet code output 1 p T
    last {at} {v = v} {f = f} {p = p} s quiet told t = record { reached = processor_step p; way = go (standing at f v) s.sees quiet told (let x : 1 ≡ 1 + 0 = omega arith in x) (stay refl refl); there = t }

    -- all of a list, where the place of each is quiet
    pub each_of : (list : List Act) {at n : ℕ} {v : View} {f : Flags} {p : Processor} {T : Processor → Type 0} → QuietAll Quiet at (codes list)
        → v.told.output ≡ output → HasAll code at (codes list) → NeedsAll after (Needs code) list v → At code at v f p
        → ((q : Processor) → At code (behind list at) (after_all after list v) (flags_of_all after flags_after list v f) q → Leads Quiet code output n q T) → Leads Quiet code output (length list + n) p T
    each_of [] {n = n} {p = p} {T = T} quiets told h needs s on = let e : n ≡ 0 + n = omega arith in subst (λ m. Leads Quiet code output m p T) e (on p s)
    each_of (a ∷ list) {at} {n} {v} {f} {p} {T} quiets told h needs s on =
        let within = h.0.within in
        let fits = s.sees.fits in
        let some = (short a).0 in
        let here : at % 65536 ≡ at = omega arith in
        let first : Quiet (at % 65536) = subst Quiet (sym here) quiets.0 in
        let told' : (after a v).told.output ≡ output = ap (λ t. t.output) (quiet a v) ∙ told in
        let e : suc (length list + n) ≡ suc (length list) + n = omega arith in
        subst (λ m. Leads Quiet code output m p T) e
        (more s first told (step finds a h.0 needs.0 s) (λ q u. each_of list quiets.1 told' h.1 needs.1 u on))

    -- so where all places from the first one on are quiet
    pub straight : (list : List Act) {at n : ℕ} {v : View} {f : Flags} {p : Processor} {T : Processor → Type 0} → ((k : ℕ) → at ≤ k → k < behind list at → Quiet k)
        → v.told.output ≡ output → HasAll code at (codes list) → NeedsAll after (Needs code) list v → At code at v f p
        → ((q : Processor) → At code (behind list at) (after_all after list v) (flags_of_all after flags_after list v f) q → Leads Quiet code output n q T) → Leads Quiet code output (length list + n) p T
    straight list quiet_all told h needs s on = each_of list (quiets_of list quiet_all) told h needs s on
