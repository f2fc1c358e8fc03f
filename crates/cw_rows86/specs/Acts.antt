-- Instructions that go on at the next one, with the words that they read, and what each leaves of a view.
use Rattle.std.specs.Prelude.{◌≡◌, ℕ, suc, ◌+◌, ◌*◌, ◌<◌, Bool, true, false, Some, List, [], ◌∷◌, length}
use Rattle.std.specs.Int.{w16, w32}
use Rattle.cw_i86.specs.Encoding.{bytes_of}
use Rattle.cw_i86.specs.Products.{product_flags, signed_quotient_of}
use Rattle.cw_i86.specs.State.{sign_extended}
use Rattle.cw_i86.specs.declared.flags.Flags.{Flags}
use Rattle.cw_i86.specs.declared.instr.Instr.{Instr}
use Rattle.cw_i86.specs.declared.instr.Instr.TheVariants as i86
use Rattle.cw_i86.specs.declared.instr.Imm.TheVariants as imm
use Rattle.cw_i86.specs.declared.instr.Mem.{Mem}
use Rattle.cw_i86.specs.declared.instr.Rm.{Rm}
use Rattle.cw_run86.specs.Addressing.{offset_in}
use Rattle.cw_run86.specs.Several as several
use Rattle.cw_run86.specs.Views.{View, Has, IsTop, register, with_register, with_pair, with_stack, with_overflow, word_difference}
use Rattle.cw_run86.specs.Views.{difference_overflows, product_low, product_high, product_overflows, shift_overflow, sign_of}
use Rattle.cw_rows86.specs.Locations.{Location, InRegister, contents, with_contents, IsWritable, Denotes, in_memory}
use Rattle.cw_i86.specs.declared.instr.Place.TheVariants.{Direct}
use Rattle.cw_rows86.specs.Operations.{WordOperation, Subtract, number_of, operated_on, flags_after, counted_to, count_overflows}
use Rattle.cw_rows86.specs.Operations.{flags_counted, Shifting, shift_number, shifted_word, flags_shifted, places_of}

-- An operand comes with the location that it denotes, and where it is read, with the word a there. Of a push n is the place below the
-- top, of a pop that of the top.
pub data Act : Type 0 where
  Number : (r w : ℕ) → Act
  NumberTo : (rm : Rm) → (o : Location) → (w : ℕ) → Act
  Into : (r : ℕ) → (rm : Rm) → (o : Location) → (a : ℕ) → Act
  OutOf : (r : ℕ) → (rm : Rm) → (o : Location) → Act
  Load : (at : ℕ) → (o : Location) → (a : ℕ) → Act
  Store : (at : ℕ) → (o : Location) → Act
  Offset : (r : ℕ) → (m : Mem) → Act
  Operate : WordOperation → (r : ℕ) → (rm : Rm) → (o : Location) → (a : ℕ) → Act
  OperateOnto : WordOperation → (r : ℕ) → (rm : Rm) → (o : Location) → (a : ℕ) → Act
  OperateNumber : WordOperation → (w : ℕ) → Act
  OperateNumberOnto : WordOperation → (w : ℕ) → (rm : Rm) → (o : Location) → (a : ℕ) → Act
  OperateByteOnto : WordOperation → (b : ℕ) → (rm : Rm) → (o : Location) → (a : ℕ) → Act
  Negate : (rm : Rm) → (o : Location) → (a : ℕ) → Act
  Count : (down : Bool) → (r : ℕ) → Act
  CountIn : (down : Bool) → (rm : Rm) → (o : Location) → (a : ℕ) → Act
  Multiply : (rm : Rm) → (o : Location) → (a : ℕ) → Act
  Divide : (rm : Rm) → (o : Location) → (a q r : ℕ) → Act
  Extend : Act
  Shift : Shifting → (by_cl : Bool) → (rm : Rm) → (o : Location) → (a : ℕ) → Act
  Push : (r n : ℕ) → Act
  PushAny : (rm : Rm) → (o : Location) → (a n : ℕ) → Act
  Pop : (r n a : ℕ) → Act
  Nothing : Act

abbrev pub counting : (down : Bool) → ℕ → Instr
counting true r = i86.Dec r
counting false r = i86.Inc r

abbrev pub instruction : Act → Instr
instruction (Number r w) = i86.MovImm r (imm.Word w)
instruction (NumberTo rm o w) = i86.MovRm rm (imm.Word w)
instruction (Into r rm o a) = i86.Mov true true r rm
instruction (OutOf r rm o) = i86.Mov true false r rm
instruction (Load at o a) = i86.MovAcc false true false at
instruction (Store at o) = i86.MovAcc false true true at
instruction (Offset r m) = i86.Lea r m
instruction (Operate op r rm o a) = i86.AluRm (number_of op) true true r rm
instruction (OperateOnto op r rm o a) = i86.AluRm (number_of op) true false r rm
instruction (OperateNumber op w) = i86.AluAcc (number_of op) (imm.Word w)
instruction (OperateNumberOnto op w rm o a) = i86.AluImm (number_of op) rm (imm.Word w)
instruction (OperateByteOnto op b rm o a) = i86.AluShort (number_of op) rm b
instruction (Negate rm o a) = i86.Unary 3 true rm
instruction (Count down r) = counting down r
instruction (CountIn down rm o a) = i86.IncDec down true rm
instruction (Multiply rm o a) = i86.Unary 5 true rm
instruction (Divide rm o a q r) = i86.Unary 7 true rm
instruction Extend = i86.Cwd
instruction (Shift op by_cl rm o a) = i86.Shift (shift_number op) true by_cl rm
instruction (Push r n) = i86.Push r
instruction (PushAny rm o a n) = i86.PushRm rm
instruction (Pop r n a) = i86.Pop r
instruction Nothing = i86.XchgAx 0

-- the operand is this location, and holds this word
abbrev pub Reads : (code : List ℕ) → View → Rm → Location → ℕ → Type 0
Reads code v rm o a = Denotes code v.registers rm o × (contents code v o ≡ a)

-- and is written
abbrev pub Changes : (code : List ℕ) → View → Rm → Location → ℕ → Type 0
Changes code v rm o a = Denotes code v.registers rm o × IsWritable o × (contents code v o ≡ a)

-- what has to be known before it
abbrev pub Needs : (code : List ℕ) → Act → View → Type 0
Needs code (NumberTo rm o w) v = Denotes code v.registers rm o × IsWritable o
Needs code (Into r rm o a) v = Reads code v rm o a
Needs code (OutOf r rm o) v = Denotes code v.registers rm o × IsWritable o
Needs code (Load at o a) v = Reads code v (in_memory (Direct at)) o a
Needs code (Store at o) v = Denotes code v.registers (in_memory (Direct at)) o × IsWritable o
Needs code (Operate op r rm o a) v = Reads code v rm o a
Needs code (OperateOnto op r rm o a) v = Changes code v rm o a
Needs code (OperateNumberOnto op w rm o a) v = Changes code v rm o a
Needs code (OperateByteOnto op b rm o a) v = Changes code v rm o a
Needs code (Negate rm o a) v = Changes code v rm o a
Needs code (CountIn down rm o a) v = Changes code v rm o a
Needs code (Multiply rm o a) v = Reads code v rm o a
Needs code (Divide rm o a q r) v = Reads code v rm o a × (signed_quotient_of w32 w16 32768 (65536 * register v 2 + register v 0) a ≡ Some (q, r))
Needs code (Shift op by_cl rm o a) v = Changes code v rm o a × (a < 65536)
Needs code (Push r n) v = (n < 32768) × IsTop v (suc n)
Needs code (PushAny rm o a n) v = Reads code v rm o a × (n < 32768) × IsTop v (suc n)
Needs code (Pop r n a) v = (n < 32767) × IsTop v n × (v.stack n ≡ a)
Needs code act v = Unit {0}

-- the view behind it, but for the place
abbrev pub after : Act → View → View
after (Number r w) v = with_register r w v
after (NumberTo rm o w) v = with_contents o w v
after (Into r rm o a) v = with_register r a v
after (OutOf r rm o) v = with_contents o (register v r) v
after (Load at o a) v = with_register 0 a v
after (Store at o) v = with_contents o (register v 0) v
after (Offset r m) v = with_register r (offset_in v.registers m.place) v
after (Operate op r rm o a) v = operated_on op (InRegister r) (register v r) a v
after (OperateOnto op r rm o a) v = operated_on op o a (register v r) v
after (OperateNumber op w) v = operated_on op (InRegister 0) (register v 0) w v
after (OperateNumberOnto op w rm o a) v = operated_on op o a w v
after (OperateByteOnto op b rm o a) v = operated_on op o a (sign_extended b) v
after (Negate rm o a) v = with_overflow (difference_overflows 0 a) (with_contents o (word_difference 0 a) v)
after (Count down r) v = with_overflow (count_overflows down (register v r)) (with_register r (counted_to down (register v r)) v)
after (CountIn down rm o a) v = with_overflow (count_overflows down a) (with_contents o (counted_to down a) v)
after (Multiply rm o a) v = with_overflow (product_overflows (register v 0) a) (with_pair (product_low (register v 0) a) (product_high (register v 0) a) v)
after (Divide rm o a q r) v = with_pair q r v
after Extend v = with_register 2 (sign_of (register v 0)) v
after (Shift op by_cl rm o a) v = with_overflow (shift_overflow (shift_number op) a (places_of by_cl v) v.overflow)
    (with_contents o (shifted_word op a (places_of by_cl v)) v)
after (Push r n) v = with_register 4 (2 * n) (with_stack n (register v r) v)
after (PushAny rm o a n) v = with_register 4 (2 * n) (with_stack n a v)
after (Pop r n a) v = with_register r a (with_register 4 (2 * suc n) v)
after Nothing v = v

-- and the flags
abbrev pub flags_of : Act → View → Flags → Flags
flags_of (Operate op r rm o a) v f = flags_after op (register v r) a f
flags_of (OperateOnto op r rm o a) v f = flags_after op a (register v r) f
flags_of (OperateNumber op w) v f = flags_after op (register v 0) w f
flags_of (OperateNumberOnto op w rm o a) v f = flags_after op a w f
flags_of (OperateByteOnto op b rm o a) v f = flags_after op a (sign_extended b) f
flags_of (Negate rm o a) v f = flags_after Subtract 0 a f
flags_of (Count down r) v f = flags_counted down (register v r) f
flags_of (CountIn down rm o a) v f = flags_counted down a f
flags_of (Multiply rm o a) v f = product_flags (product_overflows (register v 0) a) f
flags_of (Shift op by_cl rm o a) v f = flags_shifted op a (places_of by_cl v) f
flags_of act v f = f

-- ---- several

abbrev pub HasActs : (code : List ℕ) → (place : ℕ) → List Act → Type 0
HasActs code at [] = Unit {0}
HasActs code at (a ∷ acts) = Has code at (instruction a) × HasActs code (at + length (bytes_of (instruction a))) acts

abbrev pub NeedsAll : (code : List ℕ) → List Act → View → Type 0
NeedsAll code = several.NeedsAll after (Needs code)

abbrev pub after_all : List Act → View → View
after_all = several.after_all after

abbrev pub flags_of_all : List Act → View → Flags → Flags
flags_of_all = several.flags_of_all after flags_of

-- the place behind them
abbrev pub behind : List Act → ℕ → ℕ
behind [] at = at
behind (a ∷ acts) at = behind acts (at + length (bytes_of (instruction a)))
