-- No instruction sets CS.
use Rattle.std.proofs.Common.{◌≡◌, ℕ, zero, suc, Bool, true, false, List, length, Option, Some, None, refl, sym, ap, subst, ◌∙◌, inl, inr}
use Rattle.std.specs.Prelude.{◌==◌, nat_lt, if◌then◌else◌}
use Rattle.cw_i86.specs.Encoding.{bytes_of}
use Rattle.cw_i86.specs.MachineRun.{Event, Outcome, GoesOn, Runs, Steps, Does, completed}
use Rattle.cw_i86.specs.declared.instr.Rm.{Rm}
use Rattle.cw_i86.specs.declared.instr.Rm.TheVariants as rms
use Rattle.cw_i86.specs.declared.instr.Instr.{Instr}
use Rattle.cw_i86.specs.declared.instr.Instr.TheVariants.{AluRm, AluAcc, Inc, Dec, Push, Pop, JumpIf, AluImm, AluShort, TestRm, XchgRm, Mov, Lea, XchgAx, Cbw, Cwd, PushF, PopF, Sahf, Lahf, MovAcc, TestAcc, MovImm, RetAdd, Ret, MovRm, Shift as ShiftRm, Loop, In, Out, Call, Jump, JumpShort, Hlt, Cmc, Clc, Stc, TestImm, Unary, IncDec, CallRm, JumpRm, PushRm}
use Rattle.cw_i86.specs.State.{State, with_byte_register, with_sized_register, with_operand, with_value_at, push, past}
use Rattle.cw_i86.specs.Effect.{operated, counted, looped, returned, called, shifted, unary, moved, exchanged, moved_acc, executed, tested, complemented, negated, multiplied, signed_multiplied, divided, signed_divided, byte_extended, word_extended, pop_to, jumped_if, with_quotient}

-- the segment of the code is one
abbrev Stays : State → State → Type 0
Stays t s = t.code_segment ≡ s.code_segment

if_stays : (b : Bool) (t u s : State) → Stays t s → Stays u s → Stays (if b then t else u) s
if_stays true t u s first second = first
if_stays false t u s first second = second

byte_stays : (s : State) (r byte : ℕ) → Stays (with_byte_register s r byte) s
byte_stays s r byte = if_stays (nat_lt r 4) _ _ s refl refl

sized_stays : (s : State) (wide : Bool) (r value : ℕ) → Stays (with_sized_register s wide r value) s
unfolding with_sized_register
sized_stays s wide r value = if_stays wide _ _ s refl (byte_stays s r value)

operand_stays : (s : State) (wide : Bool) (rm : Rm) (value : ℕ) → Stays (with_operand s wide rm value) s
unfolding with_operand with_value_at
operand_stays s wide (rms.Reg r) value = sized_stays s wide r value
operand_stays s wide (rms.Mem mem) value = refl

operated_stays : (s : State) (op : ℕ) (wide : Bool) (rm : Rm) (b : ℕ) → Stays (operated s op wide rm b) s
unfolding operated
operated_stays s op wide rm b = if_stays (op == 7) _ _ s refl (operand_stays _ wide rm _)

counted_stays : (s : State) (down wide : Bool) (rm : Rm) → Stays (counted s down wide rm) s
unfolding counted
counted_stays s down wide rm = if_stays down _ _ s (operand_stays _ wide rm _) (operand_stays _ wide rm _)

push_stays : (s : State) (word : ℕ) → Stays (push s word) s
unfolding push
push_stays s word = refl

jumped_stays : (s : State) (holds : Bool) (by : ℕ) → Stays (jumped_if s holds by) s
jumped_stays s holds by = if_stays holds _ _ s refl refl

looped_stays : (s : State) (kind by : ℕ) → Stays (looped s kind by) s
unfolding looped
looped_stays s kind by = if_stays (kind == 3) _ _ s (jumped_stays s _ by) (jumped_stays _ _ by)

shifted_stays : (s : State) (op : ℕ) (wide by_cl : Bool) (rm : Rm) → Stays (shifted s op wide by_cl rm) s
unfolding shifted
shifted_stays s op wide by_cl rm = operand_stays _ wide rm _

moved_stays : (s : State) (wide to_reg : Bool) (reg : ℕ) (rm : Rm) → Stays (moved s wide to_reg reg rm) s
unfolding moved
moved_stays s wide to_reg reg rm = if_stays to_reg _ _ s (sized_stays s wide reg _) (operand_stays s wide rm _)

exchanged_stays : (s : State) (wide : Bool) (reg : ℕ) (rm : Rm) → Stays (exchanged s wide reg rm) s
unfolding exchanged
exchanged_stays s wide reg rm = sized_stays _ wide reg _ ∙ operand_stays s wide rm _

acc_stays : (s : State) (cs wide store : Bool) (at : ℕ) → Stays (moved_acc s cs wide store at) s
unfolding moved_acc with_value_at
acc_stays s cs wide store at = if_stays store _ _ s refl (sized_stays s wide 0 _)

tested_stays : (s : State) (wide : Bool) (a b : ℕ) → Stays (tested s wide a b) s
unfolding tested
tested_stays s wide a b = refl

-- a state, where there is one
abbrev MayStay : Option State → State → Type 0
MayStay None s = Unit {0}
MayStay (Some t) s = Stays t s

may_if : (b : Bool) (t u : Option State) (s : State) → MayStay t s → MayStay u s → MayStay (if b then t else u) s
may_if true t u s first second = first
may_if false t u s first second = second

quotient_stays : (s : State) (wide : Bool) (found : Option (ℕ × ℕ)) → MayStay (with_quotient s wide found) s
quotient_stays s true None = tt
quotient_stays s false None = tt
quotient_stays s true (Some found) = refl
quotient_stays s false (Some found) = refl

divided_stays : (s : State) (wide : Bool) (b : ℕ) → MayStay (divided s wide b) s
unfolding divided
divided_stays s true b = quotient_stays s true _
divided_stays s false b = quotient_stays s false _

signed_divided_stays : (s : State) (wide : Bool) (b : ℕ) → MayStay (signed_divided s wide b) s
unfolding signed_divided
signed_divided_stays s true b = quotient_stays s true _
signed_divided_stays s false b = quotient_stays s false _

multiplied_stays : (s : State) (wide : Bool) (b : ℕ) → Stays (multiplied s wide b) s
unfolding multiplied
multiplied_stays s true b = refl
multiplied_stays s false b = refl

signed_multiplied_stays : (s : State) (wide : Bool) (b : ℕ) → Stays (signed_multiplied s wide b) s
unfolding signed_multiplied
signed_multiplied_stays s true b = refl
signed_multiplied_stays s false b = refl

unary_stays : (s : State) (op : ℕ) (wide : Bool) (rm : Rm) → MayStay (unary s op wide rm) s
unfolding unary complemented negated
unary_stays s op wide rm =
    may_if (op == 2) _ _ s (operand_stays s wide rm _)
    (may_if (op == 3) _ _ s (operand_stays _ wide rm _)
    (may_if (op == 4) _ _ s (multiplied_stays s wide _)
    (may_if (op == 5) _ _ s (signed_multiplied_stays s wide _)
    (may_if (op == 6) _ _ s (divided_stays s wide _) (signed_divided_stays s wide _)))))

executed_stays : (i : Instr) (s : State) → MayStay (executed i s) s
unfolding byte_extended word_extended pop_to returned called
executed_stays (AluRm op wide to_reg reg rm) s = if_stays to_reg _ _ s (operated_stays s op wide (rms.Reg reg) _) (operated_stays s op wide rm _)
executed_stays (AluAcc op imm) s = operated_stays s op _ (rms.Reg 0) _
executed_stays (Inc reg) s = counted_stays s false true (rms.Reg reg)
executed_stays (Dec reg) s = counted_stays s true true (rms.Reg reg)
executed_stays (Push reg) s = push_stays s _
executed_stays (Pop reg) s = refl
executed_stays (JumpIf cond by) s = jumped_stays s _ by
executed_stays (AluImm op rm imm) s = operated_stays s op _ rm _
executed_stays (AluShort op rm imm) s = operated_stays s op true rm _
executed_stays (TestRm wide reg rm) s = tested_stays s wide _ _
executed_stays (XchgRm wide reg rm) s = exchanged_stays s wide reg rm
executed_stays (Mov wide to_reg reg rm) s = moved_stays s wide to_reg reg rm
executed_stays (Lea reg mem) s = refl
executed_stays (XchgAx reg) s = exchanged_stays s true 0 (rms.Reg reg)
executed_stays Cbw s = refl
executed_stays Cwd s = refl
executed_stays PushF s = push_stays s _
executed_stays PopF s = refl
executed_stays Sahf s = refl
executed_stays Lahf s = refl
executed_stays (MovAcc cs wide store at) s = acc_stays s cs wide store at
executed_stays (TestAcc imm) s = tested_stays s _ _ _
executed_stays (MovImm reg imm) s = sized_stays s _ reg _
executed_stays (RetAdd n) s = refl
executed_stays Ret s = refl
executed_stays (MovRm rm imm) s = operand_stays s _ rm _
executed_stays (ShiftRm op wide by_cl rm) s = shifted_stays s op wide by_cl rm
executed_stays (Loop kind by) s = looped_stays s kind by
executed_stays (In port) s = refl
executed_stays (Out port) s = refl
executed_stays (Call by) s = push_stays s _
executed_stays (Jump by) s = refl
executed_stays (JumpShort by) s = refl
executed_stays Hlt s = refl
executed_stays Cmc s = refl
executed_stays Clc s = refl
executed_stays Stc s = refl
executed_stays (TestImm rm imm) s = tested_stays s _ _ _
executed_stays (Unary op wide rm) s = unary_stays s op wide rm
executed_stays (IncDec down wide rm) s = counted_stays s down wide rm
executed_stays (CallRm rm) s = push_stays s _
executed_stays (JumpRm rm) s = refl
executed_stays (PushRm rm) s = push_stays s _

-- where a step goes on
abbrev GoesOnStaying : Outcome → State → Type 0
GoesOnStaying (GoesOn t event) s = Stays t s
GoesOnStaying o s = Unit {0}

completed_stays : (t : Option State) (s : State) → MayStay t s → GoesOnStaying (completed t) s
completed_stays None s may = tt
completed_stays (Some t) s may = may

does_stay : (i : Instr) (s : State) (o : Outcome) → Does i s o → GoesOnStaying o s
does_stay (In port) s o (value, fits, is) = subst (λ x. GoesOnStaying x s) (sym is) (byte_stays s 0 value)
does_stay (Out port) s o is = subst (λ x. GoesOnStaying x s) (sym is) refl
does_stay Hlt s o is = subst (λ x. GoesOnStaying x s) (sym is) tt
does_stay i s o is = subst (λ x. GoesOnStaying x s) (sym is) (completed_stays (executed i s) s (executed_stays i s))

step_stays : (s t : State) (event : Event) → Steps s (GoesOn t event) → Stays t s
step_stays s t event (inl (i, stands, does)) = does_stay i (past s (length (bytes_of i))) (GoesOn t event) does
step_stays s t event (inr (none, is)) = absurd (cc)

pub run_stays : (n : ℕ) (s : State) (events : List Event) (t : State) → Runs n s events t → t.code_segment ≡ s.code_segment
run_stays zero s events t (none, is) = ap (λ x. x.code_segment) is
run_stays (suc n) s events t (u, before, event, runs, steps, is) = step_stays u t event steps ∙ run_stays n s before u runs
