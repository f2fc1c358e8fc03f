-- The tests for the numbers of the rows, and for bytes that begin with those of an instruction.
use Rattle.std.proofs.Common.{◌≡◌, ◌≢◌, ℕ, ◌<◌, Bool, true, false, List, [], ◌∷◌, ◌++◌, refl, sym, ap, subst, ◌∙◌}
use Rattle.std.proofs.lemmas.Bool.{ltb-true, lt-ltb, eqb-true, eq-eqb, ne_eqb, not-true}
use Rattle.std.specs.Prelude.{nat_lt, nat_eq, not, ◌&&◌, Option, Some, None}
use Rattle.cw_i86.specs.declared.instr.Place.{Place}
use Rattle.cw_i86.specs.declared.instr.Place.TheVariants.{Direct, Plain, Near, Far}
use Rattle.cw_i86.specs.declared.instr.Rm.{Rm}
use Rattle.cw_i86.specs.declared.instr.Rm.TheVariants as rms
use Rattle.cw_i86.specs.declared.instr.Imm.{Imm}
use Rattle.cw_i86.specs.declared.instr.Imm.TheVariants.{Byte, Word}
use Rattle.cw_i86.specs.declared.instr.Instr.{Instr}
use Rattle.cw_i86.specs.declared.instr.Instr.TheVariants.{AluRm, AluAcc, Inc, Dec, Push, Pop, JumpIf, AluImm, AluShort, TestRm, XchgRm, Mov, Lea, XchgAx, MovAcc, TestAcc, MovImm, RetAdd, MovRm, Shift, Loop, In, Out, Call, Jump, JumpShort, TestImm, Unary, IncDec, CallRm, JumpRm, PushRm}
use Rattle.cw_i86.specs.Encoding.{bytes_of, IsInstr, IsRm, IsPlace, IsImm, BeginsWith}
use Rattle.cw_dec86.specs.Rows.{instr_at}
use Rattle.cw_i86.specs.State.{State}
use Rattle.cw_i86.specs.MachineRun.{code_at, Stands}
use Rattle.cw_run86.specs.Fetching.{is_instr, is_rm, is_place, is_imm, begins, tested, if_it_stands, instruction_at}

-- ---- tests that tell

pub record Tells (b : Bool) (P : Type 0) : Type 0 where
  pub yes : b ≡ true → P
  pub back : P → b ≡ true

lt_tells : (a b : ℕ) → Tells (nat_lt a b) (a < b)
lt_tells a b = record { yes = ltb-true a b; back = lt-ltb a b }

eq_not_true : (a b : ℕ) → not (nat_eq a b) ≡ true → a ≢ b
eq_not_true a b e same = let is : nat_eq a b ≡ true = eq-eqb a b same in let no : nat_eq a b ≡ false = not-true (nat_eq a b) e in absurd cc

ne_tells : (a b : ℕ) → Tells (not (nat_eq a b)) (a ≢ b)
ne_tells a b = record { yes = eq_not_true a b; back = λ ne. ap not (ne_eqb a b ne) }

none_tells : Tells true (Unit {0})
none_tells = record { yes = λ e. tt; back = λ u. refl }

pub left_of : (a b : Bool) → (a && b) ≡ true → a ≡ true
left_of true b e = refl
left_of false b e = absurd cc

pub right_of : (a b : Bool) → (a && b) ≡ true → b ≡ true
right_of true b e = e
right_of false b e = absurd cc

both : (a b : Bool) → a ≡ true → b ≡ true → (a && b) ≡ true
both a b e f = ap (λ x. x && b) e ∙ f

and_tells : {a b : Bool} {A B : Type 0} → Tells a A → Tells b B → Tells (a && b) (A × B)
and_tells {a} {b} p q = record { yes = λ e. (p.yes (left_of a b e), q.yes (right_of a b e)); back = λ h. both a b (p.back h.0) (q.back h.1) }

and_3_tells : {a b c : Bool} {A B C : Type 0} → Tells a A → Tells b B → Tells c C → Tells (a && (b && c)) (A × B × C)
and_3_tells p q r =
    let whole = and_tells p (and_tells q r) in
    record { yes = λ e. ((whole.yes e).0, (whole.yes e).1.0, (whole.yes e).1.1); back = λ h. whole.back (h.0, (h.1, h.2)) }

-- ---- the numbers of the rows

place_tells : (place : Place) → Tells (is_place place) (IsPlace place)
place_tells (Direct at) = lt_tells at 65536
place_tells (Plain rm) = and_tells (lt_tells rm 8) (ne_tells rm 6)
place_tells (Near rm by) = and_tells (lt_tells rm 8) (lt_tells by 256)
place_tells (Far rm by) = and_tells (lt_tells rm 8) (lt_tells by 65536)

rm_tells : (rm : Rm) → Tells (is_rm rm) (IsRm rm)
rm_tells (rms.Reg r) = lt_tells r 8
rm_tells (rms.Mem mem) = place_tells mem.place

imm_tells : (imm : Imm) → Tells (is_imm imm) (IsImm imm)
imm_tells (Byte b) = lt_tells b 256
imm_tells (Word w) = lt_tells w 65536

short_tells : (op : ℕ) (rm : Rm) (imm : ℕ) → Tells (is_instr (AluShort op rm imm)) (IsInstr (AluShort op rm imm))
short_tells op rm imm =
    let whole = and_3_tells (lt_tells op 8) (ne_tells op 1) (and_3_tells (ne_tells op 4) (ne_tells op 6) (and_tells (rm_tells rm) (lt_tells imm 256))) in
    record {
      yes = λ e. ((whole.yes e).0, (whole.yes e).1, (whole.yes e).2.0, (whole.yes e).2.1, (whole.yes e).2.2.0, (whole.yes e).2.2.1);
      back = λ h. whole.back (h.0, h.1, (h.2, h.3, (h.4, h.5)));
    }

pushed_tells : (rm : Rm) → Tells (is_instr (PushRm rm)) (IsInstr (PushRm rm))
pushed_tells (rms.Reg r) =
    let whole = and_tells (lt_tells r 8) (ne_tells r 4) in
    record { yes = λ e. ((whole.yes e).0, λ same. (whole.yes e).1 cc); back = λ h. whole.back (h.0, λ e. h.1 (ap rms.Reg e)) }
pushed_tells (rms.Mem mem) =
    let whole = place_tells mem.place in
    record { yes = λ e. (whole.yes e, λ same. absurd cc); back = λ h. whole.back h.0 }

pub instr_tells : (i : Instr) → Tells (is_instr i) (IsInstr i)
instr_tells (AluRm op wide to_reg reg rm) = and_3_tells (lt_tells op 8) (lt_tells reg 8) (rm_tells rm)
instr_tells (AluAcc op imm) = and_tells (lt_tells op 8) (imm_tells imm)
instr_tells (Inc reg) = lt_tells reg 8
instr_tells (Dec reg) = lt_tells reg 8
instr_tells (Push reg) = and_tells (lt_tells reg 8) (ne_tells reg 4)
instr_tells (Pop reg) = and_tells (lt_tells reg 8) (ne_tells reg 4)
instr_tells (JumpIf cond by) = and_tells (lt_tells cond 16) (lt_tells by 256)
instr_tells (AluImm op rm imm) = and_3_tells (lt_tells op 8) (rm_tells rm) (imm_tells imm)
instr_tells (AluShort op rm imm) = short_tells op rm imm
instr_tells (TestRm wide reg rm) = and_tells (lt_tells reg 8) (rm_tells rm)
instr_tells (XchgRm wide reg rm) = and_tells (lt_tells reg 8) (rm_tells rm)
instr_tells (Mov wide to_reg reg rm) = and_tells (lt_tells reg 8) (rm_tells rm)
instr_tells (Lea reg mem) = and_tells (lt_tells reg 8) (place_tells mem.place)
instr_tells (XchgAx reg) = lt_tells reg 8
instr_tells (MovAcc cs wide store at) = lt_tells at 65536
instr_tells (TestAcc imm) = imm_tells imm
instr_tells (MovImm reg imm) = and_tells (lt_tells reg 8) (imm_tells imm)
instr_tells (RetAdd n) = lt_tells n 65536
instr_tells (MovRm rm imm) = and_tells (rm_tells rm) (imm_tells imm)
instr_tells (Shift op wide by_cl rm) = and_3_tells (lt_tells op 8) (ne_tells op 6) (rm_tells rm)
instr_tells (Loop kind by) = and_tells (lt_tells kind 4) (lt_tells by 256)
instr_tells (In port) = lt_tells port 256
instr_tells (Out port) = lt_tells port 256
instr_tells (Call by) = lt_tells by 65536
instr_tells (Jump by) = lt_tells by 65536
instr_tells (JumpShort by) = lt_tells by 256
instr_tells (TestImm rm imm) = and_tells (rm_tells rm) (imm_tells imm)
instr_tells (Unary op wide rm) = and_3_tells (lt_tells op 8) (lt_tells 1 op) (rm_tells rm)
instr_tells (IncDec down wide rm) = rm_tells rm
instr_tells (CallRm rm) = rm_tells rm
instr_tells (JumpRm rm) = rm_tells rm
instr_tells (PushRm rm) = pushed_tells rm
instr_tells _ = none_tells

-- ---- bytes that begin with others

begins_yes : (xs bs : List ℕ) → begins xs bs ≡ true → (rest : List ℕ) × (bs ≡ xs ++ rest)
begins_yes [] bs e = (bs, refl)
begins_yes (x ∷ xs) [] e = absurd cc
begins_yes (x ∷ xs) (b ∷ bs) e =
    let first : x ≡ b = eqb-true x b (left_of (nat_eq x b) (begins xs bs) e) in
    let rest = begins_yes xs bs (right_of (nat_eq x b) (begins xs bs) e) in
    let whole : b ∷ bs ≡ x ∷ xs ++ rest.0 = ap (λ n. n ∷ bs) (sym first) ∙ ap (λ ns. x ∷ ns) rest.1 in
    (rest.0, whole)

begins_back : (xs rest : List ℕ) → begins xs (xs ++ rest) ≡ true
begins_back [] rest = refl
begins_back (x ∷ xs) rest = both (nat_eq x x) (begins xs (xs ++ rest)) (eq-eqb x x refl) (begins_back xs rest)

-- ---- the instruction at CS:IP

-- what the decoder's rows do with the bytes of an instruction
abbrev pub ReadsBack : Type 0
ReadsBack = (i : Instr) (rest : List ℕ) → IsInstr i → instr_at (bytes_of i ++ rest) ≡ Some i

-- the two halves of the law of fetching
abbrev pub Finds : Type 0
Finds = (s : State) (i : Instr) → Stands s i → instruction_at s ≡ Some i

abbrev pub Only : Type 0
Only = (s : State) (i : Instr) → instruction_at s ≡ Some i → Stands s i

pub found : ReadsBack → (s : State) (i : Instr) → Stands s i → instruction_at s ≡ Some i
unfolding instruction_at
found again s i (valid, (rest, e)) =
    let front : begins (bytes_of i) (code_at s) ≡ true = ap (begins (bytes_of i)) e ∙ begins_back (bytes_of i) rest in
    let row : instr_at (code_at s) ≡ Some i = ap instr_at e ∙ again i rest valid in
    let test : (is_instr i && begins (bytes_of i) (code_at s)) ≡ true = both (is_instr i) (begins (bytes_of i) (code_at s)) ((instr_tells i).back valid) front in
    ap (tested (code_at s)) row ∙ ap (λ b. if_it_stands b i) test

stands_if : (b : Bool) (j i : Instr) → if_it_stands b j ≡ Some i → (b ≡ true) × (j ≡ i)
stands_if true j i e = (refl, cc)
stands_if false j i e = absurd cc

stands_tested : (bytes : List ℕ) (row : Option Instr) (i : Instr) → tested bytes row ≡ Some i → IsInstr i × BeginsWith bytes i
stands_tested bytes None i e = absurd cc
stands_tested bytes (Some j) i e =
    let test = stands_if (is_instr j && begins (bytes_of j) bytes) j i e in
    let stands : IsInstr j × BeginsWith bytes j = ((instr_tells j).yes (left_of (is_instr j) (begins (bytes_of j) bytes) test.0), begins_yes (bytes_of j) bytes (right_of (is_instr j) (begins (bytes_of j) bytes) test.0)) in
    subst (λ k. IsInstr k × BeginsWith bytes k) test.1 stands

pub only_found : (s : State) (i : Instr) → instruction_at s ≡ Some i → Stands s i
unfolding instruction_at
only_found s i e = stands_tested (code_at s) (instr_at (code_at s)) i e
