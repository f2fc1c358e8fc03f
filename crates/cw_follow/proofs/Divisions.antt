-- What the code of quotients does.
use Rattle.std.proofs.Common.{◌≡◌, ◌≢◌, ℕ, zero, suc, ◌+◌, ◌*◌, ◌%◌, ◌<◌, ◌≤◌, Bool, true, false, ℤ, pos, negsuc, unsigned_abs, List, [], ◌∷◌, refl, sym, ap, ◌∙◌, subst, arith, lit<, lit≤}
use Rattle.std.proofs.lemmas.Bool.{ne_eqb}
use Rattle.std.proofs.lemmas.Int.{ints}
use Rattle.std.specs.List.{All}
use Rattle.std.specs.Prelude.{◌==◌, if◌then◌else◌}
use Rattle.cw_i86.specs.declared.instr.Instr.TheVariants as i86
use Rattle.cw_i86.specs.declared.instr.Imm.TheVariants as imm
use Rattle.cw_i86.specs.declared.instr.Rm.TheVariants as rms
use Rattle.cw_follow.proofs.Watched.{Watched}
use Rattle.cw_word.specs.FixedPoint.{FitsWord, scaled_quotient}
use Rattle.cw_word.specs.Word.{signed, unsigned}
use Rattle.cw_unit.specs.Stop.{Overflow, ZeroDivisor}
use Rattle.cw_unit.specs.Words.{Operand, Words, Changed, put, put_if, put_value}
use Rattle.cw_unit.specs.Operation.{Divide, divide, perform}
use Rattle.cw_order.specs.FittingWords.{OperandFits}
use Rattle.cw_tmpl.specs.Library.{stop_place, quotient_up_place, quotient_down_place}
use Rattle.cw_routines.specs.Results.{Quiet, InLibrary, WordRoutine}
use Rattle.cw_routines.proofs.Facts.{unsigned_pos}
use Rattle.cw_routines.proofs.Numbers.{fits_true}
use Rattle.cw_follow.proofs.Chains.{Is, Leads, view, seen, divided, last}
use Rattle.cw_follow.proofs.Straight.{Move, Pop, Number, Sign, straight}
use Rattle.cw_follow.proofs.Stacks.{level, record_of}
use Rattle.cw_follow.proofs.Orders.{Checked, later, further, further_on}
use Rattle.cw_order.specs.OrderState.{operand_words}
use Rattle.cw_follow.proofs.Operands.{Setting, words, One, Two, LandedWith, DoesHere, taking_one, taking_two, result, calls_stop}
use Rattle.cw_follow.proofs.Called.{Then, parts, tests_divisor, by_routine}
use Rattle.cw_follow.proofs.Standing.{Has, HasAll, HasWord}

module _ (c : Setting) (memory : List ℤ) (input output : List ℕ) where
  -- the word of a number other than 0
  not_zero : (y : ℤ) → FitsWord y → y ≢ pos 0 → unsigned y ≢ 0
  not_zero y fy ne e = ne (sym (c.rows.words.numbers.words.back y fy) ∙ ap signed e)

  divided_by : (s x y : ℤ) (w : Words) → y ≢ pos 0 → divide s x y w ≡ put_value (scaled_quotient x y s) w
  divided_by s x (pos zero) w ne = absurd (ne refl)
  divided_by s x (pos (suc n)) w ne = refl
  divided_by s x (negsuc n) w ne = refl

  -- the test of the divisor, and the call of a routine behind it
  abbrev TestCode : (none by count line to : ℕ) → ℕ → Type 0
  TestCode none by count line to k =
      Has c.image k (i86.AluRm 1 true true 3 (rms.Reg 3)) × (Has c.image (k + 2) (i86.JumpIf 5 5) × (Has c.image (k + 2 + 2) (i86.Call none) × (HasWord c.image (k + 2 + 2 + 3) line
      × Then c.image (k + 2 + 2 + 3 + 2) (i86.MovImm 1 (imm.Word count) ∷ i86.Call by ∷ []) (λ k. Checked c.image k to line))))

  abbrev pub DivideCode : ℕ → (none by count line to : ℕ) → Type 0
  DivideCode at none by count line to = Then c.image at (i86.Mov true true 3 (rms.Reg 0) ∷ i86.Pop 0 ∷ []) (TestCode none by count line to)

  divides : {p : Watched} {at : ℕ} (to place bound count none by line : ℕ) (s : ℤ) (operands : List Operand) → line < 65536
      → (at + 2 + 1 + 2 + 2 + 3 + none) % 65536 ≡ stop_place ZeroDivisor % 65536 → (at + 2 + 1 + 2 + 2 + 3 + 2 + 3 + 3 + by) % 65536 ≡ place % 65536
      → ((x y : ℤ) → FitsWord x → FitsWord y → y ≢ pos 0 → (quiet : ℕ → Bool) → InLibrary quiet → WordRoutine (Quiet quiet) c.image.bytes place bound count x y (scaled_quotient x y s))
      → operand_words operands < level c.acts → All OperandFits operands → DivideCode at none by count line to → LandedWith c memory input output at true operands p
      → DoesHere c memory input output (20 + bound) to true line p (perform c.program.limits.area (Divide s) (words operands memory input output))
  divides {p} {at} to place bound count none by line s operands small arrives0 arrives1 law roomy fits i =
      taking_two c memory input output (20 + bound) to true line (divide s) does operands roomy fits
    where
      test : ℕ
      test = at + 2 + 1

      -- as far as the jump
      tested : (x y : ℤ) (rest : List Operand) (l : Two c memory input output at x y rest p)
          → Leads output 4 p
          (Is c.image (if unsigned y == 0 then test + 4 else test + 4 + 5) (view (unsigned x) l.cx l.dx (unsigned y) (2 * suc (suc l.top)) (record_of c.acts) l.si c.program.limits.area false l.cells l.stack l.left l.told))
      tested x y rest l =
          let acts = Move 3 0 ∷ Pop 0 (suc l.top) (unsigned x) ∷ [] in
          let ps = parts c.image at acts (TestCode none by count line to) i in
          straight c.rows acts {n = 2} l.kept.wrote ps.0 (tt, (l.next, tt)) l.is (λ q t. tests_divisor c.rows 5 (lit< tt) l.kept.wrote (ps.1.0, (ps.1.1.0, tt)) t)

      by_number : (x y : ℤ) (rest : List Operand) → y ≢ pos 0 → FitsWord x → FitsWord y → Two c memory input output at x y rest p
          → DoesHere c memory input output (20 + bound) to true line p (divide s x y (words rest memory input output))
      by_number x y rest ne fx fy l =
          let z = scaled_quotient x y s in
          let w = words rest memory input output in
          let there : (if unsigned y == 0 then test + 4 else test + 4 + 5) ≡ test + 2 + 2 + 3 + 2 =
          ap (λ b. if b then test + 4 else test + 4 + 5) (ne_eqb (unsigned y) 0 (not_zero y fy ne)) ∙ (let f : test + 4 + 5 ≡ test + 2 + 2 + 3 + 2 = omega arith in f) in
          subst (λ o. DoesHere c memory input output (20 + bound) to true line p o) (sym (divided_by s x y w ne))
          (later c.program c.image (16 + bound) to c.g true line c.acts 4 (20 + bound) (put_value z w) (omega arith) (tested x y rest l)
          (λ q t. by_routine c memory input output to place bound count by line (suc l.top) x y z rest arrives1 small l.low (law x y fx fy ne) i.1.1.1.1.1.1 l.under l.kept (seen there refl t)))

      does : (x y : ℤ) (rest : List Operand) → FitsWord x → FitsWord y → Two c memory input output at x y rest p
          → DoesHere c memory input output (20 + bound) to true line p (divide s x y (words rest memory input output))
      does x (pos zero) rest fx fy l =
          let low = l.low in
          let there : test + 4 ≡ test + 2 + 2 = omega arith in
          further_on 4 13 (20 + bound) (omega arith) (tested x (pos 0) rest l) (λ q t.
          further 13 (lit≤ tt) (lit< tt)
          (calls_stop c memory input output ZeroDivisor (suc l.top) none line tt small (omega arith) arrives0 l.kept i.1.1.1.1.0 i.1.1.1.1.1.0 (seen there refl t)))
      does x (pos (suc n)) rest fx fy l = by_number x (pos (suc n)) rest (λ q. absurd (cc)) fx fy l
      does x (negsuc n) rest fx fy l = by_number x (negsuc n) rest (λ q. absurd (cc)) fx fy l

  -- a number in the instruction: it never stops
  pub divides_by_number : {p : Watched} {at : ℕ} (to line n : ℕ) (operands : List Operand) → 2 ≤ n → n < 32768 → at + 6 ≡ to → operand_words operands < level c.acts → All OperandFits operands
      → HasAll c.image at (i86.MovImm 3 (imm.Word n) ∷ i86.Cwd ∷ i86.Unary 7 true (rms.Reg 3) ∷ []) → LandedWith c memory input output at true operands p
      → DoesHere c memory input output 3 to true line p (perform c.program.limits.area (Divide (pos 0)) (put (pos n) (words operands memory input output)))
  divides_by_number {p} {at} to line n operands two short e roomy fits i = taking_one c memory input output 3 to true line (λ x v. divide (pos 0) x (pos n) v) does operands roomy fits
    where
      does : (x : ℤ) (rest : List Operand) → FitsWord x → One c memory input output at x rest p → DoesHere c memory input output 3 to true line p (divide (pos 0) x (pos n) (words rest memory input output))
      does x rest fx l =
          let z = scaled_quotient x (pos n) (pos 0) in
          let w = words rest memory input output in
          let fn : FitsWord (pos n) = omega (arith, ints) in
          let small : n < 65536 = omega arith in
          let e' : at + 3 + 1 + 2 ≡ to = omega arith in
          let ne : pos n ≢ pos 0 = λ q. (let zero_is : n ≡ 0 = ap unsigned_abs q in omega arith) in
          let is : divide (pos 0) x (pos n) w ≡ Changed (put z w) = divided_by (pos 0) x (pos n) w ne ∙ ap (λ t. put_if t Overflow z w) (fits_true z (c.rows.quotient_fits x (pos n) fx two)) in
          subst (λ o. DoesHere c memory input output 3 to true line p o) (sym is)
          (further 3 (lit≤ tt) (lit< tt)
          (straight c.rows (Number 3 n ∷ Sign ∷ []) {n = 1} l.kept.wrote (i.0, (i.1.0, tt)) (tt, (tt, tt)) l.is (λ q t.
          last c.rows t l.kept.wrote (result c memory input output to (suc l.top) z rest e' refl l.under l.kept (divided c.rows x (pos n) i.1.1.0 fx fn two refl refl (sym (unsigned_pos n small)) t)))))

  pub divides_up : {p : Watched} {at : ℕ} (to none by line k : ℕ) (operands : List Operand) → line < 65536 → k ≤ 16
      → (at + 2 + 1 + 2 + 2 + 3 + none) % 65536 ≡ stop_place ZeroDivisor % 65536 → (at + 2 + 1 + 2 + 2 + 3 + 2 + 3 + 3 + by) % 65536 ≡ quotient_up_place % 65536
      → operand_words operands < level c.acts → All OperandFits operands → DivideCode at none by k line to → LandedWith c memory input output at true operands p
      → DoesHere c memory input output 46 to true line p (perform c.program.limits.area (Divide (pos k)) (words operands memory input output))
  divides_up to none by line k operands small few arrives0 arrives1 roomy fits i l =
      divides to quotient_up_place 26 k none by line (pos k) operands small arrives0 arrives1
      (λ x y fx fy ne quiet in_library. c.rows.routines.quotient_up quiet c.image.bytes c.library in_library x y k fx fy ne few) roomy fits i l

  pub divides_down : {p : Watched} {at : ℕ} (to none by line j : ℕ) (operands : List Operand) → line < 65536 → j < 15
      → (at + 2 + 1 + 2 + 2 + 3 + none) % 65536 ≡ stop_place ZeroDivisor % 65536 → (at + 2 + 1 + 2 + 2 + 3 + 2 + 3 + 3 + by) % 65536 ≡ quotient_down_place % 65536
      → operand_words operands < level c.acts → All OperandFits operands → DivideCode at none by (j + 1) line to → LandedWith c memory input output at true operands p
      → DoesHere c memory input output 44 to true line p (perform c.program.limits.area (Divide (negsuc j)) (words operands memory input output))
  divides_down to none by line j operands small few arrives0 arrives1 roomy fits i l =
      let count : suc j ≡ j + 1 = omega arith in
      divides to quotient_down_place 24 (j + 1) none by line (negsuc j) operands small arrives0 arrives1
      (λ x y fx fy ne quiet in_library.
      subst (λ n. WordRoutine (Quiet quiet) c.image.bytes quotient_down_place 24 n x y (scaled_quotient x y (negsuc j))) count
      (c.rows.routines.quotient_down quiet c.image.bytes c.library in_library x y j fx fy ne few)) roomy fits i l
