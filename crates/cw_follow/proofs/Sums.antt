-- What the code of sums, differences and negatives does.
use Rattle.std.proofs.Common.{◌≡◌, ℕ, suc, ◌+◌, ◌<◌, true, not, ℤ, ◌+ℤ◌, ◌-ℤ◌, neg_ℤ, List, [], ◌∷◌, sym, ap, ◌∙◌, subst, arith, lit≤}
use Rattle.std.proofs.lemmas.Int.{ints}
use Rattle.std.specs.List.{All}
use Rattle.cw_i86.specs.declared.instr.Instr.TheVariants as i86
use Rattle.cw_i86.specs.declared.instr.Rm.TheVariants as rms
use Rattle.cw_run86.specs.Views.{word_sum, sum_overflows}
use Rattle.cw_word.specs.FixedPoint.{FitsWord, fits_word}
use Rattle.cw_word.specs.Word.{unsigned}
use Rattle.cw_unit.specs.Words.{Operand, put_value}
use Rattle.cw_unit.specs.Operation.{Add, Subtract, Negate, perform}
use Rattle.cw_order.specs.FittingWords.{OperandFits}
use Rattle.cw_order.specs.OrderState.{operand_words}
use Rattle.cw_follow.proofs.Watched.{Watched}
use Rattle.cw_follow.proofs.Chains.{done}
use Rattle.cw_follow.proofs.Straight.{Move, Pop, Sum, Difference, Negative, straight}
use Rattle.cw_follow.proofs.Stacks.{level}
use Rattle.cw_follow.proofs.Orders.{Checked, later, checks_end}
use Rattle.cw_follow.proofs.Operands.{Setting, words, One, Two, LandedWith, DoesHere, taking_one, taking_two}
use Rattle.cw_follow.proofs.Numbers.{sum_overflows_is, difference_overflows_is, negative_overflows_is, sum_is, difference_is, negative_is}
use Rattle.cw_follow.proofs.Standing.{Has}

module _ (c : Setting) (memory : List ℤ) (input output : List ℕ) {p : Watched} {at : ℕ} (to line : ℕ) (operands : List Operand) (small : line < 65536) (room : operand_words operands < level c.acts) (fits : All OperandFits operands) where
  pub adds : Has c.image at (i86.Pop 3) × (Has c.image (at + 1) (i86.AluRm 0 true true 0 (rms.Reg 3)) × Checked c.image (at + 1 + 2) to line) → LandedWith c memory input output at true operands p
      → DoesHere c memory input output 16 to true line p (perform c.program.limits.area Add (words operands memory input output))
  adds i = taking_two c memory input output 16 to true line (λ x y v. put_value (x +ℤ y) v) does operands room fits
    where
      does : (x y : ℤ) (rest : List Operand) → FitsWord x → FitsWord y → Two c memory input output at x y rest p → DoesHere c memory input output 16 to true line p (put_value (x +ℤ y) (words rest memory input output))
      does x y rest fx fy l =
          let turned : y +ℤ x ≡ x +ℤ y = omega (arith, ints) in
          let some : 0 < suc (suc l.top) = omega arith in
          let tests : sum_overflows (unsigned y) (unsigned x) ≡ not (fits_word (x +ℤ y)) = sum_overflows_is c.rows.words y x fy fx ∙ ap (λ z. not (fits_word z)) turned in
          let value : FitsWord (x +ℤ y) → word_sum (unsigned y) (unsigned x) ≡ unsigned (x +ℤ y) = λ f. sum_is c.rows.words y x fy fx (subst FitsWord (sym turned) f) ∙ ap unsigned turned in
          later c.program c.image 14 to c.g true line c.acts 2 16 (put_value (x +ℤ y) (words rest memory input output)) (lit≤ tt)
          (straight c.rows (Pop 3 (suc l.top) (unsigned x) ∷ Sum 0 3 ∷ []) l.kept.wrote (i.0, (i.1.0, tt)) (l.next, (tt, tt)) l.is (λ q t. done t))
          (λ q t. checks_end c.rows c.program c.image c.g c.acts to (suc (suc l.top)) line (x +ℤ y) rest memory input output c.library c.few some small tests value l.under l.kept i.1.1 t)

  pub subtracts : Has c.image at (i86.Mov true true 3 (rms.Reg 0)) × (Has c.image (at + 2) (i86.Pop 0) × (Has c.image (at + 2 + 1) (i86.AluRm 5 true true 0 (rms.Reg 3)) × Checked c.image (at + 2 + 1 + 2) to line)) → LandedWith c memory input output at true operands p
      → DoesHere c memory input output 17 to true line p (perform c.program.limits.area Subtract (words operands memory input output))
  subtracts i = taking_two c memory input output 17 to true line (λ x y v. put_value (x -ℤ y) v) does operands room fits
    where
      does : (x y : ℤ) (rest : List Operand) → FitsWord x → FitsWord y → Two c memory input output at x y rest p → DoesHere c memory input output 17 to true line p (put_value (x -ℤ y) (words rest memory input output))
      does x y rest fx fy l =
          let some : 0 < suc (suc l.top) = omega arith in
          later c.program c.image 14 to c.g true line c.acts 3 17 (put_value (x -ℤ y) (words rest memory input output)) (lit≤ tt)
          (straight c.rows (Move 3 0 ∷ Pop 0 (suc l.top) (unsigned x) ∷ Difference 0 3 ∷ []) l.kept.wrote (i.0, (i.1.0, (i.1.1.0, tt))) (tt, (l.next, (tt, tt))) l.is (λ q t. done t))
          (λ q t.
          checks_end c.rows c.program c.image c.g c.acts to (suc (suc l.top)) line (x -ℤ y) rest memory input output c.library c.few some small
          (difference_overflows_is c.rows.words x y fx fy) (difference_is c.rows.words x y fx fy) l.under l.kept i.1.1.1 t)

  pub negates : Has c.image at (i86.Unary 3 true (rms.Reg 0)) × Checked c.image (at + 2) to line → LandedWith c memory input output at true operands p
      → DoesHere c memory input output 15 to true line p (perform c.program.limits.area Negate (words operands memory input output))
  negates i = taking_one c memory input output 15 to true line (λ x v. put_value (neg_ℤ x) v) does operands room fits
    where
      does : (x : ℤ) (rest : List Operand) → FitsWord x → One c memory input output at x rest p → DoesHere c memory input output 15 to true line p (put_value (neg_ℤ x) (words rest memory input output))
      does x rest fx l =
          let some : 0 < suc l.top = omega arith in
          later c.program c.image 14 to c.g true line c.acts 1 15 (put_value (neg_ℤ x) (words rest memory input output)) (lit≤ tt)
          (straight c.rows (Negative 0 ∷ []) l.kept.wrote (i.0, tt) (tt, tt) l.is (λ q t. done t))
          (λ q t.
          checks_end c.rows c.program c.image c.g c.acts to (suc l.top) line (neg_ℤ x) rest memory input output c.library c.few some small
          (negative_overflows_is c.rows.words x fx) (negative_is c.rows.words x fx) l.under l.kept i.1 t)
