-- What the code of indexes and addresses does, and that of multiplications by a number.
use Rattle.std.proofs.Common.{◌≡◌, ℕ, suc, ◌+◌, ◌*◌, ◌%◌, ◌<◌, ◌≤◌, Bool, true, false, not, ℤ, pos, negsuc, ◌-ℤ◌, ◌*ℤ◌, List, [], ◌∷◌, refl, sym, ap, ap₂, ◌∙◌, subst, arith, lit<, lit≤}
use borrow.Author.Tests.{ltb-true, eqb-true, eqb-false}
use Rattle.std.proofs.lemmas.Bool.{lt-ltb, false≢true}
use Rattle.std.specs.List.{All}
use Rattle.std.specs.Prelude.{◌==◌, int_le, ◌&&◌}
use Rattle.cw_i86.specs.declared.instr.Instr.{Instr}
use Rattle.cw_i86.specs.declared.instr.Instr.TheVariants as i86
use Rattle.cw_i86.specs.declared.instr.Imm.TheVariants as imm
use Rattle.cw_i86.specs.declared.instr.Rm.TheVariants as rms
use Rattle.cw_i86.specs.Sums.{overflows}
use Rattle.cw_run86.specs.Processor.{Told}
use Rattle.cw_routines.proofs.Facts.{fits_tested, unsigned_pos}
use Rattle.cw_follow.proofs.Watched.{Watched}
use Rattle.cw_run86.specs.Views.{compare as compare_of, word_difference, difference_overflows, product_low, product_high, product_overflows, Comparison, NotLess, AtMost, words_compare, compares, condition_of, with_number}
use Rattle.cw_word.specs.FixedPoint.{FitsWord, fits_word}
use Rattle.cw_word.specs.Word.{unsigned, low_word}
use Rattle.cw_unit.specs.Stop.{Overflow, AddressRange, IndexRange}
use Rattle.cw_unit.specs.Words.{Operand, Words, Outcome, Changed, Refused, put, put_if, is_below, number_of}
use Rattle.cw_unit.specs.Operation.{Form, Taken, InBounds, perform}
use Rattle.cw_order.specs.FittingWords.{OperandFits}
use Rattle.cw_order.specs.OrderChanges.{put_index, index}
use Rattle.cw_tmpl.specs.Library.{stop_place}
use Rattle.cw_tmpl.specs.Templates.{indexes_between}
use Rattle.cw_follow.proofs.Rows.{Rows}
use Rattle.cw_follow.proofs.Chains.{Is, IsCompared, Leads, view, seen, compare_number, compared, compared_jumps, compared_passes, compared_more, jump_below, pass_above, jumps_below, passes_above, more, last, done}
use Rattle.cw_follow.proofs.Straight.{Number, Difference, Negative, Product, straight}
use Rattle.cw_follow.proofs.Routines.{leads_on}
use Rattle.cw_follow.proofs.Stacks.{level, record_of}
use Rattle.cw_follow.proofs.Orders.{Kept, Check, Checked, later, further, checks, checks_end}
use Rattle.cw_order.specs.OrderState.{operand_words}
use Rattle.cw_follow.proofs.Operands.{Setting, words, allowed, One, result, LandedWith, DoesHere, taking_one, calls_stop}
use Rattle.cw_follow.proofs.Called.{Then, parts}
use Rattle.cw_follow.proofs.Numbers.{left, right, overflows_same, difference_overflows_is, difference_is}
use Rattle.cw_follow.proofs.Indexed.{below_count, past_count}
use Rattle.cw_follow.proofs.Facts.{low_is, top_overflows, top_low, top_product, not_below}
use Rattle.cw_follow.proofs.Standing.{Has, HasWord, Image}

-- a test for an overflow, and something more behind it
abbrev pub CheckThen : (image : Image) → (at by line : ℕ) → (ℕ → Type 0) → Type 0
CheckThen image at by line T = Has image at (i86.JumpIf 1 5) × (Has image (at + 2) (i86.Call by) × (HasWord image (at + 2 + 3) line × T (at + 2 + 3 + 2)))

pub check_of : (image : Image) (at by line : ℕ) (T : ℕ → Type 0) → CheckThen image at by line T → Check image at by line
check_of image at by line T h = (h.0, (h.1.0, (h.1.1.0, tt)))

-- the instructions of a multiplication by a number
abbrev pub times_code : Bool → (n : ℕ) → List Instr
times_code true n = i86.Unary 3 true (rms.Reg 0) ∷ i86.MovImm 3 (imm.Word n) ∷ i86.Unary 5 true (rms.Reg 3) ∷ []
times_code false n = i86.MovImm 3 (imm.Word n) ∷ i86.Unary 5 true (rms.Reg 3) ∷ []

-- the place behind them, where the test is
abbrev pub test_place : Bool → ℕ → ℕ
test_place true at = at + 2 + 3 + 2
test_place false at = at + 3 + 2

-- products of words
module _ (rows : Rows) (x y : ℤ) (fx : FitsWord x) (fy : FitsWord y) where
  pub product_overflows_is : product_overflows (unsigned x) (unsigned y) ≡ not (fits_word (x *ℤ y))
  product_overflows_is = ap₂ (λ a b. overflows 32768 (a *ℤ b)) (rows.words.numbers.words.back x fx) (rows.words.numbers.words.back y fy) ∙ overflows_same (x *ℤ y)

  pub product_is : FitsWord (x *ℤ y) → product_low (unsigned x) (unsigned y) ≡ unsigned (x *ℤ y)
  product_is f = ap₂ (λ a b. low_word (a *ℤ b)) (rows.words.numbers.words.back x fx) (rows.words.numbers.words.back y fy) ∙ low_is (x *ℤ y) f

-- those of a number that a template multiplies by
module _ (rows : Rows) (x : ℤ) (fx : FitsWord x) where
  pub times_is : (n : ℕ) → n ≤ 32768 → FitsWord (x *ℤ pos n) → product_low (unsigned x) n ≡ unsigned (x *ℤ pos n)
  times_is n most f = cases (n == 32768) refl
    where
      cases : (b : Bool) → (n == 32768) ≡ b → product_low (unsigned x) n ≡ unsigned (x *ℤ pos n)
      cases true is =
          let n_is : n ≡ 32768 = eqb-true n 32768 is in
          subst (λ m. product_low (unsigned x) m ≡ unsigned (x *ℤ pos m)) (sym n_is) (top_product x fx (subst (λ m. FitsWord (x *ℤ pos m)) n_is f))
      cases false is =
          let ne = eqb-false n 32768 is in
          let lt : n < 32768 = omega arith in
          let fn : FitsWord (pos n) = fits_tested (pos n) (lt-ltb n 32768 lt) in
          ap (product_low (unsigned x)) (sym (unsigned_pos n (omega arith))) ∙ product_is rows x (pos n) fx fn f

module _ (c : Setting) (memory : List ℤ) (input output : List ℕ) where
  -- AX times a number, as far as the test
  pub times_tested : {p : Watched} {at cx dx bx si : ℕ} {overflow : Bool} {cells stack : ℕ → ℕ} {left : List ℕ} {told : Told} (b : Bool) (T : ℕ → Type 0) (to n top limit bound line : ℕ) (x : ℤ) (o : Outcome)
      → (n == 32768) ≡ b → n ≤ 32768 → FitsWord x → told.output ≡ output → 3 + limit ≤ bound → Then c.image at (times_code b n) T
      → Is c.image at (view (unsigned x) cx dx bx (2 * suc top) (record_of c.acts) si c.program.limits.area overflow cells stack left told) p
      → ((a d f : ℕ) (overflow : Bool) (q : Watched) → overflow ≡ not (fits_word (x *ℤ pos n)) → (FitsWord (x *ℤ pos n) → a ≡ unsigned (x *ℤ pos n))
      → Is c.image (test_place b at) (view a cx d f (2 * suc top) (record_of c.acts) si c.program.limits.area overflow cells stack left told) q
      → T (test_place b at) → DoesHere c memory input output limit to true line q o)
      → DoesHere c memory input output bound to true line p o
  times_tested {at = at} true T to n top limit bound line x o is most fx wrote le i s on =
      let acts = Negative 0 ∷ Number 3 n ∷ Product 3 ∷ [] in
      let ps = parts c.image at acts T i in
      let a = word_difference 0 (unsigned x) in
      let n_is : n ≡ 32768 = eqb-true n 32768 is in
      let tests : product_overflows a n ≡ not (fits_word (x *ℤ pos n)) =
      subst (λ m. product_overflows a m ≡ not (fits_word (x *ℤ pos m))) (sym n_is) (top_overflows x fx) in
      let low : FitsWord (x *ℤ pos n) → product_low a n ≡ unsigned (x *ℤ pos n) =
      subst (λ m. FitsWord (x *ℤ pos m) → product_low a m ≡ unsigned (x *ℤ pos m)) (sym n_is) (top_low x fx) in
      later c.program c.image limit to c.g true line c.acts 3 bound o le
      (straight c.rows acts wrote ps.0 (tt, (tt, (tt, tt))) s (λ q t. done t))
      (λ q t. on (product_low a n) (product_high a n) n (product_overflows a n) q tests low t ps.1)
  times_tested {at = at} false T to n top limit bound line x o is most fx wrote le i s on =
      let acts = Number 3 n ∷ Product 3 ∷ [] in
      let ps = parts c.image at acts T i in
      let ne = eqb-false n 32768 is in
      let lt : n < 32768 = omega arith in
      let fn : FitsWord (pos n) = fits_tested (pos n) (lt-ltb n 32768 lt) in
      let n_is : unsigned (pos n) ≡ n = unsigned_pos n (omega arith) in
      let tests : product_overflows (unsigned x) n ≡ not (fits_word (x *ℤ pos n)) =
      ap (product_overflows (unsigned x)) (sym n_is) ∙ product_overflows_is c.rows x (pos n) fx fn in
      let low : FitsWord (x *ℤ pos n) → product_low (unsigned x) n ≡ unsigned (x *ℤ pos n) =
      λ f. ap (product_low (unsigned x)) (sym n_is) ∙ product_is c.rows x (pos n) fx fn f in
      later c.program c.image limit to c.g true line c.acts 2 bound o (omega arith)
      (straight c.rows acts wrote ps.0 (tt, (tt, tt)) s (λ q t. done t))
      (λ q t. on (product_low (unsigned x) n) (product_high (unsigned x) n) n (product_overflows (unsigned x) n) q tests low t ps.1)

  -- the top operand times a number, and the check
  pub multiplied : {p : Watched} {at : ℕ} (b : Bool) (to n bound line : ℕ) (x : ℤ) (rest : List Operand)
      → line < 65536 → (n == 32768) ≡ b → n ≤ 32768 → FitsWord x → 17 ≤ bound
      → Then c.image at (times_code b n) (λ k. Checked c.image k to line) → One c memory input output at x rest p
      → DoesHere c memory input output bound to true line p (put_if (fits_word (x *ℤ pos n)) Overflow (x *ℤ pos n) (words rest memory input output))
  multiplied b to n bound line x rest small is most fx le i l =
      let z = x *ℤ pos n in
      let some : 0 < suc l.top = omega arith in
      times_tested b (λ k. Checked c.image k to line) to n l.top 14 bound line x (put_if (fits_word z) Overflow z (words rest memory input output)) is most fx l.kept.wrote (omega arith) i l.is
      (λ a d f overflow q tests value t code.
      checks_end c.rows c.program c.image c.g c.acts to (suc l.top) line z rest memory input output c.library c.few some small tests value l.under l.kept code t)

  -- ---- an index less its lower bound

  pub indexes_less : {p : Watched} {at : ℕ} (to by line : ℕ) (lower : ℤ) (operands : List Operand) → line < 65536 → at + 12 ≡ to
      → (at + 3 + 2 + 2 + 3 + by) % 65536 ≡ stop_place AddressRange % 65536 → FitsWord lower → operand_words operands < level c.acts → All OperandFits operands
      → Then c.image at (i86.MovImm 3 (imm.Word (unsigned lower)) ∷ i86.AluRm 5 true true 0 (rms.Reg 3) ∷ []) (λ k. Check c.image k by line)
      → LandedWith c memory input output at true operands p
      → DoesHere c memory input output 16 to true line p (index (λ i. i -ℤ lower) (words operands memory input output))
  indexes_less {p} {at} to by line lower operands small e arrives fl roomy fits i =
      taking_one c memory input output 16 to true line (λ x v. put_index (x -ℤ lower) v) does operands roomy fits
    where
      does : (x : ℤ) (rest : List Operand) → FitsWord x → One c memory input output at x rest p
          → DoesHere c memory input output 16 to true line p (put_index (x -ℤ lower) (words rest memory input output))
      does x rest fx l =
          let acts = Number 3 (unsigned lower) ∷ Difference 0 3 ∷ [] in
          let ps = parts c.image at acts (λ k. Check c.image k by line) i in
          let some : 0 < suc l.top = omega arith in
          let e' : at + 3 + 2 + 2 + 3 + 2 ≡ to = omega arith in
          later c.program c.image 14 to c.g true line c.acts 2 16 (put_index (x -ℤ lower) (words rest memory input output)) (lit≤ tt)
          (straight c.rows acts l.kept.wrote ps.0 (tt, (tt, tt)) l.is (λ q t. done t))
          (λ q t.
          checks c.rows c.program c.image c.g c.acts AddressRange to (suc l.top) by line (x -ℤ lower) rest memory input output tt c.library c.few some small e' arrives
          (difference_overflows_is c.rows.words x lower fx fl) (difference_is c.rows.words x lower fx fl) l.under l.kept ps.1 t)

  -- ---- addresses of the data area

  inside : (x : ℤ) → is_below x c.program.limits.area ≡ true → (number_of x < c.program.limits.area) × (unsigned x ≡ number_of x)
  inside (pos n) is = let low = c.low in let lt = ltb-true n c.program.limits.area is in (lt, unsigned_pos n (omega arith))
  inside (negsuc n) is = absurd (false≢true is)

  outside : (x : ℤ) → FitsWord x → is_below x c.program.limits.area ≡ false → c.program.limits.area ≤ unsigned x
  outside (pos n) fx is = let e = unsigned_pos n (omega (arith, fx.sfits)) in let ge = not_below n c.program.limits.area is in omega arith
  outside (negsuc n) fx is = let low = c.low in omega (arith, fx.sfits)

  -- the word in AX is compared with the words of the area, which DI has
  abbrev AreaCode : (at by line : ℕ) → Type 0
  AreaCode at by line = Has c.image at (compare_of 0 7) × (Has c.image (at + 2) (i86.JumpIf 2 5) × (Has c.image (at + 2 + 2) (i86.Call by) × (HasWord c.image (at + 2 + 2 + 3) line × Unit {0})))

  pub in_area_tested : {p : Watched} {at : ℕ} (to by line : ℕ) → line < 65536 → at + 9 ≡ to → (at + 2 + 2 + 3 + by) % 65536 ≡ stop_place AddressRange % 65536 → AreaCode at by line
      → (x : ℤ) (b : Bool) (rest : List Operand) → is_below x c.program.limits.area ≡ b → FitsWord x → One c memory input output at x rest p
      → DoesHere c memory input output 15 to true line p (put_if b AddressRange x (words rest memory input output))
  in_area_tested {p} {at} to by line small e arrives i x true rest is fx l =
      let v = view (unsigned x) l.cx l.dx l.bx (2 * suc l.top) (record_of c.acts) l.si c.program.limits.area l.overflow l.cells l.stack l.left l.told in
      let f = inside x is in
      let within = f.0 in
      let same = f.1 in
      let lt : unsigned x < c.program.limits.area = omega arith in
      let e' : at + 2 + 2 + 5 ≡ to = omega arith in
      further 2 (lit≤ tt) (lit< tt)
      (compared c.rows {v = v} 0 7 l.kept.wrote i.0 l.is
      (done (result c memory input output to (suc l.top) x rest e' refl l.under l.kept (jumps_below c.rows {v = v} 0 7 5 lt i.0 i.1.0 l.is))))
  in_area_tested {p} {at} to by line small e arrives i x false rest is fx l =
      let v = view (unsigned x) l.cx l.dx l.bx (2 * suc l.top) (record_of c.acts) l.si c.program.limits.area l.overflow l.cells l.stack l.left l.told in
      let low = l.low in
      further 15 (lit≤ tt) (lit< tt)
      (compared c.rows {v = v} 0 7 l.kept.wrote i.0 l.is
      (calls_stop c memory input output AddressRange l.top by line tt small (omega arith) arrives l.kept i.1.1.0 i.1.1.1.0 (passes_above c.rows {v = v} 0 7 5 (outside x fx is) i.0 i.1.0 l.is)))

  pub in_areas : {p : Watched} {at : ℕ} (to by line : ℕ) (operands : List Operand) → line < 65536 → at + 9 ≡ to → (at + 2 + 2 + 3 + by) % 65536 ≡ stop_place AddressRange % 65536
      → operand_words operands < level c.acts → All OperandFits operands → AreaCode at by line → LandedWith c memory input output at true operands p
      → DoesHere c memory input output 15 to true line p (perform c.program.limits.area (Form Taken) (words operands memory input output))
  in_areas to by line operands small e arrives roomy fits i =
      taking_one c memory input output 15 to true line (λ x v. put_if (is_below x c.program.limits.area) AddressRange x v)
      (λ x rest fx l. in_area_tested to by line small e arrives i x (is_below x c.program.limits.area) rest refl fx l) operands roomy fits

  -- ---- declared bounds

  -- AX is compared with a bound, and a stop stands behind the jump over it
  abbrev pub BoundCode : (bound condition by line : ℕ) → (ℕ → Type 0) → ℕ → Type 0
  BoundCode bound condition by line T k =
      Then c.image k (with_number 7 bound ∷ i86.JumpIf condition 5 ∷ i86.Call by ∷ []) (λ k. HasWord c.image k line × T (k + 2))

  abbrev pub BoundsCode : ℕ → (lower upper : ℤ) → (by1 by2 line : ℕ) → Type 0
  BoundsCode at lower upper by1 by2 line = BoundCode (unsigned lower) 13 by1 line (BoundCode (unsigned upper) 14 by2 line (λ k. Unit {0})) at

  -- AX is compared with so many indexes from 0 on
  module _ {p : Watched} {at word cx dx bx si : ℕ} {overflow : Bool} {cells stack : ℕ → ℕ} {left : List ℕ} {told : Told} (T : ℕ → Type 0) (by line n count : ℕ)
      (k : Kept c.program c.g c.acts memory input output cells stack left told) (i : BoundCode count 2 by line T at)
      (s : Is c.image at (view word cx dx bx (2 * suc n) (record_of c.acts) si c.program.limits.area overflow cells stack left told) p) where
    abbrev Between : Watched → Type 0
    Between = IsCompared c.image (at + 3) (view word cx dx bx (2 * suc n) (record_of c.acts) si c.program.limits.area (difference_overflows word count) cells stack left told) word count

    pub count_passes : word < count → Leads output 2 p (Is c.image (at + 3 + 2 + 5) (view word cx dx bx (2 * suc n) (record_of c.acts) si c.program.limits.area (difference_overflows word count) cells stack left told))
    count_passes lt = compared_more c.rows {Between = Between} s k.wrote (compare_number c.rows count i.0 s) (λ q t. last c.rows t.is k.wrote (jump_below c.rows 5 lt i.1.0 t))

    pub count_stops : (to : ℕ) (loaded : Bool) → line < 65536 → n < level c.acts → (at + 3 + 2 + 3 + by) % 65536 ≡ stop_place IndexRange % 65536 → count ≤ word → DoesHere c memory input output 15 to loaded line p (Refused IndexRange)
    count_stops to loaded small low arrives above =
        further 15 (lit≤ tt) (lit< tt)
        (compared_more c.rows {Between = Between} s k.wrote (compare_number c.rows count i.0 s) (λ q t.
        more c.rows t.is k.wrote (pass_above c.rows 5 above i.1.0 t) (λ q u.
        calls_stop c memory input output IndexRange n by line tt small (omega arith) arrives k i.1.1.0 i.1.1.1.0 u)))

  -- the order that does so where the lower bound is 0
  pub bounds_from_zero : {p : Watched} {at : ℕ} (to by line : ℕ) (upper : ℤ) (operands : List Operand) → line < 65536 → at + 10 ≡ to
      → (at + 3 + 2 + 3 + by) % 65536 ≡ stop_place IndexRange % 65536 → FitsWord upper → operand_words operands < level c.acts → All OperandFits operands
      → BoundCode (indexes_between upper) 2 by line (λ k. Unit {0}) at → LandedWith c memory input output at true operands p
      → DoesHere c memory input output 15 to true line p (perform c.program.limits.area (InBounds (pos 0) upper) (words operands memory input output))
  bounds_from_zero {p} {at} to by line upper operands small e arrives fu roomy fits i =
      taking_one c memory input output 15 to true line (λ x v. put_if (int_le (pos 0) x && int_le x upper) IndexRange x v) (λ x rest fx l. tested x rest fx l (int_le (pos 0) x && int_le x upper) refl) operands roomy fits
    where
      tested : (x : ℤ) (rest : List Operand) → FitsWord x → One c memory input output at x rest p → (b : Bool) → (int_le (pos 0) x && int_le x upper) ≡ b
          → DoesHere c memory input output 15 to true line p (put_if b IndexRange x (words rest memory input output))
      tested x rest fx l true is =
          let end : at + 3 + 2 + 5 ≡ to = omega arith in
          further 2 (lit≤ tt) (lit< tt)
          (leads_on (λ r u. result c memory input output to (suc l.top) x rest end refl l.under l.kept u)
          (count_passes (λ k. Unit {0}) by line l.top (indexes_between upper) l.kept i l.is (below_count upper x fu fx is)))
      tested x rest fx l false is = count_stops (λ k. Unit {0}) by line l.top (indexes_between upper) l.kept i l.is to true small l.low arrives (past_count upper x fu fx is)

  compares_as : (cmp : Comparison) (x y : ℤ) → FitsWord x → FitsWord y → words_compare cmp (unsigned x) (unsigned y) ≡ compares cmp x y
  compares_as cmp x y fx fy = ap₂ (compares cmp) (left c.rows.words x y fx fy) (right c.rows.words x y fx fy)

  -- the top operand is compared with a bound: a stop where the comparison does not hold
  bounded : {p : Watched} {at cx dx bx si : ℕ} {overflow : Bool} {cells stack : ℕ → ℕ} {left : List ℕ} {told : Told} (T : ℕ → Type 0) (cmp : Comparison) (to by line n bound : ℕ) (y x : ℤ) (b : Bool) (o : Outcome)
      → compares cmp x y ≡ b → line < 65536 → n < level c.acts
      → (at + 3 + 2 + 3 + by) % 65536 ≡ stop_place IndexRange % 65536 → FitsWord y → FitsWord x → 15 ≤ bound → Kept c.program c.g c.acts memory input output cells stack left told
      → BoundCode (unsigned y) (condition_of cmp) by line T at
      → Is c.image at (view (unsigned x) cx dx bx (2 * suc n) (record_of c.acts) si c.program.limits.area overflow cells stack left told) p
      → ((overflow : Bool) → Leads output 2 p (Is c.image (at + 3 + 2 + 5) (view (unsigned x) cx dx bx (2 * suc n) (record_of c.acts) si c.program.limits.area overflow cells stack left told))
      → DoesHere c memory input output bound to true line p o)
      → DoesHere c memory input output bound to true line p (allowed b IndexRange o)
  bounded {p} {at} {cx} {dx} {bx} {si} {overflow} {cells} {stack} {left} {told} T cmp to by line n bound y x b o is small low arrives fy fx le k i s on = cases b is
    where
      over : Bool
      over = difference_overflows (unsigned x) (unsigned y)

      lx : unsigned x < 65536
      lx = c.rows.words.numbers.words.unsigned_fits x fx

      ly : unsigned y < 65536
      ly = c.rows.words.numbers.words.unsigned_fits y fy

      Between : Watched → Type 0
      Between = IsCompared c.image (at + 3) (view (unsigned x) cx dx bx (2 * suc n) (record_of c.acts) si c.program.limits.area over cells stack left told) (unsigned x) (unsigned y)

      cases : (t : Bool) → compares cmp x y ≡ t → DoesHere c memory input output bound to true line p (allowed t IndexRange o)
      cases true holds =
          on over
          (compared_more c.rows {Between = Between} s k.wrote (compare_number c.rows (unsigned y) i.0 s) (λ q t.
          last c.rows t.is k.wrote (compared_jumps c.rows cmp 5 lx ly (compares_as cmp x y fx fy ∙ holds) i.1.0 t)))
      cases false fails =
          further 15 le (lit< tt)
          (compared_more c.rows {Between = Between} s k.wrote (compare_number c.rows (unsigned y) i.0 s) (λ q t.
          more c.rows t.is k.wrote (compared_passes c.rows cmp 5 lx ly (compares_as cmp x y fx fy ∙ fails) i.1.0 t) (λ q u.
          calls_stop c memory input output IndexRange n by line tt small (omega arith) arrives k i.1.1.0 i.1.1.1.0 u)))

  both_bounds : (b d : Bool) (x : ℤ) (w : Words) → allowed b IndexRange (allowed d IndexRange (Changed (put x w))) ≡ put_if (b && d) IndexRange x w
  both_bounds true true x w = refl
  both_bounds true false x w = refl
  both_bounds false d x w = refl

  pub bounds_kept : {p : Watched} {at : ℕ} (to by1 by2 line : ℕ) (lower upper : ℤ) (operands : List Operand) → line < 65536 → at + 20 ≡ to
      → (at + 3 + 2 + 3 + by1) % 65536 ≡ stop_place IndexRange % 65536 → (at + 3 + 2 + 3 + 2 + 3 + 2 + 3 + by2) % 65536 ≡ stop_place IndexRange % 65536
      → FitsWord lower → FitsWord upper → operand_words operands < level c.acts → All OperandFits operands
      → BoundsCode at lower upper by1 by2 line → LandedWith c memory input output at true operands p
      → DoesHere c memory input output 17 to true line p (perform c.program.limits.area (InBounds lower upper) (words operands memory input output))
  bounds_kept {p} {at} to by1 by2 line lower upper operands small e arrives1 arrives2 fl fu roomy fits i =
      taking_one c memory input output 17 to true line (λ x v. put_if (int_le lower x && int_le x upper) IndexRange x v) does operands roomy fits
    where
      does : (x : ℤ) (rest : List Operand) → FitsWord x → One c memory input output at x rest p
          → DoesHere c memory input output 17 to true line p (put_if (int_le lower x && int_le x upper) IndexRange x (words rest memory input output))
      does x rest fx l =
          let w = words rest memory input output in
          let inner = allowed (int_le x upper) IndexRange (Changed (put x w)) in
          let first : at + 3 + 2 + 5 ≡ at + 3 + 2 + 3 + 2 = omega arith in
          let end : at + 3 + 2 + 3 + 2 + 3 + 2 + 5 ≡ to = omega arith in
          subst (λ o. DoesHere c memory input output 17 to true line p o) (both_bounds (int_le lower x) (int_le x upper) x w)
          (bounded (BoundCode (unsigned upper) 14 by2 line (λ k. Unit {0})) NotLess to by1 line l.top 17 lower x (int_le lower x) inner refl small l.low arrives1 fl fx (lit≤ tt) l.kept i l.is (λ f lead.
          later c.program c.image 15 to c.g true line c.acts 2 17 inner (lit≤ tt) lead (λ q t.
          bounded (λ k. Unit {0}) AtMost to by2 line l.top 15 upper x (int_le x upper) (Changed (put x w)) refl small l.low arrives2 fu fx (lit≤ tt) l.kept i.1.1.1.1 (seen first refl t) (λ g lead.
          further 2 (lit≤ tt) (lit< tt) (leads_on (λ r u. result c memory input output to (suc l.top) x rest end refl l.under l.kept u) lead)))))
