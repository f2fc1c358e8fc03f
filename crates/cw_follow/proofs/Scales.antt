-- What the code of scaling and of products does.
use Rattle.std.proofs.Common.{◌≡◌, ℕ, suc, ◌+◌, ◌-◌, ◌*◌, ◌%◌, ◌^◌, ◌<◌, ◌≤◌, Bool, true, false, not, ℤ, pos, negsuc, ◌-ℤ◌, ◌*ℤ◌, List, [], ◌∷◌, refl, sym, ap, ap₂, ◌∙◌, subst, arith, lit<, lit≤, pow_pos, pow_mono, pow-add, FitsSigned, w32}
use Rattle.std.proofs.lemmas.Int.{ints}
use Rattle.std.proofs.Math.IntN.{*ℤ_comm}
use Rattle.std.specs.List.{All}
use Rattle.std.specs.Prelude.{◌==◌}
use Rattle.cw_i86.specs.declared.instr.Instr.TheVariants as i86
use Rattle.cw_i86.specs.declared.instr.Imm.TheVariants as imm
use Rattle.cw_i86.specs.declared.instr.Rm.TheVariants as rms
use Rattle.cw_follow.proofs.Watched.{Watched}
use Rattle.cw_run86.specs.Views.{word_down_signed, product_low, product_high, product_overflows}
use Rattle.cw_word.specs.FixedPoint.{FitsWord, fits_word, floor_div, floor_scaled, rescaled, scaled_product}
use Rattle.cw_word.specs.Word.{signed, unsigned, signed_pair}
use Rattle.cw_unit.specs.Stop.{Overflow}
use Rattle.cw_unit.specs.Words.{Operand, Words, Changed, put, put_if, put_value}
use Rattle.cw_unit.specs.Operation.{Rescale, Multiply, perform}
use Rattle.cw_order.specs.FittingWords.{OperandFits}
use Rattle.cw_tmpl.specs.Library.{stop_place, product_place}
use Rattle.cw_routines.specs.Results.{Quiet, InLibrary, WordRoutine}
use Rattle.cw_routines.proofs.Facts.{fits_tested}
use Rattle.cw_routines.proofs.Numbers.{fits_true}
use Rattle.cw_follow.proofs.Chains.{seen, done}
use Rattle.cw_follow.proofs.Straight.{Pop, Number, Move, DownSigned, Product, straight}
use Rattle.cw_follow.proofs.Routines.{with_ax}
use Rattle.cw_follow.proofs.Stacks.{level}
use Rattle.cw_follow.proofs.Orders.{Checked, later, further, checks_end}
use Rattle.cw_order.specs.OrderState.{operand_words}
use Rattle.cw_follow.proofs.Operands.{Setting, words, allowed, One, Two, result, LandedWith, DoesHere, taking_one, taking_two, guards}
use Rattle.cw_follow.proofs.Called.{Then, parts, by_routine}
use Rattle.cw_follow.proofs.Facts.{stays_out}
use Rattle.cw_follow.proofs.Addresses.{CheckThen, check_of, times_code, product_overflows_is, product_is, times_tested, multiplied}
use Rattle.cw_follow.proofs.Standing.{HasAll}

up_is : (from to : ℕ) → from ≤ to → pos to -ℤ pos from ≡ pos (to - from)
up_is from to le = omega (arith, ints)

down_is : (from to : ℕ) → to < from → pos to -ℤ pos from ≡ negsuc (from - to - 1)
down_is from to lt = omega (arith, ints)

module _ (c : Setting) (memory : List ℤ) (input output : List ℕ) where
  -- ---- scales

  pub rescales_up : {p : Watched} {at : ℕ} (b : Bool) (to line from scale : ℕ) (operands : List Operand) → line < 65536 → from ≤ scale → scale ≤ 15 → (2 ^ (scale - from) == 32768) ≡ b
      → operand_words operands < level c.acts → All OperandFits operands
      → Then c.image at (times_code b (2 ^ (scale - from))) (λ k. Checked c.image k to line) → LandedWith c memory input output at true operands p
      → DoesHere c memory input output 17 to true line p (perform c.program.limits.area (Rescale from scale) (words operands memory input output))
  rescales_up {p} {at} b to line from scale operands small le few is roomy fits i =
      taking_one c memory input output 17 to true line (λ x v. put_value (rescaled x from scale) v) does operands roomy fits
    where
      does : (x : ℤ) (rest : List Operand) → FitsWord x → One c memory input output at x rest p
          → DoesHere c memory input output 17 to true line p (put_value (rescaled x from scale) (words rest memory input output))
      does x rest fx l =
          let n = 2 ^ (scale - from) in
          let k : scale - from ≤ 15 = omega arith in
          let most : 2 ^ (scale - from) ≤ 2 ^ 15 = pow_mono k in
          let value : x *ℤ pos n ≡ rescaled x from scale = sym (ap (floor_scaled x) (up_is from scale le) ∙ c.rows.words.scaled_up x (scale - from)) in
          subst (λ z. DoesHere c memory input output 17 to true line p (put_value z (words rest memory input output))) value
          (multiplied c memory input output b to n 17 line x rest small is most fx (lit≤ tt) i l)

  -- a word rounded down to another scale always fits
  pub put_shifted : (limit to line : ℕ) {p : Watched} (z : ℤ) (w : Words) → FitsWord z
      → DoesHere c memory input output limit to true line p (Changed (put z w)) → DoesHere c memory input output limit to true line p (put_value z w)
  put_shifted limit to line {p} z w f d = subst (λ b. DoesHere c memory input output limit to true line p (put_if b Overflow z w)) (sym (fits_true z f)) d

  -- a word shifted down
  shifted_is : (a j : ℕ) → a < 65536 → j ≤ 15 → word_down_signed a (j % 256) ≡ unsigned (floor_div (signed a) (2 ^ j))
  shifted_is a j lt few =
      let e : j % 256 ≡ j = omega arith in
      ap (word_down_signed a) e ∙ sym (c.rows.words.numbers.words.forth (word_down_signed a j) (c.rows.words.numbers.down_fits a j lt)) ∙ ap unsigned (c.rows.words.down a j lt)

  pub shifted_fits : (a j : ℕ) → a < 65536 → FitsWord (floor_div (signed a) (2 ^ j))
  shifted_fits a j lt = subst FitsWord (c.rows.words.down a j lt) (c.rows.words.signed_fits (word_down_signed a j) (c.rows.words.numbers.down_fits a j lt))

  pub rescales_down : {p : Watched} {at : ℕ} (to line from scale : ℕ) (operands : List Operand)
      → scale < from → from ≤ 15 → at + 5 ≡ to → operand_words operands < level c.acts → All OperandFits operands
      → HasAll c.image at (i86.MovImm 1 (imm.Word (from - scale)) ∷ i86.Shift 7 true true (rms.Reg 0) ∷ []) → LandedWith c memory input output at true operands p
      → DoesHere c memory input output 2 to true line p (perform c.program.limits.area (Rescale from scale) (words operands memory input output))
  rescales_down {p} {at} to line from scale operands lt few e roomy fits i =
      taking_one c memory input output 2 to true line (λ x v. put_value (rescaled x from scale) v) does operands roomy fits
    where
      does : (x : ℤ) (rest : List Operand) → FitsWord x → One c memory input output at x rest p
          → DoesHere c memory input output 2 to true line p (put_value (rescaled x from scale) (words rest memory input output))
      does x rest fx l =
          let j = from - scale in
          let w = words rest memory input output in
          let a = unsigned x in
          let small : a < 65536 = c.rows.words.numbers.words.unsigned_fits x fx in
          let few' : j ≤ 15 = omega arith in
          let same : suc (from - scale - 1) ≡ j = omega arith in
          let value : floor_div (signed a) (2 ^ j) ≡ rescaled x from scale =
          sym
          (ap (floor_scaled x) (down_is from scale lt) ∙ c.rows.words.numbers.scaled_down x (from - scale - 1) ∙ ap (λ k. floor_div x (2 ^ k)) same
          ∙ ap (λ z. floor_div z (2 ^ j)) (sym (c.rows.words.numbers.words.back x fx))) in
          let acts = Number 1 j ∷ DownSigned 0 ∷ [] in
          let e' : at + 3 + 2 ≡ to = omega arith in
          subst (λ z. DoesHere c memory input output 2 to true line p (put_value z w)) value
          (put_shifted 2 to line (floor_div (signed a) (2 ^ j)) w (shifted_fits a j small)
          (further 2 (lit≤ tt) (lit< tt)
          (straight c.rows acts l.kept.wrote i (tt, (small, tt)) l.is (λ q t.
          done (result c memory input output to (suc l.top) (floor_div (signed a) (2 ^ j)) rest e' (shifted_is a j small few') l.under l.kept t)))))

  -- ---- products

  -- the product of the two operands on top, of which the upper one is in AX
  other_way : (x y : ℤ) → y *ℤ x ≡ x *ℤ y
  other_way x y = *ℤ_comm y x

  pub turned_overflows : (x y : ℤ) → FitsWord x → FitsWord y → product_overflows (unsigned y) (unsigned x) ≡ not (fits_word (x *ℤ y))
  turned_overflows x y fx fy = product_overflows_is c.rows y x fy fx ∙ ap (λ z. not (fits_word z)) (other_way x y)

  pub turned_is : (x y : ℤ) → FitsWord x → FitsWord y → FitsWord (x *ℤ y) → product_low (unsigned y) (unsigned x) ≡ unsigned (x *ℤ y)
  turned_is x y fx fy f = product_is c.rows y x fy fx (subst FitsWord (sym (other_way x y)) f) ∙ ap unsigned (other_way x y)

  pub products : {p : Watched} {at : ℕ} (to line : ℕ) (operands : List Operand) → line < 65536
      → operand_words operands < level c.acts → All OperandFits operands
      → Then c.image at (i86.Pop 3 ∷ i86.Unary 5 true (rms.Reg 3) ∷ []) (λ k. Checked c.image k to line) → LandedWith c memory input output at true operands p
      → DoesHere c memory input output 16 to true line p (perform c.program.limits.area (Multiply (pos 0)) (words operands memory input output))
  products {p} {at} to line operands small roomy fits i =
      taking_two c memory input output 16 to true line (λ x y v. put_value (scaled_product x y (pos 0)) v) does operands roomy fits
    where
      does : (x y : ℤ) (rest : List Operand) → FitsWord x → FitsWord y → Two c memory input output at x y rest p
          → DoesHere c memory input output 16 to true line p (put_value (scaled_product x y (pos 0)) (words rest memory input output))
      does x y rest fx fy l =
          let z = x *ℤ y in
          let value : z ≡ scaled_product x y (pos 0) = sym (c.rows.words.scaled_up z 0 ∙ (let e : z *ℤ pos 1 ≡ z = omega (arith, ints) in e)) in
          let acts = Pop 3 (suc l.top) (unsigned x) ∷ Product 3 ∷ [] in
          let ps = parts c.image at acts (λ k. Checked c.image k to line) i in
          let some : 0 < suc (suc l.top) = omega arith in
          subst (λ z. DoesHere c memory input output 16 to true line p (put_value z (words rest memory input output))) value
          (later c.program c.image 14 to c.g true line c.acts 2 16 (put_value z (words rest memory input output)) (lit≤ tt)
          (straight c.rows acts l.kept.wrote ps.0 (l.next, (tt, tt)) l.is (λ q t. done t))
          (λ q t.
          checks_end c.rows c.program c.image c.g c.acts to (suc (suc l.top)) line z rest memory input output c.library c.few some small
          (turned_overflows x y fx fy) (turned_is x y fx fy) l.under l.kept ps.1 t))

  -- a product that is then scaled up: where it does not fit, neither does what it becomes
  both_fit : (b d : Bool) (z : ℤ) (w : Words) → (b ≡ false → d ≡ false) → allowed b Overflow (put_if d Overflow z w) ≡ put_if d Overflow z w
  both_fit true d z w h = refl
  both_fit false d z w h = sym (ap (λ e. put_if e Overflow z w) (h refl))

  pub products_up : {p : Watched} {at : ℕ} (b : Bool) (to by1 line k : ℕ) (operands : List Operand) → line < 65536 → suc k ≤ 15 → (2 ^ suc k == 32768) ≡ b
      → (at + 1 + 2 + 2 + 3 + by1) % 65536 ≡ stop_place Overflow % 65536 → operand_words operands < level c.acts → All OperandFits operands
      → Then c.image at (i86.Pop 3 ∷ i86.Unary 5 true (rms.Reg 3) ∷ []) (λ m. CheckThen c.image m by1 line (λ m. Then c.image m (times_code b (2 ^ suc k)) (λ m. Checked c.image m to line)))
      → LandedWith c memory input output at true operands p
      → DoesHere c memory input output 20 to true line p (perform c.program.limits.area (Multiply (pos (suc k))) (words operands memory input output))
  products_up {p} {at} b to by1 line k operands small few is arrives1 roomy fits i =
      taking_two c memory input output 20 to true line (λ x y v. put_value (scaled_product x y (pos (suc k))) v) does operands roomy fits
    where
      Times : ℕ → Type 0
      Times m = Then c.image m (times_code b (2 ^ suc k)) (λ m. Checked c.image m to line)

      does : (x y : ℤ) (rest : List Operand) → FitsWord x → FitsWord y → Two c memory input output at x y rest p
          → DoesHere c memory input output 20 to true line p (put_value (scaled_product x y (pos (suc k))) (words rest memory input output))
      does x y rest fx fy l =
          let n = 2 ^ suc k in
          let most : 2 ^ suc k ≤ 2 ^ 15 = pow_mono few in
          let whole = x *ℤ y in
          let z = whole *ℤ pos n in
          let w = words rest memory input output in
          let value : z ≡ scaled_product x y (pos (suc k)) = sym (c.rows.words.scaled_up whole (suc k)) in
          let acts = Pop 3 (suc l.top) (unsigned x) ∷ Product 3 ∷ [] in
          let ps = parts c.image at acts (λ m. CheckThen c.image m by1 line Times) i in
          let some : 0 < suc (suc l.top) = omega arith in
          let there : at + 1 + 2 + 2 + 5 ≡ at + 1 + 2 + 2 + 3 + 2 = omega arith in
          subst (λ z. DoesHere c memory input output 20 to true line p (put_value z w)) value
          (subst (λ o. DoesHere c memory input output 20 to true line p o) (both_fit (fits_word whole) (fits_word z) z w (stays_out whole n (pow_pos (suc k))))
          (later c.program c.image 18 to c.g true line c.acts 2 20 (allowed (fits_word whole) Overflow (put_value z w)) (lit≤ tt)
          (straight c.rows acts l.kept.wrote ps.0 (l.next, (tt, tt)) l.is (λ q t. done t))
          (λ q t.
          guards c memory input output Overflow to true line (suc l.top) by1 17 18 (fits_word whole) (put_value z w) tt small l.low arrives1 (turned_overflows x y fx fy) (lit≤ tt) (lit≤ tt) l.kept
          (check_of c.image (at + 1 + 2) by1 line Times ps.1) t
          (λ fits1 r u.
          let f1 = fits_tested whole fits1 in
          times_tested c memory input output b (λ m. Checked c.image m to line) to n (suc l.top) 14 17 line whole (put_value z w) is most f1 l.kept.wrote (lit≤ tt) ps.1.1.1.1
          (seen there refl (with_ax (turned_is x y fx fy f1) u))
          (λ a d f overflow q tests value t code.
          checks_end c.rows c.program c.image c.g c.acts to (suc (suc l.top)) line z rest memory input output c.library c.few some small tests value l.under l.kept code t)))))

  -- ---- products scaled down

  -- the two words of a product
  module _ (x y : ℤ) (fx : FitsWord x) (fy : FitsWord y) where
    abbrev whole : ℤ
    whole = signed (unsigned x) *ℤ signed (unsigned y)

    whole_is : whole ≡ x *ℤ y
    whole_is = ap₂ (λ a b. a *ℤ b) (c.rows.words.numbers.words.back x fx) (c.rows.words.numbers.words.back y fy)

    whole_fits : FitsSigned w32 whole
    whole_fits = c.rows.words.numbers.product_fits (unsigned x) (unsigned y) (c.rows.words.numbers.words.unsigned_fits x fx) (c.rows.words.numbers.words.unsigned_fits y fy)

    high_fits : product_high (unsigned x) (unsigned y) < 65536
    high_fits = c.rows.words.numbers.high whole whole_fits

    low_fits : product_low (unsigned x) (unsigned y) < 65536
    low_fits = c.rows.words.numbers.low whole

    pair_is : signed_pair (product_high (unsigned x) (unsigned y)) (product_low (unsigned x) (unsigned y)) ≡ x *ℤ y
    pair_is = c.rows.words.numbers.halves whole whole_fits ∙ whole_is

  pub products_far_down : {p : Watched} {at : ℕ} (to line k : ℕ) (operands : List Operand) → at + 10 ≡ to → 15 ≤ k → k < 30 → operand_words operands < level c.acts → All OperandFits operands
      → HasAll c.image at (i86.Pop 3 ∷ i86.Unary 5 true (rms.Reg 3) ∷ i86.Mov true true 0 (rms.Reg 2) ∷ i86.MovImm 1 (imm.Word (k - 15)) ∷ i86.Shift 7 true true (rms.Reg 0) ∷ [])
      → LandedWith c memory input output at true operands p
      → DoesHere c memory input output 5 to true line p (perform c.program.limits.area (Multiply (negsuc k)) (words operands memory input output))
  products_far_down {p} {at} to line k operands e far few roomy fits i =
      taking_two c memory input output 5 to true line (λ x y v. put_value (scaled_product x y (negsuc k)) v) does operands roomy fits
    where
      does : (x y : ℤ) (rest : List Operand) → FitsWord x → FitsWord y → Two c memory input output at x y rest p
          → DoesHere c memory input output 5 to true line p (put_value (scaled_product x y (negsuc k)) (words rest memory input output))
      does x y rest fx fy l =
          let j = k - 15 in
          let w = words rest memory input output in
          let H = product_high (unsigned y) (unsigned x) in
          let L = product_low (unsigned y) (unsigned x) in
          let lh = high_fits y x fy fx in
          let s : 16 + j ≡ suc k = omega arith in
          let power : 65536 * 2 ^ j ≡ 2 ^ suc k = sym (pow-add 2 16 j) ∙ ap (λ n. 2 ^ n) s in
          let value : floor_div (signed H) (2 ^ j) ≡ scaled_product x y (negsuc k) =
          ap (λ z. floor_div z (2 ^ j)) (sym (c.rows.words.upper H L lh (low_fits y x fy fx)) ∙ ap (λ z. floor_div z 65536) (pair_is y x fy fx ∙ other_way x y))
          ∙ c.rows.words.again (x *ℤ y) 65536 (2 ^ j) ∙ ap (floor_div (x *ℤ y)) power ∙ sym (c.rows.words.numbers.scaled_down (x *ℤ y) k) in
          let acts = Pop 3 (suc l.top) (unsigned x) ∷ Product 3 ∷ Move 0 2 ∷ Number 1 j ∷ DownSigned 0 ∷ [] in
          let e' : at + 1 + 2 + 2 + 3 + 2 ≡ to = omega arith in
          subst (λ z. DoesHere c memory input output 5 to true line p (put_value z w)) value
          (put_shifted 5 to line (floor_div (signed H) (2 ^ j)) w (shifted_fits H j lh)
          (further 5 (lit≤ tt) (lit< tt)
          (straight c.rows acts l.kept.wrote i (l.next, (tt, (tt, (tt, (lh, tt))))) l.is (λ q t.
          done (result c memory input output to (suc (suc l.top)) (floor_div (signed H) (2 ^ j)) rest e' (shifted_is H j lh (omega arith)) l.under l.kept t)))))

  -- by the library
  pub products_down : {p : Watched} {at : ℕ} (to by line j : ℕ) (operands : List Operand) → line < 65536 → j < 15 → (at + 1 + 3 + 3 + by) % 65536 ≡ product_place % 65536
      → operand_words operands < level c.acts → All OperandFits operands
      → Then c.image at (i86.Pop 3 ∷ i86.MovImm 1 (imm.Word (j + 1)) ∷ i86.Call by ∷ []) (λ k. Checked c.image k to line) → LandedWith c memory input output at true operands p
      → DoesHere c memory input output 32 to true line p (perform c.program.limits.area (Multiply (negsuc j)) (words operands memory input output))
  products_down {p} {at} to by line j operands small few arrives1 roomy fits i =
      taking_two c memory input output 32 to true line (λ x y v. put_value (scaled_product x y (negsuc j)) v) does operands roomy fits
    where
      does : (x y : ℤ) (rest : List Operand) → FitsWord x → FitsWord y → Two c memory input output at x y rest p
          → DoesHere c memory input output 32 to true line p (put_value (scaled_product x y (negsuc j)) (words rest memory input output))
      does x y rest fx fy l =
          let z = scaled_product x y (negsuc j) in
          let w = words rest memory input output in
          let count : suc j ≡ j + 1 = omega arith in
          let law : (quiet : ℕ → Bool) → InLibrary quiet → WordRoutine (Quiet quiet) c.image.bytes product_place 15 (j + 1) y x z =
          λ quiet in_library.
          subst (λ n. WordRoutine (Quiet quiet) c.image.bytes product_place 15 n y x z) count
          (subst (λ v. WordRoutine (Quiet quiet) c.image.bytes product_place 15 (suc j) y x (floor_scaled v (negsuc j))) (other_way x y)
          (c.rows.routines.product quiet c.image.bytes c.library in_library y x j fy fx few)) in
          later c.program c.image 31 to c.g true line c.acts 1 32 (put_value z w) (lit≤ tt)
          (straight c.rows (Pop 3 (suc l.top) (unsigned x) ∷ []) l.kept.wrote (i.0, tt) (l.next, tt) l.is (λ q t. done t))
          (λ q t. by_routine c memory input output to product_place 15 (j + 1) by line (suc l.top) y x z rest arrives1 small l.low law i.1 l.under l.kept t)
