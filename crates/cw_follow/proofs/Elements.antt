-- What the code of elements of arrays and of entries of tables does: each number on the way to the address is tested.
use Rattle.std.proofs.Common.{◌≡◌, ℕ, zero, suc, ◌+◌, ◌*◌, ◌%◌, ◌<◌, ◌≤◌, Bool, true, false, not, ℤ, pos, negsuc, ◌+ℤ◌, ◌-ℤ◌, ◌*ℤ◌, List, [], ◌∷◌, ◌++◌, length, refl, sym, ap, ◌∙◌, subst, arith, lit<, lit≤, length-append}
use borrow.Author.Tests.{ltb-true, eqb-true}
use Rattle.std.proofs.Math.Nat.{min-eq_left}
use Rattle.std.proofs.lemmas.Bool.{lt-ltb, le-ltb, false≢true}
use Rattle.std.proofs.lemmas.Int.{ints}
use Rattle.std.specs.List.{All}
use Rattle.std.specs.Prelude.{◌==◌, if◌then◌else◌}
use Rattle.cw_i86.specs.Encoding.{bytes_of}
use Rattle.cw_i86.specs.declared.instr.Instr.TheVariants as i86
use Rattle.cw_run86.specs.Processor.{Told}
use Rattle.cw_run86.specs.Views.{View, word_sum, word_difference, sum_overflows, difference_overflows, with_number}
use Rattle.cw_word.specs.FixedPoint.{FitsWord, fits_word}
use Rattle.cw_word.specs.Word.{unsigned}
use Rattle.cw_unit.specs.Stop.{AddressRange}
use Rattle.cw_unit.specs.Words.{Operand, Word, Words, Outcome, Changed, Refused, on_one, put, put_if, is_below}
use Rattle.cw_unit.specs.Operation.{Addressing, Indexed, Indexed2, Scaled, fitting, address_of, form_address}
use Rattle.cw_order.specs.FittingWords.{OperandFits}
use Rattle.cw_order.specs.OrderChanges.{from_base}
use Rattle.cw_order.specs.OrderMachine.{unrefused}
use Rattle.cw_order.specs.OrderState.{operand_words}
use Rattle.cw_tmpl.specs.declared.pieces.Coded.{Coded}
use Rattle.cw_tmpl.specs.declared.pieces.Coded.TheVariants as coded
use Rattle.cw_tmpl.specs.Library.{stop_place, address_entry}
use Rattle.cw_tmpl.specs.Mnemonics.{ax, cx, move, add, multiply, set_word}
use Rattle.cw_tmpl.specs.Pieces.{Filling, blanks}
use Rattle.cw_tmpl.specs.Templates.{unless_overflow, times_if, times, in_area, index_by, less_bound, plus_word, times_width, base_kept, based, element, in_row, element_of_two, top_from_lower, times_entry, element_inside, entry}
use Rattle.cw_routines.proofs.Facts.{fits_tested, unsigned_pos}
use Rattle.cw_routines.proofs.Numbers.{fits_true}
use Rattle.cw_follow.proofs.Watched.{Watched}
use Rattle.cw_follow.proofs.Standing.{HasPieces}
use Rattle.cw_follow.proofs.Chains.{Is, view, seen, done}
use Rattle.cw_follow.proofs.Straight.{Act, Move, Pop, Number, Product, Sum, SumNumber, DifferenceNumber, Needs, instruction, after, straight}
use Rattle.cw_follow.proofs.Routines.{with_ax, Around}
use Rattle.cw_follow.proofs.Stacks.{level, record_of, StackIs, top_is}
use Rattle.cw_follow.proofs.Orders.{Kept, later, further}
use Rattle.cw_follow.proofs.Operands.{Setting, words, allowed, Two, LandedWith, DoesHere, guards, result, taking_two, taking_three, accessing_three}
use Rattle.cw_follow.proofs.Called.{Then}
use Rattle.cw_follow.proofs.Numbers.{sum_overflows_is, difference_overflows_is, sum_is, difference_is}
use Rattle.cw_follow.proofs.Facts.{not_below}
use Rattle.cw_follow.proofs.Addresses.{times_is, times_code, test_place, times_tested, in_area_tested}

same_fitting : (b : Bool) (o : Outcome) → allowed b AddressRange o ≡ fitting b o
same_fitting true o = refl
same_fitting false o = refl

refused_too : (b : Bool) → fitting b (Refused AddressRange) ≡ Refused AddressRange
refused_too true = refl
refused_too false = refl

-- what does not fit a word is no address
address_fits : (area : ℕ) (z : ℤ) (w : Words) → area ≤ 32768 → fitting (fits_word z) (address_of area z w) ≡ address_of area z w
address_fits area (negsuc n) w low = refused_too (fits_word (negsuc n))
address_fits area (pos n) w low = cases (fits_word (pos n)) refl
  where
    outside : 32768 ≤ n → is_below (pos n) area ≡ false
    outside ge = le-ltb n area (omega arith)

    cases : (b : Bool) → fits_word (pos n) ≡ b → fitting b (address_of area (pos n) w) ≡ address_of area (pos n) w
    cases true is = refl
    cases false is = ap (λ b. put_if b AddressRange (pos n) w) (sym (outside (not_below n 32768 is)))

-- an address of the area is a word
address_is : (area : ℕ) (z : ℤ) → area ≤ 32768 → is_below z area ≡ true → FitsWord z
address_is area (pos n) low is = let lt = ltb-true n area is in fits_tested (pos n) (lt-ltb n 32768 (omega arith))
address_is area (negsuc n) low is = absurd (false≢true is)

module _ (c : Setting) (memory : List ℤ) (input output : List ℕ) (value : Filling) (to line : ℕ) (small : line < 65536) (arrives : (k : ℕ) → (k + value 7 address_entry 0 k) % 65536 ≡ stop_place AddressRange % 65536) where
  -- the code from a place to the end of that of the order
  pub record Code (at : ℕ) (ps : List Coded) : Type 0 where
    pub stands : HasPieces c.image value at ps
    pub ends : at + length (blanks ps) ≡ to

  -- On the way AX holds a number, CX and SI hold words, and the operands below are on the stack.
  record Midway (at : ℕ) (z : ℤ) (cx si : ℕ) (rest : List Operand) (p : Watched) : Type 0 where
    pub dx : ℕ
    pub bx : ℕ
    pub around : Around
    pub open around use *
    pub fits : FitsWord z
    pub low : top < level c.acts
    pub is : Is c.image at (view (unsigned z) cx dx bx (2 * suc top) (record_of c.acts) si c.program.limits.area overflow cells stack left told) p
    pub under : StackIs c.program c.acts stack (suc top) rest
    pub kept : Kept c.program c.g c.acts memory input output cells stack left told

  abbrev Reaches : (limit : ℕ) → Outcome → Watched → Type 0
  Reaches limit o p = DoesHere c memory input output limit to true line p o

  -- the way on, with the number in AX
  abbrev On : (limit : ℕ) (z : ℤ) (cx si : ℕ) (rest : List Operand) (qs : List Coded) → Outcome → Type 0
  On limit z cx si rest qs o = (at : ℕ) (q : Watched) → Code at qs → Midway at z cx si rest q → Reaches limit o q

  longer : (p : Watched) (m bound : ℕ) (o : Outcome) → m ≤ bound → Reaches m o p → Reaches bound o p
  longer p m bound o le d = later c.program c.image m to c.g true line c.acts 0 bound o (omega arith) (done {Target = Reaches m o} d) (λ q t. t)

  -- without code, where the number is the same
  stays : {p : Watched} {at cx si : ℕ} (m bound : ℕ) (z z' : ℤ) (rest : List Operand) (qs : List Coded) (o : Outcome) → m ≤ bound → z ≡ z' → Code at qs → Midway at z cx si rest p → On m z' cx si rest qs o → Reaches bound o p
  stays {p} {at} {cx} {si} m bound z z' rest qs o le same code i on = longer p m bound o le (on at p code (subst (λ x. Midway at x cx si rest p) same i))

  nothing : {p : Watched} {at cx si : ℕ} (m bound : ℕ) (z z' : ℤ) (rest : List Operand) (qs : List Coded) (o : Outcome) → m ≤ bound → z ≡ z' → Code at qs → Midway at z cx si rest p
      → On m z' cx si rest qs o → Reaches bound (fitting (fits_word z') o) p
  nothing {p} {at} {cx} {si} m bound z z' rest qs o le same code i on =
      subst (λ b. Reaches bound (fitting b o) p) (sym (fits_true z' (subst FitsWord same i.fits))) (stays m bound z z' rest qs o le same code i on)

  -- the test behind an operation that may have overflowed
  passes : {p : Watched} {at a cx dx bx si : ℕ} {overflow : Bool} {cells stack : ℕ → ℕ} {left : List ℕ} {told : Told} (m top : ℕ) (z : ℤ) (rest : List Operand) (qs : List Coded) (o : Outcome) → 13 ≤ m → top < level c.acts
      → overflow ≡ not (fits_word z) → (FitsWord z → a ≡ unsigned z) → StackIs c.program c.acts stack (suc top) rest → Kept c.program c.g c.acts memory input output cells stack left told
      → Code at (unless_overflow address_entry line ++ qs)
      → Is c.image at (view a cx dx bx (2 * suc top) (record_of c.acts) si c.program.limits.area overflow cells stack left told) p
      → On m z cx si rest qs o → Reaches (1 + m) (fitting (fits_word z) o) p
  passes {p} {at} {a} {cx} {dx} {bx} {si} {overflow} {cells} {stack} {left} {told} m top z rest qs o le low tests is_z under kept code s on =
      let h = code.stands in
      let ends = code.ends in
      let there : at + 2 + 5 ≡ at + 2 + 3 + 2 = omega arith in
      let end : at + 2 + 3 + 2 + length (blanks qs) ≡ to = omega arith in
      subst (λ x. Reaches (1 + m) x p) (same_fitting (fits_word z) o)
      (guards c memory input output AddressRange to true line top (value 7 address_entry 0 (at + 2 + 3)) m (1 + m) (fits_word z) o tt small low (arrives (at + 2 + 3)) tests (omega arith) (omega arith) kept
      (h.0, (h.1.0, (h.1.1.0, tt))) s
      (λ f q t.
      let fits = fits_tested z f in
      on (at + 2 + 3 + 2) q (record { stands = h.1.1.1; ends = end })
      (record { dx = dx; bx = bx; around = record { overflow = overflow; top = top; cells = cells; stack = stack; left = left; told = told }; fits = fits; low = low; is = seen there refl (with_ax (is_z fits) t); under = under; kept = kept })))

  -- an instruction that leaves a number in AX where it does not overflow, and its test
  operates : {p : Watched} {at cx si : ℕ} (act : Act) (a : ℕ) (f : Bool) (m : ℕ) (z z' : ℤ) (rest : List Operand) (qs : List Coded) (o : Outcome)
      → ((dx bx sp bp di : ℕ) (overflow : Bool) (cells stack : ℕ → ℕ) (left : List ℕ) (told : Told) → after act (view (unsigned z) cx dx bx sp bp si di overflow cells stack left told) ≡ view a cx dx bx sp bp si di f cells stack left told)
      → ((v : View) → Needs act v) → 13 ≤ m → f ≡ not (fits_word z') → (FitsWord z' → a ≡ unsigned z')
      → Code at (coded.Whole (instruction act) ∷ (unless_overflow address_entry line ++ qs)) → Midway at z cx si rest p → On m z' cx si rest qs o → Reaches (2 + m) (fitting (fits_word z') o) p
  operates {p} {at} {cx} {si} act a f m z z' rest qs o does needs le tests is_z code i on =
      let h = code.stands in
      let ends = code.ends in
      let tail : List Coded = unless_overflow address_entry line ++ qs in
      let size : ℕ = length (bytes_of (instruction act)) in
      let end : at + size + length (blanks tail) ≡ to = omega (arith, length-append (bytes_of (instruction act)) (blanks tail)) in
      let seen_so = does i.dx i.bx (2 * suc i.top) (record_of c.acts) c.program.limits.area i.overflow i.cells i.stack i.left i.told in
      later c.program c.image (1 + m) to c.g true line c.acts 1 (2 + m) (fitting (fits_word z') o) (omega arith)
      (straight c.rows (act ∷ []) i.kept.wrote (h.0, tt) (needs _, tt) i.is (λ q t. done t))
      (λ q t.
      passes m i.top z' rest qs o le i.low tests is_z i.under i.kept (record { stands = h.1; ends = end }) (seen refl seen_so t) on)

  -- an index less the lower bound
  less : {p : Watched} {at cx si : ℕ} (m : ℕ) (lower z : ℤ) (rest : List Operand) (qs : List Coded) (o : Outcome) → 13 ≤ m → FitsWord lower
      → Code at (less_bound line lower ++ qs) → Midway at z cx si rest p → On m (z -ℤ lower) cx si rest qs o → Reaches (2 + m) (fitting (fits_word (z -ℤ lower)) o) p
  less m lower z rest qs o le fl = cases lower fl
    where
      some : {p : Watched} {at cx si : ℕ} (l : ℤ) → FitsWord l → Code at (index_by 5 line (unsigned l) ++ qs) → Midway at z cx si rest p
          → On m (z -ℤ l) cx si rest qs o → Reaches (2 + m) (fitting (fits_word (z -ℤ l)) o) p
      some l fl code i on =
          operates (DifferenceNumber (unsigned l)) (word_difference (unsigned z) (unsigned l)) (difference_overflows (unsigned z) (unsigned l)) m z (z -ℤ l) rest qs o (λ dx bx sp bp di overflow cells stack left told. refl) (λ v. tt) le
          (difference_overflows_is c.rows.words z l i.fits fl) (difference_is c.rows.words z l i.fits fl) code i on

      cases : {p : Watched} {at cx si : ℕ} (l : ℤ) → FitsWord l → Code at (less_bound line l ++ qs) → Midway at z cx si rest p
          → On m (z -ℤ l) cx si rest qs o → Reaches (2 + m) (fitting (fits_word (z -ℤ l)) o) p
      cases (pos zero) fl code i on = nothing m (2 + m) z (z -ℤ pos 0) rest qs o (omega arith) (omega (arith, ints)) code i on
      cases (pos (suc n)) fl code i on = some (pos (suc n)) fl code i on
      cases (negsuc n) fl code i on = some (negsuc n) fl code i on

  -- the place of a word in its entry added
  plus : {p : Watched} {at cx si : ℕ} (m word : ℕ) (z : ℤ) (rest : List Operand) (qs : List Coded) (o : Outcome) → 13 ≤ m → word < 32768
      → Code at (plus_word line word ++ qs) → Midway at z cx si rest p → On m (z +ℤ pos word) cx si rest qs o → Reaches (2 + m) (fitting (fits_word (z +ℤ pos word)) o) p
  plus m zero z rest qs o le lt code i on = nothing m (2 + m) z (z +ℤ pos 0) rest qs o (omega arith) (omega (arith, ints)) code i on
  plus m (suc n) z rest qs o le lt code i on =
      let k : ℕ = suc n in
      let fk : FitsWord (pos k) = fits_tested (pos k) (lt-ltb k 32768 lt) in
      let k_is : unsigned (pos k) ≡ k = unsigned_pos k (omega arith) in
      operates (SumNumber k) (word_sum (unsigned z) k) (sum_overflows (unsigned z) k) m z (z +ℤ pos k) rest qs o (λ dx bx sp bp di overflow cells stack left told. refl) (λ v. tt) le
      (ap (sum_overflows (unsigned z)) (sym k_is) ∙ sum_overflows_is c.rows.words z (pos k) i.fits fk)
      (λ f. ap (word_sum (unsigned z)) (sym k_is) ∙ sum_is c.rows.words z (pos k) i.fits fk f) code i on

  -- times the words of a row or an entry
  times_by : {p : Watched} {at cx si : ℕ} (m width : ℕ) (z : ℤ) (rest : List Operand) (qs : List Coded) (o : Outcome) → 13 ≤ m → width ≤ 32768
      → Code at (times address_entry line width ++ qs) → Midway at z cx si rest p → On m (z *ℤ pos width) cx si rest qs o → Reaches (4 + m) (fitting (fits_word (z *ℤ pos width)) o) p
  times_by {p} {at} {cx} {si} m width z rest qs o le most code i on = with_top (width == 32768) refl code
    where
      Test : ℕ → Type 0
      Test k = HasPieces c.image value k (unless_overflow address_entry line ++ qs)

      parts_of : (b : Bool) → HasPieces c.image value at (times_if b address_entry line width ++ qs) → Then c.image at (times_code b width) Test
      parts_of true h = h
      parts_of false h = h

      end_of : (b : Bool) → at + length (blanks (times_if b address_entry line width ++ qs)) ≡ to → test_place b at + length (blanks (unless_overflow address_entry line ++ qs)) ≡ to
      end_of true e = omega arith
      end_of false e = omega arith

      with_top : (b : Bool) → (width == 32768) ≡ b → Code at (times_if b address_entry line width ++ qs) → Reaches (4 + m) (fitting (fits_word (z *ℤ pos width)) o) p
      with_top b is h =
          times_tested c memory input output b Test to width i.top (1 + m) (4 + m) line z (fitting (fits_word (z *ℤ pos width)) o) is most i.fits i.kept.wrote (omega arith) (parts_of b h.stands) i.is
          (λ a d f overflow q tests is_z t test.
          passes m i.top (z *ℤ pos width) rest qs o le i.low tests is_z i.under i.kept (record { stands = test; ends = end_of b h.ends }) t on)

  times_width_by : {p : Watched} {at cx si : ℕ} (m width : ℕ) (z : ℤ) (rest : List Operand) (qs : List Coded) (o : Outcome) → 13 ≤ m → width ≤ 32768
      → Code at (times_width line width ++ qs) → Midway at z cx si rest p → On m (z *ℤ pos width) cx si rest qs o → Reaches (4 + m) (fitting (fits_word (z *ℤ pos width)) o) p
  times_width_by {p} {at} {cx} {si} m width z rest qs o le most code i on = cases (width == 1) refl code
    where
      cases : (b : Bool) → (width == 1) ≡ b → Code at ((if b then [] else times address_entry line width) ++ qs) → Reaches (4 + m) (fitting (fits_word (z *ℤ pos width)) o) p
      cases true is h =
          let one : width ≡ 1 = eqb-true width 1 is in
          let same : z ≡ z *ℤ pos 1 = omega (arith, ints) in
          nothing m (4 + m) z (z *ℤ pos width) rest qs o (omega arith) (same ∙ ap (λ n. z *ℤ pos n) (sym one)) h i on
      cases false is h = times_by m width z rest qs o le most h i on

  -- the word in CX or in SI added
  adds_register : {p : Watched} {at cx si : ℕ} (r m : ℕ) (y z : ℤ) (rest : List Operand) (qs : List Coded) (o : Outcome)
      → ((dx bx sp bp di : ℕ) (overflow : Bool) (cells stack : ℕ → ℕ) (left : List ℕ) (told : Told)
      → after (Sum 0 r) (view (unsigned z) cx dx bx sp bp si di overflow cells stack left told) ≡ view (word_sum (unsigned z) (unsigned y)) cx dx bx sp bp si di (sum_overflows (unsigned z) (unsigned y)) cells stack left told)
      → 13 ≤ m → FitsWord y → Code at (coded.Whole (instruction (Sum 0 r)) ∷ (unless_overflow address_entry line ++ qs)) → Midway at z cx si rest p
      → On m (z +ℤ y) cx si rest qs o → Reaches (2 + m) (fitting (fits_word (z +ℤ y)) o) p
  adds_register r m y z rest qs o does le fy code i on =
      operates (Sum 0 r) (word_sum (unsigned z) (unsigned y)) (sum_overflows (unsigned z) (unsigned y)) m z (z +ℤ y) rest qs o does (λ v. tt) le
      (sum_overflows_is c.rows.words z y i.fits fy) (sum_is c.rows.words z y i.fits fy) code i on

  -- the base added, and the address tested
  based_by : {p : Watched} {at cx : ℕ} (base z : ℤ) (rest : List Operand) → FitsWord base → Code at (based line) → Midway at z cx (unsigned base) rest p
      → Reaches 17 (address_of c.program.limits.area (base +ℤ z) (words rest memory input output)) p
  based_by {p} {at} {cx} base z rest fb code i =
      let area : ℕ = c.program.limits.area in
      let w : Words = words rest memory input output in
      let turned : z +ℤ base ≡ base +ℤ z = omega (arith, ints) in
      subst (λ x. Reaches 17 (address_of area x w) p) turned
      (subst (λ x. Reaches 17 x p) (address_fits area (z +ℤ base) w c.low)
      (adds_register 6 15 base z rest (in_area line) (address_of area (z +ℤ base) w) (λ dx bx sp bp di overflow cells stack left told. refl) (lit≤ tt) fb code i
      (λ at q code i.
      let h = code.stands in
      in_area_tested c memory input output to (value 7 address_entry 0 (at + 2 + 2 + 3)) line small code.ends (arrives (at + 2 + 2 + 3)) (h.0, (h.1.0, (h.1.1.0, (h.1.1.1.0, tt)))) (z +ℤ base) (is_below (z +ℤ base) area) rest refl i.fits
      (record { beside = record { cx = cx; dx = i.dx; bx = i.bx; si = unsigned base; around = i.around }; low = i.low; is = i.is; under = i.under; kept = i.kept }))))

  -- the base in SI, and the operand below it in AX
  base_by : {p : Watched} {at : ℕ} (m : ℕ) (x base : ℤ) (rest : List Operand) (qs : List Coded) (o : Outcome) → FitsWord x → Code at (base_kept ++ qs) → Two c memory input output at x base rest p
      → ((cx : ℕ) → On m x cx (unsigned base) rest qs o) → Reaches (2 + m) o p
  base_by {p} {at} m x base rest qs o fx code l on =
      let h = code.stands in
      let ends = code.ends in
      let end : at + 2 + 1 + length (blanks qs) ≡ to = omega arith in
      later c.program c.image m to c.g true line c.acts 2 (2 + m) o (omega arith)
      (straight c.rows (Move 6 0 ∷ Pop 0 (suc l.top) (unsigned x) ∷ []) l.kept.wrote (h.0, (h.1.0, tt)) (tt, (l.next, tt)) l.is (λ q t. done t))
      (λ q t. on l.cx (at + 2 + 1) q (record { stands = h.1.1; ends = end })
      (record { dx = l.dx; bx = l.bx; around = record (l.around) { top = suc l.top }; fits = fx; low = l.low; is = t; under = l.under; kept = l.kept }))

  -- the number in CX, and the operand below in AX
  place_by : {p : Watched} {at cx si : ℕ} (m : ℕ) (z x : ℤ) (rest : List Operand) (qs : List Coded) (o : Outcome) → FitsWord x → Code at (coded.Whole (move 1 0) ∷ coded.Whole (i86.Pop 0) ∷ qs)
      → Midway at z cx si (Word x ∷ rest) p → On m x (unsigned z) si rest qs o → Reaches (2 + m) o p
  place_by {p} {at} {cx} {si} m z x rest qs o fx code i on =
      let h = code.stands in
      let ends = code.ends in
      let end : at + 2 + 1 + length (blanks qs) ≡ to = omega arith in
      let t = top_is c.program c.acts i.stack (suc (suc i.top)) rest i.under.1 in
      let high : level c.acts ≤ 32764 = omega arith in
      let low : suc i.top < level c.acts = omega arith in
      let room : suc i.top < 32767 = omega arith in
      let sp : 2 * suc i.top ≡ 2 * suc i.top % 65536 = omega arith in
      later c.program c.image m to c.g true line c.acts 2 (2 + m) o (omega arith)
      (straight c.rows (Move 1 0 ∷ Pop 0 (suc i.top) (unsigned x) ∷ []) i.kept.wrote (h.0, (h.1.0, tt)) (tt, ((room, sp, i.under.0), tt)) i.is (λ q t. done t))
      (λ q t. on (at + 2 + 1) q (record { stands = h.1.1; ends = end })
      (record { dx = i.dx; bx = i.bx; around = record (i.around) { top = suc i.top }; fits = fx; low = low; is = t; under = i.under.1; kept = i.kept }))

  -- ---- where all numbers fit

  -- an instruction that leaves a number in AX
  leaves : {p : Watched} {at cx si : ℕ} (act : Act) (a : ℕ) (f : Bool) (m : ℕ) (z z' : ℤ) (rest : List Operand) (qs : List Coded) (o : Outcome)
      → ((dx bx sp bp di : ℕ) (overflow : Bool) (cells stack : ℕ → ℕ) (left : List ℕ) (told : Told) → after act (view (unsigned z) cx dx bx sp bp si di overflow cells stack left told) ≡ view a cx dx bx sp bp si di f cells stack left told)
      → ((v : View) → Needs act v) → FitsWord z' → a ≡ unsigned z'
      → Code at (coded.Whole (instruction act) ∷ qs) → Midway at z cx si rest p → On m z' cx si rest qs o → Reaches (1 + m) o p
  leaves {p} {at} {cx} {si} act a f m z z' rest qs o does needs fits is_z code i on =
      let h = code.stands in
      let ends = code.ends in
      let size : ℕ = length (bytes_of (instruction act)) in
      let end : at + size + length (blanks qs) ≡ to = omega (arith, length-append (bytes_of (instruction act)) (blanks qs)) in
      let seen_so = does i.dx i.bx (2 * suc i.top) (record_of c.acts) c.program.limits.area i.overflow i.cells i.stack i.left i.told in
      later c.program c.image m to c.g true line c.acts 1 (1 + m) o (omega arith)
      (straight c.rows (act ∷ []) i.kept.wrote (h.0, tt) (needs _, tt) i.is (λ q t. done t))
      (λ q t.
      on (at + size) q (record { stands = h.1; ends = end })
      (record { dx = i.dx; bx = i.bx; around = record (i.around) { overflow = f }; fits = fits; low = i.low; is = with_ax is_z (seen refl seen_so t); under = i.under; kept = i.kept }))

  -- an index less the lower bound
  from_bound : {p : Watched} {at cx si : ℕ} (m : ℕ) (lower z : ℤ) (rest : List Operand) (qs : List Coded) (o : Outcome) → FitsWord lower → FitsWord (z -ℤ lower)
      → Code at (top_from_lower lower ++ qs) → Midway at z cx si rest p → On m (z -ℤ lower) cx si rest qs o → Reaches (1 + m) o p
  from_bound m lower z rest qs o fl fits = cases lower fl fits
    where
      some : {p : Watched} {at cx si : ℕ} (l : ℤ) → FitsWord l → FitsWord (z -ℤ l) → Code at (coded.Whole (with_number 5 (unsigned l)) ∷ qs) → Midway at z cx si rest p
          → On m (z -ℤ l) cx si rest qs o → Reaches (1 + m) o p
      some l fl fits code i on =
          leaves (DifferenceNumber (unsigned l)) (word_difference (unsigned z) (unsigned l)) (difference_overflows (unsigned z) (unsigned l)) m z (z -ℤ l) rest qs o (λ dx bx sp bp di overflow cells stack left told. refl) (λ v. tt)
          fits (difference_is c.rows.words z l i.fits fl fits) code i on

      cases : {p : Watched} {at cx si : ℕ} (l : ℤ) → FitsWord l → FitsWord (z -ℤ l) → Code at (top_from_lower l ++ qs) → Midway at z cx si rest p → On m (z -ℤ l) cx si rest qs o → Reaches (1 + m) o p
      cases (pos zero) fl fits code i on = stays m (1 + m) z (z -ℤ pos 0) rest qs o (omega arith) (omega (arith, ints)) code i on
      cases (pos (suc n)) fl fits code i on = some (pos (suc n)) fl fits code i on
      cases (negsuc n) fl fits code i on = some (negsuc n) fl fits code i on

  -- times the words of a row
  rows_by : {p : Watched} {at cx si : ℕ} (m width : ℕ) (z : ℤ) (rest : List Operand) (qs : List Coded) (o : Outcome) → width ≤ 32768 → FitsWord (z *ℤ pos width)
      → Code at (times_entry width ++ qs) → Midway at z cx si rest p → On m (z *ℤ pos width) cx si rest qs o → Reaches (2 + m) o p
  rows_by {p} {at} {cx} {si} m width z rest qs o most fits code i on = cases (width == 1) refl code
    where
      cases : (b : Bool) → (width == 1) ≡ b → Code at ((if b then [] else coded.Whole (set_word 3 width) ∷ coded.Whole (multiply 3) ∷ []) ++ qs) → Reaches (2 + m) o p
      cases true is h =
          let same : z ≡ z *ℤ pos 1 = omega (arith, ints) in
          stays m (2 + m) z (z *ℤ pos width) rest qs o (omega arith) (same ∙ ap (λ n. z *ℤ pos n) (sym (eqb-true width 1 is))) h i on
      cases false is h =
          let s = h.stands in
          let ends = h.ends in
          let end : at + 3 + 2 + length (blanks qs) ≡ to = omega arith in
          later c.program c.image m to c.g true line c.acts 2 (2 + m) o (omega arith)
          (straight c.rows (Number 3 width ∷ Product 3 ∷ []) i.kept.wrote (s.0, (s.1.0, tt)) (tt, (tt, tt)) i.is (λ q t. done t))
          (λ q t.
          on (at + 3 + 2) q (record { stands = s.1.1; ends = end })
          (record { dx = _; bx = width; around = record (i.around) { overflow = _ }; fits = fits; low = i.low; is = with_ax (times_is c.rows z i.fits width most fits) t; under = i.under; kept = i.kept }))

  -- the base added, which ends the code
  base_added : {p : Watched} {at cx : ℕ} (base z : ℤ) (rest : List Operand) → FitsWord base → FitsWord (z +ℤ base) → Code at (coded.Whole (add 0 6) ∷ []) → Midway at z cx (unsigned base) rest p
      → Reaches 1 (Changed (put (base +ℤ z) (words rest memory input output))) p
  base_added {p} {at} {cx} base z rest fb fits code i =
      let h = code.stands in
      let turned : z +ℤ base ≡ base +ℤ z = omega (arith, ints) in
      further 1 (lit≤ tt) (lit< tt)
      (straight c.rows (Sum 0 6 ∷ []) i.kept.wrote (h.0, tt) (tt, tt) i.is
      (λ q t. done (result c memory input output to (suc i.top) (base +ℤ z) rest code.ends (sum_is c.rows.words z base i.fits fb fits ∙ ap unsigned turned) i.under i.kept t)))

  -- ---- the orders

  abbrev Forms : ℕ → (ℤ → Addressing) → List Operand → Watched → Type 0
  Forms limit f operands p = Reaches limit (from_base c.program.limits.area f (words operands memory input output)) p

  -- the area has no word above 32,767
  whole_area : (p : Watched) (limit : ℕ) (f : ℤ → Addressing) (operands : List Operand)
      → Reaches limit (on_one (λ base v. form_address c.program.limits.area (f base) v) operands (words operands memory input output)) p → Forms limit f operands p
  whole_area p limit f operands d =
      subst (λ n. Reaches limit (on_one (λ base v. form_address n (f base) v) operands (words operands memory input output)) p) (sym (min-eq_left c.low)) d

  pub forms_element : {p : Watched} {at : ℕ} (lower : ℤ) (operands : List Operand) → FitsWord lower → operand_words operands < level c.acts → All OperandFits operands
      → Code at (element line lower) → LandedWith c memory input output at true operands p → Forms 21 (λ base. Indexed base lower) operands p
  forms_element {p} lower operands fl room fits code l =
      whole_area p 21 (λ base. Indexed base lower) operands
      (taking_two c memory input output 21 to true line (λ x b v. fitting (fits_word (x -ℤ lower)) (address_of c.program.limits.area (b +ℤ (x -ℤ lower)) v)) (λ x b rest fx fb two.
      let last : Outcome = address_of c.program.limits.area (b +ℤ (x -ℤ lower)) (words rest memory input output) in
      base_by 19 x b rest (less_bound line lower ++ based line) (fitting (fits_word (x -ℤ lower)) last) fx code two (λ cx at q code i.
      less 17 lower x rest (based line) last (lit≤ tt) fl code i (λ at q code i.
      based_by b (x -ℤ lower) rest fb code i))) operands room fits l)

  -- the place in the row is tested first
  moved : (row begins place : Bool) (o : Outcome) → fitting place (fitting row (fitting begins o)) ≡ fitting row (fitting begins (fitting place o))
  moved row begins true o = refl
  moved row begins false o = sym (ap (fitting row) (refused_too begins) ∙ refused_too row)

  -- what an element of two dimensions does
  abbrev of_two : (lower second : ℤ) (width : ℕ) → ℤ → ℤ → ℤ → Words → Outcome
  of_two lower second width x j b v =
      fitting (fits_word (x -ℤ lower)) (fitting (fits_word ((x -ℤ lower) *ℤ pos width)) (fitting (fits_word (j -ℤ second))
      (fitting (fits_word ((x -ℤ lower) *ℤ pos width +ℤ (j -ℤ second))) (address_of c.program.limits.area (b +ℤ ((x -ℤ lower) *ℤ pos width +ℤ (j -ℤ second))) v))))

  pub forms_element_of_two : {p : Watched} {at : ℕ} (lower second : ℤ) (width : ℕ) (operands : List Operand) → FitsWord lower → FitsWord second → width ≤ 32768 → operand_words operands < level c.acts → All OperandFits operands
      → Code at (element_of_two line lower second width) → LandedWith c memory input output at true operands p → Forms 31 (λ base. Indexed2 base lower second width) operands p
  forms_element_of_two {p} lower second width operands fl fs most room fits code l =
      whole_area p 31 (λ base. Indexed2 base lower second width) operands
      (taking_three c memory input output 31 to true line
      (of_two lower second width)
      (λ x j b rest fx fj fb two.
      let row : ℤ = x -ℤ lower in
      let begins : ℤ = row *ℤ pos width in
      let place : ℤ = j -ℤ second in
      let last : Outcome = address_of c.program.limits.area (b +ℤ (begins +ℤ place)) (words rest memory input output) in
      let summed : Outcome = fitting (fits_word (begins +ℤ place)) last in
      let from_row : Outcome = fitting (fits_word row) (fitting (fits_word begins) summed) in
      let ends : List Coded = in_row line ++ based line in
      let row_code : List Coded = less_bound line lower ++ (times address_entry line width ++ ends) in
      let place_code : List Coded = coded.Whole (move cx ax) ∷ coded.Whole (i86.Pop ax) ∷ row_code in
      subst (λ o. Reaches 31 o p) (moved (fits_word row) (fits_word begins) (fits_word place) summed)
      (base_by 29 j b (Word x ∷ rest) (less_bound line second ++ place_code) (fitting (fits_word place) from_row) fj code two (λ cx at q code i.
      less 27 second j (Word x ∷ rest) place_code from_row (lit≤ tt) fs code i (λ at q code i.
      let fp = i.fits in
      place_by 25 place x rest row_code from_row fx code i (λ at q code i.
      less 23 lower x rest (times address_entry line width ++ ends) (fitting (fits_word begins) summed) (lit≤ tt) fl code i (λ at q code i.
      times_by 19 width row rest ends summed (lit≤ tt) most code i (λ at q code i.
      adds_register 1 17 place begins rest (based line) last (λ dx bx sp bp di overflow cells stack left told. refl) (lit≤ tt) fp code i (λ at q code i.
      based_by b (begins +ℤ place) rest fb code i)))))))) operands room fits l)

  -- the three operands of an element of two dimensions, as the processor has them
  module _ {p : Watched} {at : ℕ} (lower second : ℤ) (width : ℕ) (b j x : ℤ) (rest : List Operand) (fb : FitsWord b) (fj : FitsWord j) (fx : FitsWord x) (two : Two c memory input output at j b (Word x ∷ rest) p) where
    abbrev row : ℤ
    row = x -ℤ lower

    abbrev begins : ℤ
    begins = row *ℤ pos width

    abbrev place : ℤ
    place = j -ℤ second

    abbrev behind_base : ℤ
    behind_base = begins +ℤ place

    abbrev inside : Outcome
    inside = Changed (put (b +ℤ behind_base) (words rest memory input output))

    -- where all numbers fit, and the address is one
    inside_added : FitsWord lower → FitsWord second → width ≤ 32768 → Code at (element_inside lower second width) → FitsWord row → FitsWord begins → FitsWord place → FitsWord behind_base → is_below (b +ℤ behind_base) c.program.limits.area ≡ true → Reaches 10 inside p
    inside_added fl fs most code fr fm fp fz below =
        let last : List Coded = coded.Whole (add 0 6) ∷ [] in
        let sums : List Coded = coded.Whole (add 0 1) ∷ last in
        let row_code : List Coded = top_from_lower lower ++ (times_entry width ++ sums) in
        let place_code : List Coded = coded.Whole (move cx ax) ∷ coded.Whole (i86.Pop ax) ∷ row_code in
        let turned : behind_base +ℤ b ≡ b +ℤ behind_base = omega (arith, ints) in
        let fa : FitsWord (behind_base +ℤ b) = subst FitsWord (sym turned) (address_is c.program.limits.area (b +ℤ behind_base) c.low below) in
        base_by 8 j b (Word x ∷ rest) (top_from_lower second ++ place_code) inside fj code two (λ cx at q code i.
        from_bound 7 second j (Word x ∷ rest) place_code inside fs fp code i (λ at q code i.
        place_by 5 place x rest row_code inside fx code i (λ at q code i.
        from_bound 4 lower x rest (times_entry width ++ sums) inside fl fr code i (λ at q code i.
        rows_by 2 width row rest sums inside most fm code i (λ at q code i.
        leaves (Sum 0 1) (word_sum (unsigned begins) (unsigned place)) (sum_overflows (unsigned begins) (unsigned place)) 1 begins behind_base rest last inside (λ dx bx sp bp di overflow cells stack left told. refl) (λ v. tt)
        fz (sum_is c.rows.words begins place i.fits fp fz) code i (λ at q code i.
        base_added b behind_base rest fb fa code i))))))

    inside_tested : FitsWord lower → FitsWord second → width ≤ 32768 → Code at (element_inside lower second width) → (t1 t2 t3 t4 t5 : Bool) → fits_word row ≡ t1 → fits_word begins ≡ t2 → fits_word place ≡ t3 → fits_word behind_base ≡ t4 → is_below (b +ℤ behind_base) c.program.limits.area ≡ t5
        → Reaches 10 (unrefused (fitting t1 (fitting t2 (fitting t3 (fitting t4 (put_if t5 AddressRange (b +ℤ behind_base) (words rest memory input output))))))) p
    inside_tested fl fs most code true true true true true e1 e2 e3 e4 e5 = inside_added fl fs most code (fits_tested row e1) (fits_tested begins e2) (fits_tested place e3) (fits_tested behind_base e4) e5
    inside_tested fl fs most code true true true true false e1 e2 e3 e4 e5 = tt
    inside_tested fl fs most code true true true false t5 e1 e2 e3 e4 e5 = tt
    inside_tested fl fs most code true true false t4 t5 e1 e2 e3 e4 e5 = tt
    inside_tested fl fs most code true false t3 t4 t5 e1 e2 e3 e4 e5 = tt
    inside_tested fl fs most code false t2 t3 t4 t5 e1 e2 e3 e4 e5 = tt

    formed_inside : FitsWord lower → FitsWord second → width ≤ 32768 → Code at (element_inside lower second width) → Reaches 10 (unrefused (form_address c.program.limits.area (Indexed2 b lower second width) (words (Word j ∷ Word x ∷ rest) memory input output))) p
    formed_inside fl fs most code = inside_tested fl fs most code (fits_word row) (fits_word begins) (fits_word place) (fits_word behind_base) (is_below (b +ℤ behind_base) c.program.limits.area) refl refl refl refl refl

  pub forms_element_inside : {p : Watched} {at : ℕ} (lower second : ℤ) (width : ℕ) (operands : List Operand) → FitsWord lower → FitsWord second → width ≤ 32768 → operand_words operands < level c.acts → All OperandFits operands
      → Code at (element_inside lower second width) → LandedWith c memory input output at true operands p
      → Reaches 10 (unrefused (from_base c.program.limits.area (λ base. Indexed2 base lower second width) (words operands memory input output))) p
  forms_element_inside {p} {at} lower second width operands fl fs most room fits code l =
      subst (λ n. Reaches 10 (unrefused (on_one (λ base v. form_address n (Indexed2 base lower second width) v) operands (words operands memory input output))) p) (sym (min-eq_left c.low))
      (accessing_three c memory input output 10 to true line
      (of_two lower second width)
      (λ x j b rest fx fj fb two. formed_inside lower second width b j x rest fb fj fx two fl fs most code) operands room fits l)

  pub forms_entry : {p : Watched} {at : ℕ} (width word : ℕ) (operands : List Operand) → width ≤ 32768 → word < 32768 → operand_words operands < level c.acts → All OperandFits operands
      → Code at (entry line width word) → LandedWith c memory input output at true operands p → Forms 25 (λ base. Scaled base width word) operands p
  forms_entry {p} width word operands most lt room fits code l =
      whole_area p 25 (λ base. Scaled base width word) operands
      (taking_two c memory input output 25 to true line
      (λ x b v. fitting (fits_word (x *ℤ pos width)) (fitting (fits_word (x *ℤ pos width +ℤ pos word)) (address_of c.program.limits.area (b +ℤ (x *ℤ pos width +ℤ pos word)) v))) (λ x b rest fx fb two.
      let begins : ℤ = x *ℤ pos width in
      let last : Outcome = address_of c.program.limits.area (b +ℤ (begins +ℤ pos word)) (words rest memory input output) in
      let placed : Outcome = fitting (fits_word (begins +ℤ pos word)) last in
      base_by 23 x b rest (times_width line width ++ (plus_word line word ++ based line)) (fitting (fits_word begins) placed) fx code two (λ cx at q code i.
      times_width_by 19 width x rest (plus_word line word ++ based line) placed (lit≤ tt) most code i (λ at q code i.
      plus 17 word begins rest (based line) last (lit≤ tt) lt code i (λ at q code i.
      based_by b (begins +ℤ pos word) rest fb code i)))) operands room fits l)
