-- The address of an element whose index a simple place holds: one sum and one compare, of the sum or of the index.
use Rattle.std.proofs.Common.{◌≡◌, inl, inr, ◌-◌, ℕ, zero, suc, ◌+◌, ◌*◌, ◌%◌, ◌<◌, ◌≤◌, Bool, true, false, ℤ, pos, negsuc, ◌+ℤ◌, ◌-ℤ◌, List, [], ◌∷◌, ◌++◌, length, Some, None, refl, sym, ap, ap₂, ◌∙◌, subst, arith, lit<, lit≤}
use Rattle.std.proofs.Math.Nat.{min-eq_left}
use Rattle.std.proofs.lemmas.Bool.{lt-ltb, le-ltb, false≢true, cases_lt}
use Rattle.std.proofs.lemmas.Bool.Decides.{nat_tests}
use Rattle.std.proofs.lemmas.Int.{ints}
use Rattle.std.specs.Prelude.{nat_lt, int_le, ◌&&◌, if◌then◌else◌, min}
use Rattle.cw_run86.specs.Processor.{Told}
use Rattle.cw_run86.specs.Views.{View, word_sum, word_difference, sum_overflows, difference_overflows, double_overflows}
use Rattle.cw_word.specs.FixedPoint.{FitsWord, fits_word}
use Rattle.cw_word.specs.Word.{signed, unsigned}
use Rattle.cw_unit.specs.Stop.{AddressRange, IndexRange}
use Rattle.cw_unit.specs.Words.{Words, Changed, Refused, put, put_if, is_below}
use Rattle.cw_unit.specs.Operation.{fitting, address_of}
use Rattle.cw_tmpl.specs.declared.pieces.Coded.{Coded}
use Rattle.cw_tmpl.specs.declared.pieces.Coded.TheVariants as coded
use Rattle.cw_order.specs.declared.order.Place.{Place}
use Rattle.cw_order.specs.declared.order.Place.TheVariants as cell
use Rattle.cw_tmpl.specs.declared.blocks.Element.{Element}
use Rattle.cw_tmpl.specs.declared.blocks.Test.{Test}
use Rattle.cw_tmpl.specs.declared.blocks.Test.TheVariants as test
use Rattle.cw_tmpl.specs.declared.pieces.Target.TheVariants as target
use Rattle.cw_tmpl.specs.Blocks.{zero_word}
use Rattle.cw_tmpl.specs.Library.{stop_place, address_entry, bounds_entry}
use Rattle.cw_tmpl.specs.Mnemonics.{load, operate, bx as bx_register, si as si_register, di, field, memory as memory_at, compare, double, jump_if_below, operate_number}
use Rattle.cw_tmpl.specs.Pieces.{Filling, blanks}
use Rattle.cw_tmpl.specs.Templates.{frame_size, call_stop, index_added, index_loaded, indexes_between, from_lower}
use Rattle.cw_tmpl.proofs.Sizes.{loaded_long as index_loaded_long}
use Rattle.cw_tmpl.specs.Sizes.{index_size, lower_size}
use Rattle.cw_order.specs.OrderState.{OrderActivation}
use Rattle.cw_tmpl.proofs.Lengths.{field_loaded, field_operated}
use Rattle.cw_i86.specs.Encoding.{bytes_of}
use Rattle.cw_follow.proofs.Fields.{doubled_small, field_denotes}
use Rattle.cw_follow.proofs.Watched.{Watched, watched_step}
use Rattle.cw_follow.proofs.Standing.{HasPieces, Has, HasPiecesFrom}
use Rattle.cw_follow.proofs.Chains.{Is, IsCompared, Leads, view, compared, compared_more, jumps_below, passes_above, jump_below, pass_above, number, add_at, double as doubled, more, last, done, IsAt}
use Rattle.cw_i86.specs.declared.instr.Place.TheVariants as places
use Rattle.cw_i86.specs.declared.instr.Rm.TheVariants as rms
use Rattle.cw_rows86.specs.Locations.{InData, InRegister}
use Rattle.cw_rows86.specs.Operations.{Add, Subtract, Compare}
use Rattle.cw_rows86.specs.Acts.{Operate, OperateNumberOnto, Into}
use Rattle.cw_follow.proofs.Acting.{act}
use Rattle.cw_follow.proofs.Straight.{LoadSlot, Number, straight_from}
use Rattle.cw_follow.proofs.Stacks.{level, record_of, base_word, base_there}
use Rattle.cw_follow.proofs.Orders.{Kept, further}
use Rattle.cw_follow.proofs.Operands.{Setting, allowed, DoesHere, calls_stop}
use Rattle.cw_follow.proofs.Facts.{not_below}
use Rattle.cw_follow.proofs.Routines.{leads_then}
use Rattle.cw_follow.proofs.Naming.{both_true}

-- ---- arithmetic

-- The word that index 0 names is in the area: then the sum with an index, modulo 65,536, is below its length exactly where the exact sum is
-- an address of it.
pub record OneCompare (zero_at area : ℕ) (i : ℤ) : Type 0 where
  pub decides : nat_lt (word_sum zero_at (unsigned i)) area ≡ is_below (pos zero_at +ℤ i) area
  pub value : is_below (pos zero_at +ℤ i) area ≡ true → pos (word_sum zero_at (unsigned i)) ≡ pos zero_at +ℤ i

pub one_compare : (z area : ℕ) (i : ℤ) → z < area → area ≤ 32768 → FitsWord i → OneCompare z area i
one_compare z area (pos n) inside low f =
    let e : word_sum z (unsigned (pos n)) ≡ z + n = omega (arith, f.sfits) in
    record { decides = ap (λ m. nat_lt m area) e; value = λ h. ap pos e }
one_compare z area (negsuc n) inside low f = elim (cases_lt n z) as (λ _. OneCompare z area (negsuc n)) [
  | inl lt ↦ (
      let e : word_sum z (unsigned (negsuc n)) ≡ z - suc n = omega (arith, f.sfits) in
      let s : pos z +ℤ negsuc n ≡ pos (z - suc n) = omega (arith, ints) in
      record { decides = ap (λ m. nat_lt m area) e ∙ sym (ap (λ y. is_below y area) s); value = λ h. ap pos e ∙ sym s })
  | inr ge ↦ (
      let s : pos z +ℤ negsuc n ≡ negsuc (n - z) = omega (arith, ints) in
      let none : is_below (pos z +ℤ negsuc n) area ≡ false = ap (λ y. is_below y area) s in
      let above : area ≤ word_sum z (unsigned (negsuc n)) = omega (arith, f.sfits) in
      record { decides = le-ltb (word_sum z (unsigned (negsuc n))) area above ∙ sym none; value = λ h. absurd (false≢true (sym none ∙ h)) })
]

-- the number that the lower bound is below 0
pub record Below (lower : ℤ) (span first z : ℕ) : Type 0 where
  pub below : ℕ
  pub less : (i : ℤ) → i -ℤ lower ≡ i +ℤ pos below
  pub few : below ≤ 32768
  pub inside : below < span
  pub is : z ≡ first + below
  pub small : z < 65536

pub below_of : (lower : ℤ) (span first z : ℕ) → FitsWord lower → zero_word lower span first ≡ Some z → Below lower span first z
below_of (pos zero) span first z f e = behind 0 (λ i. omega (arith, ints)) (omega arith) (nat_lt 0 span && nat_lt (first + 0) 65536) refl e
  where
    behind : (d : ℕ) → ((i : ℤ) → i -ℤ pos 0 ≡ i +ℤ pos d) → d ≤ 32768 → (b : Bool) → (nat_lt d span && nat_lt (first + d) 65536) ≡ b → (if b then Some (first + d) else None) ≡ Some z → Below (pos 0) span first z
    behind d less few false is e = absurd (cc)
    behind d less few true is e =
        record { below = d; less = less; few = few; inside = grind (arith, nat_tests); is = (let same : first + d ≡ z = cc in sym same); small = (let same : first + d ≡ z = cc in grind (arith, nat_tests)) }
below_of (pos (suc n)) span first z f e = absurd (cc)
below_of (negsuc n) span first z f e = behind (suc n) (λ i. omega (arith, ints)) (omega (arith, f.sfits)) (nat_lt (suc n) span && nat_lt (first + suc n) 65536) refl e
  where
    behind : (d : ℕ) → ((i : ℤ) → i -ℤ negsuc n ≡ i +ℤ pos d) → d ≤ 32768 → (b : Bool) → (nat_lt d span && nat_lt (first + d) 65536) ≡ b → (if b then Some (first + d) else None) ≡ Some z → Below (negsuc n) span first z
    behind d less few false is e = absurd (cc)
    behind d less few true is e =
        record { below = d; less = less; few = few; inside = grind (arith, nat_tests); is = (let same : first + d ≡ z = cc in sym same); small = (let same : first + d ≡ z = cc in grind (arith, nat_tests)) }

-- where a difference fits no word the address is none of the area
outside_too : (b d area : ℕ) (i : ℤ) → FitsWord i → d ≤ 32768 → area ≤ 32768 → fits_word (i +ℤ pos d) ≡ false → is_below (pos b +ℤ (i +ℤ pos d)) area ≡ false
outside_too b d area (pos n) f few low off =
    let large : 32768 ≤ n + d = grind (arith, nat_tests) in
    let s : pos b +ℤ (pos n +ℤ pos d) ≡ pos (b + (n + d)) = omega (arith, ints) in
    ap (λ y. is_below y area) s ∙ le-ltb (b + (n + d)) area (omega arith)
outside_too b d area (negsuc n) f few low off = elim (cases_lt n d) as (λ _. is_below (pos b +ℤ (negsuc n +ℤ pos d)) area ≡ false) [
  | inl lt ↦ (
      let s : negsuc n +ℤ pos d ≡ pos (d - suc n) = omega (arith, ints) in
      absurd (false≢true (sym off ∙ ap fits_word s ∙ lt-ltb (d - suc n) 32768 (omega arith))))
  | inr ge ↦ (
      let s : negsuc n +ℤ pos d ≡ negsuc (n - d) = omega (arith, ints) in
      absurd (false≢true (sym off ∙ ap fits_word s ∙ lt-ltb (n - d) 32768 (omega (arith, f.sfits)))))
]

same_allowed : (b : Bool) (z : ℤ) (v : Words) → put_if b AddressRange z v ≡ allowed b AddressRange (Changed (put z v))
same_allowed true z v = refl
same_allowed false z v = refl

-- what the source does with an index is that test
pub formed_by_one : (area b d : ℕ) (lower i : ℤ) (v : Words) → area ≤ 32768 → b < 32768 → d ≤ 32768 → FitsWord i → i -ℤ lower ≡ i +ℤ pos d
    → fitting (fits_word (i -ℤ lower)) (address_of (min area 32768) (signed b +ℤ (i -ℤ lower)) v) ≡ allowed (is_below (pos (b + d) +ℤ i) area) AddressRange (Changed (put (pos (b + d) +ℤ i) v))
formed_by_one area b d lower i v low small few f less =
    ap (λ y. fitting (fits_word y) (address_of (min area 32768) (signed b +ℤ y) v)) less
    ∙ ap₂ (λ m s. fitting (fits_word (i +ℤ pos d)) (address_of m (s +ℤ (i +ℤ pos d)) v)) (min-eq_left low) signed_is
    ∙ cases (fits_word (i +ℤ pos d)) refl
    ∙ ap (λ y. put_if (is_below y area) AddressRange y v) same
    ∙ same_allowed (is_below (pos (b + d) +ℤ i) area) (pos (b + d) +ℤ i) v
  where
    signed_is : signed b ≡ pos b
    signed_is = grind (arith, nat_tests)

    same : pos b +ℤ (i +ℤ pos d) ≡ pos (b + d) +ℤ i
    same = omega (arith, ints)

    cases : (t : Bool) → fits_word (i +ℤ pos d) ≡ t → fitting t (address_of area (pos b +ℤ (i +ℤ pos d)) v) ≡ address_of area (pos b +ℤ (i +ℤ pos d)) v
    cases true is = refl
    cases false is = sym (ap (λ t. put_if t AddressRange (pos b +ℤ (i +ℤ pos d)) v) (outside_too b d area i f few low is))

-- ---- indexes between bounds

-- where a word stands among all, from the lowest one on
abbrev rank : ℤ → ℕ
rank (pos n) = 32768 + n
rank (negsuc n) = 32767 - n

rank_small : (z : ℤ) → FitsWord z → rank z < 65536
rank_small (pos n) f = omega (arith, f.sfits)
rank_small (negsuc n) f = omega arith

rank_is : (z : ℤ) → FitsWord z → unsigned z ≡ (rank z + 32768) % 65536
rank_is (pos n) f = omega (arith, f.sfits)
rank_is (negsuc n) f = omega (arith, f.sfits)

rank_true : (x y : ℤ) → FitsWord x → FitsWord y → int_le x y ≡ true → rank x ≤ rank y
rank_true (pos m) (pos n) f g e = let le : m ≤ n = grind (arith, nat_tests) in omega arith
rank_true (pos m) (negsuc n) f g e = absurd (cc)
rank_true (negsuc m) (pos n) f g e = omega arith
rank_true (negsuc m) (negsuc n) f g e = let le : n ≤ m = grind (arith, nat_tests) in omega (arith, f.sfits, g.sfits)

rank_false : (x y : ℤ) → FitsWord x → FitsWord y → int_le x y ≡ false → rank y < rank x
rank_false (pos m) (pos n) f g e = let lt : n < m = grind (arith, nat_tests) in omega arith
rank_false (pos m) (negsuc n) f g e = omega arith
rank_false (negsuc m) (pos n) f g e = absurd (cc)
rank_false (negsuc m) (negsuc n) f g e = let lt : m < n = grind (arith, nat_tests) in omega (arith, f.sfits, g.sfits)

rank_differs : (x y : ℤ) (n : ℕ) → FitsWord x → FitsWord y → y -ℤ x ≡ pos n → rank y ≡ rank x + n
rank_differs (pos m) (pos k) n f g e = omega (arith, ints)
rank_differs (pos m) (negsuc k) n f g e = omega (arith, ints)
rank_differs (negsuc m) (pos k) n f g e = omega (arith, ints, f.sfits)
rank_differs (negsuc m) (negsuc k) n f g e = omega (arith, ints, f.sfits, g.sfits)

ranks_differ : (x y : ℤ) (n : ℕ) → FitsWord x → FitsWord y → rank y ≡ rank x + n → y -ℤ x ≡ pos n
ranks_differ (pos m) (pos k) n f g e = omega (arith, ints)
ranks_differ (pos m) (negsuc k) n f g e = omega (arith, ints)
ranks_differ (negsuc m) (pos k) n f g e = omega (arith, ints, f.sfits)
ranks_differ (negsuc m) (negsuc k) n f g e = omega (arith, ints, f.sfits, g.sfits)

-- the number of an index from the lower bound on, as a word
abbrev pub from_word : (lower i : ℤ) → ℕ
from_word lower i = word_difference (unsigned i) (unsigned lower)

pub record BetweenBounds (lower i : ℤ) (last : ℕ) : Type 0 where
  pub number : ℕ
  pub less : i -ℤ lower ≡ pos number
  pub within : number ≤ last
  pub is : from_word lower i ≡ number

pub between_bounds : (lower upper i : ℤ) (last : ℕ) → FitsWord lower → FitsWord upper → FitsWord i → upper -ℤ lower ≡ pos last → (int_le lower i && int_le i upper) ≡ true → BetweenBounds lower i last
between_bounds lower upper i last fl fu fi e holds =
    let both = both_true (int_le lower i) (int_le i upper) holds in
    let below = rank_true lower i fl fi both.0 in
    let above = rank_true i upper fi fu both.1 in
    let ends = rank_differs lower upper last fl fu e in
    let il = rank_is lower fl in
    let ii = rank_is i fi in
    let sl = rank_small lower fl in
    let si = rank_small i fi in
    record { number = rank i - rank lower; less = ranks_differ lower i (rank i - rank lower) fl fi (omega arith); within = omega arith; is = omega arith }

pub past_bounds : (lower upper i : ℤ) (last : ℕ) → FitsWord lower → FitsWord upper → FitsWord i → upper -ℤ lower ≡ pos last → (int_le lower i && int_le i upper) ≡ false → suc last ≤ from_word lower i
past_bounds lower upper i last fl fu fi e fails = cases (int_le lower i) (int_le i upper) refl refl fails
  where
    ends : rank upper ≡ rank lower + last
    ends = rank_differs lower upper last fl fu e

    cases : (b c : Bool) → int_le lower i ≡ b → int_le i upper ≡ c → (b && c) ≡ false → suc last ≤ from_word lower i
    cases true true below above off = absurd (cc)
    cases true false below above off =
        omega (arith, ends, rank_true lower i fl fi below, rank_false i upper fi fu above, rank_is lower fl, rank_is i fi, rank_small lower fl, rank_small i fi, rank_small upper fu)
    cases false c below above off =
        omega (arith, ends, rank_false lower i fl fi below, rank_is lower fl, rank_is i fi, rank_small lower fl, rank_small i fi, rank_small upper fu)

-- an index from 0 on is below their count, as a number without a sign
pub below_count : (upper x : ℤ) → FitsWord upper → FitsWord x → (int_le (pos 0) x && int_le x upper) ≡ true → unsigned x < indexes_between upper
below_count (pos n) (pos i) fu fx is = let le : i ≤ n = grind (arith, nat_tests) in omega (arith, fu.sfits, fx.sfits)
below_count (pos n) (negsuc i) fu fx is = absurd (cc)
below_count (negsuc n) (pos i) fu fx is = absurd (false≢true (both_true (int_le (pos 0) (pos i)) (int_le (pos i) (negsuc n)) is).1)
below_count (negsuc n) (negsuc i) fu fx is = absurd (cc)

-- and any other is not
pub past_count : (upper x : ℤ) → FitsWord upper → FitsWord x → (int_le (pos 0) x && int_le x upper) ≡ false → indexes_between upper ≤ unsigned x
past_count (pos n) (pos i) fu fx is = let lt : n < i = grind (arith, nat_tests) in omega (arith, fu.sfits, fx.sfits)
past_count (pos n) (negsuc i) fu fx is = omega (arith, fu.sfits, fx.sfits)
past_count (negsuc n) x fu fx is = omega arith

-- what the source does with such an index, where its word is in the area
pub formed_between : (area b d : ℕ) (z : ℤ) (v : Words) → area ≤ 32768 → b + d < area → z ≡ pos d → fitting (fits_word z) (address_of (min area 32768) (signed b +ℤ z) v) ≡ Changed (put (pos (b + d)) v)
formed_between area b d z v low within is =
    ap (λ y. fitting (fits_word y) (address_of (min area 32768) (signed b +ℤ y) v)) is
    ∙ ap₂ (λ m s. fitting (fits_word (pos d)) (address_of m (s +ℤ pos d) v)) (min-eq_left low) signed_is
    ∙ ap (λ t. fitting t (address_of area (pos b +ℤ pos d) v)) (lt-ltb d 32768 (omega arith))
    ∙ ap (λ y. put_if (is_below y area) AddressRange y v) same
    ∙ ap (λ t. put_if t AddressRange (pos (b + d)) v) (lt-ltb (b + d) area within)
  where
    signed_is : signed b ≡ pos b
    signed_is = grind (arith, nat_tests)

    same : pos b +ℤ pos d ≡ pos (b + d)
    same = omega (arith, ints)

-- how many instructions the sum of a word's address and an index takes
abbrev pub index_steps : Place → ℕ
index_steps (cell.Word f n) = 2
index_steps (cell.Frame n) = 3

-- and the index alone, its bytes, and the difference from a lower bound
abbrev pub loaded_steps : Place → ℕ
loaded_steps (cell.Word f n) = 1
loaded_steps (cell.Frame n) = 2

abbrev pub loaded_size : Place → ℕ
loaded_size (cell.Word f n) = 4
loaded_size (cell.Frame n) = frame_size n + 5

abbrev pub lower_steps : ℤ → ℕ
lower_steps (pos zero) = 0
lower_steps lower = 1

-- the address of an element
abbrev pub element_steps : Element → Test → ℕ
element_steps e (test.Address origin) = index_steps e.index + 3
element_steps e (test.Bounds upper line) = loaded_steps e.index + lower_steps e.lower + 4

pub few_lower : (lower : ℤ) → lower_steps lower ≤ 1
few_lower (pos zero) = lit≤ tt
few_lower _ = lit≤ tt

pub few_loaded : (x : Place) → loaded_steps x ≤ 2
few_loaded (cell.Word f n) = lit≤ tt
few_loaded (cell.Frame n) = lit≤ tt

pub few_index : (x : Place) → index_steps x ≤ 3
few_index (cell.Word f n) = lit≤ tt
few_index (cell.Frame n) = lit≤ tt

pub few_element : (e : Element) (t : Test) → element_steps e t ≤ 7
few_element e (test.Address origin) = omega (arith, few_index e.index)
few_element e (test.Bounds upper line) = omega (arith, few_loaded e.index, few_lower e.lower)

pub loaded_index : (x : Place) → loaded_size x + 3 ≡ index_size x
loaded_index (cell.Word f n) = refl
loaded_index (cell.Frame n) = omega arith

pub loaded_long : (x : Place) → length (blanks (index_loaded x)) ≡ loaded_size x
loaded_long x = omega (arith, index_loaded_long x, loaded_index x)

-- ---- the code

module _ (c : Setting) (memory : List ℤ) (input output : List ℕ) where
  -- the address of an element, doubled, is in SI, and all else but BX is as it was
  pub record Addressed (at ax cx dx k top : ℕ) (cells stack : ℕ → ℕ) (left : List ℕ) (told : Told) (q : Watched) : Type 0 where
    pub bx : ℕ
    pub overflow : Bool
    pub is : Is c.image at (view ax cx dx bx (2 * suc top) (record_of c.acts) (2 * k) c.program.limits.area overflow cells stack left told) q

  -- the test, behind the sum
  module _ (value : Filling) (line : ℕ) (rest : List Coded) {p : Watched} {at ax cx dx bx : ℕ} {overflow : Bool} {cells stack : ℕ → ℕ} {left : List ℕ} {told : Told} (top z : ℕ) (i : ℤ) (inside : z < c.program.limits.area) (f : FitsWord i)
      (kept : Kept c.program c.g c.acts memory input output cells stack left told)
      (h : HasPieces c.image value at (coded.Whole (compare si_register di) ∷ coded.Whole (jump_if_below 5) ∷ (call_stop address_entry line ++ coded.Whole (double si_register) ∷ rest)))
      (s : Is c.image at (view ax cx dx bx (2 * suc top) (record_of c.acts) (word_sum z (unsigned i)) c.program.limits.area overflow cells stack left told) p) where
    abbrev sum_there : View
    sum_there = view ax cx dx bx (2 * suc top) (record_of c.acts) (word_sum z (unsigned i)) c.program.limits.area overflow cells stack left told

    pub test_passes : (k : ℕ) → pos z +ℤ i ≡ pos k → k < c.program.limits.area → Leads output 3 p (Addressed (at + 2 + 2 + 5 + 2) ax cx dx k top cells stack left told)
    test_passes k is within =
        let low = c.low in
        let one = one_compare z c.program.limits.area i inside low f in
        let below : is_below (pos z +ℤ i) c.program.limits.area ≡ true = ap (λ y. is_below y c.program.limits.area) is ∙ lt-ltb k c.program.limits.area within in
        let same : pos (word_sum z (unsigned i)) ≡ pos k = one.value below ∙ is in
        let sum_is : word_sum z (unsigned i) ≡ k = cc in
        let lt : word_sum z (unsigned i) < c.program.limits.area = omega arith in
        let half : word_sum z (unsigned i) < 32768 = omega arith in
        let there : at + 2 + 2 + 3 + 2 ≡ at + 2 + 2 + 5 = omega arith in
        let twice : Has c.image (at + 2 + 2 + 5) (double si_register) = subst (λ n. Has c.image n (double si_register)) there h.1.1.1.1.0 in
        compared c.rows {v = sum_there} 6 7 kept.wrote h.0 s
        (more c.rows (jumps_below c.rows {v = sum_there} 6 7 5 lt h.0 h.1.0 s) kept.wrote (doubled c.rows 6 half twice (jumps_below c.rows {v = sum_there} 6 7 5 lt h.0 h.1.0 s))
        (λ q t.
        done (record {
          bx = bx;
          overflow = double_overflows (word_sum z (unsigned i));
          is = subst (λ n. Is c.image (at + 2 + 2 + 5 + 2) (view ax cx dx bx (2 * suc top) (record_of c.acts) (2 * n) c.program.limits.area (double_overflows (word_sum z (unsigned i))) cells stack left told) q) sum_is t;
        })))

    pub test_stops : (to : ℕ) (loaded : Bool) → line < 65536 → top < level c.acts → ((k : ℕ) → (k + value 7 address_entry 0 k) % 65536 ≡ stop_place AddressRange % 65536) → is_below (pos z +ℤ i) c.program.limits.area ≡ false
        → DoesHere c memory input output 15 to loaded line p (Refused AddressRange)
    test_stops to loaded small low_top arrives none =
        let low = c.low in
        let one = one_compare z c.program.limits.area i inside low f in
        let above : c.program.limits.area ≤ word_sum z (unsigned i) = not_below (word_sum z (unsigned i)) c.program.limits.area (one.decides ∙ none) in
        further 15 (lit≤ tt) (lit< tt)
        (compared c.rows {v = sum_there} 6 7 kept.wrote h.0 s
        (calls_stop c memory input output AddressRange top (value 7 address_entry 0 (at + 2 + 2 + 3)) line tt small (omega arith) (arrives (at + 2 + 2 + 3)) kept h.1.1.0 h.1.1.1.0 (passes_above c.rows {v = sum_there} 6 7 5 above h.0 h.1.0 s)))

  -- ---- the sum

  -- the sum of the address of a word and an index is in SI, and all else but BX is as it was
  pub record Summed (at ax cx dx sum top : ℕ) (cells stack : ℕ → ℕ) (left : List ℕ) (told : Told) (q : Watched) : Type 0 where
    pub bx : ℕ
    pub overflow : Bool
    pub is : Is c.image at (view ax cx dx bx (2 * suc top) (record_of c.acts) sum c.program.limits.area overflow cells stack left told) q

  module _ (value : Filling) (family zero_at : ℕ) (rest : List Coded) {p : Watched} {first : Bool} {at ax cx dx bx si : ℕ} {overflow : Bool} {cells stack : ℕ → ℕ} {left : List ℕ} {told : Told} (top z k : ℕ) (i : ℤ)
      (named : (after : ℕ) → value 1 family zero_at after ≡ z) (low : k < 32768) (holds : cells k ≡ unsigned i) (kept : Kept c.program c.g c.acts memory input output cells stack left told)
      (s : IsAt first c.image at (view ax cx dx bx (2 * suc top) (record_of c.acts) si c.program.limits.area overflow cells stack left told) p) where
    -- by a word of a family
    pub sum_by_word : (f n : ℕ) → ((after : ℕ) → value 2 f n after ≡ 2 * k) → HasPiecesFrom first c.image value at (index_added (cell.Word f n) family zero_at ++ rest)
        → Leads output 2 p (Summed (at + 3 + 4) ax cx dx (word_sum z (unsigned i)) top cells stack left told)
    sum_by_word f n index h =
        let word = value 1 family zero_at (at + 3) in
        more c.rows {to = at + 3} {w = view ax cx dx bx (2 * suc top) (record_of c.acts) word c.program.limits.area overflow cells stack left told} s kept.wrote (number c.rows 6 word h.0 s) (λ q t.
        last c.rows t kept.wrote (record {
          bx = bx;
          overflow = sum_overflows word (cells k);
          is = subst (λ b. Is c.image (at + 3 + 4) (view ax cx dx bx (2 * suc top) (record_of c.acts) b c.program.limits.area (sum_overflows word (cells k)) cells stack left told) (watched_step q)) (ap₂ word_sum (named (at + 3)) holds)
              (add_at c.rows 6 (value 2 f n (at + 3 + 4)) k low (index (at + 3 + 4)) h.1.0 t);
        }))

    -- by a word of the frame of an activation
    pub sum_by_frame : (n : ℕ) (a : OrderActivation) (under : List OrderActivation) → c.acts ≡ a ∷ under → k ≡ a.frame_base + n → HasPiecesFrom first c.image value at (index_added (cell.Frame n) family zero_at ++ rest)
        → Leads output 3 p (Summed (at + 3 + 3 + length (bytes_of (operate 0 si_register (field (2 * n % 65536))))) ax cx dx (word_sum z (unsigned i)) top cells stack left told)
    sum_by_frame n a under acts_are index h =
        let word = value 1 family zero_at (at + 3 + 3) in
        let twice = 2 * a.frame_base % 65536 in
        let address : (twice + 2 * n % 65536) % 65536 ≡ 2 * k = omega arith in
        leads_then
        (straight_from c.rows (LoadSlot bx_register 0xFA (level c.acts + 1) twice) (Number si_register word ∷ []) {n = 0} kept.wrote (h.0, (h.1.0, tt)) (base_there c.program c.acts (ap (base_word c.program) acts_are) kept.piled.0, (tt, tt)) s
        (λ q t. done {Target = Is c.image (at + 3 + 3) (view ax cx dx twice (2 * suc top) (record_of c.acts) word c.program.limits.area overflow cells stack left told)} t))
        (λ q t.
        let added = act c.rows (Operate Add si_register (field (2 * n % 65536)) (InData k) (cells k)) (let some : 0 < length (bytes_of (operate 0 si_register (field (2 * n % 65536)))) = omega (arith, field_operated 0 si_register (2 * n % 65536)) in some) h.1.1.0 (field_denotes c.image.bytes (view ax cx dx twice (2 * suc top) (record_of c.acts) word c.program.limits.area overflow cells stack left told).registers (2 * n % 65536) k low (doubled_small a.frame_base) address, refl) t in
        last c.rows t kept.wrote (record {
          bx = twice;
          overflow = sum_overflows word (cells k);
          is = subst (λ b. Is c.image (at + 3 + 3 + length (bytes_of (operate 0 si_register (field (2 * n % 65536))))) (view ax cx dx twice (2 * suc top) (record_of c.acts) b c.program.limits.area (sum_overflows word (cells k)) cells stack left told) (watched_step q))
              (ap₂ word_sum (named (at + 3 + 3)) holds) added.is;
        }))

  -- ---- the index, and its test

  module _ (value : Filling) (rest : List Coded) {p : Watched} {first : Bool} {at ax cx dx bx si : ℕ} {overflow : Bool} {cells stack : ℕ → ℕ} {left : List ℕ} {told : Told} (top k : ℕ) (i : ℤ)
      (low : k < 32768) (holds : cells k ≡ unsigned i) (kept : Kept c.program c.g c.acts memory input output cells stack left told)
      (s : IsAt first c.image at (view ax cx dx bx (2 * suc top) (record_of c.acts) si c.program.limits.area overflow cells stack left told) p) where
    -- the index from a word of a family
    pub index_by_word : (f n : ℕ) → ((after : ℕ) → value 2 f n after ≡ 2 * k) → HasPiecesFrom first c.image value at (index_loaded (cell.Word f n) ++ rest)
        → Leads output 1 p (Summed (at + 4) ax cx dx (unsigned i) top cells stack left told)
    index_by_word f n index h =
        last c.rows s kept.wrote (record {
          bx = bx;
          overflow = overflow;
          is = subst (λ b. Is c.image (at + 4) (view ax cx dx bx (2 * suc top) (record_of c.acts) b c.program.limits.area overflow cells stack left told) (watched_step p)) holds
              (act c.rows (Into si_register (memory_at (places.Direct (value 2 f n (at + 4)))) (InData k) (cells k)) (lit< tt) h.0 ((refl, refl, low, index (at + 4)), refl) s).is;
        })

    -- and from a word of the frame of an activation
    pub index_by_frame : (n : ℕ) (a : OrderActivation) (under : List OrderActivation) → c.acts ≡ a ∷ under → k ≡ a.frame_base + n → HasPiecesFrom first c.image value at (index_loaded (cell.Frame n) ++ rest)
        → Leads output 2 p (Summed (at + 3 + length (bytes_of (load si_register (field (2 * n % 65536))))) ax cx dx (unsigned i) top cells stack left told)
    index_by_frame n a under acts_are index h =
        let twice = 2 * a.frame_base % 65536 in
        let address : (twice + 2 * n % 65536) % 65536 ≡ 2 * k = omega arith in
        leads_then
        (straight_from c.rows (LoadSlot bx_register 0xFA (level c.acts + 1) twice) [] {n = 0} kept.wrote (h.0, tt) (base_there c.program c.acts (ap (base_word c.program) acts_are) kept.piled.0, tt) s
        (λ q t. done {Target = Is c.image (at + 3) (view ax cx dx twice (2 * suc top) (record_of c.acts) si c.program.limits.area overflow cells stack left told)} t))
        (λ q t.
        last c.rows t kept.wrote (record {
          bx = twice;
          overflow = overflow;
          is = subst (λ b. Is c.image (at + 3 + length (bytes_of (load si_register (field (2 * n % 65536))))) (view ax cx dx twice (2 * suc top) (record_of c.acts) b c.program.limits.area overflow cells stack left told) (watched_step q)) holds
              (act c.rows (Into si_register (field (2 * n % 65536)) (InData k) (cells k)) (let some : 0 < length (bytes_of (load si_register (field (2 * n % 65536)))) = omega (arith, field_loaded si_register (2 * n % 65536)) in some) h.1.0 (field_denotes c.image.bytes (view ax cx dx twice (2 * suc top) (record_of c.acts) si c.program.limits.area overflow cells stack left told).registers (2 * n % 65536) k low (doubled_small a.frame_base) address, refl) t).is;
        }))

  module _ (value : Filling) (rest : List Coded) {p : Watched} {at ax cx dx bx : ℕ} {overflow : Bool} {cells stack : ℕ → ℕ} {left : List ℕ} {told : Told} (top word : ℕ) (small : word < 65536)
      (kept : Kept c.program c.g c.acts memory input output cells stack left told)
      (s : Is c.image at (view ax cx dx bx (2 * suc top) (record_of c.acts) word c.program.limits.area overflow cells stack left told) p) where
    subtracts : (n : ℕ) → Has c.image at (operate_number 5 si_register n) → Leads output 1 p (Summed (at + 4) ax cx dx (word_difference word n) top cells stack left told)
    subtracts n h =
        last c.rows s kept.wrote (record {
          bx = bx;
          overflow = difference_overflows word n;
          is = (act c.rows (OperateNumberOnto Subtract n (rms.Reg si_register) (InRegister si_register) word) (lit< tt) h (refl, tt, refl) s).is;
        })

    -- the lower bound is taken from it
    pub less_lower : (lower : ℤ) → HasPieces c.image value at (from_lower lower ++ rest) → Leads output (lower_steps lower) p (Summed (at + lower_size lower) ax cx dx (word_difference word (unsigned lower)) top cells stack left told)
    less_lower (pos zero) h =
        let same : word ≡ word_difference word 0 = omega (arith, small) in
        let here : at ≡ at + 0 = omega arith in
        done (record {
          bx = bx;
          overflow = overflow;
          is = subst (λ n. Is c.image n (view ax cx dx bx (2 * suc top) (record_of c.acts) (word_difference word 0) c.program.limits.area overflow cells stack left told) p) here
              (subst (λ b. Is c.image at (view ax cx dx bx (2 * suc top) (record_of c.acts) b c.program.limits.area overflow cells stack left told) p) same s);
        })
    less_lower (pos (suc n)) h = subtracts (unsigned (pos (suc n))) h.0
    less_lower (negsuc n) h = subtracts (unsigned (negsuc n)) h.0

  -- the test behind it
  module _ (value : Filling) (line family first count : ℕ) (rest : List Coded) {p : Watched} {at ax cx dx bx : ℕ} {overflow : Bool} {cells stack : ℕ → ℕ} {left : List ℕ} {told : Told} (top word : ℕ)
      (kept : Kept c.program c.g c.acts memory input output cells stack left told)
      (h : HasPieces c.image value at (coded.Whole (operate_number 7 si_register count) ∷ coded.Whole (jump_if_below 5) ∷ (call_stop bounds_entry line ++ coded.Sum si_register (target.Word family first) ∷ coded.Whole (double si_register) ∷ rest)))
      (s : Is c.image at (view ax cx dx bx (2 * suc top) (record_of c.acts) word c.program.limits.area overflow cells stack left told) p) where
    abbrev index_there : Bool → (word : ℕ) → View
    index_there o w = view ax cx dx bx (2 * suc top) (record_of c.acts) w c.program.limits.area o cells stack left told

    abbrev IndexCompared : Watched → Type 0
    IndexCompared q = IsCompared c.image (at + 4) (index_there (difference_overflows word count) word) word count q

    index_compared : IndexCompared (watched_step p)
    index_compared =
        let t = act c.rows (OperateNumberOnto Compare count (rms.Reg si_register) (InRegister si_register) word) (lit< tt) h.0 (refl, tt, refl) s in
        record { is = t.is; flags = c.rows.as_compared word count p.processor.state.flags (watched_step p).processor t.flags }

    pub index_passes : (base k : ℕ) → value 1 family first (at + 4 + 2 + 5 + 4) ≡ base → word < count → word_sum word base ≡ k → k < 32768 → Leads output 4 p (Addressed (at + 4 + 2 + 5 + 4 + 2) ax cx dx k top cells stack left told)
    index_passes base k named lt sum low =
        let over = difference_overflows word count in
        let offset = value 1 family first (at + 4 + 2 + 5 + 4) in
        let there : at + 4 + 2 + 3 + 2 ≡ at + 4 + 2 + 5 = omega arith in
        let onward : HasPieces c.image value (at + 4 + 2 + 5) (coded.Sum si_register (target.Word family first) ∷ coded.Whole (double si_register) ∷ rest) =
        subst (λ n. HasPieces c.image value n (coded.Sum si_register (target.Word family first) ∷ coded.Whole (double si_register) ∷ rest)) there h.1.1.1.1 in
        let sum_is : word_sum word offset ≡ k = ap (word_sum word) named ∙ sum in
        compared_more c.rows {Between = IndexCompared} s kept.wrote index_compared (λ q t.
        more c.rows {to = at + 4 + 2 + 5} {w = index_there over word} t.is kept.wrote (jump_below c.rows 5 lt h.1.0 t) (λ q u.
        more c.rows {to = at + 4 + 2 + 5 + 4} {w = index_there (sum_overflows word offset) k} u kept.wrote
        (subst (λ b. Is c.image (at + 4 + 2 + 5 + 4) (index_there (sum_overflows word offset) b) (watched_step q)) sum_is
        (act c.rows (OperateNumberOnto Add offset (rms.Reg si_register) (InRegister si_register) word) (lit< tt) onward.0 (refl, tt, refl) u).is) (λ q v.
        last c.rows v kept.wrote (record { bx = bx; overflow = double_overflows k; is = doubled c.rows 6 low onward.1.0 v }))))

    pub index_stops : (to : ℕ) (loaded : Bool) → line < 65536 → top < level c.acts → ((k : ℕ) → (k + value 7 bounds_entry 0 k) % 65536 ≡ stop_place IndexRange % 65536) → count ≤ word
        → DoesHere c memory input output 15 to loaded line p (Refused IndexRange)
    index_stops to loaded small low_top arrives above =
        further 15 (lit≤ tt) (lit< tt)
        (compared_more c.rows {Between = IndexCompared} s kept.wrote index_compared (λ q t.
        more c.rows {to = at + 4 + 2} {w = index_there (difference_overflows word count) word} t.is kept.wrote (pass_above c.rows 5 above h.1.0 t) (λ q u.
        calls_stop c memory input output IndexRange top (value 7 bounds_entry 0 (at + 4 + 2 + 3)) line tt small (omega arith) (arrives (at + 4 + 2 + 3)) kept h.1.1.0 h.1.1.1.0 u)))
