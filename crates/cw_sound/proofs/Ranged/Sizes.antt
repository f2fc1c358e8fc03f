-- The numbers of data that is declared without fault: rows, sizes and widths have at most 32,768 words, and elements lie in a word.
use Rattle.std.proofs.Common.{ℕ, ◌*◌, ◌<◌, ◌≤◌, Bool, IsTrue, ◌&&◌, nat_le, nat_lt, Option, Some, None, is_some, refl, sym, subst, arith, if◌then◌else◌}
use Rattle.std.proofs.Math.Nat.{le-mul_of_pos_right, mul_comm}
use Rattle.cw_tree.specs.declared.leaf.RawInt.{RawInt}
use Rattle.cw_tree.specs.declared.leaf.RawName.{RawName}
use Rattle.cw_tree.specs.declared.leaf.RawSize.{RawSize}
use Rattle.cw_tree.specs.declared.items.RawRange.{RawRange}
use Rattle.cw_tree.specs.declared.items.RawElem.{RawElem}
use Rattle.cw_tree.specs.declared.items.RawElem.TheVariants as elem
use Rattle.cw_amount.specs.Amounts.{place_amount, number_position}
use Rattle.cw_scale.specs.declared.fault.Rule.TheVariants as rule
use Rattle.cw_scale.specs.Faults.{Judgement, unless, both}
use Rattle.cw_scale.specs.Types.{int_judged, scale_judged, type_judged, is_field}
use Rattle.cw_data.specs.Data.{range_span, fits_area, good_bounds, good_size, size_judged, is_within, element_judged}
use Rattle.cw_data.specs.Presets.{table_words}
use Rattle.cw_make_expr.specs.Parts.{within, element_word, element_field}
use Rattle.cw_writable.specs.Coded.RangedExpressions as ranged
use Rattle.cw_sound.proofs.Expressions.Truth.{no, both as both_true, parts, le_true, le_of, lt_true, lt_of}
use Rattle.cw_sound.proofs.Expressions.Judging.{Keeps, NoFault, keeps_both, keeps_unless, keeps_int, both_free, holds, keeps_scale}
use Rattle.cw_sound.specs.Ranges.Declared.{is_size, is_element, is_row}
use Rattle.cw_sound.proofs.Expressions.Operands.{within_is, part_of}

abbrev most_words : ℕ
most_words = 32768

-- a factor of a product, where the other is not nothing
left_factor : (a b : ℕ) → 1 ≤ b → a * b ≤ most_words → a ≤ most_words
left_factor a b h most =
    let grows : a ≤ a * b = le-mul_of_pos_right a (omega (arith, h)) in
    omega (arith, grows, most)

right_factor : (a b : ℕ) → 1 ≤ a → a * b ≤ most_words → b ≤ most_words
right_factor a b h most = left_factor b a h (subst (λ n. n ≤ most_words) (mul_comm a b) most)

told : (n : RawInt) → NoFault (int_judged n) → IsTrue (is_some (place_amount n))
told n e = holds (is_some (place_amount n)) rule.NumberRange (number_position n) e

-- ---- rows

pub row_good : (r : RawRange) (o : Option RawRange) → IsTrue (good_bounds r o) → IsTrue (is_row o)
row_good r None h = refl
row_good r (Some s) h =
    let x = parts (nat_le 1 (range_span r)) (nat_le 1 (range_span s) && fits_area (range_span r * range_span s)) h in
    let y = parts (nat_le 1 (range_span s)) (fits_area (range_span r * range_span s)) x.1 in
    let small : range_span s ≤ most_words = right_factor (range_span r) (range_span s) (le_of 1 (range_span r) x.0) (le_of (range_span r * range_span s) most_words y.1) in
    subst (λ n. IsTrue (nat_le n most_words)) (sym (within_is (range_span s) 65535 (omega (arith, small)))) (le_true (range_span s) most_words small)

-- ---- sizes

-- a width that is told
abbrev pub SmallWidth : Option ℕ → Type 0
SmallWidth None = ⊥
SmallWidth (Some w) = w ≤ most_words

abbrev is_sized : (w n : Option ℕ) → Bool
is_sized w n = nat_le (table_words w n) most_words && (nat_le (within 65535 w) most_words && nat_le (within 65535 n) most_words)

sized : (w n : Option ℕ) → IsTrue (is_some w) → IsTrue (is_some n) → IsTrue (good_size w n) → IsTrue (is_sized w n) × SmallWidth w
sized None n h k good = no h
sized (Some w) None h k good = no k
sized (Some w) (Some n) h k good =
    let x = parts (nat_le 1 w) (nat_le 1 n && fits_area (w * n)) good in
    let y = parts (nat_le 1 n) (fits_area (w * n)) x.1 in
    let all : w * n ≤ most_words = le_of (w * n) most_words y.1 in
    let wide : w ≤ most_words = left_factor w n (le_of 1 n y.0) all in
    let long : n ≤ most_words = right_factor w n (le_of 1 w x.0) all in
    let words : IsTrue (nat_le (table_words (Some w) (Some n)) most_words) = subst (λ (b : Bool). IsTrue (nat_le (if b then w * n else 1) most_words)) (sym good) (le_true (w * n) most_words all) in
    let width : IsTrue (nat_le (within 65535 (Some w)) most_words) = subst (λ m. IsTrue (nat_le m most_words)) (sym (within_is w 65535 (omega (arith, wide)))) (le_true w most_words wide) in
    let entries : IsTrue (nat_le (within 65535 (Some n)) most_words) = subst (λ m. IsTrue (nat_le m most_words)) (sym (within_is n 65535 (omega (arith, long)))) (le_true n most_words long) in (
      both_true (nat_le (table_words (Some w) (Some n)) most_words) (nat_le (within 65535 (Some w)) most_words && nat_le (within 65535 (Some n)) most_words) words
          (both_true (nat_le (within 65535 (Some w)) most_words) (nat_le (within 65535 (Some n)) most_words) width entries),
      wide,
    )

pub size_good : (name : RawName) (s : RawSize) → NoFault (size_judged name s) → IsTrue (is_size s) × SmallWidth (place_amount s.first)
size_good name s free =
    let fits : Bool = good_size (place_amount s.first) (place_amount s.second) in
    let last : Judgement = unless fits rule.BadBounds name.at in
    let keeps_last : Keeps last = keeps_unless fits rule.BadBounds name.at in
    let x = both_free (int_judged s.first) (both (int_judged s.second) last) (keeps_both (keeps_int s.second) keeps_last) free in
    let y = both_free (int_judged s.second) last keeps_last x.1 in
    sized (place_amount s.first) (place_amount s.second) (told s.first x.0) (told s.second y.0) (holds fits rule.BadBounds name.at y.1)

-- ---- elements

word_small : (p width : Option ℕ) → SmallWidth width → IsTrue (is_within p width) → IsTrue (nat_lt (within 65535 p) most_words)
word_small p None small h = absurd small
word_small None (Some w) small h = refl
word_small (Some p) (Some w) small h =
    let below : p < w = lt_of p w h in
    subst (λ m. IsTrue (nat_lt m most_words)) (sym (within_is p 65535 (omega (arith, below, small)))) (lt_true p most_words (omega (arith, below, small)))

pub element_good : (width : Option ℕ) (e : RawElem) → SmallWidth width → NoFault (element_judged width e) → IsTrue (is_element e)
element_good width (elem.Word n t w) small free =
    let fits : Bool = is_within (place_amount w) width in
    let last : Judgement = unless fits rule.FieldRange n.at in
    let keeps_last : Keeps last = keeps_unless fits rule.FieldRange n.at in
    let x = both_free (type_judged t) (both (int_judged w) last) (keeps_both (keeps_int w) keeps_last) free in
    let y = both_free (int_judged w) last keeps_last x.1 in
    both_true (nat_lt (element_word (elem.Word n t w)) most_words) (ranged.is_field (element_field (elem.Word n t w))) (word_small (place_amount w) width small (holds fits rule.FieldRange n.at y.1)) refl
element_good width (elem.Part n unsigned t f w b) small free =
    let inside : Bool = is_within (place_amount w) width in
    let field : Bool = is_field (place_amount t) (place_amount b) in
    let last : Judgement = unless (inside && field) rule.FieldRange n.at in
    let keeps_last : Keeps last = keeps_unless (inside && field) rule.FieldRange n.at in
    let place : Judgement = both (int_judged b) last in
    let keeps_place : Keeps place = keeps_both (keeps_int b) keeps_last in
    let word : Judgement = both (int_judged w) place in
    let keeps_word : Keeps word = keeps_both (keeps_int w) keeps_place in
    let x = both_free (int_judged t) (both (scale_judged f) word) (keeps_both (keeps_scale f) keeps_word) free in
    let y = both_free (scale_judged f) word keeps_word x.1 in
    let z = both_free (int_judged w) place keeps_place y.1 in
    let v = both_free (int_judged b) last keeps_last z.1 in
    let tests = parts inside field (holds (inside && field) rule.FieldRange n.at v.1) in
    both_true (nat_lt (element_word (elem.Part n unsigned t f w b)) most_words) (ranged.is_field (element_field (elem.Part n unsigned t f w b)))
    (word_small (place_amount w) width small tests.0) (part_of (place_amount t) (place_amount b) (told t x.0) (told b v.0) tests.1)
