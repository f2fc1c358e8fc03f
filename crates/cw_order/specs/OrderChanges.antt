-- What orders do to words beyond the operations of the source semantics, and how they choose the way on.
use Rattle.std.specs.Prelude.{ℕ, zero, suc, ◌+◌, ◌-◌, nat_eq, nat_lt, min, ℤ, pos, negsuc, List}
use Rattle.std.specs.Prelude.{◌∷◌, set, Bool, true, false, not, Option, Some, None, slice_get}
use Rattle.cw_word.specs.FixedPoint.{fits_word}
use Rattle.cw_word.specs.Word.{signed, unsigned, word_difference}
use Rattle.cw_unit.specs.declared.unit.CompareOp.{CompareOp}
use Rattle.cw_unit.specs.declared.unit.CompareOp.TheVariants as compare
use Rattle.cw_unit.specs.Stop.{StopKind, AddressRange, SwitchRange}
use Rattle.cw_unit.specs.Words.{Operand, Word, Words, Outcome, Changed, Refused, Impossible, with_operands, with_memory}
use Rattle.cw_unit.specs.Words.{put, put_if, is_below, number_of, on_one, on_two, word_at, at_address}
use Rattle.cw_unit.specs.Operation.{Addressing, form_address, SetVariable, AddStep, perform, is_past}
use Rattle.cw_order.specs.declared.order.Comparator.{Comparator}
use Rattle.cw_order.specs.declared.order.Comparator.TheVariants as comparator

-- ---- changes of the words

-- an index that must fit a word
abbrev pub put_index : ℤ → Words → Outcome
put_index z w = put_if (fits_word z) AddressRange z w

abbrev pub index : (ℤ → ℤ) → Words → Outcome
index f w = on_one (λ i v. put_index (f i) v) w.operands w

-- An address is formed from a base, the operand on top, and what stands below it. No word is an address above 32,767.
abbrev pub from_base : (area : ℕ) → (ℤ → Addressing) → Words → Outcome
from_base area f w = on_one (λ base v. form_address (min area 32768) (f base) v) w.operands w

-- a difference modulo 65,536
abbrev pub difference : Words → Outcome
difference w = on_two (λ x y v. Changed (put (signed (word_difference (unsigned x) (unsigned y))) v)) w.operands w

abbrev pub without_top : Words → Outcome
without_top w = on_one (λ x v. Changed v) w.operands w

abbrev pub put_address : Option ℕ → Words → Outcome
put_address None w = Impossible
put_address (Some a) w = Changed (put (signed a) w)

-- a word argument is stored at an address
abbrev pub bind : (area : ℕ) → Option Operand → Option ℕ → Words → Outcome
bind area (Some (Word z)) (Some a) w = at_address area (λ i v. Changed (with_memory v (set v.memory i z))) (pos a) w
bind area _ _ w = Impossible

-- ---- loops, whose words are in the area

abbrev pub if_inside : Bool → Outcome → Outcome
if_inside true o = o
if_inside false o = Impossible

abbrev pub set_variable : (area : ℕ) → Words → Outcome
set_variable area w = on_one (λ a v. if_inside (is_below a area) (perform area (SetVariable (number_of a)) v)) w.operands w

-- by word 1 of the loop
abbrev pub add_step : (area : ℕ) → Words → Outcome
add_step area w = on_one (λ a v. if_inside (is_below a (area - 1)) (perform area (AddStep (number_of a)) v)) w.operands w

-- below the address of the loop
abbrev pub put_variable : (area : ℕ) → Words → Outcome
put_variable area w =
    on_one
    (λ a v.
    if_inside (is_below a area)
    (at_address area (λ i t. Changed (put a (put (word_at t.memory i) t))) (word_at v.memory (number_of a)) v))
    w.operands
    w

-- ---- ways on

-- at the next place, at a mark, to a stop, or nowhere
pub data Way : Type 0 where
  Onward : Words → Way
  ToMark : (mark : ℕ) → Words → Way
  Barred : StopKind → Way
  Nowhere : Way

abbrev pub way_of_one : (ℤ → Words → Way) → List Operand → Words → Way
way_of_one f (Word x ∷ rest) w = f x (with_operands w rest)
way_of_one f _ w = Nowhere

abbrev pub way_of_two : (ℤ → ℤ → Words → Way) → Words → Way
way_of_two f w = way_of_one (λ y v. way_of_one (λ x t. f x y t) v.operands v) w.operands w

abbrev pub to_mark_if : Bool → (mark : ℕ) → Words → Way
to_mark_if true m w = ToMark m w
to_mark_if false m w = Onward w

abbrev pub to_mark_in : Option ℕ → Words → Way
to_mark_in None w = Onward w
to_mark_in (Some m) w = ToMark m w

abbrev pub to_mark_of_switch : Option ℕ → Words → Way
to_mark_of_switch None w = Barred SwitchRange
to_mark_of_switch (Some m) w = ToMark m w

abbrev pub comparison : Comparator → CompareOp
comparison comparator.Less = compare.Less
comparison comparator.LessEqual = compare.LessEq
comparison comparator.Equal = compare.Equal
comparison comparator.GreaterEqual = compare.GreaterEq
comparison comparator.Greater = compare.Greater
comparison comparator.Unequal = compare.Unequal

-- by words 1 and 2 of a loop, whose words are in the area
abbrev pub way_past_limit : Bool → (mark : ℕ) → (variable : ℤ) → (loop : ℕ) → Words → Way
way_past_limit true m x a w = to_mark_if (is_past (word_at w.memory (a + 1)) x (word_at w.memory (a + 2))) m w
way_past_limit false m x a w = Nowhere

-- behind an operation
abbrev pub way_behind : Outcome → (Words → Way) → Way
way_behind (Changed v) f = f v
way_behind (Refused kind) f = Barred kind
way_behind Impossible f = Nowhere

-- at the mark where the control variable, through word 0 of a loop, is not past its limit, by words 1 and 2
abbrev pub turn_if : Bool → (mark loop : ℕ) → Words → Way
turn_if true m a w = to_mark_if (not (is_past (word_at w.memory (a + 1)) (word_at w.memory (number_of (word_at w.memory a))) (word_at w.memory (a + 2)))) m w
turn_if false m a w = Barred AddressRange

abbrev pub turned : (area mark loop : ℕ) → Words → Way
turned area m a w = turn_if (is_below (word_at w.memory a) area) m a w

-- where word 3 is the number of the one element, the step is added before
abbrev pub stepped_if : Bool → (area mark loop : ℕ) → Words → Way
stepped_if true area m a w = way_behind (perform area (AddStep a) w) (turned area m a)
stepped_if false area m a w = Onward w

abbrev pub stepped : (area mark loop : ℕ) → Words → Way
stepped area m a w = stepped_if (nat_eq (number_of (word_at w.memory (a + 3))) 1) area m a w

-- by the four words of a loop, which are in the area
abbrev pub stepped_inside : Bool → (area mark loop : ℕ) → Words → Way
stepped_inside true area m a w = stepped area m a w
stepped_inside false area m a w = Nowhere

abbrev pub next_step : (area mark : ℕ) → Option ℕ → Words → Way
next_step area m None w = Nowhere
next_step area m (Some a) w = stepped_inside (nat_lt (a + 3) area) area m a w

-- numbers count from 1
abbrev pub mark_of_number : List ℕ → ℤ → Option ℕ
mark_of_number marks (pos zero) = None
mark_of_number marks (pos (suc n)) = slice_get marks n
mark_of_number marks (negsuc n) = None
