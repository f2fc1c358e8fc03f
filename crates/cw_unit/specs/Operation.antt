-- The operations on the words of a running program: each takes its operands from the operand stack and puts its result there.
use Rattle.std.specs.Prelude.{ℕ, zero, suc, ◌+◌, ℤ, pos, negsuc, ◌+ℤ◌, ◌-ℤ◌, ◌*ℤ◌, neg_ℤ, [], ◌∷◌}
use Rattle.std.specs.Prelude.{◌++◌, set, Bool, true, false, not, int_lt, int_le, ◌&&◌, Option}
use Rattle.cw_word.specs.FixedPoint.{fits_word, rescaled, scaled_product, scaled_quotient}
use Rattle.cw_word.specs.BitField.{unsigned_field}
use Rattle.cw_word.specs.Word.{signed, unsigned}
use Rattle.cw_unit.specs.declared.unit.Field.{Field}
use Rattle.cw_unit.specs.declared.unit.LogicOp.{LogicOp}
use Rattle.cw_unit.specs.declared.unit.CompareOp.{CompareOp}
use Rattle.cw_unit.specs.declared.unit.CompareOp.TheVariants as compare
use Rattle.cw_unit.specs.Stop.{Overflow, ZeroDivisor, AddressRange, IndexRange}
use Rattle.cw_unit.specs.Words.{Words, Outcome, Changed, Refused, with_memory, is_below, put, put_if, put_value, on_one, on_two}
use Rattle.cw_unit.specs.Words.{word_at, at_address, field_value, with_bits, stored_value, logic_word, byte_of, read_byte}

-- how an address is formed: it is known, it is the operand, or it is reckoned from a base by an index less a lower bound, by two of
-- them and the words of a row, or by the number of an entry, its words and a place in it
pub data Addressing : Type 0 where
  Known : ℤ → Addressing
  Taken : Addressing
  Indexed : (base : ℤ) → (lower : ℤ) → Addressing
  Indexed2 : (base : ℤ) → (lower lower2 : ℤ) → (width : ℕ) → Addressing
  Scaled : (base : ℤ) → (width word : ℕ) → Addressing

-- goes on where a value fits a word
abbrev pub fitting : Bool → Outcome → Outcome
fitting true o = o
fitting false o = Refused AddressRange

-- the last value
abbrev pub address_of : (area : ℕ) → ℤ → Words → Outcome
address_of area z w = put_if (is_below z area) AddressRange z w

-- each value on the way must fit a word, and the last must be an address of the area
abbrev pub form_address : (area : ℕ) → Addressing → Words → Outcome
form_address area (Known z) w = address_of area z w
form_address area Taken w = on_one (address_of area) w.operands w
form_address area (Indexed base lower) w =
    on_one (λ i v. fitting (fits_word (i -ℤ lower)) (address_of area (base +ℤ (i -ℤ lower)) v)) w.operands w
form_address area (Indexed2 base l1 l2 width) w =
    on_two
    (λ i j v.
    fitting (fits_word (i -ℤ l1))
    (fitting (fits_word ((i -ℤ l1) *ℤ pos width))
    (fitting (fits_word (j -ℤ l2))
    (fitting (fits_word ((i -ℤ l1) *ℤ pos width +ℤ (j -ℤ l2))) (address_of area (base +ℤ ((i -ℤ l1) *ℤ pos width +ℤ (j -ℤ l2))) v)))))
    w.operands
    w
form_address area (Scaled base width word) w =
    on_one
    (λ i v.
    fitting (fits_word (i *ℤ pos width)) (fitting (fits_word (i *ℤ pos width +ℤ pos word)) (address_of area (base +ℤ (i *ℤ pos width +ℤ pos word)) v)))
    w.operands
    w

-- Constant puts a word. Rescale takes a word of one scale to another. Fetch puts what is at an address; Store and StoreBits take an
-- address and the word below it. Multiply and Divide scale their result by a power of two. Combine and Extract work on bits. InBounds
-- compares an index with its bounds and leaves it. Form puts an address. Keep stores a word. SetVariable and AddStep
-- store into the control variable of a loop, whose address the loop's first
-- word holds
pub data Operation : Type 0 where
  Constant : ℤ → Operation
  Rescale : (from to : ℕ) → Operation
  Fetch : Option Field → Operation
  Store : Option Field → Operation
  StoreBits : (t b : ℕ) → Operation
  Add : Operation
  Subtract : Operation
  Negate : Operation
  Multiply : ℤ → Operation
  Divide : ℤ → Operation
  Combine : LogicOp → Operation
  Extract : (t b : ℕ) → Operation
  InBounds : (lower upper : ℤ) → Operation
  Form : Addressing → Operation
  Keep : (address : ℕ) → Operation
  SetVariable : (loop : ℕ) → Operation
  AddStep : (loop : ℕ) → Operation
  ReadByte : Operation
  WriteByte : Operation

-- the zero divisor comes before Overflow
abbrev pub divide : (scale : ℤ) → ℤ → ℤ → Words → Outcome
divide s x (pos zero) w = Refused ZeroDivisor
divide s x (pos (suc n)) w = put_value (scaled_quotient x (pos (suc n)) s) w
divide s x (negsuc n) w = put_value (scaled_quotient x (negsuc n) s) w

-- The word below goes to the address on top, as f makes it of the word that stands there.
abbrev pub store_with : (area : ℕ) → (ℤ → ℤ → ℤ) → Words → Outcome
store_with area f w =
    on_two (λ z a v. at_address area (λ i t. Changed (with_memory t (set t.memory i (f (word_at t.memory i) z)))) a v) w.operands w

abbrev pub store_sum : Bool → ℕ → ℤ → Words → Outcome
store_sum true i z w = Changed (with_memory w (set w.memory i z))
store_sum false i z w = Refused Overflow

abbrev pub perform : (area : ℕ) → Operation → Words → Outcome
perform area (Constant z) w = Changed (put z w)
perform area (Rescale from to) w = on_one (λ x v. put_value (rescaled x from to) v) w.operands w
perform area (Fetch s) w = on_one (at_address area (λ i v. Changed (put (field_value s (word_at v.memory i)) v))) w.operands w
perform area (Store s) w = store_with area (stored_value s) w
perform area (StoreBits t b) w = store_with area (with_bits t b) w
perform area Add w = on_two (λ x y v. put_value (x +ℤ y) v) w.operands w
perform area Subtract w = on_two (λ x y v. put_value (x -ℤ y) v) w.operands w
perform area Negate w = on_one (λ x v. put_value (neg_ℤ x) v) w.operands w
perform area (Multiply s) w = on_two (λ x y v. put_value (scaled_product x y s) v) w.operands w
perform area (Divide s) w = on_two (divide s) w.operands w
perform area (Combine op) w = on_two (λ x y v. Changed (put (signed (logic_word op (unsigned x) (unsigned y))) v)) w.operands w
perform area (Extract t b) w = on_one (λ x v. Changed (put (signed (unsigned_field (unsigned x) t b)) v)) w.operands w
perform area (InBounds l u) w = on_one (λ i v. put_if (int_le l i && int_le i u) IndexRange i v) w.operands w
perform area (Form f) w = form_address area f w
perform area (Keep a) w = on_one (λ x v. Changed (with_memory v (set v.memory a x))) w.operands w
perform area (SetVariable loop) w =
    on_one (λ x v. at_address area (λ i t. Changed (with_memory t (set t.memory i x))) (word_at v.memory loop) v) w.operands w
perform area (AddStep loop) w =
    at_address area
    (λ i v. store_sum (fits_word (word_at v.memory i +ℤ word_at v.memory (loop + 1))) i (word_at v.memory i +ℤ word_at v.memory (loop + 1)) v)
    (word_at w.memory loop)
    w
perform area ReadByte w = Changed (read_byte w.input w)
perform area WriteByte w = on_one (λ x v. Changed (record v { output = v.output ++ byte_of x ∷ [] })) w.operands w

-- whether the control variable is past its limit, for a step of this sign
abbrev pub is_past : (step variable limit : ℤ) → Bool
is_past (pos zero) v limit = false
is_past (pos (suc n)) v limit = int_lt limit v
is_past (negsuc n) v limit = int_lt v limit

-- whether a comparison holds
abbrev pub holds : CompareOp → ℤ → ℤ → Bool
holds compare.Less x y = int_lt x y
holds compare.LessEq x y = int_le x y
holds compare.Equal x y = int_le x y && int_le y x
holds compare.GreaterEq x y = int_le y x
holds compare.Greater x y = int_lt y x
holds compare.Unequal x y = not (int_le x y && int_le y x)
