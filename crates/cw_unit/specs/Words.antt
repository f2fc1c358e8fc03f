-- The words of a running program, and what is done to them. The source semantics and the machine of the intermediate code share these.
use Rattle.std.specs.Prelude.{ℕ, ◌%◌, ℤ, pos, negsuc, List, [], ◌∷◌, Bool, true, false, nat_lt, Option, Some, None, slice_index_or, if◌then◌else◌}
use Rattle.std.specs.Int.Bits.{bit_and, bit_or, bit_xor}
use Rattle.cw_word.specs.FixedPoint.{fits_word}
use Rattle.cw_word.specs.BitField.{unsigned_field, signed_field, with_field}
use Rattle.cw_word.specs.Word.{signed, unsigned}
use Rattle.cw_unit.specs.declared.unit.Field.{Field}
use Rattle.cw_unit.specs.declared.unit.LogicOp.{LogicOp}
use Rattle.cw_unit.specs.declared.unit.LogicOp.TheVariants as logic
use Rattle.cw_unit.specs.Stop.{StopKind, Overflow, AddressRange}

-- a label or a switch of a segment with the number of activations where it was named, or a procedure of a segment
pub data Control : Type 0 where
  LabelControl : (segment label owner : ℕ) → Control
  SwitchControl : (segment switch owner : ℕ) → Control
  ProcedureControl : (segment procedure : ℕ) → Control

-- an entry of the operand stack
pub data Operand : Type 0 where
  Word : ℤ → Operand
  Held : Control → Operand

-- the operand stack, last first, the data words, the bytes that are left to read, and the bytes that were written
pub record Words : Type 0 where
  pub operands : List Operand
  pub memory : List ℤ
  pub input : List ℕ
  pub output : List ℕ

-- the result of a step on words
pub data Outcome : Type 0 where
  Changed : Words → Outcome
  Refused : StopKind → Outcome
  Impossible : Outcome

abbrev pub with_operands : Words → List Operand → Words
with_operands w operands = record w { operands = operands }

abbrev pub with_memory : Words → List ℤ → Words
with_memory w memory = record w { memory = memory }

-- a number below this one
abbrev pub is_below : ℤ → ℕ → Bool
is_below (pos n) area = nat_lt n area
is_below (negsuc n) area = false

abbrev pub number_of : ℤ → ℕ
number_of (pos n) = n
number_of (negsuc n) = 0

abbrev pub put : ℤ → Words → Words
put z w = with_operands w (Word z ∷ w.operands)

abbrev pub put_if : Bool → StopKind → ℤ → Words → Outcome
put_if true kind z w = Changed (put z w)
put_if false kind z w = Refused kind

-- a value that must fit a word
abbrev pub put_value : ℤ → Words → Outcome
put_value z w = put_if (fits_word z) Overflow z w

-- takes the top word
abbrev pub on_one : (ℤ → Words → Outcome) → List Operand → Words → Outcome
on_one f [] w = Impossible
on_one f (Held c ∷ rest) w = Impossible
on_one f (Word x ∷ rest) w = f x (with_operands w rest)

-- takes the two topmost words; the last is the top
abbrev pub on_two : (ℤ → ℤ → Words → Outcome) → List Operand → Words → Outcome
on_two f operands w = on_one (λ y v. on_one (λ x t. f x y t) v.operands v) operands w

abbrev pub word_at : List ℤ → ℕ → ℤ
word_at memory i = slice_index_or memory i (pos 0)

-- the word through an address, which is tested
abbrev pub through : Bool → (ℕ → Words → Outcome) → ℤ → Words → Outcome
through true f a w = f (number_of a) w
through false f a w = Refused AddressRange

abbrev pub at_address : (area : ℕ) → (ℕ → Words → Outcome) → ℤ → Words → Outcome
at_address area f a w = through (is_below a area) f a w

-- what a reference to a part reads; a part of 16 bits is the word, with a sign or without
abbrev pub part_value : Field → ℤ → ℤ
part_value s z =
    if nat_lt 15 s.t then z else (if s.unsigned then pos (unsigned_field (unsigned z) s.t s.b) else signed_field (unsigned z) s.t s.b)

-- what a reference reads from a word
abbrev pub field_value : Option Field → ℤ → ℤ
field_value None z = z
field_value (Some s) z = part_value s z

-- a word with a value stored into t bits from bit b
abbrev pub with_bits : (t b : ℕ) → ℤ → ℤ → ℤ
with_bits t b old z = signed (with_field (unsigned old) t b (unsigned z))

abbrev pub stored_value : Option Field → ℤ → ℤ → ℤ
stored_value None old z = z
stored_value (Some s) old z = with_bits s.t s.b old z

abbrev pub logic_word : LogicOp → ℕ → ℕ → ℕ
logic_word logic.Mask x y = bit_and x y
logic_word logic.Union x y = bit_or x y
logic_word logic.Differ x y = bit_xor x y

abbrev pub byte_of : ℤ → ℕ
byte_of z = unsigned z % 256

-- the next byte, or -1 at the end of the input
abbrev pub read_byte : List ℕ → Words → Words
read_byte [] w = put (negsuc 0) w
read_byte (b ∷ rest) w = put (pos b) (record w { input = rest })
