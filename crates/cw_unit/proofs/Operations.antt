-- A step keeps the number of data words, and what was written stays.
use Rattle.std.proofs.Common.{◌≡◌, ℕ, zero, suc, ◌+◌, ℤ, pos, negsuc, ◌+ℤ◌, ◌-ℤ◌, neg_ℤ, List, [], ◌∷◌, ◌++◌, length, set, Bool, true, false, refl, sym, ◌∙◌}
use Rattle.std.proofs.lemmas.List.{length-set, append-nil}
use Rattle.cw_word.specs.FixedPoint.{fits_word, rescaled, scaled_product, scaled_quotient}
use Rattle.cw_word.specs.BitField.{unsigned_field}
use Rattle.cw_word.specs.Word.{signed, unsigned}
use Rattle.std.specs.Prelude.{int_le, ◌&&◌}
use Rattle.cw_unit.specs.Stop.{StopKind, Overflow, AddressRange, IndexRange}
use Rattle.cw_unit.specs.Words.{Operand, Word, Held, Words, Outcome, Changed, Refused, Impossible, with_operands, with_memory, put, put_if, put_value, on_one, on_two, through, at_address, is_below, word_at, read_byte, field_value, stored_value, with_bits, logic_word, byte_of}
use Rattle.cw_unit.specs.Operation.{divide, fitting, address_of, form_address, Addressing, Known, Taken, Indexed, Indexed2, Scaled, Operation, Constant, Rescale, Fetch, Store, StoreBits, Add, Subtract, Negate, Multiply, Divide, Combine, Extract, InBounds, Form, Keep, SetVariable, AddStep, ReadByte, WriteByte, store_with, store_sum, perform}
use Rattle.cw_unit.proofs.Forms.{row_address, entry_address, of_row, of_entry}

-- n data words, and this output to which more was added
pub record Grows (n : ℕ) (before : List ℕ) (memory : List ℤ) (output : List ℕ) : Type 0 where
  pub same_length : length memory ≡ n
  pub piece : List ℕ
  pub grows : output ≡ before ++ piece

abbrev pub Follows : ℕ → List ℕ → Words → Type 0
Follows n before w = Grows n before w.memory w.output

abbrev pub FollowsIn : ℕ → List ℕ → Outcome → Type 0
FollowsIn n o (Changed w) = Follows n o w
FollowsIn n o (Refused kind) = Unit {0}
FollowsIn n o Impossible = Unit {0}

pub same : (n : ℕ) (o : List ℕ) (w : Words) → length w.memory ≡ n → w.output ≡ o → Follows n o w
same n o w e f = record { same_length = e; piece = []; grows = f ∙ sym (append-nil o) }

abbrev pub Keeps : (Words → Outcome) → Type 0
Keeps f = (w : Words) → FollowsIn (length w.memory) w.output (f w)

pub put-keeps : (z : ℤ) → Keeps (λ w. Changed (put z w))
put-keeps z w = same (length w.memory) w.output (put z w) refl refl

pub put_if-keeps : (b : Bool) (kind : StopKind) (z : ℤ) → Keeps (put_if b kind z)
put_if-keeps true kind z w = put-keeps z w
put_if-keeps false kind z w = tt

pub on_one-keeps : (f : ℤ → Words → Outcome) → ((x : ℤ) → Keeps (f x)) → (operands : List Operand) → Keeps (on_one f operands)
on_one-keeps f h [] w = tt
on_one-keeps f h (Held c ∷ rest) w = tt
on_one-keeps f h (Word x ∷ rest) w = h x (with_operands w rest)

pub on_two-keeps : (f : ℤ → ℤ → Words → Outcome) → ((x y : ℤ) → Keeps (f x y)) → (operands : List Operand) → Keeps (on_two f operands)
on_two-keeps f h operands w =
    on_one-keeps (λ y v. on_one (λ x t. f x y t) v.operands v) (λ y v. on_one-keeps (λ x t. f x y t) (λ x t. h x y t) v.operands v) operands w

pub through-keeps : (b : Bool) (f : ℕ → Words → Outcome) → ((i : ℕ) → Keeps (f i)) → (a : ℤ) → Keeps (through b f a)
through-keeps true f h (pos n) w = h n w
through-keeps true f h (negsuc n) w = h 0 w
through-keeps false f h a w = tt

pub set-keeps : (i : ℕ) (z : ℤ) (w : Words) → FollowsIn (length w.memory) w.output (Changed (with_memory w (set w.memory i z)))
set-keeps i z w = same (length w.memory) w.output (with_memory w (set w.memory i z)) (length-set w.memory i z) refl

pub store_with-keeps : (area : ℕ) (f : ℤ → ℤ → ℤ) → Keeps (store_with area f)
store_with-keeps area f w =
    on_two-keeps
    (λ z a v. at_address area (λ i t. Changed (with_memory t (set t.memory i (f (word_at t.memory i) z)))) a v)
    (λ z a v.
    through-keeps (is_below a area) (λ i t. Changed (with_memory t (set t.memory i (f (word_at t.memory i) z))))
    (λ i t. set-keeps i (f (word_at t.memory i) z) t)
    a
    v)
    w.operands
    w

pub fitting-keeps : (b : Bool) (f : Words → Outcome) → Keeps f → Keeps (λ w. fitting b (f w))
fitting-keeps true f h w = h w
fitting-keeps false f h w = tt

pub divide-keeps : (s x y : ℤ) → Keeps (divide s x y)
divide-keeps s x (pos zero) w = tt
divide-keeps s x (pos (suc n)) w = put_if-keeps (fits_word (scaled_quotient x (pos (suc n)) s)) Overflow (scaled_quotient x (pos (suc n)) s) w
divide-keeps s x (negsuc n) w = put_if-keeps (fits_word (scaled_quotient x (negsuc n) s)) Overflow (scaled_quotient x (negsuc n) s) w

pub put_value-keeps : (z : ℤ) → Keeps (put_value z)
put_value-keeps z w = put_if-keeps (fits_word z) Overflow z w

pub address_of-keeps : (area : ℕ) (z : ℤ) → Keeps (address_of area z)
address_of-keeps area z w = put_if-keeps (is_below z area) AddressRange z w

pub form_address-keeps : (area : ℕ) (f : Addressing) → Keeps (form_address area f)
form_address-keeps area (Known z) w = address_of-keeps area z w
form_address-keeps area Taken w = on_one-keeps (address_of area) (λ z v. address_of-keeps area z v) w.operands w
form_address-keeps area (Indexed base l) w =
    on_one-keeps (λ i v. fitting (fits_word (i -ℤ l)) (address_of area (base +ℤ (i -ℤ l)) v))
    (λ i v. fitting-keeps (fits_word (i -ℤ l)) (address_of area (base +ℤ (i -ℤ l))) (λ t. address_of-keeps area (base +ℤ (i -ℤ l)) t) v)
    w.operands
    w
form_address-keeps area (Indexed2 base l1 l2 n) w =
    on_two-keeps (row_address area base l1 l2 n) (of_row Keeps fitting-keeps area (address_of-keeps area) base l1 l2 n) w.operands w
form_address-keeps area (Scaled base n q) w =
    on_one-keeps (entry_address area base n q) (of_entry Keeps fitting-keeps area (address_of-keeps area) base n q) w.operands w

pub store_sum-keeps : (b : Bool) (i : ℕ) (z : ℤ) → Keeps (store_sum b i z)
store_sum-keeps true i z w = set-keeps i z w
store_sum-keeps false i z w = tt

pub read_byte-keeps : (input : List ℕ) (w : Words) → Follows (length w.memory) w.output (read_byte input w)
read_byte-keeps [] w = same (length w.memory) w.output (put (negsuc 0) w) refl refl
read_byte-keeps (b ∷ rest) w = same (length w.memory) w.output (put (pos b) (record w { input = rest })) refl refl

-- no operation changes the number of data words or what was written
pub perform-keeps : (area : ℕ) (op : Operation) → Keeps (perform area op)
perform-keeps area (Constant z) w = put-keeps z w
perform-keeps area (Rescale from to) w = on_one-keeps (λ x v. put_value (rescaled x from to) v) (λ x v. put_value-keeps (rescaled x from to) v) w.operands w
perform-keeps area (Fetch s) w =
    on_one-keeps (at_address area (λ i v. Changed (put (field_value s (word_at v.memory i)) v)))
    (λ a v.
    through-keeps (is_below a area) (λ i t. Changed (put (field_value s (word_at t.memory i)) t))
    (λ i t. put-keeps (field_value s (word_at t.memory i)) t)
    a
    v)
    w.operands
    w
perform-keeps area (Store s) w = store_with-keeps area (stored_value s) w
perform-keeps area (StoreBits t b) w = store_with-keeps area (with_bits t b) w
perform-keeps area Add w = on_two-keeps (λ x y v. put_value (x +ℤ y) v) (λ x y v. put_value-keeps (x +ℤ y) v) w.operands w
perform-keeps area Subtract w = on_two-keeps (λ x y v. put_value (x -ℤ y) v) (λ x y v. put_value-keeps (x -ℤ y) v) w.operands w
perform-keeps area Negate w = on_one-keeps (λ x v. put_value (neg_ℤ x) v) (λ x v. put_value-keeps (neg_ℤ x) v) w.operands w
perform-keeps area (Multiply s) w =
    on_two-keeps (λ x y v. put_value (scaled_product x y s) v) (λ x y v. put_value-keeps (scaled_product x y s) v) w.operands w
perform-keeps area (Divide s) w = on_two-keeps (divide s) (λ x y v. divide-keeps s x y v) w.operands w
perform-keeps area (Combine op) w =
    on_two-keeps (λ x y v. Changed (put (signed (logic_word op (unsigned x) (unsigned y))) v))
    (λ x y v. put-keeps (signed (logic_word op (unsigned x) (unsigned y))) v)
    w.operands
    w
perform-keeps area (Extract t b) w =
    on_one-keeps (λ x v. Changed (put (signed (unsigned_field (unsigned x) t b)) v)) (λ x v. put-keeps (signed (unsigned_field (unsigned x) t b)) v) w.operands w
perform-keeps area (InBounds l u) w =
    on_one-keeps (λ i v. put_if (int_le l i && int_le i u) IndexRange i v) (λ i v. put_if-keeps (int_le l i && int_le i u) IndexRange i v) w.operands w
perform-keeps area (Form f) w = form_address-keeps area f w
perform-keeps area (Keep a) w = on_one-keeps (λ x v. Changed (with_memory v (set v.memory a x))) (λ x v. set-keeps a x v) w.operands w
perform-keeps area (SetVariable loop) w =
    on_one-keeps (λ x v. at_address area (λ i t. Changed (with_memory t (set t.memory i x))) (word_at v.memory loop) v)
    (λ x v.
    through-keeps (is_below (word_at v.memory loop) area) (λ i t. Changed (with_memory t (set t.memory i x))) (λ i t. set-keeps i x t)
    (word_at v.memory loop)
    v)
    w.operands
    w
perform-keeps area (AddStep loop) w =
    through-keeps (is_below (word_at w.memory loop) area)
    (λ i v. store_sum (fits_word (word_at v.memory i +ℤ word_at v.memory (loop + 1))) i (word_at v.memory i +ℤ word_at v.memory (loop + 1)) v)
    (λ i v.
    store_sum-keeps (fits_word (word_at v.memory i +ℤ word_at v.memory (loop + 1))) i (word_at v.memory i +ℤ word_at v.memory (loop + 1)) v)
    (word_at w.memory loop)
    w
perform-keeps area ReadByte w = read_byte-keeps w.input w
perform-keeps area WriteByte w =
    on_one-keeps (λ x v. Changed (record v { output = v.output ++ byte_of x ∷ [] }))
    (λ x v. record { same_length = refl; piece = byte_of x ∷ []; grows = refl })
    w.operands
    w
