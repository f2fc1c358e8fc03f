-- What the operand stack holds beside words, and that no operation on words changes it or is stopped by depth.
use Rattle.std.proofs.Common.{◌≡◌, ℕ, zero, suc, ◌+◌, ℤ, pos, negsuc, ◌+ℤ◌, ◌-ℤ◌, ◌*ℤ◌, neg_ℤ, List, [], ◌∷◌, ◌++◌, take, drop, set, Bool, true, false, int_le, ◌&&◌, refl}
use Rattle.cw_word.specs.FixedPoint.{fits_word, rescaled, scaled_product, scaled_quotient}
use Rattle.cw_word.specs.BitField.{unsigned_field}
use Rattle.cw_word.specs.Word.{signed, unsigned}
use Rattle.cw_unit.specs.Stop.{StopKind, Overflow, ZeroDivisor, SwitchRange, AddressRange, FramesFull, DepthReached, IndexRange}
use Rattle.cw_unit.specs.Words.{Control, Operand, Word, Held, Words, Outcome, Changed, Refused, Impossible, with_operands, with_memory, is_below, put, put_if, put_value, on_one, on_two, through, at_address, word_at, field_value, with_bits, stored_value, logic_word, byte_of, read_byte}
use Rattle.cw_unit.specs.Operation.{Addressing, Known, Taken, Indexed, Indexed2, Scaled, Operation, Constant, Rescale, Fetch, Store, StoreBits, Add, Subtract, Negate, Multiply, Divide, Combine, Extract, InBounds, Form, Keep, SetVariable, AddStep, ReadByte, WriteByte, fitting, address_of, form_address, divide, store_with, store_sum, perform}
use Rattle.cw_unit.specs.Step.{reversed_onto, first_operands}

-- the labels, switches and procedures on the stack
abbrev pub controls : List Operand → List Control
controls [] = []
controls (Word z ∷ xs) = controls xs
controls (Held c ∷ xs) = c ∷ controls xs

-- a stop other than that of depth
abbrev pub IsOther : StopKind → Type 0
IsOther Overflow = Unit {0}
IsOther ZeroDivisor = Unit {0}
IsOther SwitchRange = Unit {0}
IsOther AddressRange = Unit {0}
IsOther FramesFull = Unit {0}
IsOther DepthReached = ⊥
IsOther IndexRange = Unit {0}

-- an outcome with these controls, or no result
abbrev pub Has : List Control → Outcome → Type 0
Has cs (Changed v) = controls v.operands ≡ cs
Has cs (Refused kind) = IsOther kind
Has cs Impossible = Unit {0}

module _ (cs : List Control) where
  abbrev Keeps : (Words → Outcome) → Type 0
  Keeps f = (v : Words) → controls v.operands ≡ cs → Has cs (f v)

  pub put_if-keeps : (b : Bool) (kind : StopKind) (z : ℤ) → IsOther kind → Keeps (put_if b kind z)
  put_if-keeps true kind z o v e = e
  put_if-keeps false kind z o v e = o

  put_value-keeps : (z : ℤ) → Keeps (put_value z)
  put_value-keeps z v e = put_if-keeps (fits_word z) Overflow z tt v e

  on_one-keeps : (f : ℤ → Words → Outcome) → ((x : ℤ) → Keeps (f x)) → (xs : List Operand) (w : Words) → controls xs ≡ cs → Has cs (on_one f xs w)
  on_one-keeps f g [] w e = tt
  on_one-keeps f g (Word x ∷ xs) w e = g x (with_operands w xs) e
  on_one-keeps f g (Held c ∷ xs) w e = tt

  on_two-keeps : (f : ℤ → ℤ → Words → Outcome) → ((x y : ℤ) → Keeps (f x y)) → (xs : List Operand) (w : Words) → controls xs ≡ cs → Has cs (on_two f xs w)
  on_two-keeps f g xs w e =
      on_one-keeps (λ y v. on_one (λ x t. f x y t) v.operands v) (λ y v h. on_one-keeps (λ x t. f x y t) (λ x. g x y) v.operands v h) xs w e

  through-keeps : (b : Bool) (f : ℕ → Words → Outcome) → ((i : ℕ) → Keeps (f i)) → (a : ℤ) → Keeps (through b f a)
  through-keeps true f g (pos n) v e = g n v e
  through-keeps true f g (negsuc n) v e = g 0 v e
  through-keeps false f g a v e = tt

  fitting-keeps : (b : Bool) (f : Words → Outcome) → Keeps f → Keeps (λ w. fitting b (f w))
  fitting-keeps true f g v e = g v e
  fitting-keeps false f g v e = tt

  divide-keeps : (s x y : ℤ) → Keeps (divide s x y)
  divide-keeps s x (pos zero) v e = tt
  divide-keeps s x (pos (suc n)) v e = put_value-keeps (scaled_quotient x (pos (suc n)) s) v e
  divide-keeps s x (negsuc n) v e = put_value-keeps (scaled_quotient x (negsuc n) s) v e

  address_of-keeps : (area : ℕ) (z : ℤ) → Keeps (address_of area z)
  address_of-keeps area z v e = put_if-keeps (is_below z area) AddressRange z tt v e

  form-keeps : (area : ℕ) (f : Addressing) → Keeps (form_address area f)
  form-keeps area (Known z) w e = address_of-keeps area z w e
  form-keeps area Taken w e = on_one-keeps (address_of area) (address_of-keeps area) w.operands w e
  form-keeps area (Indexed base l) w e =
      on_one-keeps (λ i v. fitting (fits_word (i -ℤ l)) (address_of area (base +ℤ (i -ℤ l)) v))
      (λ i. fitting-keeps (fits_word (i -ℤ l)) (address_of area (base +ℤ (i -ℤ l))) (address_of-keeps area (base +ℤ (i -ℤ l))))
      w.operands
      w
      e
  form-keeps area (Indexed2 base l1 l2 n) w e =
      on_two-keeps
      (λ i j v.
      fitting (fits_word (i -ℤ l1))
      (fitting (fits_word ((i -ℤ l1) *ℤ pos n))
      (fitting (fits_word (j -ℤ l2))
      (fitting (fits_word ((i -ℤ l1) *ℤ pos n +ℤ (j -ℤ l2))) (address_of area (base +ℤ ((i -ℤ l1) *ℤ pos n +ℤ (j -ℤ l2))) v)))))
      (λ i j.
      let last : ℤ = base +ℤ ((i -ℤ l1) *ℤ pos n +ℤ (j -ℤ l2)) in
      let b4 : Bool = fits_word ((i -ℤ l1) *ℤ pos n +ℤ (j -ℤ l2)) in
      let b3 : Bool = fits_word (j -ℤ l2) in
      let b2 : Bool = fits_word ((i -ℤ l1) *ℤ pos n) in
      fitting-keeps (fits_word (i -ℤ l1)) (λ t. fitting b2 (fitting b3 (fitting b4 (address_of area last t))))
      (fitting-keeps b2 (λ t. fitting b3 (fitting b4 (address_of area last t)))
      (fitting-keeps b3 (λ t. fitting b4 (address_of area last t)) (fitting-keeps b4 (address_of area last) (address_of-keeps area last)))))
      w.operands
      w
      e
  form-keeps area (Scaled base n m) w e =
      on_one-keeps
      (λ i v. fitting (fits_word (i *ℤ pos n)) (fitting (fits_word (i *ℤ pos n +ℤ pos m)) (address_of area (base +ℤ (i *ℤ pos n +ℤ pos m)) v)))
      (λ i.
      let last : ℤ = base +ℤ (i *ℤ pos n +ℤ pos m) in
      fitting-keeps (fits_word (i *ℤ pos n)) (λ t. fitting (fits_word (i *ℤ pos n +ℤ pos m)) (address_of area last t))
      (fitting-keeps (fits_word (i *ℤ pos n +ℤ pos m)) (address_of area last) (address_of-keeps area last)))
      w.operands
      w
      e

  store_with-keeps : (area : ℕ) (f : ℤ → ℤ → ℤ) → Keeps (store_with area f)
  store_with-keeps area f w e =
      on_two-keeps (λ z a v. at_address area (λ i t. Changed (with_memory t (set t.memory i (f (word_at t.memory i) z)))) a v)
      (λ z a. through-keeps (is_below a area) (λ i t. Changed (with_memory t (set t.memory i (f (word_at t.memory i) z)))) (λ i v h. h) a)
      w.operands
      w
      e

  store_sum-keeps : (b : Bool) (i : ℕ) (z : ℤ) → Keeps (store_sum b i z)
  store_sum-keeps true i z v e = e
  store_sum-keeps false i z v e = tt

  read-keeps : (input : List ℕ) → Keeps (λ w. Changed (read_byte input w))
  read-keeps [] v e = e
  read-keeps (b ∷ rest) v e = e

  pub perform-keeps : (area : ℕ) (op : Operation) → Keeps (perform area op)
  perform-keeps area (Constant z) w e = e
  perform-keeps area (Rescale from to) w e = on_one-keeps (λ x v. put_value (rescaled x from to) v) (λ x. put_value-keeps (rescaled x from to)) w.operands w e
  perform-keeps area (Fetch f) w e =
      on_one-keeps (at_address area (λ i v. Changed (put (field_value f (word_at v.memory i)) v)))
      (λ a. through-keeps (is_below a area) (λ i t. Changed (put (field_value f (word_at t.memory i)) t)) (λ i v h. h) a)
      w.operands
      w
      e
  perform-keeps area (Store f) w e = store_with-keeps area (stored_value f) w e
  perform-keeps area (StoreBits t b) w e = store_with-keeps area (with_bits t b) w e
  perform-keeps area Add w e = on_two-keeps (λ x y v. put_value (x +ℤ y) v) (λ x y. put_value-keeps (x +ℤ y)) w.operands w e
  perform-keeps area Subtract w e = on_two-keeps (λ x y v. put_value (x -ℤ y) v) (λ x y. put_value-keeps (x -ℤ y)) w.operands w e
  perform-keeps area Negate w e = on_one-keeps (λ x v. put_value (neg_ℤ x) v) (λ x. put_value-keeps (neg_ℤ x)) w.operands w e
  perform-keeps area (Multiply m) w e = on_two-keeps (λ x y v. put_value (scaled_product x y m) v) (λ x y. put_value-keeps (scaled_product x y m)) w.operands w e
  perform-keeps area (Divide m) w e = on_two-keeps (divide m) (divide-keeps m) w.operands w e
  perform-keeps area (Combine op) w e =
      on_two-keeps (λ x y v. Changed (put (signed (logic_word op (unsigned x) (unsigned y))) v)) (λ x y v h. h) w.operands w e
  perform-keeps area (Extract t b) w e = on_one-keeps (λ x v. Changed (put (signed (unsigned_field (unsigned x) t b)) v)) (λ x v h. h) w.operands w e
  perform-keeps area (InBounds l u) w e =
      on_one-keeps (λ i v. put_if (int_le l i && int_le i u) IndexRange i v) (λ i. put_if-keeps (int_le l i && int_le i u) IndexRange i tt) w.operands w e
  perform-keeps area (Form f) w e = form-keeps area f w e
  perform-keeps area (Keep a) w e = on_one-keeps (λ x v. Changed (with_memory v (set v.memory a x))) (λ x v h. h) w.operands w e
  perform-keeps area (SetVariable loop) w e =
      on_one-keeps (λ x v. at_address area (λ i t. Changed (with_memory t (set t.memory i x))) (word_at v.memory loop) v)
      (λ x v h. through-keeps (is_below (word_at v.memory loop) area) (λ i t. Changed (with_memory t (set t.memory i x))) (λ i v h. h) (word_at v.memory loop) v h)
      w.operands
      w
      e
  perform-keeps area (AddStep loop) w e =
      through-keeps (is_below (word_at w.memory loop) area)
      (λ i v. store_sum (fits_word (word_at v.memory i +ℤ word_at v.memory (loop + 1))) i (word_at v.memory i +ℤ word_at v.memory (loop + 1)) v)
      (λ i v h. store_sum-keeps (fits_word (word_at v.memory i +ℤ word_at v.memory (loop + 1))) i (word_at v.memory i +ℤ word_at v.memory (loop + 1)) v h)
      (word_at w.memory loop)
      w
      e
  perform-keeps area ReadByte w e = read-keeps w.input w e
  perform-keeps area WriteByte w e = on_one-keeps (λ x v. Changed (record v { output = v.output ++ byte_of x ∷ [] })) (λ x v h. h) w.operands w e

-- ---- lists put on others

abbrev pub onto : {A : Type 0} → List A → List A → List A
onto [] ys = ys
onto (x ∷ xs) ys = onto xs (x ∷ ys)

-- the first operands in order, above the others
pub parted : (n : ℕ) (xs ys : List Operand) → onto (controls (reversed_onto (take n xs) ys)) (controls (drop n xs)) ≡ onto (controls ys) (controls xs)
parted zero [] ys = refl
parted zero (x ∷ xs) ys = refl
parted (suc n) [] ys = refl
parted (suc n) (Word z ∷ xs) ys = parted n xs (Word z ∷ ys)
parted (suc n) (Held c ∷ xs) ys = parted n xs (Held c ∷ ys)

pub all-parted : (n : ℕ) (xs : List Operand) → onto (controls (first_operands n xs)) (controls (drop n xs)) ≡ controls xs
all-parted n xs = parted n xs []
