-- An operation that finds its operands is not stuck, and puts what its work expects.
use Rattle.std.proofs.Common.{ℕ, zero, suc, ◌+◌, ◌≤◌, ℤ, pos, negsuc, ◌+ℤ◌, ◌-ℤ◌, neg_ℤ, List, [], ◌∷◌, ◌++◌, set, Bool, true, false, IsTrue, refl, sym, subst, arith}
use Rattle.cw_word.specs.FixedPoint.{fits_word, rescaled, scaled_product, scaled_quotient}
use Rattle.cw_word.specs.BitField.{unsigned_field}
use Rattle.cw_word.specs.Word.{signed, unsigned}
use Rattle.std.specs.Prelude.{int_le, ◌&&◌}
use Rattle.cw_unit.specs.Stop.{StopKind, Overflow, AddressRange, IndexRange}
use Rattle.cw_unit.specs.Words.{Operand, Words, Outcome, Changed, Refused, Impossible, with_operands, with_memory, put, put_if, put_value, on_one, on_two, through, at_address, is_below, word_at, read_byte, field_value, stored_value, with_bits, logic_word, byte_of}
use Rattle.cw_unit.specs.Operation.{divide, fitting, address_of, form_address, Addressing, Known, Taken, Indexed, Indexed2, Scaled, Operation, Constant, Rescale, Fetch, Store, StoreBits, Add, Subtract, Negate, Multiply, Divide, Combine, Extract, InBounds, Form, Keep, SetVariable, AddStep, ReadByte, WriteByte, store_with, store_sum, perform}
use Rattle.cw_unit.proofs.Forms.{row_address, entry_address, of_row, of_entry}
use Rattle.cw_unit.specs.Program.{Program}
use Rattle.cw_unit.specs.Configuration.{Activation}
use Rattle.cw_safety.specs.Kinds.{WordKind}
use Rattle.cw_safety.proofs.Typing.{Hand, Plain, Between, weigh, Pop, Shape, NoneToOne, OneToOne, TwoToOne, TwoToNone, shape_of, After, HaveKinds, popped}

abbrev pub addressing_shape : Addressing → Shape
addressing_shape (Known z) = NoneToOne
addressing_shape Taken = OneToOne
addressing_shape (Indexed b l) = OneToOne
addressing_shape (Indexed2 b l m n) = TwoToOne
addressing_shape (Scaled b n q) = OneToOne

module _ (p : Program) (acts : List Activation) (h : ℕ) (P : List Hand → Type 0) where
  -- an operation puts operands with which the work that follows goes on
  abbrev pub Good : Outcome → Type 0
  Good (Changed v) = (ks : List Hand) × HaveKinds p acts v.operands ks × (weigh ks ≤ h) × P ks
  Good (Refused kind) = Unit {0}
  Good Impossible = ⊥

  -- where a word was taken
  abbrev Spare : (List Hand → Type 0) → (Words → Outcome) → Type 0
  Spare Q f = (v : Words) (ks : List Hand) → HaveKinds p acts v.operands ks → 1 + weigh ks ≤ h → Q ks → Good (f v)

  abbrev Puts : List Hand → Type 0
  Puts ks = P (Plain WordKind ∷ ks)

  put-good : (z : ℤ) → Spare Puts (λ v. Changed (put z v))
  put-good z v ks k s q = (Plain WordKind ∷ ks, (tt, k), s, q)

  put_if-good : (b : Bool) (kind : StopKind) (z : ℤ) → Spare Puts (put_if b kind z)
  put_if-good true kind z v ks k s q = put-good z v ks k s q
  put_if-good false kind z v ks k s q = tt

  -- an index that is between its bounds
  compared-good : (l u i : ℤ) (b : Bool) → (IsTrue b → IsTrue (int_le l i && int_le i u)) → Spare (λ r. P (Between l u ∷ r)) (put_if b IndexRange i)
  compared-good l u i true holds v ks k s q = (Between l u ∷ ks, (holds refl, k), s, q)
  compared-good l u i false holds v ks k s q = tt

  put_value-good : (z : ℤ) → Spare Puts (put_value z)
  put_value-good z = put_if-good (fits_word z) Overflow z

  on_one-good : (Q : List Hand → Type 0) (f : ℤ → Words → Outcome) → ((x : ℤ) → Spare Q (f x)) → (xs : List Operand) (w : Words) (ks : List Hand) → HaveKinds p acts xs ks → weigh ks ≤ h → Pop Q ks → Good (on_one f xs w)
  on_one-good Q f g xs w ks k s q =
      let t = popped p Q acts xs ks k q in
      subst (λ ys. Good (on_one f ys w)) (sym t.is) (g t.word (with_operands w t.operands) t.below t.kinds (omega (arith, s, t.weighs)) t.holds)

  on_two-good : (Q : List Hand → Type 0) (f : ℤ → ℤ → Words → Outcome) → ((x y : ℤ) → Spare Q (f x y)) → (xs : List Operand) (w : Words) (ks : List Hand) → HaveKinds p acts xs ks → weigh ks ≤ h → Pop (Pop Q) ks → Good (on_two f xs w)
  on_two-good Q f g xs w ks k s q =
      on_one-good (Pop Q) (λ y v. on_one (λ x t. f x y t) v.operands v)
      (λ y v js j r b. on_one-good Q (λ x t. f x y t) (λ x. g x y) v.operands v js j (omega (arith, r)) b)
      xs
      w
      ks
      k
      s
      q

  through-good : (b : Bool) (Q : List Hand → Type 0) (f : ℕ → Words → Outcome) → ((i : ℕ) → Spare Q (f i)) → (a : ℤ) → Spare Q (through b f a)
  through-good true Q f g (pos n) v ks k s q = g n v ks k s q
  through-good true Q f g (negsuc n) v ks k s q = g 0 v ks k s q
  through-good false Q f g a v ks k s q = tt

  set-good : (i : ℕ) (z : ℤ) → Spare P (λ t. Changed (with_memory t (set t.memory i z)))
  set-good i z v ks k s q = (ks, k, omega (arith, s), q)

  fitting-good : (b : Bool) (f : Words → Outcome) → Spare Puts f → Spare Puts (λ w. fitting b (f w))
  fitting-good true f g v ks k s q = g v ks k s q
  fitting-good false f g v ks k s q = tt

  divide-good : (s x y : ℤ) → Spare Puts (divide s x y)
  divide-good s x (pos zero) v ks k r q = tt
  divide-good s x (pos (suc n)) v ks k r q = put_value-good (scaled_quotient x (pos (suc n)) s) v ks k r q
  divide-good s x (negsuc n) v ks k r q = put_value-good (scaled_quotient x (negsuc n) s) v ks k r q

  address_of-good : (area : ℕ) (z : ℤ) → Spare Puts (address_of area z)
  address_of-good area z = put_if-good (is_below z area) AddressRange z

  abbrev Does : Shape → (Words → Outcome) → Type 0
  Does s f = (w : Words) (ks : List Hand) → HaveKinds p acts w.operands ks → weigh ks ≤ h → After h s P ks → Good (f w)

  pub form-good : (area : ℕ) (f : Addressing) → Does (addressing_shape f) (form_address area f)
  form-good area (Known z) w ks k s q = address_of-good area z w ks k q.0 q.1
  form-good area Taken w ks k s q = on_one-good Puts (address_of area) (address_of-good area) w.operands w ks k s q
  form-good area (Indexed base l) w ks k s q =
      on_one-good Puts (λ i v. fitting (fits_word (i -ℤ l)) (address_of area (base +ℤ (i -ℤ l)) v))
      (λ i. fitting-good (fits_word (i -ℤ l)) (address_of area (base +ℤ (i -ℤ l))) (address_of-good area (base +ℤ (i -ℤ l))))
      w.operands
      w
      ks
      k
      s
      q
  form-good area (Indexed2 base l1 l2 n) w ks k s q =
      on_two-good Puts (row_address area base l1 l2 n) (of_row (Spare Puts) fitting-good area (address_of-good area) base l1 l2 n) w.operands w ks k s q
  form-good area (Scaled base n m) w ks k s q =
      on_one-good Puts (entry_address area base n m) (of_entry (Spare Puts) fitting-good area (address_of-good area) base n m) w.operands w ks k s q

  store_with-good : (area : ℕ) (f : ℤ → ℤ → ℤ) → Does TwoToNone (store_with area f)
  store_with-good area f w ks k s q =
      on_two-good P (λ z a v. at_address area (λ i t. Changed (with_memory t (set t.memory i (f (word_at t.memory i) z)))) a v)
      (λ z a.
      through-good (is_below a area) P (λ i t. Changed (with_memory t (set t.memory i (f (word_at t.memory i) z))))
      (λ i v js j r b. set-good i (f (word_at v.memory i) z) v js j r b)
      a)
      w.operands
      w
      ks
      k
      s
      q

  pub perform-good : (area : ℕ) (op : Operation) → Does (shape_of op) (perform area op)
  perform-good area (Constant z) w ks k s q = absurd q
  perform-good area (Rescale from to) w ks k s q =
      on_one-good Puts (λ x v. put_value (rescaled x from to) v) (λ x. put_value-good (rescaled x from to)) w.operands w ks k s q
  perform-good area (Fetch f) w ks k s q =
      on_one-good Puts (at_address area (λ i v. Changed (put (field_value f (word_at v.memory i)) v)))
      (λ a.
      through-good (is_below a area) Puts (λ i t. Changed (put (field_value f (word_at t.memory i)) t))
      (λ i v js j r b. put-good (field_value f (word_at v.memory i)) v js j r b)
      a)
      w.operands
      w
      ks
      k
      s
      q
  perform-good area (Store f) w ks k s q = store_with-good area (stored_value f) w ks k s q
  perform-good area (StoreBits t b) w ks k s q = store_with-good area (with_bits t b) w ks k s q
  perform-good area Add w ks k s q = on_two-good Puts (λ x y v. put_value (x +ℤ y) v) (λ x y. put_value-good (x +ℤ y)) w.operands w ks k s q
  perform-good area Subtract w ks k s q = on_two-good Puts (λ x y v. put_value (x -ℤ y) v) (λ x y. put_value-good (x -ℤ y)) w.operands w ks k s q
  perform-good area Negate w ks k s q = on_one-good Puts (λ x v. put_value (neg_ℤ x) v) (λ x. put_value-good (neg_ℤ x)) w.operands w ks k s q
  perform-good area (Multiply m) w ks k s q =
      on_two-good Puts (λ x y v. put_value (scaled_product x y m) v) (λ x y. put_value-good (scaled_product x y m)) w.operands w ks k s q
  perform-good area (Divide m) w ks k s q = on_two-good Puts (divide m) (divide-good m) w.operands w ks k s q
  perform-good area (Combine op) w ks k s q =
      on_two-good Puts (λ x y v. Changed (put (signed (logic_word op (unsigned x) (unsigned y))) v))
      (λ x y. put-good (signed (logic_word op (unsigned x) (unsigned y))))
      w.operands
      w
      ks
      k
      s
      q
  perform-good area (Extract t b) w ks k s q =
      on_one-good Puts (λ x v. Changed (put (signed (unsigned_field (unsigned x) t b)) v)) (λ x. put-good (signed (unsigned_field (unsigned x) t b))) w.operands w
      ks
      k
      s
      q
  perform-good area (InBounds l u) w ks k s q =
      on_one-good (λ r. P (Between l u ∷ r)) (λ i v. put_if (int_le l i && int_le i u) IndexRange i v) (λ i. compared-good l u i (int_le l i && int_le i u) (λ e. e)) w.operands w ks k s q
  perform-good area (Form f) w ks k s q = absurd q
  perform-good area (Keep a) w ks k s q =
      on_one-good P (λ x v. Changed (with_memory v (set v.memory a x))) (λ x. set-good a x) w.operands w ks k s q
  perform-good area (SetVariable loop) w ks k s q =
      on_one-good P (λ x v. at_address area (λ i t. Changed (with_memory t (set t.memory i x))) (word_at v.memory loop) v)
      (λ x v js j r b.
      through-good (is_below (word_at v.memory loop) area) P (λ i t. Changed (with_memory t (set t.memory i x))) (λ i. set-good i x)
      (word_at v.memory loop)
      v
      js
      j
      r
      b)
      w.operands
      w
      ks
      k
      s
      q
  perform-good area (AddStep loop) w ks k s q = absurd q
  perform-good area ReadByte w ks k s q = absurd q
  perform-good area WriteByte w ks k s q =
      on_one-good P (λ x v. Changed (record v { output = v.output ++ byte_of x ∷ [] })) (λ x v js j r b. (js, j, omega (arith, r), b)) w.operands w ks k s q

  read-good : (input : List ℕ) (w : Words) (ks : List Hand) → HaveKinds p acts w.operands ks → 1 + weigh ks ≤ h → P (Plain WordKind ∷ ks) → Good (Changed (read_byte input w))
  read-good [] w ks k s q = (Plain WordKind ∷ ks, (tt, k), s, q)
  read-good (b ∷ rest) w ks k s q = (Plain WordKind ∷ ks, (tt, k), s, q)

  pub read_byte-good : (area : ℕ) (w : Words) (ks : List Hand) → HaveKinds p acts w.operands ks → 1 + weigh ks ≤ h → P (Plain WordKind ∷ ks) → Good (perform area ReadByte w)
  read_byte-good area w ks k s q = read-good w.input w ks k s q

  pub put_checked-good : (b : Bool) (kind : StopKind) (z : ℤ) (w : Words) (ks : List Hand) → HaveKinds p acts w.operands ks → 1 + weigh ks ≤ h → P (Plain WordKind ∷ ks) → Good (put_if b kind z w)
  put_checked-good b kind z w ks k s q = put_if-good b kind z w ks k s q

  store_sum-good : (b : Bool) (i : ℕ) (z : ℤ) (w : Words) (ks : List Hand) → HaveKinds p acts w.operands ks → weigh ks ≤ h → P ks → Good (store_sum b i z w)
  store_sum-good true i z w ks k s q = (ks, k, s, q)
  store_sum-good false i z w ks k s q = tt

  step-good : (b : Bool) (f : ℕ → ℤ → Bool) (g : ℕ → Words → ℤ) (a : ℤ) (w : Words) (ks : List Hand) → HaveKinds p acts w.operands ks → weigh ks ≤ h → P ks → Good (through b (λ i v. store_sum (f i (g i v)) i (g i v) v) a w)
  step-good true f g (pos n) w ks k s q = store_sum-good (f n (g n w)) n (g n w) w ks k s q
  step-good true f g (negsuc n) w ks k s q = store_sum-good (f 0 (g 0 w)) 0 (g 0 w) w ks k s q
  step-good false f g a w ks k s q = tt

  pub add_step-good : (area loop : ℕ) (w : Words) (ks : List Hand) → HaveKinds p acts w.operands ks → weigh ks ≤ h → P ks → Good (perform area (AddStep loop) w)
  add_step-good area loop w ks k s q =
      step-good (is_below (word_at w.memory loop) area) (λ i z. fits_word z) (λ i v. word_at v.memory i +ℤ word_at v.memory (loop + 1)) (word_at w.memory loop) w ks k s q
