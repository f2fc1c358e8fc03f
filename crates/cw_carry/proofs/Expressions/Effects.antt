-- What orders do to words, one after another.
use Rattle.std.proofs.Common.{◌≡◌, ℕ, zero, suc, ◌+◌, ◌-◌, ◌*◌, min, ◌<◌, ◌≤◌, ℤ, pos, negsuc, ◌+ℤ◌, ◌-ℤ◌, ◌*ℤ◌, neg_ℤ, List, [], ◌∷◌, set, length, Bool, true, false, Option, Some, None, refl, sym, ap, ◌∙◌, subst, arith}
use Rattle.std.specs.Prelude.{slice_get, int_le, not, IsTrue, ◌&&◌}
use Rattle.std.proofs.lemmas.Bool.{false≢true, le-leb}
use Rattle.std.proofs.lemmas.Option.{none-some, same_Some}
use Rattle.cw_track.specs.Machine.{Machine}
use Rattle.cw_track.specs.Watching.{noted}
use Rattle.cw_track.proofs.Paths.{Path, stay, next as move}
use Rattle.cw_track.proofs.Watching.{Unnoted}
use Rattle.cw_unit.specs.Stop.{StopKind, AddressRange, IndexRange, Running, Stopped}
use Rattle.cw_word.specs.FixedPoint.{fits_word, rescaled, scaled_product}
use Rattle.cw_word.specs.BitField.{unsigned_field}
use Rattle.cw_word.specs.Word.{signed, unsigned, word_difference}
use Rattle.cw_unit.specs.Words.{Control, LabelControl, SwitchControl, ProcedureControl, Operand, Word, Held, Words, Outcome, Changed, Refused, Impossible, with_operands, with_memory, is_below, number_of, put, put_if, put_value, on_one, on_two, word_at, through, at_address, field_value, with_bits, stored_value, logic_word, read_byte}
use Rattle.cw_unit.specs.Operation.{Operation, Constant, Rescale, Fetch, Store, StoreBits, Add, Subtract, Negate, Multiply, Divide, Combine, Extract, InBounds, Form, Addressing, Known, Taken, Indexed, Indexed2, Scaled, Keep, SetVariable, AddStep, ReadByte, WriteByte, fitting, address_of, form_address, divide, store_sum, perform}
use Rattle.cw_unit.specs.declared.unit.LogicOp.TheVariants as logic
use Rattle.cw_unit.specs.Step.{held}
use Rattle.cw_unit.specs.Behaviour.{Observation}
use Rattle.cw_unit.specs.Begun.{Begun}
use Rattle.cw_order.specs.declared.order.Order.{Order}
use Rattle.cw_order.specs.declared.order.Order.TheVariants as order
use Rattle.cw_order.specs.OrderProgram.{OrderProgram, order_at}
use Rattle.cw_order.specs.OrderState.{OrderActivation, at as state, operand_words, stack_words, argument_at, frame_word}
use Rattle.cw_order.specs.Loading.{loaded_after}
use Rattle.cw_order.specs.OrderActions.{Action, Perform, Access, Alter, AlterWithin, Pass, home_word, action_of}
use Rattle.cw_order.specs.OrderChanges.{from_base, bind, put_address, put_index, if_inside}
use Rattle.cw_order.specs.OrderCosts.{weight_of, weight_at}
use Rattle.cw_order.specs.OrderMachine.{go_on, after, unrefused, act, carry_with, carry_out, order_machine}
use Rattle.cw_order.specs.Starting.{started_by, starts}
use Rattle.cw_safety.proofs.Truth.{both}
use Rattle.cw_carry.proofs.Expressions.Standing.{Stands}

-- ---- outcomes

abbrev pub then_do : Outcome → (Words → Outcome) → Outcome
then_do (Changed v) f = f v
then_do (Refused kind) f = Refused kind
then_do Impossible f = Impossible

abbrev pub IsPossible : Outcome → Type 0
IsPossible (Changed v) = Unit {0}
IsPossible (Refused kind) = Unit {0}
IsPossible Impossible = ⊥

-- ---- effects

-- what an action does to words; one that does more is none of these
abbrev pub word_effect : (area : ℕ) → Action → Words → Outcome
word_effect area (Perform line op) w = perform area op w
word_effect area (Access op) w = unrefused (perform area op w)
word_effect area (Alter line f) w = f w
word_effect area (AlterWithin f) w = unrefused (f w)
word_effect area Pass w = Changed w
word_effect area _ w = Impossible

-- ---- the accumulator

-- how orders one after another leave it, where each finds it as it wants it
abbrev pub through_all : Option Bool → List Order → Option Bool
through_all None os = None
through_all (Some l) [] = Some l
through_all (Some l) (o ∷ os) = through_all (loaded_after o l) os

abbrev pub loaded_through : List Order → (loaded : Bool) → Option Bool
loaded_through os l = through_all (Some l) os

turned : (m : Bool) (x : Option Bool) (os : List Order) → through_all x os ≡ Some m → (l : Bool) × (x ≡ Some l) × (through_all (Some l) os ≡ Some m)
turned m None [] h = absurd (none-some m h)
turned m None (o ∷ os) h = absurd (none-some m h)
turned m (Some l) os h = (l, refl, h)

-- ---- lines

-- an order that can stop tells this line
abbrev pub TellsLine : (line : ℕ) → Order → Type 0
TellsLine line (order.Rescale from to n) = n ≡ line
TellsLine line (order.Add n) = n ≡ line
TellsLine line (order.Sub n) = n ≡ line
TellsLine line (order.Neg n) = n ≡ line
TellsLine line (order.Mul s n) = n ≡ line
TellsLine line (order.Div s n) = n ≡ line
TellsLine line (order.IndexLess lower n) = n ≡ line
TellsLine line (order.Element lower span n) = n ≡ line
TellsLine line (order.ElementOfTwo lower second width n) = n ≡ line
TellsLine line (order.Entry width word span n) = n ≡ line
TellsLine line (order.InArea n) = n ≡ line
TellsLine line (order.InBounds lower upper n) = n ≡ line
TellsLine line (order.SetVariable n) = n ≡ line
TellsLine line (order.AddStep n) = n ≡ line
TellsLine line (order.PutVariable n) = n ≡ line
TellsLine line _ = Unit {0}

abbrev pub OnLine : (line : ℕ) → List Order → Type 0
OnLine line [] = Unit {0}
OnLine line (o ∷ os) = TellsLine line o × OnLine line os

abbrev Tells : (line : ℕ) → Action → Type 0
Tells line (Perform n op) = n ≡ line
Tells line (Alter n f) = n ≡ line
Tells line _ = Unit {0}

told : (p : OrderProgram) (g : ℕ) (acts : List OrderActivation) (line : ℕ) (o : Order) → TellsLine line o → Tells line (action_of p g acts o)
told p g acts line (order.Rescale from to n) h = h
told p g acts line (order.Add n) h = h
told p g acts line (order.Sub n) h = h
told p g acts line (order.Neg n) h = h
told p g acts line (order.Mul s n) h = h
told p g acts line (order.Div s n) h = h
told p g acts line (order.IndexLess lower n) h = h
told p g acts line (order.Element lower span n) h = h
told p g acts line (order.ElementOfTwo lower second width n) h = h
told p g acts line (order.Entry width word span n) h = h
told p g acts line (order.InArea n) h = h
told p g acts line (order.InBounds lower upper n) h = h
told p g acts line (order.SetVariable n) h = h
told p g acts line (order.AddStep n) h = h
told p g acts line (order.PutVariable n) h = h
told p g acts line _ h = tt

-- an order that costs something, writes nothing and begins no statement
abbrev pub is_silent : Order → Bool
is_silent order.WriteByte = false
is_silent order.Mark = false
is_silent (order.Start n) = false
is_silent _ = true

abbrev pub all_silent : List Order → Bool
all_silent [] = true
all_silent (o ∷ os) = is_silent o && all_silent os

-- an order at which no statement begins
abbrev pub BeginsNone : Order → Type 0
BeginsNone o = (g : ℕ) (w : Words) → started_by (Some o) g w ≡ []

begins_none : (o : Order) → IsTrue (is_silent o) → BeginsNone o
begins_none (order.Start n) h = absurd (false≢true h)
begins_none _ h = λ g w. refl

-- by how many words an order may grow the operand stack
abbrev pub growth : Order → ℕ
growth (order.Bind k f o) = 0
growth (order.BindFrame k o) = 0
growth _ = 2

abbrev pub total_growth : List Order → ℕ
total_growth [] = 0
total_growth (o ∷ os) = growth o + total_growth os

growth_small : (o : Order) → growth o ≤ 2
growth_small (order.Bind k f o) = omega arith
growth_small _ = omega arith

pub growth_within : (os : List Order) → total_growth os ≤ 2 * length os
growth_within [] = let z : 0 ≤ 2 * 0 = omega arith in z
growth_within (o ∷ os) =
    let two : 2 * suc (length os) ≡ 2 + 2 * length os = grind arith in
    let z : growth o + total_growth os ≤ 2 * suc (length os) = omega (arith, growth_small o, growth_within os, two) in z

abbrev pub total_weight : List Order → ℕ
total_weight [] = 0
total_weight (o ∷ os) = weight_of o + total_weight os

pub costs_some : (o : Order) → IsTrue (is_silent o) → 0 < weight_of o
costs_some order.WriteByte h = absurd (false≢true h)
costs_some order.Mark h = absurd (false≢true h)
costs_some (order.Start n) h = absurd (false≢true h)
costs_some _ h = omega arith

-- the operand stack grows by two words at most, and nothing is written
abbrev Fine : (words : ℕ) → (output : List ℕ) → Outcome → Type 0
Fine n out (Changed v) = (operand_words v.operands ≤ 2 + n) × (v.output ≡ out)
Fine n out (Refused kind) = Unit {0}
Fine n out Impossible = Unit {0}

fine_put : (n : ℕ) (out : List ℕ) (b : Bool) (kind : StopKind) (z : ℤ) (w : Words) → operand_words w.operands ≤ 1 + n → w.output ≡ out → Fine n out (put_if b kind z w)
fine_put n out true kind z w le e = ((let l : 1 + operand_words w.operands ≤ 2 + n = omega (arith, le) in l), e)
fine_put n out false kind z w le e = tt

fine_if : (n : ℕ) (out : List ℕ) (b : Bool) (o : Outcome) → Fine n out o → Fine n out (fitting b o)
fine_if n out true o h = h
fine_if n out false o h = tt

fine_inside : (n : ℕ) (out : List ℕ) (b : Bool) (o : Outcome) → Fine n out o → Fine n out (if_inside b o)
fine_inside n out true o h = h
fine_inside n out false o h = tt

fine_more : (m n : ℕ) (out : List ℕ) (o : Outcome) → m ≤ n → Fine m out o → Fine n out o
fine_more m n out (Changed v) le (h, e) = ((let l : operand_words v.operands ≤ 2 + n = omega (arith, le, h) in l), e)
fine_more m n out (Refused kind) le h = tt
fine_more m n out Impossible le h = tt

fine_through : (n : ℕ) (out : List ℕ) (b : Bool) (f : ℕ → Words → Outcome) (a : ℤ) (w : Words) → ((i : ℕ) → Fine n out (f i w)) → Fine n out (through b f a w)
fine_through n out true f a w h = h _
fine_through n out false f a w h = tt

fine_unrefused : (n : ℕ) (out : List ℕ) (o : Outcome) → Fine n out o → Fine n out (unrefused o)
fine_unrefused n out (Changed v) h = h
fine_unrefused n out (Refused kind) h = tt
fine_unrefused n out Impossible h = tt

fine_one : (n : ℕ) (out : List ℕ) (f : ℤ → Words → Outcome) (hand : List Operand) (w : Words) → operand_words hand ≤ n → ((x : ℤ) (rest : List Operand) → 1 + operand_words rest ≤ n → Fine n out (f x (with_operands w rest))) → Fine n out (on_one f hand w)
fine_one n out f [] w le h = tt
fine_one n out f (Held c ∷ rest) w le h = tt
fine_one n out f (Word x ∷ rest) w le h = h x rest le

fine_two : (n : ℕ) (out : List ℕ) (f : ℤ → ℤ → Words → Outcome) (hand : List Operand) (w : Words) → operand_words hand ≤ n → ((x y : ℤ) (rest : List Operand) → 1 + operand_words rest ≤ n → Fine n out (f x y (with_operands w rest))) → Fine n out (on_two f hand w)
fine_two n out f hand w le h =
    fine_one n out (λ y v. on_one (λ x t. f x y t) v.operands v) hand w le
    (λ y rest small. fine_one n out (λ x t. f x y t) rest (with_operands w rest) (let l : operand_words rest ≤ n = omega (arith, small) in l) (λ x below smaller. h x y below smaller))

fine_divide : (n : ℕ) (out : List ℕ) (s x y : ℤ) (w : Words) → operand_words w.operands ≤ 1 + n → w.output ≡ out → Fine n out (divide s x y w)
fine_divide n out s x (pos zero) w le e = tt
fine_divide n out s x (pos (suc y)) w le e = fine_put n out _ _ _ w le e
fine_divide n out s x (negsuc y) w le e = fine_put n out _ _ _ w le e

fine_sum : (n : ℕ) (out : List ℕ) (b : Bool) (i : ℕ) (z : ℤ) (w : Words) → operand_words w.operands ≤ n → w.output ≡ out → Fine n out (store_sum b i z w)
fine_sum n out true i z w le e = ((let l : operand_words w.operands ≤ 2 + n = omega (arith, le) in l), e)
fine_sum n out false i z w le e = tt

fine_input : (n : ℕ) (out : List ℕ) (input : List ℕ) (w : Words) → operand_words w.operands ≤ n → w.output ≡ out → Fine n out (Changed (read_byte input w))
fine_input n out [] w le e = ((let l : 1 + operand_words w.operands ≤ 2 + n = omega (arith, le) in l), e)
fine_input n out (b ∷ bs) w le e = ((let l : 1 + operand_words w.operands ≤ 2 + n = omega (arith, le) in l), e)

fine_held : (n : ℕ) (out : List ℕ) (c : Option Control) (w : Words) → operand_words w.operands ≤ n → w.output ≡ out → Fine n out (held c w)
fine_held n out None w le e = tt
fine_held n out (Some c) w le e = ((let l : 2 + operand_words w.operands ≤ 2 + n = omega (arith, le) in l), e)

fine_address : (n : ℕ) (out : List ℕ) (a : Option ℕ) (w : Words) → operand_words w.operands ≤ n → w.output ≡ out → Fine n out (put_address a w)
fine_address n out None w le e = tt
fine_address n out (Some a) w le e = ((let l : 1 + operand_words w.operands ≤ 2 + n = omega (arith, le) in l), e)

fine_bind : (n : ℕ) (out : List ℕ) (area : ℕ) (x : Option Operand) (a : Option ℕ) (w : Words) → operand_words w.operands ≤ n → w.output ≡ out → Fine n out (bind area x a w)
fine_bind n out area (Some (Word z)) (Some a) w le e =
    fine_through n out (is_below (pos a) area) (λ i v. Changed (with_memory v (set v.memory i z))) (pos a) w (λ i. ((let l : operand_words w.operands ≤ 2 + n = omega (arith, le) in l), e))
fine_bind n out area (Some (Word z)) None w le e = tt
fine_bind n out area (Some (Held c)) a w le e = tt
fine_bind n out area None a w le e = tt

module _ (area : ℕ) (w : Words) where
  abbrev n : ℕ
  n = operand_words w.operands

  abbrev out : List ℕ
  out = w.output

  abbrev OK : Outcome → Type 0
  OK o = Fine n out o

  same : n ≤ n
  same = let l : operand_words w.operands ≤ operand_words w.operands = omega arith in l

  -- an operand fewer, and one put in its place, or none
  fewer : (rest : List Operand) → 1 + operand_words rest ≤ n → operand_words rest ≤ 1 + n
  fewer rest le = let l : operand_words rest ≤ 1 + operand_words w.operands = omega (arith, le) in l

  replaced : (rest : List Operand) → 1 + operand_words rest ≤ n → 1 + operand_words rest ≤ 2 + n
  replaced rest le = let l : 1 + operand_words rest ≤ 2 + operand_words w.operands = omega (arith, le) in l

  taken : (rest : List Operand) → 1 + operand_words rest ≤ n → operand_words rest ≤ 2 + n
  taken rest le = let l : operand_words rest ≤ 2 + operand_words w.operands = omega (arith, le) in l

  taken_none : n ≤ 2 + n
  taken_none = let l : operand_words w.operands ≤ 2 + operand_words w.operands = omega arith in l

  same_one : n ≤ 1 + n
  same_one = let l : operand_words w.operands ≤ 1 + operand_words w.operands = omega arith in l

  same_two : 1 + n ≤ 2 + n
  same_two = let l : 1 + operand_words w.operands ≤ 2 + operand_words w.operands = omega arith in l

  fine_form : (f : Addressing) → OK (perform area (Form f) w)
  fine_form (Known z) = fine_put n out (is_below z area) AddressRange z w same_one refl
  fine_form Taken = fine_one n out (address_of area) w.operands w same (λ x rest le. fine_put n out (is_below x area) AddressRange x (with_operands w rest) (fewer rest le) refl)
  fine_form (Indexed base l) =
      fine_one n out (λ i v. fitting (fits_word (i -ℤ l)) (address_of area (base +ℤ (i -ℤ l)) v)) w.operands w same (λ x rest le. fine_if n out (fits_word (x -ℤ l)) (address_of area (base +ℤ (x -ℤ l)) (with_operands w rest)) (fine_put n out (is_below (base +ℤ (x -ℤ l)) area) AddressRange (base +ℤ (x -ℤ l)) (with_operands w rest) (fewer rest le) refl))
  fine_form (Indexed2 base l1 l2 k) =
      fine_two n out (λ i j v. fitting (fits_word (i -ℤ l1)) (fitting (fits_word ((i -ℤ l1) *ℤ pos k)) (fitting (fits_word (j -ℤ l2)) (fitting (fits_word ((i -ℤ l1) *ℤ pos k +ℤ (j -ℤ l2))) (address_of area (base +ℤ ((i -ℤ l1) *ℤ pos k +ℤ (j -ℤ l2))) v))))) w.operands w same
      (λ x y rest le.
      let last = (address_of area (base +ℤ ((x -ℤ l1) *ℤ pos k +ℤ (y -ℤ l2))) (with_operands w rest)) in
      let third = fitting (fits_word ((x -ℤ l1) *ℤ pos k +ℤ (y -ℤ l2))) last in
      let second = fitting (fits_word (y -ℤ l2)) third in
      let first = fitting (fits_word ((x -ℤ l1) *ℤ pos k)) second in
      fine_if n out (fits_word (x -ℤ l1)) first (fine_if n out (fits_word ((x -ℤ l1) *ℤ pos k)) second (fine_if n out (fits_word (y -ℤ l2)) third (fine_if n out (fits_word ((x -ℤ l1) *ℤ pos k +ℤ (y -ℤ l2))) last (fine_put n out (is_below (base +ℤ ((x -ℤ l1) *ℤ pos k +ℤ (y -ℤ l2))) area) AddressRange (base +ℤ ((x -ℤ l1) *ℤ pos k +ℤ (y -ℤ l2))) (with_operands w rest) (fewer rest le) refl)))))
  fine_form (Scaled base k b) =
      fine_one n out (λ i v. fitting (fits_word (i *ℤ pos k)) (fitting (fits_word (i *ℤ pos k +ℤ pos b)) (address_of area (base +ℤ (i *ℤ pos k +ℤ pos b)) v))) w.operands w same
      (λ x rest le.
      let last = (address_of area (base +ℤ (x *ℤ pos k +ℤ pos b)) (with_operands w rest)) in
      let second = fitting (fits_word (x *ℤ pos k +ℤ pos b)) last in
      fine_if n out (fits_word (x *ℤ pos k)) second (fine_if n out (fits_word (x *ℤ pos k +ℤ pos b)) last (fine_put n out (is_below (base +ℤ (x *ℤ pos k +ℤ pos b)) area) AddressRange (base +ℤ (x *ℤ pos k +ℤ pos b)) (with_operands w rest) (fewer rest le) refl)))

  abbrev writes : Operation → Bool
  writes WriteByte = true
  writes _ = false

  fine_operation : (op : Operation) → writes op ≡ false → OK (perform area op w)
  fine_operation (Constant z) s = (same_two, refl)
  fine_operation (Rescale f t) s = fine_one n out (λ x v. put_value (rescaled x f t) v) w.operands w same (λ x rest le. fine_put n out _ _ _ (with_operands w rest) (fewer rest le) refl)
  fine_operation (Fetch f) s =
      fine_one n out (at_address area (λ i v. Changed (put (field_value f (word_at v.memory i)) v))) w.operands w same (λ x rest le. fine_through n out (is_below x area) (λ i v. Changed (put (field_value f (word_at v.memory i)) v)) x (with_operands w rest) (λ i. (replaced rest le, refl)))
  fine_operation (Store f) s =
      fine_two n out (λ z a v. at_address area (λ i t. Changed (with_memory t (set t.memory i (stored_value f (word_at t.memory i) z)))) a v) w.operands w same (λ x y rest le. fine_through n out (is_below y area) (λ i t. Changed (with_memory t (set t.memory i (stored_value f (word_at t.memory i) x)))) y (with_operands w rest) (λ i. (taken rest le, refl)))
  fine_operation (StoreBits k b) s =
      fine_two n out (λ z a v. at_address area (λ i t. Changed (with_memory t (set t.memory i (with_bits k b (word_at t.memory i) z)))) a v) w.operands w same (λ x y rest le. fine_through n out (is_below y area) (λ i t. Changed (with_memory t (set t.memory i (with_bits k b (word_at t.memory i) x)))) y (with_operands w rest) (λ i. (taken rest le, refl)))
  fine_operation Add s = fine_two n out (λ x y v. put_value (x +ℤ y) v) w.operands w same (λ x y rest le. fine_put n out _ _ _ (with_operands w rest) (fewer rest le) refl)
  fine_operation Subtract s = fine_two n out (λ x y v. put_value (x -ℤ y) v) w.operands w same (λ x y rest le. fine_put n out _ _ _ (with_operands w rest) (fewer rest le) refl)
  fine_operation Negate s = fine_one n out (λ x v. put_value (neg_ℤ x) v) w.operands w same (λ x rest le. fine_put n out _ _ _ (with_operands w rest) (fewer rest le) refl)
  fine_operation (Multiply k) s = fine_two n out (λ x y v. put_value (scaled_product x y k) v) w.operands w same (λ x y rest le. fine_put n out _ _ _ (with_operands w rest) (fewer rest le) refl)
  fine_operation (Divide k) s = fine_two n out (divide k) w.operands w same (λ x y rest le. fine_divide n out k x y (with_operands w rest) (fewer rest le) refl)
  fine_operation (Combine op) s = fine_two n out (λ x y v. Changed (put (signed (logic_word op (unsigned x) (unsigned y))) v)) w.operands w same (λ x y rest le. (replaced rest le, refl))
  fine_operation (Extract t b) s = fine_one n out (λ x v. Changed (put (signed (unsigned_field (unsigned x) t b)) v)) w.operands w same (λ x rest le. (replaced rest le, refl))
  fine_operation (InBounds l u) s = fine_one n out (λ i v. put_if (int_le l i && int_le i u) IndexRange i v) w.operands w same (λ x rest le. fine_put n out _ _ _ (with_operands w rest) (fewer rest le) refl)
  fine_operation (Form f) s = fine_form f
  fine_operation (Keep a) s = fine_one n out (λ x v. Changed (with_memory v (set v.memory a x))) w.operands w same (λ x rest le. (taken rest le, refl))
  fine_operation (SetVariable a) s =
      fine_one n out (λ x v. at_address area (λ i t. Changed (with_memory t (set t.memory i x))) (word_at v.memory a) v) w.operands w same (λ x rest le. fine_through n out (is_below (word_at w.memory a) area) (λ i t. Changed (with_memory t (set t.memory i x))) (word_at w.memory a) (with_operands w rest) (λ i. (taken rest le, refl)))
  fine_operation (AddStep a) s = fine_through n out (is_below (word_at w.memory a) area) (λ i v. store_sum (fits_word (word_at v.memory i +ℤ word_at v.memory (a + 1))) i (word_at v.memory i +ℤ word_at v.memory (a + 1)) v) (word_at w.memory a) w (λ i. fine_sum n out (fits_word (word_at w.memory i +ℤ word_at w.memory (a + 1))) i (word_at w.memory i +ℤ word_at w.memory (a + 1)) w same refl)
  fine_operation ReadByte s = fine_input n out w.input w same refl
  fine_operation WriteByte s = absurd (false≢true (sym s))

-- behind an operand
fine_behind : (area : ℕ) (op : Operation) (rest : List Operand) (w : Words) → writes area w op ≡ false → 1 + operand_words rest ≤ operand_words w.operands → Fine (operand_words w.operands) w.output (perform area op (with_operands w rest))
fine_behind area op rest w s le =
    fine_more (operand_words rest) (operand_words w.operands) w.output (perform area op (with_operands w rest)) (let l : operand_words rest ≤ operand_words w.operands = omega (arith, le) in l) (fine_operation area (with_operands w rest) op s)

-- from a base on top
fine_base : (area : ℕ) (f : ℤ → Addressing) (w : Words) → Fine (operand_words w.operands) w.output (from_base area f w)
fine_base area f w =
    fine_one (operand_words w.operands) w.output (λ base v. form_address (min area 32768) (f base) v) w.operands w (same area w)
    (λ base rest le. fine_behind (min area 32768) (Form (f base)) rest w refl le)

change_of : Words → Outcome → Words
change_of d (Changed x) = x
change_of d (Refused kind) = d
change_of d Impossible = d

pub same_change : (v w : Words) → Changed v ≡ Changed w → v ≡ w
unfolding change_of
same_change v w e = ap (change_of v) e

module _ (p : OrderProgram) (g : ℕ) (acts : List OrderActivation) where
  abbrev pub effect : Order → Words → Outcome
  effect o w = word_effect p.limits.area (action_of p g acts o) w

  -- orders one after another
  abbrev pub run_orders : List Order → Words → Outcome
  run_orders [] w = Changed w
  run_orders (o ∷ os) w = then_do (effect o w) (λ v. run_orders os v)

  fine_order : (o : Order) (w : Words) → IsTrue (is_silent o) → Fine (operand_words w.operands) w.output (effect o w)
  fine_order order.Save w s = (taken_none p.limits.area w, refl)
  fine_order order.Mark w s = absurd (false≢true s)
  fine_order (order.Start n) w s = absurd (false≢true s)
  fine_order (order.Const k) w s = fine_operation p.limits.area w (Constant (signed k)) refl
  fine_order (order.Home f o) w s = fine_operation p.limits.area w (Constant (signed (home_word p.addresses g f o))) refl
  fine_order (order.FrameHome k) w s = fine_unrefused _ _ _ (fine_address _ _ _ w (same p.limits.area w) refl)
  fine_order order.Load w s = fine_unrefused _ _ _ (fine_operation p.limits.area w (Fetch None) refl)
  fine_order order.Store w s = fine_unrefused _ _ _ (fine_operation p.limits.area w (Store None) refl)
  fine_order (order.LoadPart t b k) w s = fine_unrefused _ _ _ (fine_operation p.limits.area w (Fetch (Some (record { t = t; b = b; unsigned = not k }))) refl)
  fine_order (order.StorePart t b) w s = fine_unrefused _ _ _ (fine_operation p.limits.area w (StoreBits t b) refl)
  fine_order (order.Rescale f t line) w s = fine_operation p.limits.area w (Rescale f t) refl
  fine_order (order.Add line) w s = fine_operation p.limits.area w Add refl
  fine_order (order.Sub line) w s = fine_operation p.limits.area w Subtract refl
  fine_order (order.Neg line) w s = fine_operation p.limits.area w Negate refl
  fine_order (order.Mul k line) w s = fine_operation p.limits.area w (Multiply k) refl
  fine_order (order.Div k line) w s = fine_operation p.limits.area w (Divide k) refl
  fine_order order.And w s = fine_unrefused _ _ _ (fine_operation p.limits.area w (Combine logic.Mask) refl)
  fine_order order.Or w s = fine_unrefused _ _ _ (fine_operation p.limits.area w (Combine logic.Union) refl)
  fine_order order.Xor w s = fine_unrefused _ _ _ (fine_operation p.limits.area w (Combine logic.Differ) refl)
  fine_order (order.Take t b) w s = fine_unrefused _ _ _ (fine_operation p.limits.area w (Extract t b) refl)
  fine_order order.Less w s = fine_unrefused _ _ _ (fine_two _ _ (λ x y v. Changed (put (signed (word_difference (unsigned x) (unsigned y))) v)) w.operands w (same p.limits.area w) (λ x y rest le. (replaced p.limits.area w rest le, refl)))
  fine_order order.Drop w s = fine_unrefused _ _ _ (fine_one _ _ (λ x v. Changed v) w.operands w (same p.limits.area w) (λ x rest le. (taken p.limits.area w rest le, refl)))
  fine_order order.ReadByte w s = fine_operation p.limits.area w ReadByte refl
  fine_order order.WriteByte w s = absurd (false≢true s)
  fine_order (order.IndexLess l line) w s = fine_one _ _ (λ i v. put_index (i -ℤ l) v) w.operands w (same p.limits.area w) (λ x rest le. fine_put _ _ _ _ _ (with_operands w rest) (fewer p.limits.area w rest le) refl)
  fine_order (order.Element l k line) w s = fine_base p.limits.area (λ base. Indexed base l) w
  fine_order (order.ElementOfTwo l1 l2 n line) w s = fine_base p.limits.area (λ base. Indexed2 base l1 l2 n) w
  fine_order (order.ElementInside l1 l2 n k) w s = fine_unrefused _ _ _ (fine_base p.limits.area (λ base. Indexed2 base l1 l2 n) w)
  fine_order (order.Entry n m k line) w s = fine_base p.limits.area (λ base. Scaled base n m) w
  fine_order (order.InArea line) w s = fine_operation p.limits.area w (Form Taken) refl
  fine_order (order.SetVariable line) w s =
      fine_one _ _ (λ a v. if_inside (is_below a p.limits.area) (perform p.limits.area (SetVariable (number_of a)) v)) w.operands w (same p.limits.area w)
      (λ a rest le. fine_inside _ _ (is_below a p.limits.area) (perform p.limits.area (SetVariable (number_of a)) (with_operands w rest)) (fine_behind p.limits.area (SetVariable (number_of a)) rest w refl le))
  fine_order (order.AddStep line) w s =
      fine_one _ _ (λ a v. if_inside (is_below a (p.limits.area - 1)) (perform p.limits.area (AddStep (number_of a)) v)) w.operands w (same p.limits.area w)
      (λ a rest le. fine_inside _ _ (is_below a (p.limits.area - 1)) (perform p.limits.area (AddStep (number_of a)) (with_operands w rest)) (fine_behind p.limits.area (AddStep (number_of a)) rest w refl le))
  fine_order (order.PutVariable line) w s =
      fine_one _ _ (λ a v. if_inside (is_below a p.limits.area) (at_address p.limits.area (λ i t. Changed (put a (put (word_at t.memory i) t))) (word_at v.memory (number_of a)) v)) w.operands w (same p.limits.area w)
      (λ a rest le.
      let z = word_at w.memory (number_of a) in
      let f : ℕ → Words → Outcome = λ i t. Changed (put a (put (word_at t.memory i) t)) in
      fine_inside (operand_words w.operands) w.output (is_below a p.limits.area) (at_address p.limits.area f z (with_operands w rest))
      (fine_through (operand_words w.operands) w.output (is_below z p.limits.area) f z (with_operands w rest) (λ i. ((let l : 1 + (1 + operand_words rest) ≤ 2 + operand_words w.operands = omega (arith, le) in l), refl))))
  fine_order (order.InBounds l u line) w s = fine_operation p.limits.area w (InBounds l u) refl
  fine_order (order.LabelOut l) w s = fine_held _ _ (Some (LabelControl g l (length acts))) w (same p.limits.area w) refl
  fine_order (order.LabelCommon d) w s = fine_unrefused _ _ _ (fine_held _ _ _ w (same p.limits.area w) refl)
  fine_order (order.SwitchOut l) w s = fine_held _ _ (Some (SwitchControl g l (length acts))) w (same p.limits.area w) refl
  fine_order (order.SwitchCommon d) w s = fine_unrefused _ _ _ (fine_held _ _ _ w (same p.limits.area w) refl)
  fine_order (order.ProcOut l) w s = fine_held _ _ (Some (ProcedureControl g l)) w (same p.limits.area w) refl
  fine_order (order.ProcCommon d) w s = fine_unrefused _ _ _ (fine_held _ _ _ w (same p.limits.area w) refl)
  fine_order (order.SpecialOut k) w s = fine_unrefused _ _ _ (fine_held _ _ _ w (same p.limits.area w) refl)
  fine_order (order.Bind k f o) w s = fine_unrefused _ _ _ (fine_bind _ _ p.limits.area (argument_at acts k) (Some (home_word p.addresses g f o)) w (same p.limits.area w) refl)
  fine_order (order.BindFrame k o) w s = fine_unrefused _ _ _ (fine_bind _ _ p.limits.area (argument_at acts k) (frame_word p.limits.area acts o) w (same p.limits.area w) refl)
  fine_order _ w s = tt

  fine_grows : (n : ℕ) (out : List ℕ) (e : Outcome) (v : Words) → Fine n out e → e ≡ Changed v → operand_words v.operands ≤ 2 + n
  fine_grows n out e v h is = (subst (Fine n out) is h).0

  same_hand : (area : ℕ) (x : Option Operand) (a : Option ℕ) (w v : Words) → unrefused (bind area x a w) ≡ Changed v → operand_words v.operands ≤ 0 + operand_words w.operands
  same_hand area (Some (Word z)) (Some a) w v e = tested (is_below (pos a) area) refl e
    where
      tested : (b : Bool) → is_below (pos a) area ≡ b → unrefused (through b (λ i t. Changed (with_memory t (set t.memory i z))) (pos a) w) ≡ Changed v → operand_words v.operands ≤ 0 + operand_words w.operands
      tested true h e =
          let same' : operand_words w.operands ≡ operand_words v.operands = ap (λ d. operand_words d.operands) (same_change (with_memory w (set w.memory a z)) v e) in
          let l : operand_words v.operands ≤ 0 + operand_words w.operands = omega (arith, same') in l
      tested false h e = absurd (subst IsPossible (sym e) tt)
  same_hand area (Some (Word z)) None w v e = absurd (subst IsPossible (sym e) tt)
  same_hand area (Some (Held c)) a w v e = absurd (subst IsPossible (sym e) tt)
  same_hand area None a w v e = absurd (subst IsPossible (sym e) tt)

  grows : (o : Order) (w v : Words) → IsTrue (is_silent o) → effect o w ≡ Changed v → operand_words v.operands ≤ growth o + operand_words w.operands
  grows (order.Bind k f x) w v s e = same_hand p.limits.area (argument_at acts k) (Some (home_word p.addresses g f x)) w v e
  grows (order.BindFrame k x) w v s e = same_hand p.limits.area (argument_at acts k) (frame_word p.limits.area acts x) w v e
  grows o w v s e = fine_grows (operand_words w.operands) w.output (effect o w) v (fine_order o w s) e

  -- ---- steps

  no_stop : (n k : ℕ) (o : Outcome) (q : ℕ) (l : Bool) (w : Words) → after p.room n (unrefused o) g q l acts w ≡ after p.room k (unrefused o) g q l acts w
  no_stop n k (Changed v) q l w = refl
  no_stop n k _ q l w = refl

  acts_as : (a : Action) (line q : ℕ) (l : Bool) (w : Words) → Tells line a → stack_words w.operands acts ≤ p.room → IsPossible (word_effect p.limits.area a w) → act p a g q l acts w ≡ after p.room line (word_effect p.limits.area a w) g q l acts w
  acts_as (Perform n op) line q l w tells room h = ap (λ k. after p.room k (perform p.limits.area op w) g q l acts w) tells
  acts_as (Access op) line q l w tells room h = no_stop 0 line (perform p.limits.area op w) q l w
  acts_as (Alter n f) line q l w tells room h = ap (λ k. after p.room k (f w) g q l acts w) tells
  acts_as (AlterWithin f) line q l w tells room h = no_stop 0 line (f w) q l w
  acts_as Pass line q l w tells room h = sym (ap (λ b. go_on b g q l acts w w) (le-leb (stack_words w.operands acts) p.room room))
  acts_as _ line q l w tells room h = absurd h

  beneath : (xs ys : List Operand) (n : ℕ) (bs : List OrderActivation) → operand_words ys ≤ n + operand_words xs → stack_words ys bs ≤ n + stack_words xs bs
  beneath xs ys n [] le = le
  beneath xs ys n (b ∷ bs) le = let l : stack_words ys (b ∷ bs) ≤ n + stack_words xs (b ∷ bs) = omega (arith, le) in l

  -- the machine of orders, where each state shows with it the statement that begins there
  abbrev B : Machine (Observation × List Begun)
  B = noted (order_machine p) (starts p)

  -- this is shown, and no statement begins
  abbrev Shows : List ℕ → Observation × List Begun → Type 0
  Shows xs = Unnoted (λ o. o ≡ record { output = xs; end = Running })

  abbrev Seen : Words → Observation × List Begun → Type 0
  Seen w = Shows w.output

  -- orders that stand at a place run on to the next one, or to a stop at a line; they show nothing new on the way, and no statement begins
  abbrev pub Ran : (line q next : ℕ) → (l m : Bool) → List Order → Words → Outcome → Type 0
  Ran line q next l m os w (Changed v) = Path (Seen w) B (total_weight os) (state g q l acts w Running) (state g next m acts v Running) × (v.output ≡ w.output)
  Ran line q next l m os w (Refused kind) =
      (n : ℕ) × (place : ℕ) × (loaded : Bool) × (v : Words) × (0 < n) × (n ≤ total_weight os) × Path (Seen w) B n (state g q l acts w Running) (state g place loaded acts v (Stopped kind (g + 1) line)) × (v.output ≡ w.output)
  Ran line q next l m os w Impossible = Unit {0}

  -- one order, which finds the accumulator as it wants it
  pub carried_out : (o : Order) (q : ℕ) (l l' : Bool) (w : Words) → order_at p g q ≡ Some o → loaded_after o l ≡ Some l' → carry_out p (order_at p g q) g q l acts w ≡ act p (action_of p g acts o) g q l' acts w
  carried_out o q l l' w at_q turn = ap (λ x. carry_out p x g q l acts w) at_q ∙ ap (λ x. carry_with p x o g q l acts w) turn

  module _ (code : List Order) (at_code : (q : ℕ) (o : Order) → slice_get code q ≡ Some o → order_at p g q ≡ Some o) (line : ℕ) where
    further : (o : Order) (os : List Order) (q next : ℕ) (l l' m : Bool) (w v : Words) (out : Outcome) → BeginsNone o → order_at p g q ≡ Some o → B.step (state g q l acts w Running) ≡ state g (q + 1) l' acts v Running → v.output ≡ w.output → Ran line (q + 1) next l' m os v out → Ran line q next l m (o ∷ os) w out
    further o os q next l l' m w v (Changed u) none h e kept (path, same) =
        (move (refl, ap (λ x. started_by x g w) h ∙ none g w) e (let z : weight_of o + total_weight os ≡ weight_at (order_at p g q) + total_weight os = omega (arith, ap weight_at h) in z) (subst (λ x. Path (Shows x) B (total_weight os) (state g (q + 1) l' acts v Running) (state g next m acts u Running)) kept path), same ∙ kept)
    further o os q next l l' m w v (Refused kind) none h e kept (n, place, loaded, u, some, le, path, same) =
        (weight_of o + n, place, loaded, u, (let z : 0 < weight_of o + n = omega (arith, some) in z), (let z : weight_of o + n ≤ weight_of o + total_weight os = omega (arith, le) in z), move (refl, ap (λ x. started_by x g w) h ∙ none g w) e (let z : weight_of o + n ≡ weight_at (order_at p g q) + n = omega (arith, ap weight_at h) in z) (subst (λ x. Path (Shows x) B n (state g (q + 1) l' acts v Running) (state g place loaded acts u (Stopped kind (g + 1) line))) kept path), same ∙ kept)
    further o os q next l l' m w v Impossible none h e kept ran = tt

    ran_one : (o : Order) (os : List Order) (q next : ℕ) (l l' m : Bool) (w : Words) (e : Outcome) → BeginsNone o → order_at p g q ≡ Some o → TellsLine line o → loaded_after o l ≡ Some l' → effect o w ≡ e → 0 < weight_of o → Fine (operand_words w.operands) w.output e → growth o + total_growth os + stack_words w.operands acts ≤ p.room → ((v : Words) → e ≡ Changed v → operand_words v.operands ≤ growth o + operand_words w.operands) → ((v : Words) → total_growth os + stack_words v.operands acts ≤ p.room → Ran line (q + 1) next l' m os v (run_orders os v)) → Ran line q next l m (o ∷ os) w (then_do e (λ v. run_orders os v))
    ran_one o os q next l l' m w (Changed v) none at_q tells turn e some (le, kept) room little rest =
        let grown = beneath w.operands v.operands (growth o) acts (little v refl) in
        let fits : stack_words v.operands acts ≤ p.room = omega (arith, grown, room) in
        let fitted : stack_words w.operands acts ≤ p.room = omega (arith, room) in
        further o os q next l l' m w v (run_orders os v) none at_q
        (carried_out o q l l' w at_q turn ∙ acts_as (action_of p g acts o) line q l' w (told p g acts line o tells) fitted (subst IsPossible (sym e) tt) ∙ ap (λ x. after p.room line x g q l' acts w) e ∙ ap (λ b. go_on b g q l' acts w v) (le-leb (stack_words v.operands acts) p.room fits))
        kept
        (rest v (let z : total_growth os + stack_words v.operands acts ≤ p.room = omega (arith, grown, room) in z))
    ran_one o os q next l l' m w (Refused kind) none at_q tells turn e some fine room little rest =
        let fitted : stack_words w.operands acts ≤ p.room = omega (arith, room) in (
          weight_of o,
          q,
          l',
          w,
          some,
          (let z : weight_of o ≤ weight_of o + total_weight os = omega arith in z),
          move (refl, ap (λ x. started_by x g w) at_q ∙ none g w) (carried_out o q l l' w at_q turn ∙ acts_as (action_of p g acts o) line q l' w (told p g acts line o tells) fitted (subst IsPossible (sym e) tt) ∙ ap (λ x. after p.room line x g q l' acts w) e)
              (let z : weight_of o ≡ weight_at (order_at p g q) + 0 = omega (arith, ap weight_at at_q) in z)
              (stay refl refl),
          refl,
        )
    ran_one o os q next l l' m w Impossible none at_q tells turn e some fine room little rest = tt

    pub run_through : (os : List Order) (q next : ℕ) (l m : Bool) (w : Words) → Stands code q os next → IsTrue (all_silent os) → OnLine line os → loaded_through os l ≡ Some m → total_growth os + stack_words w.operands acts ≤ p.room → Ran line q next l m os w (run_orders os w)
    run_through [] q next l m w stands s tells turns room = (stay (ap (λ x. state g x l acts w Running) stands ∙ ap (λ x. state g next x acts w Running) (same_Some l m turns)) refl, refl)
    run_through (o ∷ os) q next l m w (h, stands) s tells turns room =
        let silent = both (is_silent o) (all_silent os) s in
        let turn = turned m (loaded_after o l) os turns in
        ran_one o os q next l turn.0 m w (effect o w) (begins_none o silent.0) (at_code q o h) tells.0 turn.1 refl (costs_some o silent.0) (fine_order o w silent.0) room (λ v e. grows o w v silent.0 e) (λ v small. run_through os (q + 1) next turn.0 m v stands silent.1 tells.1 turn.2 small)
