-- Each step keeps the activations and the control arguments as the orders rely on them.
use Rattle.std.proofs.Common.{◌≡◌, inl, inr, ⊎_elim, ℕ, zero, suc, ◌+◌, ◌-◌, min, ◌≤◌, ℤ, pos, negsuc, ◌+ℤ◌, ◌-ℤ◌, neg_ℤ, List, [], ◌∷◌, ◌++◌, length, set, drop, Bool, true, false, not, Option, Some, None, refl, sym, ap, ◌∙◌, subst, arith}
use Rattle.std.specs.Prelude.{int_le, ◌&&◌, nat_eq, nat_le, nat_lt, slice_get, ◌&&◌}
use Rattle.std.specs.List.{All}
use Rattle.std.proofs.lemmas.Bool.{leb-true, true≢false, false≢true}
use Rattle.std.proofs.lemmas.List.Elements.{All-cons, All-drop, All-head, All-nil, All-tail, All-take}
use Rattle.cw_word.specs.FixedPoint.{fits_word, rescaled, scaled_product, scaled_quotient}
use Rattle.cw_word.specs.BitField.{unsigned_field}
use Rattle.cw_word.specs.Word.{signed, unsigned, word_difference}
use Rattle.cw_unit.specs.declared.unit.Field.{Field}
use Rattle.cw_unit.specs.declared.unit.Goal.{Goal}
use Rattle.cw_unit.specs.declared.unit.Goal.TheVariants as goal
use Rattle.cw_unit.specs.declared.unit.Def.{Def}
use Rattle.cw_unit.specs.declared.unit.Def.TheVariants as def
use Rattle.cw_unit.specs.Stop.{StopKind, Overflow, AddressRange, IndexRange, Running}
use Rattle.cw_unit.specs.Words.{Control, LabelControl, SwitchControl, ProcedureControl, Operand, Word, Held, Words, Outcome, Changed, Refused, Impossible, with_operands, with_memory, put, put_if, put_value, on_one, on_two, through, at_address, is_below, number_of, word_at, field_value, with_bits, byte_of, read_byte}
use Rattle.cw_unit.specs.Operation.{Addressing, Known, Taken, Indexed, Indexed2, Scaled, Fetch, SetVariable, AddStep, fitting, form_address, store_with, store_sum, divide, address_of, perform, holds}
use Rattle.cw_unit.specs.Step.{held, goal_at, label_of_def, switch_of_def, procedure_of_def, with_label_owner, with_switch_owner, as_procedure}
use Rattle.cw_unit.proofs.Forms.{row_address, entry_address, of_row, of_entry}
use Rattle.cw_order.specs.declared.order.Order.{Order}
use Rattle.cw_order.specs.declared.order.Order.TheVariants as order
use Rattle.cw_order.specs.declared.order.Orders.{Orders}
use Rattle.cw_order.specs.OrderProgram.{LabelEntry, ProcedureEntry, OrderProgram, order_at, place_of, label_at, procedure_at, switch_at, label_of, defined_at}
use Rattle.cw_order.specs.OrderState.{OrderActivation, OrderState, at, operand_words, stack_words, argument_behind, argument_at, frame_word, frame_end, control_in, control_at}
use Rattle.cw_order.specs.OrderChanges.{put_index, from_base, put_address, bind, if_inside, Way, Onward, ToMark, Barred, Nowhere, way_of_one, way_of_two, to_mark_if, to_mark_in, to_mark_of_switch, way_past_limit, way_behind, turn_if, turned, stepped_if, stepped_inside, next_step, mark_of_number, comparison}
use Rattle.cw_order.specs.Loading.{loaded_after}
use Rattle.cw_order.specs.OrderActions.{Action, Perform, Access, Alter, AlterWithin, Pass, Branch, GoMain, GoLabel, GoSwitch, Call, Enter, Return, EndBody, home_word, common_label, common_switch, common_procedure, place_address, action_of}
use Rattle.cw_order.specs.OrderMachine.{go_on, go_at, after, unrefused, leave_for, dropped_by, called, call_at, enter_with, return_with, next_body, branch, go_to_entry, go_to, go_to_goal, go_by_list, go_through, call_entry, call, enter, come_back, end_body, act, carry_with, carry_out, step}
use Rattle.cw_order.specs.Activations.{segment_below, IsThere, OwnsLabel, ControlStands, OperandStands, ActivationsStand, Beginning, LastStands, StateStands, Callable}
use Rattle.cw_order.proofs.Keeping.{OutcomeIs, KeepsIt, through-kept, fitting-kept, if_inside-kept, unrefused-kept, ActionIs}

-- ---- numbers

pub words_split : (operands : List Operand) (acts : List OrderActivation) → stack_words operands acts ≡ operand_words operands + stack_words [] acts
words_split operands [] = omega arith
words_split operands (a ∷ acts) = omega arith

words_below : (n : ℕ) (acts : List OrderActivation) → stack_words [] (drop n acts) ≤ stack_words [] acts
words_below zero acts = omega arith
words_below (suc n) [] = omega arith
words_below (suc n) (a ∷ acts) = omega (arith, words_below n acts, words_split a.operands acts)

both_true : (a b : Bool) → (a && b) ≡ true → (a ≡ true) × (b ≡ true)
both_true true b e = (refl, e)
both_true false b e = absurd (false≢true e)

-- ---- outcomes

abbrev AllOf : (Operand → Type 0) → Words → Type 0
AllOf P w = All P w.operands

module _ (P : Operand → Type 0) (plain : (z : ℤ) → P (Word z)) where
  abbrev OutcomeStands : Outcome → Type 0
  OutcomeStands = OutcomeIs (AllOf P)

  abbrev Keeps : (Words → Outcome) → Type 0
  Keeps = KeepsIt (AllOf P)

  put-stands : (z : ℤ) (w : Words) → All P w.operands → All P (put z w).operands
  put-stands z w h = All-cons P (Word z) w.operands (plain z) h

  put_if-stands : (kind : StopKind) (z : ℤ) (b : Bool) → Keeps (put_if b kind z)
  put_if-stands kind z true w h = put-stands z w h
  put_if-stands kind z false w h = tt

  one-stands : (f : ℤ → Words → Outcome) → ((x : ℤ) → Keeps (f x)) → (operands : List Operand) → All P operands → Keeps (on_one f operands)
  one-stands f h [] all w fits = tt
  one-stands f h (Held c ∷ rest) all w fits = tt
  one-stands f h (Word x ∷ rest) all w fits = h x (with_operands w rest) (All-tail P (Word x) rest all)

  top-stands : (f : ℤ → Words → Outcome) → ((x : ℤ) → Keeps (f x)) → Keeps (λ w. on_one f w.operands w)
  top-stands f h w fits = one-stands f h w.operands fits w fits

  two-stands : (f : ℤ → ℤ → Words → Outcome) → ((x y : ℤ) → Keeps (f x y)) → Keeps (λ w. on_two f w.operands w)
  two-stands f h w fits =
      one-stands (λ y v. on_one (λ x t. f x y t) v.operands v) (λ y v fv. one-stands (λ x t. f x y t) (λ x t ft. h x y t ft) v.operands fv v fv) w.operands fits w fits

  fetch-stands : (area : ℕ) (f : Option Field) → Keeps (perform area (Fetch f))
  fetch-stands area f =
      top-stands (at_address area (λ i v. Changed (put (field_value f (word_at v.memory i)) v)))
      (λ a. through-kept (AllOf P) (is_below a area) (λ i t. Changed (put (field_value f (word_at t.memory i)) t)) (λ i t ft. put-stands (field_value f (word_at t.memory i)) t ft) a)

  store-stands : (area : ℕ) (f : ℤ → ℤ → ℤ) → Keeps (store_with area f)
  store-stands area f =
      two-stands (λ z a v. at_address area (λ i t. Changed (with_memory t (set t.memory i (f (word_at t.memory i) z)))) a v)
      (λ z a. through-kept (AllOf P) (is_below a area) (λ i t. Changed (with_memory t (set t.memory i (f (word_at t.memory i) z)))) (λ i t ft. ft) a)

  value-stands : (f : ℤ → ℤ) → Keeps (λ w. on_one (λ x v. put_value (f x) v) w.operands w)
  value-stands f = top-stands (λ x v. put_value (f x) v) (λ x. put_if-stands Overflow (f x) (fits_word (f x)))

  values-stand : (f : ℤ → ℤ → ℤ) → Keeps (λ w. on_two (λ x y v. put_value (f x y) v) w.operands w)
  values-stand f = two-stands (λ x y v. put_value (f x y) v) (λ x y. put_if-stands Overflow (f x y) (fits_word (f x y)))

  bits-stand : (f : ℤ → ℤ → ℕ) → Keeps (λ w. on_two (λ x y v. Changed (put (signed (f x y)) v)) w.operands w)
  bits-stand f = two-stands (λ x y v. Changed (put (signed (f x y)) v)) (λ x y v fv. put-stands (signed (f x y)) v fv)

  divide-stands : (s x y : ℤ) → Keeps (divide s x y)
  divide-stands s x (pos zero) w fits = tt
  divide-stands s x (pos (suc n)) w fits = put_if-stands Overflow (scaled_quotient x (pos (suc n)) s) (fits_word (scaled_quotient x (pos (suc n)) s)) w fits
  divide-stands s x (negsuc n) w fits = put_if-stands Overflow (scaled_quotient x (negsuc n) s) (fits_word (scaled_quotient x (negsuc n) s)) w fits

  address-stands : (area : ℕ) (z : ℤ) → Keeps (address_of area z)
  address-stands area z = put_if-stands AddressRange z (is_below z area)

  read-stands : (input : List ℕ) (w : Words) → All P w.operands → All P (read_byte input w).operands
  read-stands [] w fits = put-stands (negsuc 0) w fits
  read-stands (b ∷ rest) w fits = put-stands (pos b) (record w { input = rest }) fits

  index-stands : (f : ℤ → ℤ) → Keeps (λ w. on_one (λ i v. put_index (f i) v) w.operands w)
  index-stands f = top-stands (λ i v. put_index (f i) v) (λ i. put_if-stands AddressRange (f i) (fits_word (f i)))

  form-stands : (area : ℕ) (f : Addressing) → Keeps (form_address area f)
  form-stands area (Known z) = address-stands area z
  form-stands area Taken = top-stands (address_of area) (λ z. address-stands area z)
  form-stands area (Indexed base lower) =
      top-stands (λ i v. fitting (fits_word (i -ℤ lower)) (address_of area (base +ℤ (i -ℤ lower)) v))
      (λ i. fitting-kept (AllOf P) (fits_word (i -ℤ lower)) (address_of area (base +ℤ (i -ℤ lower))) (address-stands area (base +ℤ (i -ℤ lower))))
  form-stands area (Indexed2 base l1 l2 width) =
      two-stands (row_address area base l1 l2 width) (of_row Keeps (fitting-kept (AllOf P)) area (address-stands area) base l1 l2 width)
  form-stands area (Scaled base width word) =
      top-stands (entry_address area base width word) (of_entry Keeps (fitting-kept (AllOf P)) area (address-stands area) base width word)

  base-stands : (area : ℕ) (f : ℤ → Addressing) → Keeps (from_base area f)
  base-stands area f = top-stands (λ base v. form_address (min area 32768) (f base) v) (λ base. form-stands (min area 32768) (f base))

  variable-stands : (area loop : ℕ) → Keeps (perform area (SetVariable loop))
  variable-stands area loop =
      top-stands (λ x v. at_address area (λ i t. Changed (with_memory t (set t.memory i x))) (word_at v.memory loop) v)
      (λ x v. through-kept (AllOf P) (is_below (word_at v.memory loop) area) (λ i t. Changed (with_memory t (set t.memory i x))) (λ i t ft. ft) (word_at v.memory loop) v)

  store_sum-stands : (b : Bool) (i : ℕ) (z : ℤ) → Keeps (store_sum b i z)
  store_sum-stands true i z w fits = fits
  store_sum-stands false i z w fits = tt

  step-added-stands : (area loop : ℕ) → Keeps (perform area (AddStep loop))
  step-added-stands area loop w =
      through-kept (AllOf P) (is_below (word_at w.memory loop) area)
      (λ i v. store_sum (fits_word (word_at v.memory i +ℤ word_at v.memory (loop + 1))) i (word_at v.memory i +ℤ word_at v.memory (loop + 1)) v)
      (λ i v. store_sum-stands (fits_word (word_at v.memory i +ℤ word_at v.memory (loop + 1))) i (word_at v.memory i +ℤ word_at v.memory (loop + 1)) v)
      (word_at w.memory loop)
      w

  variable-put-stands : (area loop : ℕ) (a : ℤ) → Keeps (λ w. at_address area (λ i t. Changed (put a (put (word_at t.memory i) t))) (word_at w.memory loop) w)
  variable-put-stands area loop a w =
      through-kept (AllOf P) (is_below (word_at w.memory loop) area) (λ i t. Changed (put a (put (word_at t.memory i) t)))
      (λ i t ft. put-stands a (put (word_at t.memory i) t) (put-stands (word_at t.memory i) t ft))
      (word_at w.memory loop)
      w

  abbrev Names : Option Control → Type 0
  Names None = Unit {0}
  Names (Some c) = P (Held c)

  held-stands : (c : Option Control) → Names c → Keeps (held c)
  held-stands None h w fits = tt
  held-stands (Some c) h w fits = All-cons P (Held c) w.operands h fits

  put_address-stands : (a : Option ℕ) → Keeps (put_address a)
  put_address-stands None w fits = tt
  put_address-stands (Some a) w fits = put-stands (signed a) w fits

  bind-stands : (area : ℕ) (x : Option Operand) (a : Option ℕ) → Keeps (bind area x a)
  bind-stands area None a w fits = tt
  bind-stands area (Some (Held c)) a w fits = tt
  bind-stands area (Some (Word z)) None w fits = tt
  bind-stands area (Some (Word z)) (Some a) w fits = through-kept (AllOf P) (is_below (pos a) area) (λ i v. Changed (with_memory v (set v.memory i z))) (λ i v fv. fv) (pos a) w fits

  -- ---- ways

  record Less (n : ℕ) (operands : List Operand) : Type 0 where
    stand : All P operands
    words : operand_words operands ≤ n

  abbrev WayStands : ℕ → Way → Type 0
  WayStands n (Onward w) = Less n w.operands
  WayStands n (ToMark m w) = Less n w.operands
  WayStands n (Barred kind) = Unit {0}
  WayStands n Nowhere = Unit {0}

  abbrev Leads : (Words → Way) → Type 0
  Leads f = (n : ℕ) (w : Words) → Less n w.operands → WayStands n (f w)

  way_of_one-stands : (f : ℤ → Words → Way) → ((x : ℤ) → Leads (f x)) → (operands : List Operand) (n : ℕ) (w : Words) → Less n operands → WayStands n (way_of_one f operands w)
  way_of_one-stands f h [] n w l = tt
  way_of_one-stands f h (Held c ∷ rest) n w l = tt
  way_of_one-stands f h (Word x ∷ rest) n w l =
      let words = l.words in
      h x n (with_operands w rest) (record { stand = All-tail P (Word x) rest l.stand; words = omega arith })

  way_of_two-stands : (f : ℤ → ℤ → Words → Way) → ((x y : ℤ) → Leads (f x y)) → Leads (way_of_two f)
  way_of_two-stands f h n w l =
      way_of_one-stands (λ y v. way_of_one (λ x t. f x y t) v.operands v) (λ y m v lv. way_of_one-stands (λ x t. f x y t) (λ x k t lt. h x y k t lt) v.operands m v lv) w.operands n w l

  to_mark_if-stands : (b : Bool) (m : ℕ) → Leads (to_mark_if b m)
  to_mark_if-stands true m n w l = l
  to_mark_if-stands false m n w l = l

  to_mark_in-stands : (m : Option ℕ) → Leads (to_mark_in m)
  to_mark_in-stands None n w l = l
  to_mark_in-stands (Some m) n w l = l

  to_mark_of_switch-stands : (m : Option ℕ) → Leads (to_mark_of_switch m)
  to_mark_of_switch-stands None n w l = tt
  to_mark_of_switch-stands (Some m) n w l = l

  way_past_limit-stands : (b : Bool) (m : ℕ) (x : ℤ) (a : ℕ) → Leads (way_past_limit b m x a)
  way_past_limit-stands true m x a n w l = to_mark_if-stands _ m n w l
  way_past_limit-stands false m x a n w l = tt

  -- the step leaves the operands as they are
  abbrev OutcomeLess : ℕ → Outcome → Type 0
  OutcomeLess n (Changed v) = Less n v.operands
  OutcomeLess n (Refused kind) = Unit {0}
  OutcomeLess n Impossible = Unit {0}

  stored-less : (b : Bool) (i : ℕ) (z : ℤ) (n : ℕ) (w : Words) → Less n w.operands → OutcomeLess n (store_sum b i z w)
  stored-less true i z n w l = l
  stored-less false i z n w l = tt

  added-less : (b : Bool) (loop n : ℕ) (w : Words) → Less n w.operands
      → OutcomeLess n (through b (λ i v. store_sum (fits_word (word_at v.memory i +ℤ word_at v.memory (loop + 1))) i (word_at v.memory i +ℤ word_at v.memory (loop + 1)) v) (word_at w.memory loop) w)
  added-less true loop n w l = stored-less _ _ _ n w l
  added-less false loop n w l = tt

  way_behind-stands : (o : Outcome) (f : Words → Way) (n : ℕ) → OutcomeLess n o → Leads f → WayStands n (way_behind o f)
  way_behind-stands (Changed v) f n h leads = leads n v h
  way_behind-stands (Refused kind) f n h leads = tt
  way_behind-stands Impossible f n h leads = tt

  turned-stands : (b : Bool) (m a : ℕ) → Leads (turn_if b m a)
  turned-stands true m a n w l = to_mark_if-stands _ m n w l
  turned-stands false m a n w l = tt

  stepped-stands : (b : Bool) (area m a : ℕ) → Leads (stepped_if b area m a)
  stepped-stands true area m a n w l =
      way_behind-stands (perform area (AddStep a) w) (turned area m a) n (added-less (is_below (word_at w.memory a) area) a n w l)
      (λ k v lv. turned-stands (is_below (word_at v.memory a) area) m a k v lv)
  stepped-stands false area m a n w l = l

  inside-stands : (b : Bool) (area m a : ℕ) → Leads (stepped_inside b area m a)
  inside-stands true area m a n w l = stepped-stands (nat_eq (number_of (word_at w.memory (a + 3))) 1) area m a n w l
  inside-stands false area m a n w l = tt

  next_step-stands : (area m : ℕ) (a : Option ℕ) → Leads (next_step area m a)
  next_step-stands area m None n w l = tt
  next_step-stands area m (Some a) n w l = inside-stands (nat_lt (a + 3) area) area m a n w l

  -- ---- actions

  abbrev ActionStands : (area : ℕ) → Action → Type 0
  ActionStands = ActionIs Keeps Leads

-- ---- control arguments

no_owner : (g : ℕ) (acts : List OrderActivation) → segment_below (length acts - length acts) g acts ≡ g
no_owner g acts = let e : length acts - length acts ≡ 0 = omega arith in ap (λ n. segment_below n g acts) e

all_there : (acts : List OrderActivation) → IsThere (length acts) acts
all_there acts = omega arith

module _ (p : OrderProgram) where
  -- an activation more
  owns_above : (g : ℕ) (a : OrderActivation) (acts : List OrderActivation) (owner to l : ℕ) → IsThere owner acts → OwnsLabel p owner a.segment acts to l → OwnsLabel p owner g (a ∷ acts) to l
  owns_above g a acts owner to l there h e is inside =
      let more : length (a ∷ acts) - owner ≡ suc (length acts - owner) = omega arith in
      ap (λ n. segment_below n g (a ∷ acts)) more ∙ h e is inside

  pub stands_above : (g : ℕ) (a : OrderActivation) (acts : List OrderActivation) (c : Control) → ControlStands p a.segment acts c → ControlStands p g (a ∷ acts) c
  stands_above g a acts (LabelControl to l owner) h = ((let le = h.0 in let x : owner ≤ suc (length acts) = omega arith in x), owns_above g a acts owner to l h.0 h.1)
  stands_above g a acts (SwitchControl to n owner) h = (
    (let le = h.0 in let x : owner ≤ suc (length acts) = omega arith in x),
    λ gs i x l is goal label. owns_above g a acts owner l.0 l.1 h.0 (h.1 gs i x l is goal label),
  )
  stands_above g a acts (ProcedureControl to q) h = tt

  parameter_stands : (g : ℕ) (a : OrderActivation) (acts : List OrderActivation) (k : ℕ) (xs : List Operand) → All (OperandStands p a.segment acts) xs → Names (OperandStands p g (a ∷ acts)) (λ z. tt) (control_in (argument_behind k xs))
  parameter_stands g a acts k [] h = tt
  parameter_stands g a acts zero (Word z ∷ xs) h = tt
  parameter_stands g a acts zero (Held c ∷ xs) h = stands_above g a acts c (All-head (OperandStands p a.segment acts) (Held c) xs h)
  parameter_stands g a acts (suc k) (Word z ∷ xs) h = parameter_stands g a acts k xs (All-tail (OperandStands p a.segment acts) (Word z) xs h)
  parameter_stands g a acts (suc zero) (Held c ∷ xs) h = tt
  parameter_stands g a acts (suc (suc k)) (Held c ∷ xs) h = parameter_stands g a acts k xs (All-tail (OperandStands p a.segment acts) (Held c) xs h)

  control_at_stands : (g : ℕ) (acts : List OrderActivation) (k : ℕ) → ActivationsStand p g acts → Names (OperandStands p g acts) (λ z. tt) (control_at acts k)
  control_at_stands g [] k h = tt
  control_at_stands g (a ∷ acts) k h = parameter_stands g a acts k a.arguments h.3

  module _ (callable : Callable p) where
    label_of_body : (g d : ℕ) (x : Option (ℕ × Def)) (l : ℕ × ℕ) → defined_at p g d ≡ x → label_of_def x ≡ Some l → (e : LabelEntry) → label_at p l.0 l.1 ≡ Some e → e.in_procedure ≡ false
    label_of_body g d (Some (to, def.Label k)) l is label e at_label =
        let same : (to, k) ≡ l = cc in
        callable.labels g d to k e is (ap (λ x. label_at p x.0 x.1) same ∙ at_label)
    label_of_body g d _ l is label e at_label = absurd (cc)

    labels_stand : (g d : ℕ) (acts : List OrderActivation) (x : Option (ℕ × Def)) → defined_at p g d ≡ x → Names (OperandStands p g acts) (λ z. tt) (with_label_owner (length acts) (label_of_def x))
    labels_stand g d acts (Some (to, def.Label l)) is = (all_there acts, λ e at_label inside. absurd (true≢false (sym inside ∙ callable.labels g d to l e is at_label)))
    labels_stand g d acts _ is = tt

    pub switches_stand : (g d : ℕ) (acts : List OrderActivation) (x : Option (ℕ × Def)) → defined_at p g d ≡ x → Names (OperandStands p g acts) (λ z. tt) (with_switch_owner (length acts) (switch_of_def x))
    switches_stand g d acts (Some (to, def.Switch n)) is = (all_there acts, λ gs i x l at_switch goal label e at_label inside. absurd (true≢false (sym inside ∙ callable.switches g d to n gs i x l e is at_switch goal label at_label)))
    switches_stand g d acts _ is = tt

    procedures_stand : (g : ℕ) (acts : List OrderActivation) (x : Option (ℕ × Def)) → Names (OperandStands p g acts) (λ z. tt) (as_procedure (procedure_of_def x))
    procedures_stand g acts (Some (to, def.Proc q)) = tt
    procedures_stand g acts _ = tt

    own_goal : (g : ℕ) (acts : List OrderActivation) (x : Goal) (l : ℕ × ℕ) → label_of p g x ≡ Some l → OwnsLabel p (length acts) g acts l.0 l.1
    own_goal g acts (goal.Own k) l label e at_label inside =
        let same : (g, k) ≡ l = cc in
        no_owner g acts ∙ ap (λ x. x.0) same
    own_goal g acts (goal.Common d) l label e at_label inside = absurd (true≢false (sym inside ∙ label_of_body g d (defined_at p g d) l refl label e at_label))

    pub switch_stands : (g n : ℕ) (acts : List OrderActivation) → ControlStands p g acts (SwitchControl g n (length acts))
    switch_stands g n acts = (all_there acts, λ gs i x l at_switch goal label. own_goal g acts x l label)

    label_stands : (g l : ℕ) (acts : List OrderActivation) → ControlStands p g acts (LabelControl g l (length acts))
    label_stands g l acts = (all_there acts, λ e at_label inside. no_owner g acts)

    -- ---- orders

    module _ (g : ℕ) (acts : List OrderActivation) (working : ActivationsStand p g acts) where
      abbrev P : Operand → Type 0
      P = OperandStands p g acts

      abbrev plain : (z : ℤ) → P (Word z)
      plain z = tt

      action-stands : (o : Order) → ActionStands P plain p.limits.area (action_of p g acts o)
      action-stands (order.Const n) = λ w h. put-stands P plain (signed n) w h
      action-stands (order.Home family offset) = λ w h. put-stands P plain (signed (home_word p.addresses g family offset)) w h
      action-stands (order.FrameHome n) = put_address-stands P plain (frame_word p.limits.area acts n)
      action-stands order.Load = fetch-stands P plain p.limits.area None
      action-stands order.Store = store-stands P plain p.limits.area (λ x z. z)
      action-stands (order.LoadPart t b s) = fetch-stands P plain p.limits.area (Some (record { t = t; b = b; unsigned = not s }))
      action-stands (order.StorePart t b) = store-stands P plain p.limits.area (with_bits t b)
      action-stands (order.Rescale from to line) = value-stands P plain (λ x. rescaled x from to)
      action-stands (order.Add line) = values-stand P plain (λ x y. x +ℤ y)
      action-stands (order.Sub line) = values-stand P plain (λ x y. x -ℤ y)
      action-stands (order.Neg line) = value-stands P plain (λ x. neg_ℤ x)
      action-stands (order.Mul s line) = values-stand P plain (λ x y. scaled_product x y s)
      action-stands (order.Div s line) = two-stands P plain (divide s) (λ x y. divide-stands P plain s x y)
      action-stands order.And = bits-stand P plain _
      action-stands order.Or = bits-stand P plain _
      action-stands order.Xor = bits-stand P plain _
      action-stands (order.Take t b) =
          top-stands P plain (λ x v. Changed (put (signed (unsigned_field (unsigned x) t b)) v)) (λ x v fv. put-stands P plain (signed (unsigned_field (unsigned x) t b)) v fv)
      action-stands order.Less = bits-stand P plain (λ x y. word_difference (unsigned x) (unsigned y))
      action-stands order.Drop = top-stands P plain (λ x v. Changed v) (λ x v fv. fv)
      action-stands order.ReadByte = λ w fits. read-stands P plain w.input w fits
      action-stands order.WriteByte =
          top-stands P plain (λ x v. Changed (record v { output = v.output ++ byte_of x ∷ [] })) (λ x v fv. fv)
      action-stands (order.IndexLess lower line) = index-stands P plain (λ i. i -ℤ lower)
      action-stands (order.Element lower span line) = base-stands P plain p.limits.area (λ base. Indexed base lower)
      action-stands (order.ElementOfTwo lower second width line) = base-stands P plain p.limits.area (λ base. Indexed2 base lower second width)
      action-stands (order.ElementInside lower second width span) = base-stands P plain p.limits.area (λ base. Indexed2 base lower second width)
      action-stands (order.Entry width word span line) = base-stands P plain p.limits.area (λ base. Scaled base width word)
      action-stands (order.InArea line) = top-stands P plain (address_of p.limits.area) (λ z. address-stands P plain p.limits.area z)
      action-stands (order.InBounds lower upper line) =
          top-stands P plain (λ x v. put_if (int_le lower x && int_le x upper) IndexRange x v) (λ x. put_if-stands P plain IndexRange x (int_le lower x && int_le x upper))
      action-stands (order.Jump m) = λ n w l. l
      action-stands (order.JumpIf c m) = way_of_two-stands P plain (λ x y v. to_mark_if (holds (comparison c) x y) m v) (λ x y. to_mark_if-stands P plain (holds (comparison c) x y) m)
      action-stands (order.Exhausted m) = way_of_two-stands P plain (λ x a v. way_past_limit (is_below a (p.limits.area - 2)) m x (number_of a) v) (λ x a. way_past_limit-stands P plain (is_below a (p.limits.area - 2)) m x (number_of a))
      action-stands (order.NextStep x line m) = next_step-stands P plain p.limits.area m (place_address p g acts x)
      action-stands (order.SetVariable line) =
          top-stands P plain (λ a v. if_inside (is_below a p.limits.area) (perform p.limits.area (SetVariable (number_of a)) v))
          (λ a. if_inside-kept (AllOf P) (is_below a p.limits.area) (perform p.limits.area (SetVariable (number_of a))) (variable-stands P plain p.limits.area (number_of a)))
      action-stands (order.AddStep line) =
          top-stands P plain (λ a v. if_inside (is_below a (p.limits.area - 1)) (perform p.limits.area (AddStep (number_of a)) v))
          (λ a. if_inside-kept (AllOf P) (is_below a (p.limits.area - 1)) (perform p.limits.area (AddStep (number_of a))) (step-added-stands P plain p.limits.area (number_of a)))
      action-stands (order.PutVariable line) =
          top-stands P plain
          (λ a v.
          if_inside (is_below a p.limits.area)
          (at_address p.limits.area (λ i t. Changed (put a (put (word_at t.memory i) t))) (word_at v.memory (number_of a)) v))
          (λ a.
          if_inside-kept (AllOf P) (is_below a p.limits.area)
          (λ v. at_address p.limits.area (λ i t. Changed (put a (put (word_at t.memory i) t))) (word_at v.memory (number_of a)) v)
          (variable-put-stands P plain p.limits.area (number_of a) a))
      action-stands (order.LoopWay marks) = λ n w l.
          way_of_one-stands P plain (λ i v. to_mark_in (mark_of_number marks i) v) (λ i. to_mark_in-stands P plain (mark_of_number marks i)) w.operands n w l
      action-stands (order.SwitchWay marks line) = λ n w l.
          way_of_one-stands P plain (λ i v. to_mark_of_switch (mark_of_number marks i) v) (λ i. to_mark_of_switch-stands P plain (mark_of_number marks i)) w.operands n w l
      action-stands (order.LabelOut l) = held-stands P plain (Some (LabelControl g l (length acts))) (label_stands g l acts)
      action-stands (order.LabelCommon d) = held-stands P plain (common_label p g (length acts) d) (labels_stand g d acts (defined_at p g d) refl)
      action-stands (order.SwitchOut n) = held-stands P plain (Some (SwitchControl g n (length acts))) (switch_stands g n acts)
      action-stands (order.SwitchCommon d) = held-stands P plain (common_switch p g (length acts) d) (switches_stand g d acts (defined_at p g d) refl)
      action-stands (order.ProcOut q) = held-stands P plain (Some (ProcedureControl g q)) tt
      action-stands (order.ProcCommon d) = held-stands P plain (common_procedure p g d) (procedures_stand g acts (defined_at p g d))
      action-stands (order.SpecialOut k) = held-stands P plain (control_at acts k) (control_at_stands g acts k working)
      action-stands (order.Bind k family offset) =
          bind-stands P plain p.limits.area (argument_at acts k) (Some (home_word p.addresses g family offset))
      action-stands (order.BindFrame k offset) = bind-stands P plain p.limits.area (argument_at acts k) (frame_word p.limits.area acts offset)
      action-stands _ = tt

    -- ---- steps

    -- the activations without the last ones stand
    stand_below : (n g g' : ℕ) (acts : List OrderActivation) → ActivationsStand p g acts → ActivationsStand p g' (drop n acts)
    stand_below zero g g' [] h = tt
    stand_below zero g g' (a ∷ acts) h = (h.0, h.1, h.2, h.3, h.4, h.5)
    stand_below (suc n) g g' [] h = tt
    stand_below (suc n) g g' (a ∷ acts) h = stand_below n a.segment g' acts h.5

    last_of : (g place : ℕ) (acts : List OrderActivation) (operands : List Operand) → ActivationsStand p g acts → LastStands p g place acts operands
    last_of g place [] operands h = tt
    last_of g place (a ∷ acts) operands h = inl h

    module _ (g place : ℕ) (loaded : Bool) (acts : List OrderActivation) (w : Words) (room : stack_words w.operands acts ≤ p.room) (working : ActivationsStand p g acts) (operands : All (OperandStands p g acts) w.operands) where
      go_on-stands : (b : Bool) (v : Words) → nat_le (stack_words v.operands acts) p.room ≡ b → All (OperandStands p g acts) v.operands → StateStands p (go_on b g place loaded acts w v)
      go_on-stands true v e h = record { room = leb-true (stack_words v.operands acts) p.room e; last = last_of g (place + 1) acts v.operands working; operands = h }
      go_on-stands false v e h = tt

      after-stands : (line : ℕ) (o : Outcome) → OutcomeStands (OperandStands p g acts) (λ z. tt) o → StateStands p (after p.room line o g place loaded acts w)
      after-stands line (Changed v) h = go_on-stands (nat_le (stack_words v.operands acts) p.room) v refl h
      after-stands line (Refused kind) h = tt
      after-stands line Impossible h = tt

      on_at : (to : ℕ) (v : Words) → Less (OperandStands p g acts) (λ z. tt) (operand_words w.operands) v.operands → StateStands p (at g to loaded acts v Running)
      on_at to v l =
          let fewer = l.words in
          let a = words_split w.operands acts in
          let b = words_split v.operands acts in
          record { room = omega arith; last = last_of g to acts v.operands working; operands = l.stand }

      go_at-stands : (q : Option ℕ) (v : Words) → Less (OperandStands p g acts) (λ z. tt) (operand_words w.operands) v.operands → StateStands p (go_at q g place loaded acts w v)
      go_at-stands None v l = tt
      go_at-stands (Some q) v l = on_at q v l

      branch-stands : (line : ℕ) (x : Way) → WayStands (OperandStands p g acts) (λ z. tt) (operand_words w.operands) x → StateStands p (branch p line x g place loaded acts w)
      branch-stands line (Onward v) l = on_at (place + 1) v l
      branch-stands line (ToMark m v) l = go_at-stands (place_of p g m) v l
      branch-stands line (Barred kind) l = tt
      branch-stands line Nowhere l = tt

      leave_for-stands : (q : Option ℕ) (to n : ℕ) → StateStands p (leave_for q to n g place loaded acts w)
      leave_for-stands None to n = tt
      leave_for-stands (Some q) to n =
          let a = words_split w.operands acts in
          let b = words_below n acts in
          record { room = omega arith; last = last_of to q (drop n acts) [] (stand_below n g to acts working); operands = All-nil (OperandStands p to (drop n acts)) }

      go_to_entry-stands : (l : Option LabelEntry) (to owner : ℕ) → StateStands p (go_to_entry p l to owner g place loaded acts w)
      go_to_entry-stands None to owner = tt
      go_to_entry-stands (Some l) to owner = leave_for-stands (place_of p to l.mark) to (dropped_by l.in_procedure owner acts)

      go_to-stands : (c : Option Control) → StateStands p (go_to p c g place loaded acts w)
      go_to-stands (Some (LabelControl to l owner)) = go_to_entry-stands (label_at p to l) to owner
      go_to-stands _ = tt

      go_to_goal-stands : (line : ℕ) (x : Option Goal) (to owner : ℕ) → StateStands p (go_to_goal p line x to owner g place loaded acts w)
      go_to_goal-stands line None to owner = tt
      go_to_goal-stands line (Some x) to owner = go_to-stands (with_label_owner owner (label_of p to x))

      go_by_list-stands : (line : ℕ) (gs : Option (List Goal)) (xs : List Operand) (to owner : ℕ) → StateStands p (go_by_list p line gs xs to owner g place loaded acts w)
      go_by_list-stands line (Some gs) (Word z ∷ rest) to owner = go_to_goal-stands line (goal_at gs z) to owner
      go_by_list-stands line (Some gs) (Held c ∷ rest) to owner = tt
      go_by_list-stands line (Some gs) [] to owner = tt
      go_by_list-stands line None xs to owner = tt

      go_through-stands : (line : ℕ) (c : Option Control) → StateStands p (go_through p line c g place loaded acts w)
      go_through-stands line (Some (SwitchControl to n owner)) = go_by_list-stands line (switch_at p to n) w.operands to owner
      go_through-stands line _ = tt

      abbrev CalledFits : (line : ℕ) → ProcedureEntry → Bool
      CalledFits line e = nat_le e.arguments (length w.operands) && nat_le (stack_words [] (called e.arguments (frame_end p acts) g place line w.operands ∷ acts)) p.room

      call_at-stands : (line : ℕ) (b : Bool) (k : Option ℕ) (to n : ℕ) (e : ProcedureEntry) → procedure_at p to n ≡ Some e → CalledFits line e ≡ b → place_of p to e.mark ≡ k → StateStands p (call_at b k to (called e.arguments (frame_end p acts) g place line w.operands) g place loaded acts w)
      call_at-stands line true None to n e is eb ek = tt
      call_at-stands line false k to n e is eb ek = tt
      call_at-stands line true (Some k) to n e is eb ek =
          let a = called e.arguments (frame_end p acts) g place line w.operands in
          let fits = both_true (nat_le e.arguments (length w.operands)) (nat_le (stack_words [] (a ∷ acts)) p.room) eb in
          let enter = callable.enters to n e k is ek in
          record {
            room = leb-true (stack_words [] (a ∷ acts)) p.room fits.1;
            last = inr (record {
              begun = refl;
              size = enter.0;
              order = enter.1;
              none = refl;
              base = refl;
              top = refl;
              arguments = All-take (OperandStands p g acts) e.arguments w.operands operands;
              operands_stand = All-drop (OperandStands p g acts) e.arguments w.operands operands;
              callers = working;
            });
            operands = All-nil (OperandStands p to (a ∷ acts));
          }

      call_entry-stands : (line : ℕ) (x : Option ProcedureEntry) (to n : ℕ) → procedure_at p to n ≡ x → StateStands p (call_entry p line x to g place loaded acts w)
      call_entry-stands line None to n is = tt
      call_entry-stands line (Some e) to n is = call_at-stands line (CalledFits line e) (place_of p to e.mark) to n e is refl refl

      call-stands : (line : ℕ) (c : Option Control) → StateStands p (call p line c g place loaded acts w)
      call-stands line (Some (ProcedureControl to q)) = call_entry-stands line (procedure_at p to q) to q refl
      call-stands line _ = tt

    enter-stands : (size g place : ℕ) (loaded : Bool) (acts : List OrderActivation) (w : Words) → ActivationsStand p g acts → StateStands p (enter p size g place loaded acts w)
    enter-stands size g place loaded [] w working = tt
    enter-stands size g place loaded (a ∷ acts) w working =
        subst (λ b. StateStands p (enter_with b (nat_lt (length acts) p.limits.depth) (nat_le (a.frame_base + size) p.limits.area) size a g place loaded acts w)) (sym working.0) tt

    return-stands : (b answers : Bool) (xs : List Operand) (a : OrderActivation) (g place : ℕ) (loaded : Bool) (acts : List OrderActivation) (w : Words) → stack_words w.operands (a ∷ acts) ≤ p.room → ActivationsStand p g (a ∷ acts) → StateStands p (return_with b answers xs a g place loaded acts w)
    return-stands true false xs a g place loaded acts w room working =
        record { room = omega arith; last = last_of a.segment a.place acts a.operands working.5; operands = working.4 }
    return-stands true true (Word z ∷ rest) a g place loaded acts w room working =
        let s = words_split a.operands acts in
        let t = words_split (Word z ∷ a.operands) acts in
        record { room = omega arith; last = last_of a.segment a.place acts (Word z ∷ a.operands) working.5; operands = All-cons (OperandStands p a.segment acts) (Word z) a.operands tt working.4 }
    return-stands true true [] a g place loaded acts w room working = tt
    return-stands true true (Held c ∷ rest) a g place loaded acts w room working = tt
    return-stands false answers xs a g place loaded acts w room working = tt

    come_back-stands : (n : ℕ) (answers : Bool) (g place : ℕ) (loaded : Bool) (acts : List OrderActivation) (w : Words) → stack_words w.operands acts ≤ p.room → ActivationsStand p g acts → StateStands p (come_back p n answers g place loaded acts w)
    come_back-stands n answers g place loaded [] w room working = tt
    come_back-stands n answers g place loaded (a ∷ acts) w room working = return-stands (nat_eq (operand_words a.arguments) n) answers w.operands a g place loaded acts w room working

    next_body-stands : (u : Option Orders) (g place : ℕ) (loaded : Bool) (w : Words) → StateStands p (next_body u g place loaded w)
    next_body-stands None g place loaded w = tt
    next_body-stands (Some u) g place loaded w = record { room = omega arith; last = tt; operands = All-nil (OperandStands p (g + 1) []) }

    end_body-stands : (g place : ℕ) (loaded : Bool) (acts : List OrderActivation) (w : Words) → StateStands p (end_body p g place loaded acts w)
    end_body-stands g place loaded [] w = next_body-stands (slice_get p.units (g + 1)) g place loaded w
    end_body-stands g place loaded (a ∷ acts) w = tt

    module _ (g place : ℕ) (loaded : Bool) (acts : List OrderActivation) (w : Words) (room : stack_words w.operands acts ≤ p.room) (working : ActivationsStand p g acts) (operands : All (OperandStands p g acts) w.operands) where
      act-stands : (x : Action) → ActionStands (OperandStands p g acts) (λ z. tt) p.limits.area x → StateStands p (act p x g place loaded acts w)
      act-stands (Perform line op) h = after-stands g place loaded acts w room working operands line (perform p.limits.area op w) (h w operands)
      act-stands (Access op) h = after-stands g place loaded acts w room working operands 0 (unrefused (perform p.limits.area op w)) (unrefused-kept (AllOf (OperandStands p g acts)) (perform p.limits.area op w) (h w operands))
      act-stands (Alter line f) h = after-stands g place loaded acts w room working operands line (f w) (h w operands)
      act-stands (AlterWithin f) h = after-stands g place loaded acts w room working operands 0 (unrefused (f w)) (unrefused-kept (AllOf (OperandStands p g acts)) (f w) (h w operands))
      act-stands Pass h = record { room = room; last = last_of g (place + 1) acts w.operands working; operands = operands }
      act-stands (Branch line f) h = branch-stands g place loaded acts w room working operands line (f w) (h (operand_words w.operands) w (record { stand = operands; words = omega arith }))
      act-stands (GoMain m) h = leave_for-stands g place loaded acts w room working operands (place_of p g m) g (length acts)
      act-stands (GoLabel c) h = go_to-stands g place loaded acts w room working operands c
      act-stands (GoSwitch line c) h = go_through-stands g place loaded acts w room working operands line c
      act-stands (Call line c) h = call-stands g place loaded acts w room working operands line c
      act-stands (Enter size) h = enter-stands size g place loaded acts w working
      act-stands (Return n answers) h = come_back-stands n answers g place loaded acts w room working
      act-stands EndBody h = end_body-stands g place loaded acts w

    module _ (g place : ℕ) (loaded : Bool) (acts : List OrderActivation) (w : Words) (room : stack_words w.operands acts ≤ p.room) (working : ActivationsStand p g acts) (operands : All (OperandStands p g acts) w.operands) where
      carry_with-stands : (after : Option Bool) (o : Order) → StateStands p (carry_with p after o g place loaded acts w)
      carry_with-stands None o = tt
      carry_with-stands (Some after) o = act-stands g place after acts w room working operands (action_of p g acts o) (action-stands g acts working o)

      carry_out-stands : (o : Option Order) → StateStands p (carry_out p o g place loaded acts w)
      carry_out-stands None = tt
      carry_out-stands (Some o) = carry_with-stands (loaded_after o loaded) o

    begin_with-stands : (shallow fits : Bool) (size : ℕ) (a : OrderActivation) (g place : ℕ) (loaded : Bool) (acts : List OrderActivation) (w : Words) → nat_le (a.frame_base + size) p.limits.area ≡ fits → stack_words w.operands (a ∷ acts) ≤ p.room → Beginning p g place a acts w.operands
        → StateStands p (enter_with false shallow fits size a g place loaded acts w)
    begin_with-stands false fits size a g place loaded acts w e room b = tt
    begin_with-stands true false size a g place loaded acts w e room b = tt
    begin_with-stands true true size a g place loaded acts w e room b =
        let a' : OrderActivation = record a { entered = true; frame_top = a.frame_base + size } in
        let top : a.frame_base + size ≤ p.limits.area = leb-true (a.frame_base + size) p.limits.area e in
        let base : a.frame_base ≤ p.limits.area = omega arith in
        record {
          room = room;
          last = inl (refl, base, top, b.arguments, b.operands_stand, b.callers);
          operands = subst (All (OperandStands p g (a' ∷ acts))) (sym b.none) (All-nil (OperandStands p g (a' ∷ acts)));
        }

    -- an Enter wants the accumulator free
    begins-stands : (g place : ℕ) (loaded : Bool) (a : OrderActivation) (acts : List OrderActivation) (w : Words) → stack_words w.operands (a ∷ acts) ≤ p.room → Beginning p g place a acts w.operands → StateStands p (step p (at g place loaded (a ∷ acts) w Running))
    begins-stands g place true a acts w room b = subst (StateStands p) (sym (ap (λ x. carry_out p x g place true (a ∷ acts) w) b.order)) tt
    begins-stands g place false a acts w room b =
        let goes : step p (at g place false (a ∷ acts) w Running) ≡ enter_with false (nat_lt (length acts) p.limits.depth) (nat_le (a.frame_base + b.size) p.limits.area) b.size a g place false acts w =
        ap (λ x. carry_out p x g place false (a ∷ acts) w) b.order
        ∙ ap (λ x. enter_with x (nat_lt (length acts) p.limits.depth) (nat_le (a.frame_base + b.size) p.limits.area) b.size a g place false acts w) b.begun in
        subst (StateStands p) (sym goes) (begin_with-stands (nat_lt (length acts) p.limits.depth) (nat_le (a.frame_base + b.size) p.limits.area) b.size a g place false acts w refl room b)

    pub step-stands : (s : OrderState) → StateStands p s → StateStands p (step p s)
    step-stands (at g place loaded [] w Running) h = carry_out-stands g place loaded [] w h.room tt h.operands (order_at p g place)
    step-stands (at g place loaded (a ∷ acts) w Running) h =
        ⊎_elim
        (λ (working : ActivationsStand p g (a ∷ acts)). carry_out-stands g place loaded (a ∷ acts) w h.room working h.operands (order_at p g place))
        (λ (b : Beginning p g place a acts w.operands). begins-stands g place loaded a acts w h.room b)
        h.last
    step-stands _ h = tt
