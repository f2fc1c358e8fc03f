-- What the orders of an operation, and those of an address, do to words is what the source does.
use Rattle.std.proofs.Common.{◌≡◌, ℕ, suc, ◌+◌, ◌-◌, ◌<◌, ◌≤◌, ℤ, pos, negsuc, ◌+ℤ◌, ◌-ℤ◌, ◌*ℤ◌, List, [], ◌∷◌, ◌++◌, Bool, true, false, Option, Some, None, refl, sym, ap, ap₂, ◌∙◌, subst, arith}
use Rattle.std.specs.Prelude.{◌*◌, not, ◌==◌, int_le, is_some, IsTrue, ◌&&◌, if◌then◌else◌, set}
use Rattle.std.proofs.Math.Nat.{mul-le-mul_right}
use Rattle.std.proofs.lemmas.Option.{same_Some}
use Rattle.std.proofs.lemmas.Bool.{false≢true, lt-ltb}
use Rattle.std.proofs.lemmas.Bool.Decides.{nat_tests}
use Rattle.std.proofs.lemmas.List.Elements.{All-head}
use Rattle.std.proofs.lemmas.Int.{ints}
use Rattle.std.proofs.Math.Nat.{min-eq_left}
use Rattle.cw_word.specs.FixedPoint.{FitsWord, fits_word, floor_div, floor_scaled, rescaled}
use Rattle.cw_word.specs.BitField.{unsigned_field}
use Rattle.cw_word.specs.Word.{signed, unsigned}
use Rattle.cw_unit.specs.declared.layout.Layout.{Layout}
use Rattle.cw_unit.specs.declared.unit.Unit.{Unit as SourceUnit}
use Rattle.cw_unit.specs.declared.unit.Field.{Field}
use Rattle.cw_unit.specs.declared.unit.LogicOp.{LogicOp}
use Rattle.cw_unit.specs.declared.unit.LogicOp.TheVariants as logic
use Rattle.cw_unit.specs.declared.unit.Arg.{Arg}
use Rattle.cw_unit.specs.declared.unit.Cond.{Cond}
use Rattle.cw_unit.specs.declared.unit.Expr.{Expr}
use Rattle.cw_unit.specs.declared.unit.Spot.{Spot}
use Rattle.cw_unit.specs.declared.unit.Ref.{Ref}
use Rattle.cw_unit.specs.declared.unit.Arg.TheOpen as layer
use Rattle.cw_unit.specs.declared.unit.Arg.TheOpen.{Spot-F}
use Rattle.cw_unit.specs.Program.{Program}
use Rattle.cw_unit.specs.Stop.{Overflow, AddressRange}
use Rattle.cw_unit.specs.Words.{Control, Operand, Word, Held, Words, Outcome, Changed, on_one, on_two, logic_word, with_memory, is_below, put, put_if, put_value, word_at, through, field_value, stored_value}
use Rattle.cw_unit.specs.Operation.{Operation, Rescale, Fetch, Store, StoreBits, Add, Subtract, Negate, Multiply, Divide, Combine, Extract, InBounds, Addressing, Taken, Indexed, Indexed2, Scaled, Keep, SetVariable, AddStep, form_address, perform}
use Rattle.cw_unit.specs.Configuration.{Activation, address_at}
use Rattle.cw_unit.specs.Step.{held, table_base, addressing_of}
use Rattle.cw_order.specs.declared.order.Order.{Order}
use Rattle.cw_order.specs.declared.order.Order.TheVariants as order
use Rattle.cw_order.specs.OrderProgram.{OrderProgram}
use Rattle.cw_order.specs.OrderState.{OrderActivation}
use Rattle.cw_order.specs.OrderChanges.{from_base, if_inside}
use Rattle.cw_order.specs.OrderMachine.{unrefused}
use Rattle.cw_order.specs.FittingWords.{OperandFits, WordsFit}
use Rattle.cw_gen_expr.specs.ReferenceExpressions.{item_order, item_span, table_orders, table_span, row_order, form_orders, narrow}
use Rattle.cw_gen_expr.specs.KnownValues.{of_index, word_inside, from_lower, element_of_two_word, all_inside}
use Rattle.cw_safety.specs.Coherent.{LieBetween}
use Rattle.cw_safety.proofs.Truth.{both}
use Rattle.cw_gen_expr.specs.BuiltExpressions.{whole, built_value}
use Rattle.cw_gen_expr.proofs.Layers.{built_spot_layer}
use Rattle.cw_gen_unit.specs.SimpleLoops.{are_apart}
use Rattle.cw_carry.proofs.Expressions.Effects.{then_do, IsPossible, effect, run_orders}
use Rattle.cw_carry.proofs.Expressions.Results.{Above, from_above, of_count, inside_is, element_of_two_found}
use Rattle.cw_carry.proofs.Expressions.Carried.{Ready, OperationFits, operation_orders, keep_orders, set_orders, bump_orders}

-- ---- numbers

pub tested : (z : ℤ) → FitsWord z → fits_word z ≡ true
tested (pos n) h = grind (arith, ints, nat_tests)
tested (negsuc n) h = grind (arith, ints, nat_tests)

times_one : (x : ℤ) → x *ℤ pos 1 ≡ x
times_one (pos a) = omega (arith, ints)
times_one (negsuc a) = omega (arith, ints)

over_one : (x : ℤ) → floor_div x 1 ≡ x
over_one (pos a) = omega (arith, ints)
over_one (negsuc a) = omega (arith, ints)

-- a word at the same scale
pub rescaled-same : (x : ℤ) (f : ℕ) → rescaled x f f ≡ x
rescaled-same x f =
    let none : pos f -ℤ pos f ≡ pos 0 = omega (arith, ints) in
    ap (floor_scaled x) none ∙ over_one (x *ℤ pos 1) ∙ times_one x

-- ---- outcomes

pub then_changed : (o : Outcome) → then_do o (λ v. Changed v) ≡ o
then_changed (Changed v) = refl
then_changed _ = refl

-- where an address of two indexes is formed without a test, they lie between their bounds
abbrev pub FormsOf : (compared : Bool) → Spot-F Arg Cond Expr Spot Ref → List Operand → Type 0
FormsOf true (layer.Two i l1 u1 l2 u2 n e g) hand = LieBetween l1 u1 l2 u2 hand
FormsOf _ _ hand = Unit {0}

-- numbers that are in order are so far apart
apart_by : (a b : ℤ) → IsTrue (int_le a b) → (n : ℕ) × (b -ℤ a ≡ pos n)
apart_by (pos m) (pos n) h = (n - m, grind (arith, ints, nat_tests))
apart_by (pos m) (negsuc n) h = absurd (false≢true h)
apart_by (negsuc m) (pos n) h = (n + suc m, omega (arith, ints))
apart_by (negsuc m) (negsuc n) h = (m - n, grind (arith, ints, nat_tests))

-- an index between bounds is above the lower one by no more than the upper one
index_within : (lower upper z : ℤ) (last : ℕ) {i : ℕ} → Above true lower upper (Some upper) i → i ≡ last → IsTrue (int_le lower z && int_le z upper) → (n : ℕ) × (z -ℤ lower ≡ pos n) × (n ≤ last)
index_within lower upper z last a same between =
    let parts = both (int_le lower z) (int_le z upper) between in
    let below = apart_by lower z parts.0 in
    let above = apart_by z upper parts.1 in
    let at : a.index ≡ upper = sym (same_Some upper a.index a.is) in
    let end : upper -ℤ lower ≡ pos last = ap (λ x. x -ℤ lower) (sym at) ∙ a.above ∙ ap pos same in
    let sum : pos (below.0 + above.0) ≡ pos last = (let whole : (z -ℤ lower) +ℤ (upper -ℤ z) ≡ upper -ℤ lower = omega (arith, ints) in ap₂ (λ x y. x +ℤ y) (sym below.1) (sym above.1) ∙ whole ∙ end) in
    let total : below.0 + above.0 ≡ last = cc in
    (below.0, below.1, omega (arith, total))

-- what there is
a_word : (x : Option ℕ) → IsTrue (is_some x) → (n : ℕ) × (x ≡ Some n)
a_word None h = absurd (false≢true h)
a_word (Some n) h = (n, refl)

-- what never stops
pub plain_one : (f : ℤ → Words → Words) (hand : List Operand) (w : Words) → unrefused (on_one (λ x v. Changed (f x v)) hand w) ≡ on_one (λ x v. Changed (f x v)) hand w
plain_one f (Word x ∷ rest) w = refl
plain_one f _ w = refl

pub plain_two : (f : ℤ → ℤ → Words → Words) (hand : List Operand) (w : Words) → unrefused (on_two (λ x y v. Changed (f x y v)) hand w) ≡ on_two (λ x y v. Changed (f x y v)) hand w
plain_two f (Word y ∷ Word x ∷ rest) w = refl
plain_two f _ w = refl

pub plain_held : (x : Option Control) (w : Words) → unrefused (held x w) ≡ held x w
plain_held None w = refl
plain_held (Some c) w = refl

abbrev pub words : List Operand → List ℤ → List ℕ → List ℕ → Words
words hand memory input output = record { operands = hand; memory = memory; input = input; output = output }

module _ (p : OrderProgram) (g : ℕ) (bs : List OrderActivation) where
  abbrev area : ℕ
  area = p.limits.area

  abbrev run : List Order → Words → Outcome
  run = run_orders p g bs

  -- ---- operations

  one : (o : Order) (w : Words) → run (o ∷ []) w ≡ effect p g bs o w
  one o w = then_changed (effect p g bs o w)

  rescales : (line : ℕ) (b : Bool) (from to : ℕ) (hand : List Operand) (memory : List ℤ) (input output : List ℕ) → (b ≡ true → from ≡ to) → WordsFit (words hand memory input output) → IsPossible (perform area (Rescale from to) (words hand memory input output)) → run (if b then [] else (order.Rescale from to line ∷ [])) (words hand memory input output) ≡ perform area (Rescale from to) (words hand memory input output)
  rescales line false from to hand memory input output same fits ok = one (order.Rescale from to line) (words hand memory input output)
  rescales line true from to [] memory input output same fits ok = absurd ok
  rescales line true from to (Held c ∷ rest) memory input output same fits ok = absurd ok
  rescales line true from to (Word x ∷ rest) memory input output same fits ok =
      let v = words rest memory input output in
      sym (ap (λ t. put_value (rescaled x from t) v) (sym (same refl)) ∙ ap (λ z. put_value z v) (rescaled-same x from) ∙ ap (λ t. put_if t Overflow x v) (tested x (All-head OperandFits (Word x) rest fits.operands)))

  twice_not : (b : Bool) → not (not b) ≡ b
  twice_not true = refl
  twice_not false = refl

  fetches : (s : Option Field) (n : ℕ) (rest : List Operand) (memory : List ℤ) (input output : List ℕ) → n < area → perform area (Fetch s) (words (Word (pos n) ∷ rest) memory input output) ≡ Changed (put (field_value s (word_at memory n)) (words rest memory input output))
  fetches s n rest memory input output lt =
      ap (λ b. through b (λ i t. Changed (put (field_value s (word_at t.memory i)) t)) (pos n) (words rest memory input output)) (lt-ltb n area lt)

  loads : (line : ℕ) (s : Option Field) (n : ℕ) (rest : List Operand) (memory : List ℤ) (input output : List ℕ) → n < area → run (operation_orders line (Fetch s)) (words (Word (pos n) ∷ rest) memory input output) ≡ perform area (Fetch s) (words (Word (pos n) ∷ rest) memory input output)
  loads line None n rest memory input output lt =
      let w = words (Word (pos n) ∷ rest) memory input output in
      one order.Load w ∙ ap unrefused (fetches None n rest memory input output lt) ∙ sym (fetches None n rest memory input output lt)
  loads line (Some s) n rest memory input output lt =
      let w = words (Word (pos n) ∷ rest) memory input output in
      one (order.LoadPart s.t s.b (not s.unsigned)) w
      ∙ ap (λ b. unrefused (perform area (Fetch (Some (record { t = s.t; b = s.b; unsigned = b }))) w)) (twice_not s.unsigned)
      ∙ ap unrefused (fetches (Some s) n rest memory input output lt) ∙ sym (fetches (Some s) n rest memory input output lt)

  -- a store at an address of the area
  stored : (f : ℤ → ℤ → ℤ) (n : ℕ) (z : ℤ) (rest : List Operand) (memory : List ℤ) (input output : List ℕ) → n < area → Rattle.cw_unit.specs.Operation.store_with area f (words (Word (pos n) ∷ Word z ∷ rest) memory input output) ≡ Changed (words rest (set memory n (f (word_at memory n) z)) input output)
  stored f n z rest memory input output lt =
      ap (λ b. through b (λ i t. Changed (with_memory t (set t.memory i (f (word_at t.memory i) z)))) (pos n) (words rest memory input output)) (lt-ltb n area lt)

  unrefused-stored : (f : ℤ → ℤ → ℤ) (n : ℕ) (hand : List Operand) (memory : List ℤ) (input output : List ℕ) → n < area → unrefused (Rattle.cw_unit.specs.Operation.store_with area f (words (Word (pos n) ∷ hand) memory input output)) ≡ Rattle.cw_unit.specs.Operation.store_with area f (words (Word (pos n) ∷ hand) memory input output)
  unrefused-stored f n [] memory input output lt = refl
  unrefused-stored f n (Held c ∷ rest) memory input output lt = refl
  unrefused-stored f n (Word z ∷ rest) memory input output lt = ap unrefused (stored f n z rest memory input output lt) ∙ sym (stored f n z rest memory input output lt)

  stores : (line : ℕ) (s : Option Field) (n : ℕ) (hand : List Operand) (memory : List ℤ) (input output : List ℕ) → n < area → run (operation_orders line (Store s)) (words (Word (pos n) ∷ hand) memory input output) ≡ perform area (Store s) (words (Word (pos n) ∷ hand) memory input output)
  stores line None n hand memory input output lt = one order.Store (words (Word (pos n) ∷ hand) memory input output) ∙ unrefused-stored (stored_value None) n hand memory input output lt
  stores line (Some s) n hand memory input output lt =
      one (order.StorePart s.t s.b) (words (Word (pos n) ∷ hand) memory input output) ∙ unrefused-stored (stored_value (Some s)) n hand memory input output lt

  combines : (line : ℕ) (op : LogicOp) (w : Words) → run (operation_orders line (Combine op)) w ≡ perform area (Combine op) w
  combines line logic.Mask w = one order.And w ∙ plain_two (λ x y v. put (signed (logic_word logic.Mask (unsigned x) (unsigned y))) v) w.operands w
  combines line logic.Union w = one order.Or w ∙ plain_two (λ x y v. put (signed (logic_word logic.Union (unsigned x) (unsigned y))) v) w.operands w
  combines line logic.Differ w = one order.Xor w ∙ plain_two (λ x y v. put (signed (logic_word logic.Differ (unsigned x) (unsigned y))) v) w.operands w

  same_scale : (from to : ℕ) → (from == to) ≡ true → from ≡ to
  same_scale from to h = grind (arith, nat_tests)

  pub operation-runs : (line : ℕ) (op : Operation) (r : Bool) (hand : List Operand) (memory : List ℤ) (input output : List ℕ) → OperationFits op r → Ready area r hand → WordsFit (words hand memory input output) → IsPossible (perform area op (words hand memory input output)) → run (operation_orders line op) (words hand memory input output) ≡ perform area op (words hand memory input output)
  operation-runs line (Rescale from to) r hand memory input output f ready fits ok = rescales line (from == to) from to hand memory input output (same_scale from to) fits ok
  operation-runs line (Fetch s) false hand memory input output f ready fits ok = absurd (false≢true f)
  operation-runs line (Fetch s) true hand memory input output f (n, rest, is, lt) fits ok =
      subst (λ h. run (operation_orders line (Fetch s)) (words h memory input output) ≡ perform area (Fetch s) (words h memory input output)) (sym is) (loads line s n rest memory input output lt)
  operation-runs line (Store s) false hand memory input output f ready fits ok = absurd (false≢true f)
  operation-runs line (Store s) true hand memory input output f (n, rest, is, lt) fits ok =
      subst (λ h. run (operation_orders line (Store s)) (words h memory input output) ≡ perform area (Store s) (words h memory input output)) (sym is) (stores line s n rest memory input output lt)
  operation-runs line (StoreBits t b) false hand memory input output f ready fits ok = absurd (false≢true f)
  operation-runs line (StoreBits t b) true hand memory input output f (n, rest, is, lt) fits ok =
      subst (λ h. run (operation_orders line (StoreBits t b)) (words h memory input output) ≡ perform area (StoreBits t b) (words h memory input output)) (sym is)
      (one (order.StorePart t b) (words (Word (pos n) ∷ rest) memory input output) ∙ unrefused-stored (Rattle.cw_unit.specs.Words.with_bits t b) n rest memory input output lt)
  operation-runs line Add r hand memory input output f ready fits ok = one (order.Add line) (words hand memory input output)
  operation-runs line Subtract r hand memory input output f ready fits ok = one (order.Sub line) (words hand memory input output)
  operation-runs line Negate r hand memory input output f ready fits ok = one (order.Neg line) (words hand memory input output)
  operation-runs line (Multiply s) r hand memory input output f ready fits ok =
      one (order.Mul (narrow s) line) (words hand memory input output) ∙ ap (λ k. perform area (Multiply k) (words hand memory input output)) f
  operation-runs line (Divide s) r hand memory input output f ready fits ok =
      one (order.Div (narrow s) line) (words hand memory input output) ∙ ap (λ k. perform area (Divide k) (words hand memory input output)) f
  operation-runs line (Combine op) r hand memory input output f ready fits ok = combines line op (words hand memory input output)
  operation-runs line (Extract t b) r hand memory input output f ready fits ok = one (order.Take t b) (words hand memory input output) ∙ plain_one (λ x v. put (signed (unsigned_field (unsigned x) t b)) v) hand (words hand memory input output)
  operation-runs line (InBounds l u) r hand memory input output f ready fits ok = one (order.InBounds l u line) (words hand memory input output)
  operation-runs line _ r hand memory input output f ready fits ok = absurd f

  -- ---- addresses

  -- the orders that put addresses of words of items, put them
  module _ (program : Program) (s : ℕ) (acts : List Activation) (y : Layout) (has_words : (item words : ℕ) → Bool) where
    abbrev address : ℕ → ℕ
    address i = address_at program s acts i

    pub record ItemsStand : Type 0 where
      pub puts : (i n k : ℕ) (w : Words) → IsTrue (has_words i k) → n < k → effect p g bs (item_order y i n) w ≡ Changed (put (pos (address i + n)) w)
      pub within : (i n k : ℕ) → IsTrue (has_words i k) → n < k → address i + n < area
      -- also those behind an item that are known to be in the data area
      pub reaches : (i n : ℕ) (w : Words) → IsTrue (has_words i 1) → n < item_span y i → (effect p g bs (item_order y i n) w ≡ Changed (put (pos (address i + n)) w)) × (address i + n < area)
      -- an item of a family of the unit's own, and one of another family, outside of frames, share no word
      pub apart : (i j n m k l : ℕ) → IsTrue (has_words i k) → IsTrue (has_words j l) → n < k → m < l → IsTrue (are_apart y i j) → address i + n ≡ address j + m → ⊥

    module _ (in_words : area ≤ 32768) (stand : ItemsStand) where
      some : 0 < 1
      some = let l : 0 < 1 = omega arith in l

      no_more : (i : ℕ) → address i + 0 ≡ address i
      no_more i = let e : address i + 0 ≡ address i = omega arith in e

      inside : (i k : ℕ) → IsTrue (has_words i k) → 0 < k → address i < area
      inside i k h lt = let l : address i < area = omega (arith, stand.within i 0 k h lt) in l

      -- behind an order that puts the address of an item
      pub behind_item : (i k : ℕ) (os : List Order) (w : Words) → IsTrue (has_words i k) → 0 < k → run (item_order y i 0 ∷ os) w ≡ run os (put (pos (address i)) w)
      behind_item i k os w h lt = ap (λ o. then_do o (λ v. run os v)) (stand.puts i 0 k w h lt ∙ ap (λ n. Changed (put (pos n) w)) (no_more i))

      pub behind_load : (n : ℕ) (os : List Order) (hand : List Operand) (memory : List ℤ) (input output : List ℕ) → n < area → run (order.Load ∷ os) (words (Word (pos n) ∷ hand) memory input output) ≡ run os (words (Word (word_at memory n) ∷ hand) memory input output)
      behind_load n os hand memory input output lt = ap (λ o. then_do (unrefused o) (λ v. run os v)) (fetches None n hand memory input output lt)

      pub area_tested : (line : ℕ) (w : Words) → run (order.InArea line ∷ []) w ≡ form_address area Taken w
      area_tested line w = one (order.InArea line) w

      -- an address is formed from a base
      based : (f : ℤ → Addressing) (base : ℤ) (w : Words) → from_base area f (put base w) ≡ form_address area (f base) w
      based f base w = ap (λ n. form_address n (f base) w) (min-eq_left in_words)

      -- the base of a table
      pub behind_table : (t : Bool) (i : ℕ) (os : List Order) (hand : List Operand) (memory : List ℤ) (input output : List ℕ) → IsTrue (has_words i 1) → run (table_orders y t i ++ os) (words hand memory input output) ≡ run os (put (table_base program t s acts (words hand memory input output) i) (words hand memory input output))
      behind_table true i os hand memory input output h =
          behind_item i 1 (order.Load ∷ os) (words hand memory input output) h some ∙ behind_load (address i) os hand memory input output (inside i 1 h some)
      behind_table false i os hand memory input output h = behind_item i 1 os (words hand memory input output) h some

      -- an address of two indexes that are compared with bounds between which all words are known to be in the data area is one of it
      module _ (i n : ℕ) (l1 u1 l2 u2 : ℤ) (has : IsTrue (has_words i 1)) where
        abbrev formed_of : Words → Outcome
        formed_of w = form_address area (Indexed2 (pos (address i)) l1 l2 n) w

        never_refused : (hand : List Operand) (memory : List ℤ) (input output : List ℕ) → IsTrue (is_some (element_of_two_word (item_span y i) n (from_lower true l1 u1 (Some u1)) (from_lower true l2 u2 (Some u2)))) → LieBetween l1 u1 l2 u2 hand
            → unrefused (formed_of (words hand memory input output)) ≡ formed_of (words hand memory input output)
        never_refused hand memory input output inside lie =
            let last = a_word (element_of_two_word (item_span y i) n (from_lower true l1 u1 (Some u1)) (from_lower true l2 u2 (Some u2))) inside in
            let x1 = of_count (λ i'. of_index (λ j'. word_inside (item_span y i) (i' * n + j')) (from_lower true l2 u2 (Some u2))) (of_index (word_inside 32768) (from_lower true l1 u1 (Some u1))) last.0 last.1 in
            let x2 = of_count (λ j'. word_inside (item_span y i) (x1.0 * n + j')) (from_lower true l2 u2 (Some u2)) last.0 x1.2 in
            let x3 = of_count (word_inside 32768) (from_lower true l1 u1 (Some u1)) x1.0 x1.1 in
            let few = inside_is 32768 x3.0 x1.0 x3.2 in
            let end = inside_is (item_span y i) (x1.0 * n + x2.0) last.0 x2.2 in
            let row = index_within l1 u1 lie.row x1.0 (from_above true l1 u1 (Some u1) x3.0 x3.1) few.0 lie.row_between in
            let column = index_within l2 u2 lie.column x2.0 (from_above true l2 u2 (Some u2) x2.0 x2.1) refl lie.column_between in
            let w = words lie.rest memory input output in
            let at : ℕ = row.0 * n + column.0 in
            let below : row.0 * n ≤ x1.0 * n = mul-le-mul_right n row.2 in
            let within : at < item_span y i = omega (arith, below, column.2, end.0, end.1) in
            let found : formed_of (put lie.column (put lie.row w)) ≡ Changed (put (pos (address i + at)) w) =
            element_of_two_found area (address i) w in_words lie.row lie.column l1 l2 n row.0 column.0 at row.1 column.1 (omega (arith, row.2, few.1)) refl (stand.reaches i at w has within).1 in
            subst (λ h. unrefused (formed_of (words h memory input output)) ≡ formed_of (words h memory input output)) (sym lie.is) (ap unrefused found ∙ sym found)

        row-runs : (line : ℕ) (compared inside : Bool) (hand : List Operand) (memory : List ℤ) (input output : List ℕ) → all_inside compared (item_span y i) l1 u1 l2 u2 n ≡ inside
            → (compared ≡ true → LieBetween l1 u1 l2 u2 hand)
            → run (item_order y i 0 ∷ row_order inside l1 l2 n (item_span y i) line ∷ []) (words hand memory input output) ≡ formed_of (words hand memory input output)
        row-runs line compared false hand memory input output is lie =
            let w = words hand memory input output in
            let o = order.ElementOfTwo l1 l2 n line in
            behind_item i 1 (o ∷ []) w has some ∙ one o (put (pos (address i)) w) ∙ based (λ base. Indexed2 base l1 l2 n) (pos (address i)) w
        row-runs line compared true hand memory input output is lie =
            let w = words hand memory input output in
            let o = order.ElementInside l1 l2 n (item_span y i) in
            let known = both compared (is_some (element_of_two_word (item_span y i) n (from_lower true l1 u1 (Some u1)) (from_lower true l2 u2 (Some u2)))) is in
            behind_item i 1 (o ∷ []) w has some ∙ one o (put (pos (address i)) w) ∙ ap unrefused (based (λ base. Indexed2 base l1 l2 n) (pos (address i)) w)
            ∙ never_refused hand memory input output known.1 (lie known.0)

      pub form-runs : (compared : Bool) (line : ℕ) (u : SourceUnit) (x : Spot-F Arg Cond Expr Spot Ref) (hand : List Operand) (memory : List ℤ) (input output : List ℕ) → FormsOf compared x hand → IsTrue (built_spot_layer u has_words x) → run (form_orders y compared line x) (words hand memory input output) ≡ form_address area (addressing_of program x s acts (words hand memory input output)) (words hand memory input output)
      form-runs compared line u (layer.Direct i) hand memory input output found b =
          let w = words hand memory input output in
          behind_item i 1 [] w b some ∙ sym (ap (λ t. put_if t AddressRange (pos (address i)) w) (lt-ltb (address i) area (inside i 1 b some)))
      form-runs compared line u (layer.Through i) hand memory input output found b =
          let w = words hand memory input output in
          behind_item i 1 (order.Load ∷ order.InArea line ∷ []) w b some ∙ behind_load (address i) (order.InArea line ∷ []) hand memory input output (inside i 1 b some) ∙ area_tested line (put (word_at memory (address i)) w)
      form-runs compared line u (layer.One i l h e) hand memory input output found b =
          let w = words hand memory input output in
          let o = order.Element l (item_span y i) line in
          behind_item i 1 (o ∷ []) w (both (has_words i 1) (whole (built_value u has_words e) 0) b).0 some ∙ one o (put (pos (address i)) w) ∙ based (λ base. Indexed base l) (pos (address i)) w
      form-runs compared line u (layer.Two i l1 h1 l2 h2 n e f) hand memory input output found b =
          row-runs i n l1 h1 l2 h2 (both (has_words i 1) (whole (built_value u has_words e) 0 && whole (built_value u has_words f) 0) b).0 line compared (all_inside compared (item_span y i) l1 h1 l2 h2 n) hand memory input output refl
          (λ same. subst (λ c. FormsOf c (layer.Two i l1 h1 l2 h2 n e f) hand) same found)
      form-runs compared line u (layer.ParamArray i e) hand memory input output found b =
          let w = words hand memory input output in
          let o = order.Element (pos 0) 0 line in
          let h = (both (has_words i 1) (whole (built_value u has_words e) 0) b).0 in
          behind_item i 1 (order.Load ∷ o ∷ []) w h some ∙ behind_load (address i) (o ∷ []) hand memory input output (inside i 1 h some) ∙ one o (put (word_at memory (address i)) w) ∙ based (λ base. Indexed base (pos 0)) (word_at memory (address i)) w
      form-runs compared line u (layer.Word i t m e) hand memory input output found b =
          let w = words hand memory input output in
          let o = order.Element (pos 0) (table_span y t i) line in
          let base = table_base program t s acts w i in
          behind_table t i (o ∷ []) hand memory input output (both (has_words i 1) (whole (built_value u has_words e) 0) b).0 ∙ one o (put base w) ∙ based (λ z. Indexed z (pos 0)) base w
      form-runs compared line u (layer.Elem i t n m q e) hand memory input output found b =
          let w = words hand memory input output in
          let o = order.Entry n q (table_span y t i) line in
          let base = table_base program t s acts w i in
          behind_table t i (o ∷ []) hand memory input output (both (has_words i 1) (whole (built_value u has_words e) 0) b).0 ∙ one o (put base w) ∙ based (λ z. Scaled z n q) base w
      form-runs compared line u (layer.Bare e) hand memory input output found b = area_tested line (words hand memory input output)

      -- ---- loops

      -- a word is kept in a word of an item
      pub keeps : (i n k : ℕ) (hand : List Operand) (memory : List ℤ) (input output : List ℕ) → IsTrue (has_words i k) → n < k → IsPossible (perform area (Keep (address i + n)) (words hand memory input output)) → run (keep_orders y i n) (words hand memory input output) ≡ perform area (Keep (address i + n)) (words hand memory input output)
      keeps i n k [] memory input output h lt ok = absurd ok
      keeps i n k (Held c ∷ rest) memory input output h lt ok = absurd ok
      keeps i n k (Word z ∷ rest) memory input output h lt ok =
          ap (λ o. then_do o (λ v. run (order.Store ∷ []) v)) (stand.puts i n k (words (Word z ∷ rest) memory input output) h lt)
          ∙ one order.Store (words (Word (pos (address i + n)) ∷ Word z ∷ rest) memory input output)
          ∙ ap unrefused (stored (stored_value None) (address i + n) z rest memory input output (stand.within i n k h lt))

      -- a word of an item
      pub behind_word : (i n k : ℕ) (os : List Order) (hand : List Operand) (memory : List ℤ) (input output : List ℕ) → IsTrue (has_words i k) → n < k → run (item_order y i n ∷ order.Load ∷ os) (words hand memory input output) ≡ run os (words (Word (word_at memory (address i + n)) ∷ hand) memory input output)
      behind_word i n k os hand memory input output h lt =
          ap (λ o. then_do o (λ v. run (order.Load ∷ os) v)) (stand.puts i n k (words hand memory input output) h lt)
          ∙ behind_load (address i + n) os hand memory input output (stand.within i n k h lt)

      pub sets : (line : ℕ) (i k : ℕ) (hand : List Operand) (memory : List ℤ) (input output : List ℕ) → IsTrue (has_words i k) → 0 < k → run (set_orders y line i) (words hand memory input output) ≡ perform area (SetVariable (address i)) (words hand memory input output)
      sets line i k hand memory input output h lt =
          let w = words hand memory input output in
          behind_item i k (order.SetVariable line ∷ []) w h lt ∙ one (order.SetVariable line) (put (pos (address i)) w)
          ∙ ap (λ b. if_inside b (perform area (SetVariable (address i)) w)) (lt-ltb (address i) area (inside i k h lt))

      pub bumps : (line : ℕ) (i k : ℕ) (hand : List Operand) (memory : List ℤ) (input output : List ℕ) → IsTrue (has_words i k) → 1 < k → run (bump_orders y line i) (words hand memory input output) ≡ perform area (AddStep (address i)) (words hand memory input output)
      bumps line i k hand memory input output h lt =
          let w = words hand memory input output in
          let both_words : address i < area - 1 = omega (arith, stand.within i 1 k h lt) in
          behind_item i k (order.AddStep line ∷ []) w h (let l : 0 < k = omega (arith, lt) in l) ∙ one (order.AddStep line) (put (pos (address i)) w)
          ∙ ap (λ b. if_inside b (perform area (AddStep (address i)) w)) (lt-ltb (address i) (area - 1) both_words)

      -- the value of the control variable, below the address of the loop
      pub variable_put : (line : ℕ) (i k : ℕ) (hand : List Operand) (memory : List ℤ) (input output : List ℕ) → IsTrue (has_words i k) → 0 < k → run (item_order y i 0 ∷ order.PutVariable line ∷ []) (words hand memory input output) ≡ through (is_below (word_at memory (address i)) area) (λ j v. Changed (put (pos (address i)) (put (word_at v.memory j) v))) (word_at memory (address i)) (words hand memory input output)
      variable_put line i k hand memory input output h lt =
          let w = words hand memory input output in
          behind_item i k (order.PutVariable line ∷ []) w h lt ∙ one (order.PutVariable line) (put (pos (address i)) w)
          ∙ ap (λ b. if_inside b (through (is_below (word_at memory (address i)) area) (λ j v. Changed (put (pos (address i)) (put (word_at v.memory j) v))) (word_at memory (address i)) w)) (lt-ltb (address i) area (inside i k h lt))
