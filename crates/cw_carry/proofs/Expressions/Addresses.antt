-- The orders follow the source through operations and addresses.
use Rattle.std.proofs.Common.{◌≡◌, ℕ, suc, ◌+◌, ◌<◌, ◌≤◌, ℤ, pos, negsuc, ◌-ℤ◌, ◌*ℤ◌, ◌+ℤ◌, List, [], ◌∷◌, ◌++◌, length, Bool, true, false, Some, None, refl, sym, ap, ◌∙◌, subst, arith}
use Rattle.std.specs.Prelude.{not, IsTrue, ◌&&◌, ◌==◌, if◌then◌else◌}
use Rattle.std.proofs.lemmas.Bool.{false≢true, ltb-true}
use Rattle.cw_word.specs.FixedPoint.{fits_word}
use Rattle.cw_unit.specs.declared.layout.Layout.{Layout}
use Rattle.cw_unit.specs.declared.unit.LogicOp.TheVariants as logic
use Rattle.cw_unit.specs.declared.unit.Arg.{Arg}
use Rattle.cw_unit.specs.declared.unit.Cond.{Cond}
use Rattle.cw_unit.specs.declared.unit.Expr.{Expr}
use Rattle.cw_unit.specs.declared.unit.Spot.{Spot, out-Spot}
use Rattle.cw_unit.specs.declared.unit.Ref.{Ref, out-Ref}
use Rattle.cw_unit.specs.declared.unit.Arg.TheOpen as layer
use Rattle.cw_unit.specs.declared.unit.Arg.TheOpen.{Spot-F}
use Rattle.cw_unit.specs.Stop.{AddressRange}
use Rattle.cw_unit.specs.Words.{Operand, Word, Held, Words, Outcome, Changed, Refused, Impossible, is_below, put, put_if}
use Rattle.cw_unit.specs.Operation.{Operation, Rescale, Fetch, Store, StoreBits, Add, Subtract, Negate, Multiply, Divide, Combine, Extract, InBounds, Addressing, Known, Taken, Indexed, Indexed2, Scaled, fitting, address_of, form_address, perform}
use Rattle.cw_unit.specs.Work.{Work, Eval, Address, FormAt, Do, index_work}
use Rattle.cw_unit.specs.Configuration.{address_at}
use Rattle.cw_unit.specs.Step.{after as source_after, addressing_of, compares_in, address_step}
use Rattle.cw_order.specs.declared.order.Order.{Order}
use Rattle.cw_order.specs.declared.order.Order.TheVariants as order
use Rattle.cw_order.specs.OrderCosts.{weight_of}
use Rattle.cw_gen_expr.specs.Pieces.{plain, followed_by}
use Rattle.cw_gen_expr.specs.ReferenceExpressions.{at_line, saved, item_order, item_span, table_orders, table_span, row_order, form_orders, rescale_orders, narrow, bounds_orders, expression_piece}
use Rattle.cw_gen_expr.specs.KnownValues.{all_inside}
use Rattle.cw_gen_expr.specs.BuiltExpressions.{whole, built_value, built_reference, is_spot}
use Rattle.cw_gen_expr.proofs.Layers.{indexed_layer, built_spot_layer, spot-built, reference-built, reference_size, reference-size, spot-size, spot_size_layer, expression_size}
use Rattle.cw_safety.proofs.Truth.{both}
use Rattle.cw_carry.proofs.Expressions.Standing.{Stands, Made, saved_made, one_made}
use Rattle.cw_carry.proofs.Expressions.Effects.{IsPossible, is_silent, all_silent, total_weight, through_all, loaded_through, OnLine, same_change}
use Rattle.cw_carry.proofs.Expressions.Carried.{Ready, OperationFits, operation_orders, gives_word, takes_index}
use Rattle.cw_carry.proofs.Expressions.Operations.{FormsOf, operation-runs, form-runs, behind_item}
use Rattle.cw_carry.proofs.Expressions.Stepping.{Compiled, source, target, IsSane, work_size, silent}
use Rattle.cw_carry.proofs.Expressions.Moments.{light_order, item_silent, item_light, item_loads, item_tells, IsLight, silent_and, Moment, here_in, layout, scope, has_words, code, marks, At, Leads_to, Close, at_close, close_to, past_save, Steps, next, run, Facts, becomes, done_by}

-- ---- operations

module _ (c : Compiled) (t : Moment c) where
  operated : (op : Operation) (os : List Order) (line : ℕ) (k : Work) (q n : ℕ) (r : Bool) (w : Words) → operation_orders line op ≡ os → IsLight line true (gives_word op) os → OperationFits op r → Stands (code c t) q (operation_orders line op) n → Ready c.limits.area r w.operands → Leads_to c t n (gives_word op) false k → Facts c t (Do op line k) w → Steps c t (Do op line k) q true w
  operated op os line k q n r w e light f stands ready carried facts =
      done_by c t (Do op line k) k line q n true (gives_word op) os w false (perform c.limits.area op w) (subst (λ x. Stands (code c t) q x n) e stands) light facts refl
      (λ ok. subst (λ x. run c t x w ≡ perform c.limits.area op w) e (operation-runs (target c) (here_in c t) t.calls_below line op r w.operands w.memory w.input w.output f ready facts.fits ok))
      (λ v h. tt)
      carried

  rescaled : (b : Bool) (from to line : ℕ) (k : Work) (q n : ℕ) (r : Bool) (w : Words) → (from == to) ≡ b → Stands (code c t) q (rescale_orders line from to) n → Ready c.limits.area r w.operands → Leads_to c t n true false k → Facts c t (Do (Rescale from to) line k) w → Steps c t (Do (Rescale from to) line k) q true w
  rescaled false from to line k q n r w is stands ready carried facts =
      operated (Rescale from to) (order.Rescale from to line ∷ []) line k q n r w (ap (λ b. if b then [] else (order.Rescale from to line ∷ [])) is) (light_order line true true (order.Rescale from to line) refl (omega arith) (omega arith) refl refl) tt stands ready carried facts
  rescaled true from to line k q n r w is stands ready carried facts = unchanged (perform c.limits.area (Rescale from to) w) refl
    where
      none : rescale_orders line from to ≡ []
      none = ap (λ b. if b then [] else (order.Rescale from to line ∷ [])) is

      at_n : q ≡ n
      at_n = subst (λ os. Stands (code c t) q os n) none stands

      kept : IsPossible (perform c.limits.area (Rescale from to) w) → Steps c t (Do (Rescale from to) line k) q true w
      kept ok =
          let stays : Changed w ≡ perform c.limits.area (Rescale from to) w = subst (λ os. run c t os w ≡ perform c.limits.area (Rescale from to) w) none (operation-runs (target c) (here_in c t) t.calls_below line (Rescale from to) r w.operands w.memory w.input w.output tt ready facts.fits ok) in
          silent c t.segment t.acts t.calls_below t.unit t.unit_is t.calls (Do (Rescale from to) line k) k q true false w
          (ap (λ o. source_after o t.segment line (Do (Rescale from to) line k) k t.acts w) (sym stays)) tt
          (subst (λ x. Leads_to c t x true false k) (sym at_n) carried)
          (let z : work_size c k < 1 + work_size c k = omega arith in z)

      unchanged : (out : Outcome) → perform c.limits.area (Rescale from to) w ≡ out → Steps c t (Do (Rescale from to) line k) q true w
      unchanged (Changed v) h = kept (subst IsPossible (sym h) tt)
      unchanged (Refused kind) h = kept (subst IsPossible (sym h) tt)
      unchanged Impossible h = absurd (subst (λ o. IsSane (source_after o t.segment line (Do (Rescale from to) line k) k t.acts w)) h facts.sane)

  pub operation : (op : Operation) (line : ℕ) (k : Work) (q n : ℕ) (r : Bool) (w : Words) → OperationFits op r → Stands (code c t) q (operation_orders line op) n → Ready c.limits.area r w.operands → Leads_to c t n (gives_word op) false k → Facts c t (Do op line k) w → Steps c t (Do op line k) q true w
  operation (Rescale from to) line k q n r w f stands ready carried facts = rescaled (from == to) from to line k q n r w refl stands ready carried facts
  operation (Fetch None) line k q n r w f stands ready carried facts =
      operated (Fetch None) (order.Load ∷ []) line k q n r w refl (light_order line true true order.Load refl (omega arith) (omega arith) tt refl) f stands ready carried facts
  operation (Fetch (Some x)) line k q n r w f stands ready carried facts =
      operated (Fetch (Some x)) (order.LoadPart x.t x.b (not x.unsigned) ∷ []) line k q n r w refl (light_order line true true (order.LoadPart x.t x.b (not x.unsigned)) refl (omega arith) (omega arith) tt refl) f stands ready carried facts
  operation (Store None) line k q n r w f stands ready carried facts =
      operated (Store None) (order.Store ∷ []) line k q n r w refl (light_order line true false order.Store refl (omega arith) (omega arith) tt refl) f stands ready carried facts
  operation (Store (Some x)) line k q n r w f stands ready carried facts =
      operated (Store (Some x)) (order.StorePart x.t x.b ∷ []) line k q n r w refl (light_order line true false (order.StorePart x.t x.b) refl (omega arith) (omega arith) tt refl) f stands ready carried facts
  operation (StoreBits y b) line k q n r w f stands ready carried facts =
      operated (StoreBits y b) (order.StorePart y b ∷ []) line k q n r w refl (light_order line true false (order.StorePart y b) refl (omega arith) (omega arith) tt refl) f stands ready carried facts
  operation Add line k q n r w f stands ready carried facts =
      operated Add (order.Add line ∷ []) line k q n r w refl (light_order line true true (order.Add line) refl (omega arith) (omega arith) refl refl) f stands ready carried facts
  operation Subtract line k q n r w f stands ready carried facts =
      operated Subtract (order.Sub line ∷ []) line k q n r w refl (light_order line true true (order.Sub line) refl (omega arith) (omega arith) refl refl) f stands ready carried facts
  operation Negate line k q n r w f stands ready carried facts =
      operated Negate (order.Neg line ∷ []) line k q n r w refl (light_order line true true (order.Neg line) refl (omega arith) (omega arith) refl refl) f stands ready carried facts
  operation (Multiply x) line k q n r w f stands ready carried facts =
      operated (Multiply x) (order.Mul (narrow x) line ∷ []) line k q n r w refl (light_order line true true (order.Mul (narrow x) line) refl (omega arith) (omega arith) refl refl) f stands ready carried facts
  operation (Divide x) line k q n r w f stands ready carried facts =
      operated (Divide x) (order.Div (narrow x) line ∷ []) line k q n r w refl (light_order line true true (order.Div (narrow x) line) refl (omega arith) (omega arith) refl refl) f stands ready carried facts
  operation (Combine logic.Mask) line k q n r w f stands ready carried facts =
      operated (Combine logic.Mask) (order.And ∷ []) line k q n r w refl (light_order line true true order.And refl (omega arith) (omega arith) tt refl) f stands ready carried facts
  operation (Combine logic.Union) line k q n r w f stands ready carried facts =
      operated (Combine logic.Union) (order.Or ∷ []) line k q n r w refl (light_order line true true order.Or refl (omega arith) (omega arith) tt refl) f stands ready carried facts
  operation (Combine logic.Differ) line k q n r w f stands ready carried facts =
      operated (Combine logic.Differ) (order.Xor ∷ []) line k q n r w refl (light_order line true true order.Xor refl (omega arith) (omega arith) tt refl) f stands ready carried facts
  operation (Extract y b) line k q n r w f stands ready carried facts =
      operated (Extract y b) (order.Take y b ∷ []) line k q n r w refl (light_order line true true (order.Take y b) refl (omega arith) (omega arith) tt refl) f stands ready carried facts
  operation (InBounds x y) line k q n r w f stands ready carried facts =
      operated (InBounds x y) (order.InBounds x y line ∷ []) line k q n r w refl (light_order line true true (order.InBounds x y line) refl (omega arith) (omega arith) refl refl) f stands ready carried facts
  operation _ line k q n r w f stands ready carried facts = absurd f

-- ---- the orders of an address

module _ (y : Layout) (line : ℕ) where
  pub item_and : (m : Bool) (i : ℕ) (os : List Order) → IsTrue (all_silent os) → total_weight os ≤ 150 → length os ≤ 10 → OnLine line os → loaded_through os true ≡ Some m → IsLight line false m (item_order y i 0 ∷ os)
  item_and m i os h le short tells turns =
      let w = item_light y i 0 in
      record {
        quiet = silent_and (is_silent (item_order y i 0)) (all_silent os) (item_silent y i 0) h;
        light = (let z : weight_of (item_order y i 0) + total_weight os ≤ 159 = omega (arith, w.1, le) in z);
        some = (let z : 0 < weight_of (item_order y i 0) + total_weight os = omega (arith, w.0) in z);
        short = (let z : suc (length os) ≤ 12 = omega (arith, short) in z);
        at = (item_tells line y i 0, tells);
        turns = ap (λ x. through_all x os) (item_loads y i 0) ∙ turns;
      }

  -- behind a Save
  pub with_save : (m : Bool) (os : List Order) → IsLight line false m os → total_weight os ≤ 150 → length os ≤ 10 → IsLight line true m (order.Save ∷ os)
  with_save m os light le short = record {
    quiet = light.quiet;
    light = (let z : 1 + total_weight os ≤ 159 = omega (arith, le) in z);
    some = (let z : 0 < 1 + total_weight os = omega arith in z);
    short = (let z : suc (length os) ≤ 12 = omega (arith, short) in z);
    at = (tt, light.at);
    turns = light.turns;
  }

  -- an order behind the base of a table, or of an array, which is found as that of a table
  based : (tb : Bool) (i : ℕ) (o : Order) → IsLight line true true (o ∷ []) → total_weight (o ∷ []) ≤ 40 → IsLight line true true (order.Save ∷ (table_orders y tb i ++ o ∷ []))
  based true i o light le =
      let w = item_light y i 0 in
      with_save true (item_order y i 0 ∷ order.Load ∷ o ∷ [])
      (item_and true i (order.Load ∷ o ∷ []) light.quiet (let z : 8 + total_weight (o ∷ []) ≤ 150 = omega (arith, le) in z) (omega arith) (tt, light.at) light.turns)
      (let z : weight_of (item_order y i 0) + (8 + total_weight (o ∷ [])) ≤ 150 = omega (arith, w.1, le) in z) (omega arith)
  based false i o light le =
      let w = item_light y i 0 in
      with_save true (item_order y i 0 ∷ o ∷ [])
      (item_and true i (o ∷ []) light.quiet (let z : total_weight (o ∷ []) ≤ 150 = omega (arith, le) in z) (omega arith) light.at light.turns)
      (let z : weight_of (item_order y i 0) + total_weight (o ∷ []) ≤ 150 = omega (arith, w.1, le) in z) (omega arith)

  row_light : (b : Bool) (lower second : ℤ) (width span : ℕ) → IsLight line true true (row_order b lower second width span line ∷ []) × (total_weight (row_order b lower second width span line ∷ []) ≤ 40)
  row_light true lower second width span = (light_order line true true (order.ElementInside lower second width span) refl (omega arith) (omega arith) tt refl, omega arith)
  row_light false lower second width span = (light_order line true true (order.ElementOfTwo lower second width line) refl (omega arith) (omega arith) refl refl, omega arith)

  form_light : (compared : Bool) (x : Spot-F Arg Cond Expr Spot Ref) → IsLight line (takes_index x) true (form_orders y compared line x)
  form_light compared (layer.Direct i) = item_and true i [] refl (omega arith) (omega arith) tt refl
  form_light compared (layer.Through i) = item_and true i (order.Load ∷ order.InArea line ∷ []) refl (omega arith) (omega arith) (tt, (refl, tt)) refl
  form_light compared (layer.One i k h e) =
      let o = order.Element k (item_span y i) line in
      based false i o (light_order line true true o refl (omega arith) (omega arith) refl refl) (omega arith)
  form_light compared (layer.Two i k1 h1 k2 h2 n e f) =
      let b = all_inside compared (item_span y i) k1 h1 k2 h2 n in
      let light = row_light b k1 k2 n (item_span y i) in
      based false i (row_order b k1 k2 n (item_span y i) line) light.0 light.1
  form_light compared (layer.ParamArray i e) =
      let o = order.Element (pos 0) 0 line in
      based true i o (light_order line true true o refl (omega arith) (omega arith) refl refl) (omega arith)
  form_light compared (layer.Word i tb m e) =
      let o = order.Element (pos 0) (table_span y tb i) line in
      based tb i o (light_order line true true o refl (omega arith) (omega arith) refl refl) (omega arith)
  form_light compared (layer.Elem i tb n m k e) =
      let o = order.Entry n k (table_span y tb i) line in
      based tb i o (light_order line true true o refl (omega arith) (omega arith) refl refl) (omega arith)
  form_light compared (layer.Bare e) = record { quiet = refl; light = omega arith; some = omega arith; short = omega arith; at = (refl, tt); turns = refl }

-- ---- an address that was formed is one of the area

abbrev IsChange : Outcome → Type 0
IsChange (Changed v) = Unit {0}
IsChange (Refused kind) = ⊥
IsChange Impossible = ⊥

module _ (area : ℕ) where
  is_address : (z : ℤ) (rest : List Operand) → is_below z area ≡ true → Ready area true (Word z ∷ rest)
  is_address (pos n) rest h = (n, rest, refl, ltb-true n area h)
  is_address (negsuc n) rest h = absurd (false≢true h)

  put_ready : (b : Bool) (z : ℤ) (w v : Words) → is_below z area ≡ b → put_if b AddressRange z w ≡ Changed v → Ready area true v.operands
  put_ready true z w v h e = subst (λ x. Ready area true x.operands) (same_change (put z w) v e) (is_address z w.operands h)
  put_ready false z w v h e = absurd (subst IsChange (sym e) tt)

  fitted : (b : Bool) (o : Outcome) (v : Words) → fitting b o ≡ Changed v → o ≡ Changed v
  fitted true o v e = e
  fitted false o v e = absurd (subst IsChange (sym e) tt)

  pub formed : (f : Addressing) (hand : List Operand) (memory : List ℤ) (input output : List ℕ) (v : Words) → form_address area f (record { operands = hand; memory = memory; input = input; output = output }) ≡ Changed v → Ready area true v.operands
  formed (Known z) hand memory input output v e = put_ready (is_below z area) z (record { operands = hand; memory = memory; input = input; output = output }) v refl e
  formed Taken [] memory input output v e = absurd (subst IsChange (sym e) tt)
  formed Taken (Held x ∷ rest) memory input output v e = absurd (subst IsChange (sym e) tt)
  formed Taken (Word x ∷ rest) memory input output v e = put_ready (is_below x area) x (record { operands = rest; memory = memory; input = input; output = output }) v refl e
  formed (Indexed base k) [] memory input output v e = absurd (subst IsChange (sym e) tt)
  formed (Indexed base k) (Held x ∷ rest) memory input output v e = absurd (subst IsChange (sym e) tt)
  formed (Indexed base k) (Word x ∷ rest) memory input output v e =
      let w : Words = record { operands = rest; memory = memory; input = input; output = output } in
      put_ready (is_below (base +ℤ (x -ℤ k)) area) (base +ℤ (x -ℤ k)) w v refl (fitted (fits_word (x -ℤ k)) (address_of area (base +ℤ (x -ℤ k)) w) v e)
  formed (Indexed2 base k1 k2 n) [] memory input output v e = absurd (subst IsChange (sym e) tt)
  formed (Indexed2 base k1 k2 n) (Held x ∷ rest) memory input output v e = absurd (subst IsChange (sym e) tt)
  formed (Indexed2 base k1 k2 n) (Word z ∷ []) memory input output v e = absurd (subst IsChange (sym e) tt)
  formed (Indexed2 base k1 k2 n) (Word z ∷ Held x ∷ rest) memory input output v e = absurd (subst IsChange (sym e) tt)
  formed (Indexed2 base k1 k2 n) (Word z ∷ Word x ∷ rest) memory input output v e =
      let w : Words = record { operands = rest; memory = memory; input = input; output = output } in
      let row = (x -ℤ k1) *ℤ pos n in
      let sum = row +ℤ (z -ℤ k2) in
      let o4 = address_of area (base +ℤ sum) w in
      let o3 = fitting (fits_word sum) o4 in
      let o2 = fitting (fits_word (z -ℤ k2)) o3 in
      let o1 = fitting (fits_word row) o2 in
      put_ready (is_below (base +ℤ sum) area) (base +ℤ sum) w v refl (fitted (fits_word sum) o4 v (fitted (fits_word (z -ℤ k2)) o3 v (fitted (fits_word row) o2 v (fitted (fits_word (x -ℤ k1)) o1 v e))))
  formed (Scaled base n k) [] memory input output v e = absurd (subst IsChange (sym e) tt)
  formed (Scaled base n k) (Held x ∷ rest) memory input output v e = absurd (subst IsChange (sym e) tt)
  formed (Scaled base n k) (Word x ∷ rest) memory input output v e =
      let w : Words = record { operands = rest; memory = memory; input = input; output = output } in
      let o2 = address_of area (base +ℤ (x *ℤ pos n +ℤ pos k)) w in
      let o1 = fitting (fits_word (x *ℤ pos n +ℤ pos k)) o2 in
      put_ready (is_below (base +ℤ (x *ℤ pos n +ℤ pos k)) area) (base +ℤ (x *ℤ pos n +ℤ pos k)) w v refl (fitted (fits_word (x *ℤ pos n +ℤ pos k)) o2 v (fitted (fits_word (x *ℤ pos n)) o1 v e))

-- ---- addresses

-- what stands between an index and what follows it
abbrev pub compared_work : (compared : Bool) → (lower upper : ℤ) → (line : ℕ) → Work → Work
compared_work true l u line k = Do (InBounds l u) line k
compared_work false l u line k = k

pub index_is : (compared : Bool) (e : Expr) (l u : ℤ) (line : ℕ) (k : Work) → Eval e 0 line (compared_work compared l u line k) ≡ index_work compared e l u line k
index_is true e l u line k = refl
index_is false e l u line k = refl

module _ (c : Compiled) (t : Moment c) where
  -- by the orders behind the indexes
  pub address_formed : (spot : Spot) (line : ℕ) (k : Work) (q n : ℕ) (w : Words) → IsTrue (is_spot t.unit (has_words c t) spot) → Stands (code c t) q (form_orders (layout c t) t.unit.bounds line (out-Spot spot)) n → Leads_to c t n true true k → Facts c t (FormAt spot line k) w → FormsOf t.unit.bounds (out-Spot spot) w.operands → Steps c t (FormAt spot line k) q (takes_index (out-Spot spot)) w
  address_formed spot line k q n w b stands carried facts found =
      let f = addressing_of (source c) (out-Spot spot) t.segment t.acts w in
      done_by c t (FormAt spot line k) k line q n (takes_index (out-Spot spot)) true (form_orders (layout c t) t.unit.bounds line (out-Spot spot)) w true (form_address c.limits.area f w) stands (form_light (layout c t) line t.unit.bounds (out-Spot spot)) facts refl
      (λ ok. form-runs (target c) (here_in c t) t.calls_below (source c) t.segment t.acts (layout c t) (has_words c t) t.in_words t.stand t.unit.bounds line t.unit (out-Spot spot) w.operands w.memory w.input w.output found (sym (spot-built t.unit (has_words c t) spot) ∙ b))
      (λ v e. formed c.limits.area f w.operands w.memory w.input w.output v e)
      carried

  module _ (a : Ref) (x : Spot-F Arg Cond Expr Spot Ref) (line : ℕ) (k : Work) (w : Words) (is : out-Spot (out-Ref a).at ≡ x) (built : IsTrue (built_spot_layer t.unit (has_words c t) x)) where
    spot : Spot
    spot = (out-Ref a).at

    size_is : reference_size a ≡ spot_size_layer x
    size_is = reference-size a ∙ spot-size (out-Ref a).at ∙ ap spot_size_layer is

    -- what stands behind the indexes
    form_at : (q n : ℕ) → Stands (code c t) q (form_orders (layout c t) t.unit.bounds line x) n → Leads_to c t n true true k → At c t q (takes_index x) false (FormAt (out-Ref a).at line k)
    form_at q n stands carried =
        (n, spot-built t.unit (has_words c t) (out-Ref a).at ∙ ap (built_spot_layer t.unit (has_words c t)) is ∙ built, subst (λ z. Stands (code c t) q (form_orders (layout c t) t.unit.bounds line z) n) (sym is) stands, sym (ap takes_index is), carried)

    -- an index
    index_at : (e : Expr) (q n free last : ℕ) (next' : Work) → IsTrue (whole (built_value t.unit (has_words c t) e) 0) → Made (code c t) (marks c t) (expression_piece (at_line line (scope c t)) e 0 q free) q n free last → Close c t n true false next' → At c t q false false (Eval e 0 line next')
    index_at e q n free last next' b made carried = (n, 64, 0, free, last, b, made, (let z : 0 + 64 ≤ 64 = omega arith in z), refl, carried)

    -- the comparison of an index with its bounds
    compared_at : (compared : Bool) (lower upper : ℤ) (q n : ℕ) (next' : Work) → Stands (code c t) q (bounds_orders compared line lower upper) n → Close c t n true false next' → Close c t q true false (compared_work compared lower upper line next')
    compared_at true lower upper q n next' stands carried = at_close c t q true false (Do (InBounds lower upper) line next') (n, tt, stands, refl, close_to c t n true false next' carried)
    compared_at false lower upper q n next' stands carried = subst (λ z. Close c t z true false next') (sym stands) carried

    -- an index that has bounds
    bounded_at : (e : Expr) (lower upper : ℤ) (q n free last : ℕ) (next' : Work) → IsTrue (whole (built_value t.unit (has_words c t) e) 0) → Made (code c t) (marks c t) (followed_by (expression_piece (at_line line (scope c t)) e 0) (plain (bounds_orders t.unit.bounds line lower upper)) q free) q n free last → Close c t n true false next' → At c t q false false (index_work t.unit.bounds e lower upper line next')
    bounded_at e lower upper q n free last next' b made carried =
        let parts = one_made (code c t) (marks c t) (expression_piece (at_line line (scope c t)) e 0) (bounds_orders t.unit.bounds line lower upper) q n free last made in
        subst (λ k'. At c t q false false k') (index_is t.unit.bounds e lower upper line next')
        (index_at e q parts.0 free parts.1 (compared_work t.unit.bounds lower upper line next') b parts.2 (compared_at t.unit.bounds lower upper parts.0 n next' parts.3 carried))

  -- the work of an index begins with its expression
  index_size : (compared : Bool) (e : Expr) (lower upper : ℤ) (line : ℕ) (k : Work) → work_size c (index_work compared e lower upper line k) ≡ expression_size e
  index_size true e lower upper line k = refl
  index_size false e lower upper line k = refl

  pub addresses : (a : Ref) (x : Spot-F Arg Cond Expr Spot Ref) (line : ℕ) (k : Work) (w : Words) → out-Spot (out-Ref a).at ≡ x → next c t (Address a line k) w ≡ address_step (source c) t.unit.bounds (out-Ref a).at x t.segment line k t.acts w
  addresses a x line k w is =
      ap (λ v. address_step (source c) (compares_in (source c) v) (out-Ref a).at (out-Spot (out-Ref a).at) t.segment line k t.acts w) t.unit_is
      ∙ ap (λ z. address_step (source c) t.unit.bounds (out-Ref a).at z t.segment line k t.acts w) is

  pub addressed : (a : Ref) (x : Spot-F Arg Cond Expr Spot Ref) (line : ℕ) (k : Work) (q n free last : ℕ) (w : Words) → out-Spot (out-Ref a).at ≡ x → IsTrue (built_spot_layer t.unit (has_words c t) x) → Made (code c t) (marks c t) (indexed_layer (at_line line (scope c t)) x q free) q n free last → Leads_to c t n true true k → Facts c t (Address a line k) w → Steps c t (Address a line k) q false w
  addressed a (layer.Direct i) line k q n free last w is b made carried facts =
      let parts = one_made (code c t) (marks c t) (plain []) (item_order (layout c t) i 0 ∷ []) q n free last made in
      let stands = subst (λ z. Stands (code c t) z (item_order (layout c t) i 0 ∷ []) n) (sym parts.2.0) parts.3 in
      let at = address_at (source c) t.segment t.acts i in
      done_by c t (Address a line k) k line q n false true (item_order (layout c t) i 0 ∷ []) w true (Changed (put (pos at) w)) stands (form_light (layout c t) line t.unit.bounds (layer.Direct i)) facts
      (addresses a (layer.Direct i) line k w is)
      (λ ok. behind_item (target c) (here_in c t) t.calls_below (source c) t.segment t.acts (layout c t) (has_words c t) t.in_words t.stand i 1 [] w b (let z : 0 < 1 = omega arith in z))
      (λ v e. subst (λ z. Ready c.limits.area true z.operands) (same_change (put (pos at) w) v e) (at, w.operands, refl, (let inside = t.stand.within i 0 1 b (omega arith) in let z : at < c.limits.area = omega (arith, inside) in z)))
      carried
  addressed a (layer.Through i) line k q n free last w is b made carried facts =
      let x : Spot-F Arg Cond Expr Spot Ref = layer.Through i in
      let parts = one_made (code c t) (marks c t) (plain []) (form_orders (layout c t) t.unit.bounds line x) q n free last made in
      let stands = subst (λ z. Stands (code c t) z (form_orders (layout c t) t.unit.bounds line x) n) (sym parts.2.0) parts.3 in
      becomes c t (Address a line k) (FormAt (out-Ref a).at line k) q false w (addresses a (layer.Through i) line k w is) (form_at a x line k w is b q n stands carried)
      (let z : 0 < reference_size a = omega (arith, size_is a x line k w is b) in z)
  addressed a (layer.One i lower upper e) line k q n free last w is b made carried facts =
      let x : Spot-F Arg Cond Expr Spot Ref = layer.One i lower upper e in
      let parts = one_made (code c t) (marks c t) (followed_by (expression_piece (at_line line (scope c t)) e 0) (plain (bounds_orders t.unit.bounds line lower upper))) (form_orders (layout c t) t.unit.bounds line x) q n free last made in
      becomes c t (Address a line k) (index_work t.unit.bounds e lower upper line (FormAt (out-Ref a).at line k)) q false w (addresses a (layer.One i lower upper e) line k w is)
      (bounded_at a x line k w is b e lower upper q parts.0 free parts.1 (FormAt (out-Ref a).at line k) (both (has_words c t i 1) (whole (built_value t.unit (has_words c t) e) 0) b).1 parts.2 (at_close c t parts.0 true false (FormAt (out-Ref a).at line k) (form_at a x line k w is b parts.0 n parts.3 carried)))
      (let z : work_size c (index_work t.unit.bounds e lower upper line (FormAt (out-Ref a).at line k)) < reference_size a = omega (arith, size_is a x line k w is b, index_size t.unit.bounds e lower upper line (FormAt (out-Ref a).at line k)) in z)
  addressed a (layer.Two i l1 u1 l2 u2 m e f) line k q n free last w is b made carried facts =
      let x : Spot-F Arg Cond Expr Spot Ref = layer.Two i l1 u1 l2 u2 m e f in
      let first = followed_by (expression_piece (at_line line (scope c t)) e 0) (plain (bounds_orders t.unit.bounds line l1 u1)) in
      let second = followed_by (expression_piece (at_line line (scope c t)) f 0) (plain (bounds_orders t.unit.bounds line l2 u2)) in
      let parts = one_made (code c t) (marks c t) (followed_by first (followed_by saved second)) (form_orders (layout c t) t.unit.bounds line x) q n free last made in
      let two = saved_made (code c t) (marks c t) first second q parts.0 free parts.1 parts.2 in
      let hs = both (whole (built_value t.unit (has_words c t) e) 0) (whole (built_value t.unit (has_words c t) f) 0) (both (has_words c t i 1) (whole (built_value t.unit (has_words c t) e) 0 && whole (built_value t.unit (has_words c t) f) 0) b).1 in
      let form = FormAt (out-Ref a).at line k in
      becomes c t (Address a line k) (index_work t.unit.bounds e l1 u1 line (index_work t.unit.bounds f l2 u2 line form)) q false w (addresses a x line k w is)
      (bounded_at a x line k w is b e l1 u1 q two.0 free two.1 (index_work t.unit.bounds f l2 u2 line form) hs.0 two.2
      (past_save c t 0 two.0 false (index_work t.unit.bounds f l2 u2 line form) two.3
      (at_close c t (two.0 + 1) false false (index_work t.unit.bounds f l2 u2 line form)
      (bounded_at a x line k w is b f l2 u2 (two.0 + 1) parts.0 two.1 parts.1 form hs.1 two.4 (at_close c t parts.0 true false form (form_at a x line k w is b parts.0 n parts.3 carried))))))
      (let z : work_size c (index_work t.unit.bounds e l1 u1 line (index_work t.unit.bounds f l2 u2 line form)) < reference_size a = omega (arith, size_is a x line k w is b, index_size t.unit.bounds e l1 u1 line (index_work t.unit.bounds f l2 u2 line form)) in z)
  addressed a (layer.ParamArray i e) line k q n free last w is b made carried facts =
      let x : Spot-F Arg Cond Expr Spot Ref = layer.ParamArray i e in
      let parts = one_made (code c t) (marks c t) (expression_piece (at_line line (scope c t)) e 0) (form_orders (layout c t) t.unit.bounds line x) q n free last made in
      becomes c t (Address a line k) (Eval e 0 line (FormAt (out-Ref a).at line k)) q false w (addresses a (layer.ParamArray i e) line k w is)
      (index_at a x line k w is b e q parts.0 free parts.1 (FormAt (out-Ref a).at line k) (both (has_words c t i 1) (whole (built_value t.unit (has_words c t) e) 0) b).1 parts.2 (at_close c t parts.0 true false (FormAt (out-Ref a).at line k) (form_at a x line k w is b parts.0 n parts.3 carried)))
      (let z : expression_size e < reference_size a = omega (arith, size_is a x line k w is b) in z)
  addressed a (layer.Word i tb m e) line k q n free last w is b made carried facts =
      let x : Spot-F Arg Cond Expr Spot Ref = layer.Word i tb m e in
      let parts = one_made (code c t) (marks c t) (followed_by (expression_piece (at_line line (scope c t)) e 0) (plain (bounds_orders t.unit.bounds line (pos 0) (pos m -ℤ pos 1)))) (form_orders (layout c t) t.unit.bounds line x) q n free last made in
      becomes c t (Address a line k) (index_work t.unit.bounds e (pos 0) (pos m -ℤ pos 1) line (FormAt (out-Ref a).at line k)) q false w (addresses a (layer.Word i tb m e) line k w is)
      (bounded_at a x line k w is b e (pos 0) (pos m -ℤ pos 1) q parts.0 free parts.1 (FormAt (out-Ref a).at line k) (both (has_words c t i 1) (whole (built_value t.unit (has_words c t) e) 0) b).1 parts.2 (at_close c t parts.0 true false (FormAt (out-Ref a).at line k) (form_at a x line k w is b parts.0 n parts.3 carried)))
      (let z : work_size c (index_work t.unit.bounds e (pos 0) (pos m -ℤ pos 1) line (FormAt (out-Ref a).at line k)) < reference_size a = omega (arith, size_is a x line k w is b, index_size t.unit.bounds e (pos 0) (pos m -ℤ pos 1) line (FormAt (out-Ref a).at line k)) in z)
  addressed a (layer.Elem i tb m entries place e) line k q n free last w is b made carried facts =
      let x : Spot-F Arg Cond Expr Spot Ref = layer.Elem i tb m entries place e in
      let parts = one_made (code c t) (marks c t) (followed_by (expression_piece (at_line line (scope c t)) e 0) (plain (bounds_orders t.unit.bounds line (pos 0) (pos entries -ℤ pos 1)))) (form_orders (layout c t) t.unit.bounds line x) q n free last made in
      becomes c t (Address a line k) (index_work t.unit.bounds e (pos 0) (pos entries -ℤ pos 1) line (FormAt (out-Ref a).at line k)) q false w (addresses a (layer.Elem i tb m entries place e) line k w is)
      (bounded_at a x line k w is b e (pos 0) (pos entries -ℤ pos 1) q parts.0 free parts.1 (FormAt (out-Ref a).at line k) (both (has_words c t i 1) (whole (built_value t.unit (has_words c t) e) 0) b).1 parts.2 (at_close c t parts.0 true false (FormAt (out-Ref a).at line k) (form_at a x line k w is b parts.0 n parts.3 carried)))
      (let z : work_size c (index_work t.unit.bounds e (pos 0) (pos entries -ℤ pos 1) line (FormAt (out-Ref a).at line k)) < reference_size a = omega (arith, size_is a x line k w is b, index_size t.unit.bounds e (pos 0) (pos entries -ℤ pos 1) line (FormAt (out-Ref a).at line k)) in z)
  addressed a (layer.Bare e) line k q n free last w is b made carried facts =
      let x : Spot-F Arg Cond Expr Spot Ref = layer.Bare e in
      let parts = one_made (code c t) (marks c t) (expression_piece (at_line line (scope c t)) e 0) (form_orders (layout c t) t.unit.bounds line x) q n free last made in
      becomes c t (Address a line k) (Eval e 0 line (FormAt (out-Ref a).at line k)) q false w (addresses a (layer.Bare e) line k w is)
      (index_at a x line k w is b e q parts.0 free parts.1 (FormAt (out-Ref a).at line k) b parts.2 (at_close c t parts.0 true false (FormAt (out-Ref a).at line k) (form_at a x line k w is b parts.0 n parts.3 carried)))
      (let z : expression_size e < reference_size a = omega (arith, size_is a x line k w is b) in z)

  pub built_spot : (a : Ref) → IsTrue (built_reference t.unit (has_words c t) a).good → IsTrue (built_spot_layer t.unit (has_words c t) (out-Spot (out-Ref a).at))
  built_spot a b = sym (ap (λ r. r.good) (reference-built t.unit (has_words c t) a) ∙ spot-built t.unit (has_words c t) (out-Ref a).at) ∙ b

  -- as the relation has it, where the word is not known
  pub address_follows : (a : Ref) (line : ℕ) (k : Work) (q n free last : ℕ) (w : Words) → IsTrue (built_reference t.unit (has_words c t) a).good → Made (code c t) (marks c t) (indexed_layer (at_line line (scope c t)) (out-Spot (out-Ref a).at) q free) q n free last → Leads_to c t n true true k → Facts c t (Address a line k) w → Steps c t (Address a line k) q false w
  address_follows a line k q n free last w b made carried facts = addressed a (out-Spot (out-Ref a).at) line k q n free last w refl (built_spot a b) made carried facts
