-- The orders follow the source through arguments, words that are kept, input and output.
use Rattle.std.proofs.Common.{◌≡◌, ℕ, suc, ◌+◌, ◌<◌, ◌≤◌, ℤ, pos, ◌-ℤ◌, List, [], ◌∷◌, ◌++◌, length, drop, Bool, true, false, Option, Some, None, refl, sym, ap, ap₂, ◌∙◌, subst, arith}
use Rattle.std.specs.Prelude.{slice_get, IsTrue, option_map}
use Rattle.std.proofs.lemmas.Bool.{le-leb}
use Rattle.std.proofs.lemmas.Option.{same_Some, slice_get-map}
use Rattle.cw_word.specs.FixedPoint.{fits_word}
use Rattle.cw_unit.specs.declared.unit.Unit.{Unit as SourceUnit}
use Rattle.cw_unit.specs.declared.unit.Goal.TheVariants as goal
use Rattle.cw_unit.specs.declared.unit.Target.TheVariants as target_of
use Rattle.cw_unit.specs.declared.unit.Arg.{Arg, out-Arg}
use Rattle.cw_unit.specs.declared.unit.Cond.{Cond}
use Rattle.cw_unit.specs.declared.unit.Expr.{Expr}
use Rattle.cw_unit.specs.declared.unit.Spot.{Spot}
use Rattle.cw_unit.specs.declared.unit.Ref.{Ref}
use Rattle.cw_unit.specs.declared.unit.Arg.TheOpen as layer
use Rattle.cw_unit.specs.declared.unit.Arg.TheOpen.{Arg-F}
use Rattle.cw_unit.specs.Program.{definition_of, definition_for}
use Rattle.cw_unit.specs.Stop.{AddressRange}
use Rattle.cw_unit.specs.Words.{Control, LabelControl, SwitchControl, ProcedureControl, Operand, Word, Held, Words, Changed, put, put_if, word_at, byte_of}
use Rattle.cw_unit.specs.Operation.{Keep, SetVariable, ReadByte, perform}
use Rattle.cw_unit.specs.Work.{Work, Eval, Address, Give, Enter, KeepAt, SetVar, Loop}
use Rattle.cw_unit.specs.Configuration.{Activation, segment_of, control_at, address_at}
use Rattle.cw_unit.specs.Step.{after as source_after, give_step, held, label_of_def, switch_of_def, procedure_of_def, with_label_owner, with_switch_owner, as_procedure}
use Rattle.cw_order.specs.declared.order.Order.{Order}
use Rattle.cw_order.specs.declared.order.Order.TheVariants as order
use Rattle.cw_order.specs.OrderProgram.{defined_at, defined_in}
use Rattle.cw_order.specs.OrderState.{OrderActivation, stack_words, control_in, control_at as order_control}
use Rattle.cw_order.specs.OrderActions.{common_label, common_switch, common_procedure}
use Rattle.cw_order.specs.OrderMachine.{go_on, unrefused}
use Rattle.cw_order.specs.OrderCosts.{weight_of}
use Rattle.cw_gen_expr.specs.ReferenceExpressions.{at_line, control_place, item_order, expression_piece, reference_of, argument_piece}
use Rattle.cw_gen_expr.specs.BuiltExpressions.{is_argument}
use Rattle.cw_gen_expr.specs.UnitTables.{tables_of}
use Rattle.cw_gen_expr.proofs.Layers.{argument_layer, argument-made, built_argument_layer, argument-built, argument_size, argument-size, argument_size_layer, expression_size, reference_size}
use Rattle.cw_carry.proofs.Expressions.Standing.{Stands, Made, one_made}
use Rattle.cw_carry.proofs.Expressions.Effects.{is_silent, through_all}
use Rattle.cw_carry.proofs.Expressions.Carried.{keep_orders, set_orders, after_call, who_of}
use Rattle.cw_gen_expr.specs.ReferenceEntries.{parameters_of}
use Rattle.cw_carry.proofs.Expressions.Operations.{plain_held, then_changed, behind_item, behind_load, keeps, sets}
use Rattle.cw_carry.proofs.Expressions.Stepping.{Compiled, source, target, AllCalls, IsSane}
use Rattle.cw_carry.proofs.Expressions.Moments.{IsLight, light_order, silent_and, item_light, item_silent, item_loads, item_tells, Moment, here_in, layout, scope, has_words, code, marks, Leads_to, Close, close_to, past_save, Steps, next, run, Facts, becomes, done_by, acts_once}
use Rattle.cw_carry.proofs.Expressions.Addresses.{item_and, with_save}

-- ---- what calls have in common

module _ (c : Compiled) where
  pub same_length : (s : ℕ) (acts : List Activation) (bs : List OrderActivation) → AllCalls c s acts bs → length acts ≡ length bs
  same_length s [] [] calls = refl
  same_length s [] (b ∷ bs) calls = absurd calls
  same_length s (a ∷ acts) [] calls = absurd calls
  same_length s (a ∷ acts) (b ∷ bs) calls = ap suc (same_length s acts bs calls.1)

  -- a control parameter of the procedure at work
  pub control_is : (s : ℕ) (acts : List Activation) (bs : List OrderActivation) (u : SourceUnit) → slice_get c.units (segment_of s acts) ≡ Some u → AllCalls c s acts bs → (k : ℕ) (x : Control) → control_at acts k ≡ Some x → order_control bs (control_place (parameters_of u (who_of acts)) k) ≡ Some x
  control_is s [] bs u is calls k x h = absurd (Rattle.std.proofs.lemmas.Option.none-some x h)
  control_is s (a ∷ acts) [] u is calls k x h = absurd calls
  control_is s (a ∷ acts) (b ∷ bs) u is calls k x h =
      let callee : calls.0.callee ≡ u = same_Some calls.0.callee u (sym calls.0.callee_is ∙ is) in
      subst (λ v. order_control (b ∷ bs) (control_place (parameters_of v (Some a.procedure)) k) ≡ Some x) callee (ap control_in (calls.0.controls k x h))

  module _ (t : Moment c) where
    lengths : length t.acts ≡ length t.calls_below
    lengths = same_length t.segment t.acts t.calls_below t.calls

    pub defined_is : (d : ℕ) → defined_at (target c) (here_in c t) d ≡ definition_of (source c) (here_in c t) d
    defined_is d =
        ap (λ v. defined_in v d) (slice_get-map (tables_of c.units) c.units (here_in c t) ∙ ap (option_map (tables_of c.units)) t.unit_is)
        ∙ sym (ap (λ v. definition_for (source c) v d) t.unit_is)

    -- a control argument
    held_by : (now k : Work) (line q n : ℕ) (o : Order) (x : Option Control) (w : Words) → Stands (code c t) q (o ∷ []) n → IsLight line false false (o ∷ []) → Facts c t now w → next c t now w ≡ source_after (held x w) t.segment line now k t.acts w → ((y : Control) → x ≡ Some y → run c t (o ∷ []) w ≡ held (Some y) w) → ((r : Bool) → Close c t n false r k) → Steps c t now q false w
    held_by now k line q n o None w stands light facts e runs carried = absurd (subst IsSane e facts.sane)
    held_by now k line q n o (Some y) w stands light facts e runs carried =
        done_by c t now k line q n false false (o ∷ []) w false (held (Some y) w) stands light facts e (λ ok. runs y refl) (λ v h. tt) (close_to c t n false false k (carried false))

    some_word : 0 < 1
    some_word = omega arith

    given : (a : Arg) (x : Arg-F Arg Cond Expr Spot Ref) (line : ℕ) (k : Work) (q n free last : ℕ) (w : Words) → out-Arg a ≡ x → IsTrue (built_argument_layer t.unit (has_words c t) x) → Made (code c t) (marks c t) (argument_layer (at_line line (scope c t)) x q free) q n free last → ((r : Bool) → Close c t n false r k) → Facts c t (Give a line k) w → Steps c t (Give a line k) q false w
    given a (layer.Value e f) line k q n free last w is b made carried facts =
        let parts = one_made (code c t) (marks c t) (expression_piece (at_line line (scope c t)) e f) (order.Save ∷ []) q n free last made in
        becomes c t (Give a line k) (Eval e f line k) q false w (ap (λ x. give_step (source c) x t.segment line (Give a line k) k t.acts w) is)
        (parts.0, 64, 0, free, parts.1, b, parts.2, (let z : 0 + 64 ≤ 64 = omega arith in z), refl, past_save c t 0 parts.0 false k parts.3.0 (subst (λ x. Close c t x false false k) (sym parts.3.1) (carried false)))
        (let z : expression_size e < argument_size a = omega (arith, argument-size a ∙ ap argument_size_layer is) in z)
    given a (layer.Place r) line k q n free last w is b made carried facts =
        let parts = one_made (code c t) (marks c t) (reference_of (at_line line (scope c t)) r).address (order.Save ∷ []) q n free last made in
        becomes c t (Give a line k) (Address r line k) q false w (ap (λ x. give_step (source c) x t.segment line (Give a line k) k t.acts w) is)
        (parts.0, free, parts.1, b, parts.2, refl, close_to c t parts.0 true true k (past_save c t 0 parts.0 true k parts.3.0 (subst (λ x. Close c t x false true k) (sym parts.3.1) (carried true))))
        (let z : reference_size r < argument_size a = omega (arith, argument-size a ∙ ap argument_size_layer is) in z)
    given a (layer.Array i lower) line k q n free last w is b made carried facts =
        let at = address_at (source c) t.segment t.acts i in
        done_by c t (Give a line k) k line q n false false (item_order (layout c t) i 0 ∷ order.IndexLess lower line ∷ order.Save ∷ []) w false (put_if (fits_word (pos at -ℤ lower)) AddressRange (pos at -ℤ lower) w) made.0
        (item_and (layout c t) line false i (order.IndexLess lower line ∷ order.Save ∷ []) refl (omega arith) (omega arith) (refl, (tt, tt)) refl) facts
        (ap (λ x. give_step (source c) x t.segment line (Give a line k) k t.acts w) is)
        (λ ok. behind_item (target c) (here_in c t) t.calls_below (source c) t.segment t.acts (layout c t) (has_words c t) t.in_words t.stand i 1 (order.IndexLess lower line ∷ order.Save ∷ []) w b some_word ∙ then_changed (put_if (fits_word (pos at -ℤ lower)) AddressRange (pos at -ℤ lower) w))
        (λ v h. tt) (close_to c t n false false k (carried false))
    given a (layer.Same i) line k q n free last w is b made carried facts =
        let at = address_at (source c) t.segment t.acts i in
        done_by c t (Give a line k) k line q n false false (item_order (layout c t) i 0 ∷ order.Load ∷ order.Save ∷ []) w false (Changed (put (word_at w.memory at) w)) made.0
        (item_and (layout c t) line false i (order.Load ∷ order.Save ∷ []) refl (omega arith) (omega arith) (tt, (tt, tt)) refl) facts
        (ap (λ x. give_step (source c) x t.segment line (Give a line k) k t.acts w) is)
        (λ ok. behind_item (target c) (here_in c t) t.calls_below (source c) t.segment t.acts (layout c t) (has_words c t) t.in_words t.stand i 1 (order.Load ∷ order.Save ∷ []) w b some_word ∙ behind_load (target c) (here_in c t) t.calls_below (source c) t.segment t.acts (layout c t) (has_words c t) t.in_words t.stand at (order.Save ∷ []) w.operands w.memory w.input w.output (let inside = t.stand.within i 0 1 b some_word in let z : at < c.limits.area = omega (arith, inside) in z))
        (λ v h. tt) (close_to c t n false false k (carried false))
    given a (layer.Base i) line k q n free last w is b made carried facts =
        let at = address_at (source c) t.segment t.acts i in
        done_by c t (Give a line k) k line q n false false (item_order (layout c t) i 0 ∷ order.Save ∷ []) w false (Changed (put (pos at) w)) made.0
        (item_and (layout c t) line false i (order.Save ∷ []) refl (omega arith) (omega arith) (tt, tt) refl) facts
        (ap (λ x. give_step (source c) x t.segment line (Give a line k) k t.acts w) is)
        (λ ok. behind_item (target c) (here_in c t) t.calls_below (source c) t.segment t.acts (layout c t) (has_words c t) t.in_words t.stand i 1 (order.Save ∷ []) w b some_word)
        (λ v h. tt) (close_to c t n false false k (carried false))
    given a (layer.Goal (goal.Own label)) line k q n free last w is b made carried facts =
        held_by (Give a line k) k line q n (order.LabelOut label) (Some (LabelControl (here_in c t) label (length t.acts))) w made.0 (light_order line false false (order.LabelOut label) refl (omega arith) (omega arith) tt refl) facts
        (ap (λ x. give_step (source c) x t.segment line (Give a line k) k t.acts w) is)
        (λ y h. ap (λ m. held (Some (LabelControl (here_in c t) label m)) w) (sym lengths) ∙ ap (λ z. held z w) h)
        carried
    given a (layer.Goal (goal.Common d)) line k q n free last w is b made carried facts =
        held_by (Give a line k) k line q n (order.LabelCommon d) (with_label_owner (length t.acts) (label_of_def (definition_of (source c) (here_in c t) d))) w made.0 (light_order line false false (order.LabelCommon d) refl (omega arith) (omega arith) tt refl) facts
        (ap (λ x. give_step (source c) x t.segment line (Give a line k) k t.acts w) is)
        (λ y h. then_changed (unrefused (held (common_label (target c) (here_in c t) (length t.calls_below) d) w)) ∙ plain_held (common_label (target c) (here_in c t) (length t.calls_below) d) w ∙ ap₂ (λ m z. held (with_label_owner m (label_of_def z)) w) (sym lengths) (defined_is d) ∙ ap (λ z. held z w) h)
        carried
    given a (layer.Switch m) line k q n free last w is b made carried facts =
        held_by (Give a line k) k line q n (order.SwitchOut m) (Some (SwitchControl (here_in c t) m (length t.acts))) w made.0 (light_order line false false (order.SwitchOut m) refl (omega arith) (omega arith) tt refl) facts
        (ap (λ x. give_step (source c) x t.segment line (Give a line k) k t.acts w) is)
        (λ y h. ap (λ z. held (Some (SwitchControl (here_in c t) m z)) w) (sym lengths) ∙ ap (λ z. held z w) h)
        carried
    given a (layer.CommonSwitch d) line k q n free last w is b made carried facts =
        held_by (Give a line k) k line q n (order.SwitchCommon d) (with_switch_owner (length t.acts) (switch_of_def (definition_of (source c) (here_in c t) d))) w made.0 (light_order line false false (order.SwitchCommon d) refl (omega arith) (omega arith) tt refl) facts
        (ap (λ x. give_step (source c) x t.segment line (Give a line k) k t.acts w) is)
        (λ y h. then_changed (unrefused (held (common_switch (target c) (here_in c t) (length t.calls_below) d) w)) ∙ plain_held (common_switch (target c) (here_in c t) (length t.calls_below) d) w ∙ ap₂ (λ m z. held (with_switch_owner m (switch_of_def z)) w) (sym lengths) (defined_is d) ∙ ap (λ z. held z w) h)
        carried
    given a (layer.Proc p) line k q n free last w is b made carried facts =
        held_by (Give a line k) k line q n (order.ProcOut p) (Some (ProcedureControl (here_in c t) p)) w made.0 (light_order line false false (order.ProcOut p) refl (omega arith) (omega arith) tt refl) facts
        (ap (λ x. give_step (source c) x t.segment line (Give a line k) k t.acts w) is)
        (λ y h. ap (λ z. held z w) h)
        carried
    given a (layer.CommonProc d) line k q n free last w is b made carried facts =
        held_by (Give a line k) k line q n (order.ProcCommon d) (as_procedure (procedure_of_def (definition_of (source c) (here_in c t) d))) w made.0 (light_order line false false (order.ProcCommon d) refl (omega arith) (omega arith) tt refl) facts
        (ap (λ x. give_step (source c) x t.segment line (Give a line k) k t.acts w) is)
        (λ y h. then_changed (unrefused (held (common_procedure (target c) (here_in c t) d) w)) ∙ plain_held (common_procedure (target c) (here_in c t) d) w ∙ ap (λ z. held (as_procedure (procedure_of_def z)) w) (defined_is d) ∙ ap (λ z. held z w) h)
        carried
    given a (layer.Special m) line k q n free last w is b made carried facts =
        let at = control_place (scope c t).parameters m in
        held_by (Give a line k) k line q n (order.SpecialOut at) (control_at t.acts m) w made.0 (light_order line false false (order.SpecialOut at) refl (omega arith) (omega arith) tt refl) facts
        (ap (λ x. give_step (source c) x t.segment line (Give a line k) k t.acts w) is)
        (λ y h. then_changed (unrefused (held (order_control t.calls_below at) w)) ∙ plain_held (order_control t.calls_below at) w ∙ ap (λ z. held z w) (control_is t.segment t.acts t.calls_below t.unit t.unit_is t.calls m y h))
        carried

    pub argument_follows : (a : Arg) (line : ℕ) (k : Work) (q n free last : ℕ) (w : Words) → IsTrue (is_argument t.unit (has_words c t) a) → Made (code c t) (marks c t) (argument_piece (at_line line (scope c t)) a q free) q n free last → ((r : Bool) → Close c t n false r k) → Facts c t (Give a line k) w → Steps c t (Give a line k) q false w
    argument_follows a line k q n free last w b made carried facts =
        given a (out-Arg a) line k q n free last w refl (sym (argument-built t.unit (has_words c t) a) ∙ b)
        (subst (λ p. Made (code c t) (marks c t) (p q free) q n free last) (argument-made (at_line line (scope c t)) a) made)
        carried facts

    -- ---- the words of a loop

    pub word_kept : (i : ℕ) (x : Loop) (k : Work) (q n : ℕ) (w : Words) → IsTrue (has_words c t x.item 4) → i < 4 → Stands (code c t) q (keep_orders (layout c t) x.item i) n → Leads_to c t n false false k → Facts c t (KeepAt i x k) w → Steps c t (KeepAt i x k) q true w
    word_kept i x k q n w b lt stands carried facts =
        let o = item_order (layout c t) x.item i in
        let light = item_light (layout c t) x.item i in
        done_by c t (KeepAt i x k) k x.line q n true false (keep_orders (layout c t) x.item i) w false (perform c.limits.area (Keep (address_at (source c) t.segment t.acts x.item + i)) w) stands
        (record {
          quiet = silent_and (is_silent o) true (item_silent (layout c t) x.item i) refl;
          light = (let z : 1 + (weight_of o + (8 + 0)) ≤ 159 = omega (arith, light.1) in z);
          some = (let z : 0 < 1 + (weight_of o + (8 + 0)) = omega (arith, light.0) in z);
          short = (let z : 3 ≤ 12 = omega arith in z);
          at = (tt, (item_tells x.line (layout c t) x.item i, (tt, tt)));
          turns = ap (λ y. through_all y (order.Store ∷ [])) (item_loads (layout c t) x.item i);
        })
        facts refl
        (λ ok. keeps (target c) (here_in c t) t.calls_below (source c) t.segment t.acts (layout c t) (has_words c t) t.in_words t.stand x.item i 4 w.operands w.memory w.input w.output b lt ok)
        (λ v h. tt) carried

    pub variable_set : (x : Loop) (k : Work) (q n : ℕ) (w : Words) → IsTrue (has_words c t x.item 4) → Stands (code c t) q (set_orders (layout c t) x.line x.item) n → Leads_to c t n false false k → Facts c t (SetVar x k) w → Steps c t (SetVar x k) q true w
    variable_set x k q n w b stands carried facts =
        let light = item_light (layout c t) x.item 0 in
        done_by c t (SetVar x k) k x.line q n true false (set_orders (layout c t) x.line x.item) w false (perform c.limits.area (SetVariable (address_at (source c) t.segment t.acts x.item)) w) stands
        (with_save (layout c t) x.line false (item_order (layout c t) x.item 0 ∷ order.SetVariable x.line ∷ []) (item_and (layout c t) x.line false x.item (order.SetVariable x.line ∷ []) refl (omega arith) (omega arith) (refl, tt) refl) (let z : weight_of (item_order (layout c t) x.item 0) + (24 + 0) ≤ 150 = omega (arith, light.1) in z) (omega arith))
        facts refl
        (λ ok. sets (target c) (here_in c t) t.calls_below (source c) t.segment t.acts (layout c t) (has_words c t) t.in_words t.stand x.line x.item 4 w.operands w.memory w.input w.output b (omega arith))
        (λ v h. tt) carried

    -- ---- input and output

    pub byte_read : (line : ℕ) (wanted : Bool) (k : Work) (q n : ℕ) (w : Words) → Stands (code c t) q (order.ReadByte ∷ after_call target_of.Read wanted) n → Leads_to c t n wanted false k → Facts c t (Enter target_of.Read line wanted k) w → Steps c t (Enter target_of.Read line wanted k) q false w
    byte_read line true k q n w stands carried facts =
        done_by c t (Enter target_of.Read line true k) k line q n false true (order.ReadByte ∷ []) w false (perform c.limits.area ReadByte w) stands (light_order line false true order.ReadByte refl (omega arith) (omega arith) tt refl) facts refl
        (λ ok. then_changed (perform c.limits.area ReadByte w)) (λ v h. tt) carried
    byte_read line false k q n w stands carried facts =
        done_by c t (Enter target_of.Read line false k) k line q n false false (order.ReadByte ∷ order.Drop ∷ []) w false (Changed (record w { input = drop 1 w.input })) stands
        (record { quiet = refl; light = omega arith; some = omega arith; short = omega arith; at = (tt, (tt, tt)); turns = refl }) facts refl
        (λ ok. dropped w.operands w.memory w.input w.output) (λ v h. tt) carried
      where
        dropped : (hand : List Operand) (memory : List ℤ) (input output : List ℕ) → run c t (order.ReadByte ∷ order.Drop ∷ []) (record { operands = hand; memory = memory; input = input; output = output }) ≡ Changed (record { operands = hand; memory = memory; input = drop 1 input; output = output })
        dropped hand memory [] output = refl
        dropped hand memory (b ∷ input) output = refl

    stack_less : (z : ℤ) (rest : List Operand) (bs : List OrderActivation) → stack_words rest bs ≤ stack_words (Word z ∷ rest) bs
    stack_less z rest [] = let l : stack_words rest [] ≤ stack_words (Word z ∷ rest) [] = omega arith in l
    stack_less z rest (b ∷ bs) = let l : stack_words rest (b ∷ bs) ≤ stack_words (Word z ∷ rest) (b ∷ bs) = omega arith in l

    pub byte_written : (line : ℕ) (wanted : Bool) (k : Work) (q n : ℕ) (hand : List Operand) (memory : List ℤ) (input output : List ℕ) → Stands (code c t) q (order.WriteByte ∷ after_call target_of.Write wanted) n → Leads_to c t n false false k → Facts c t (Enter target_of.Write line wanted k) (record { operands = hand; memory = memory; input = input; output = output }) → Steps c t (Enter target_of.Write line wanted k) q false (record { operands = hand; memory = memory; input = input; output = output })
    byte_written line wanted k q n [] memory input output stands carried facts = absurd facts.sane
    byte_written line wanted k q n (Held x ∷ rest) memory input output stands carried facts = absurd facts.sane
    byte_written line wanted k q n (Word z ∷ rest) memory input output stands carried facts =
        let w : Words = record { operands = Word z ∷ rest; memory = memory; input = input; output = output } in
        let v : Words = record { operands = rest; memory = memory; input = input; output = output ++ byte_of z ∷ [] } in
        let less = stack_less z rest t.calls_below in
        let fits : stack_words rest t.calls_below ≤ c.room = omega (arith, less, facts.room) in
        acts_once c t (Enter target_of.Write line wanted k) k order.WriteByte q (q + 1) false false false w v (λ g x. refl) stands.0 refl (omega arith) (omega arith) refl
        (ap (λ b. go_on b (here_in c t) q false t.calls_below w v) (le-leb (stack_words rest t.calls_below) c.room fits))
        tt
        (subst (λ x. Leads_to c t x false false k) (sym (at_end wanted stands)) carried)
      where
        at_end : (wanted : Bool) → Stands (code c t) q (order.WriteByte ∷ after_call target_of.Write wanted) n → q + 1 ≡ n
        at_end true h = h.1
        at_end false h = h.1
