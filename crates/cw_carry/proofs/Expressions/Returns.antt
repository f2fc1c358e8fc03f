-- The orders follow the source back from procedures.
use Rattle.std.proofs.Common.{◌≡◌, inl, ℕ, ◌+◌, ◌<◌, ◌≤◌, ℤ, pos, List, [], ◌∷◌, Bool, true, false, Some, refl, sym, ap, ap₂, ◌∙◌, subst, arith}
use Rattle.std.specs.Prelude.{slice_get, nat_eq}
use Rattle.std.proofs.lemmas.Bool.{le-leb}
use Rattle.std.proofs.lemmas.Bool.Decides.{nat_tests}
use Rattle.std.proofs.lemmas.Option.{same_Some}
use Rattle.cw_track.proofs.Paths.{Path, stay, next as move, join, weaken}
use Rattle.cw_track.proofs.Watching.{Unnoted}
use Rattle.cw_unit.specs.declared.unit.Unit.{Unit as SourceUnit}
use Rattle.cw_unit.specs.declared.unit.Target.TheVariants as target_of
use Rattle.cw_unit.specs.Stop.{Running}
use Rattle.cw_unit.specs.Words.{Operand, Word, Held, Words, with_operands}
use Rattle.cw_unit.specs.Work.{Work, Return, Leave}
use Rattle.cw_unit.specs.Configuration.{at as configuration, Activation, segment_of}
use Rattle.cw_unit.specs.Step.{handed, come_back}
use Rattle.cw_unit.specs.Behaviour.{Observation, shown}
use Rattle.cw_unit.specs.Begun.{Begun}
use Rattle.cw_order.specs.declared.order.Order.{Order}
use Rattle.cw_order.specs.declared.order.Order.TheVariants as order
use Rattle.cw_order.specs.OrderProgram.{order_at}
use Rattle.cw_order.specs.OrderState.{OrderActivation, OrderState, at as state, operand_words, stack_words}
use Rattle.cw_order.specs.OrderCosts.{weight_at}
use Rattle.cw_order.specs.OrderMachine.{go_on, carry_out, return_with}
use Rattle.cw_order.specs.Starting.{started_by}
use Rattle.cw_gen_expr.specs.ReferenceExpressions.{argument_words}
use Rattle.cw_carry.proofs.Expressions.Standing.{Stands}
use Rattle.cw_carry.proofs.Expressions.Carried.{after_call, going}
use Rattle.cw_gen_expr.specs.ReferenceEntries.{parameters_of}
use Rattle.cw_carry.proofs.Expressions.Stepping.{Quiet, Compiled, target, A, B, AllCalls, Belong, Goes, IsSane, order_here, walk, within_levels}

same_number : (m n : ℕ) → m ≡ n → nat_eq m n ≡ true
same_number m n e = grind (arith, nat_tests)

module _ (c : Compiled) (s : ℕ) (a : Activation) (acts : List Activation) (b : OrderActivation) (bs : List OrderActivation) (u : SourceUnit) (unit_is : slice_get c.units a.segment ≡ Some u) (calls : AllCalls c s (a ∷ acts) (b ∷ bs)) (w : Words) where
  abbrev code : List Order
  code = (c.orders_for u).list

  -- all states on the way show the same, and no statement begins
  abbrev Same : Observation × List Begun → Type 0
  Same = Unnoted (λ o. o ≡ record { output = w.output; end = Running })

  words_are : operand_words b.arguments ≡ argument_words (parameters_of u (Some a.procedure))
  words_are =
      calls.0.words ∙ ap (λ v. argument_words (parameters_of v (Some a.procedure))) (same_Some calls.0.callee u (sym calls.0.callee_is ∙ unit_is))

  -- back in the caller, with the answer
  abbrev Back : ℤ → OrderState
  Back z = state (segment_of s acts) b.place true bs (with_operands w (Word z ∷ a.operands)) Running

  returned : (p : ℕ) (z : ℤ) (rest : List Operand) → slice_get code p ≡ Some (order.Return (argument_words (parameters_of u (Some a.procedure))) true) → Path Same (B c) 12 (state a.segment p true (b ∷ bs) (with_operands w (Word z ∷ rest)) Running) (Back z)
  returned p z rest h =
      let n = argument_words (parameters_of u (Some a.procedure)) in
      let v = with_operands w (Word z ∷ rest) in
      let at_p = order_here c s (a ∷ acts) (b ∷ bs) u unit_is p (order.Return n true) h in
      move (refl, ap (λ x. started_by x a.segment v) at_p)
      (ap (λ x. carry_out (target c) x a.segment p true (b ∷ bs) v) at_p
      ∙ ap (λ t. return_with t true (Word z ∷ rest) b a.segment p true bs v) (same_number (operand_words b.arguments) n words_are)
      ∙ ap₂ (λ x y. state x b.place true bs (with_operands w (Word z ∷ y)) Running) calls.0.segment calls.0.operands)
      (let e : 12 ≡ weight_at (order_at (target c) a.segment p) + 0 = omega (arith, ap weight_at at_p) in e)
      (stay refl refl)

  -- a statement drops it
  dropped : (wanted : Bool) (z : ℤ) (n : ℕ) → Stands (c.orders_for calls.0.unit).list b.place (after_call (target_of.Own 0) wanted) n → stack_words a.operands bs ≤ c.room → (j : ℕ) × (j ≤ 1) × Path Same (B c) j (Back z) (state (segment_of s acts) n wanted bs (with_operands w (handed wanted z a.operands)) Running)
  dropped true z n stands fits = (0, omega arith, stay (ap (λ x. state (segment_of s acts) x true bs (with_operands w (Word z ∷ a.operands)) Running) stands) refl)
  dropped false z n stands fits =
      let at_q = order_here c s acts bs calls.0.unit calls.0.unit_is b.place order.Drop stands.0 in
      let v = with_operands w (Word z ∷ a.operands) in (
        1,
        omega arith,
        move (refl, ap (λ x. started_by x (segment_of s acts) v) at_q)
            (ap (λ x. carry_out (target c) x (segment_of s acts) b.place true bs v) at_q
            ∙ ap (λ t. go_on t (segment_of s acts) b.place false bs v (with_operands w a.operands)) (le-leb (stack_words a.operands bs) c.room fits)
            ∙ ap (λ x. state (segment_of s acts) x false bs (with_operands w a.operands) Running) stands.1)
            (let e : 1 ≡ weight_at (order_at (target c) (segment_of s acts) b.place) + 0 = omega (arith, ap weight_at at_q) in e)
            (stay refl refl),
      )

  comes_back : (now : Work) (q p : ℕ) (l : Bool) (z : ℤ) (rest : List Operand) (n0 : ℕ) → n0 ≤ 2 → Path Same (B c) n0 (state a.segment q l (b ∷ bs) w Running) (state a.segment p true (b ∷ bs) (with_operands w (Word z ∷ rest)) Running) → slice_get code p ≡ Some (order.Return (argument_words (parameters_of u (Some a.procedure))) true) → (A c).step (configuration s now (a ∷ acts) w Running) ≡ configuration s a.work acts (with_operands w (handed a.wanted z a.operands)) Running → 24 + stack_words w.operands (b ∷ bs) ≤ c.room → Goes c (configuration s now (a ∷ acts) w Running) (state a.segment q l (b ∷ bs) w Running)
  comes_back now q p l z rest n0 few path h e room =
      let fits : stack_words a.operands bs ≤ c.room = omega (arith, room, ap (λ xs. stack_words xs bs) calls.0.operands) in
      let drop_it = dropped a.wanted z calls.0.next calls.0.drops fits in
      let v = with_operands w (handed a.wanted z a.operands) in
      let on = walk c s acts bs calls.0.unit calls.0.unit_is 64 calls.0.next a.wanted calls.0.carried.0 calls.0.carried.1 v calls.0.carried.2 in
      let few_on = within_levels c s acts bs calls.0.unit calls.0.unit_is on.0 a.wanted on.1 in
      let u0 = state a.segment q l (b ∷ bs) w Running in
      let u1 = state a.segment p true (b ∷ bs) (with_operands w (Word z ∷ rest)) Running in
      let u2 = Back z in
      let u3 = state (segment_of s acts) calls.0.next a.wanted bs v Running in
      let u4 = state (segment_of s acts) calls.0.carried.0 calls.0.carried.1 bs v Running in
      let all = join Same (B c) n0 (12 + (drop_it.0 + on.0)) (n0 + (12 + (drop_it.0 + on.0))) u0 u1 u4 refl path
      (join Same (B c) 12 (drop_it.0 + on.0) (12 + (drop_it.0 + on.0)) u1 u2 u4 refl (returned p z rest h)
      (join Same (B c) drop_it.0 on.0 (drop_it.0 + on.0) u2 u3 u4 refl drop_it.2 on.2)) in
      record {
        spent = n0 + (12 + (drop_it.0 + on.0));
        reached = u4;
        path = weaken Same (Quiet (shown (configuration s now (a ∷ acts) w Running)) (shown ((A c).step (configuration s now (a ∷ acts) w Running)))) (B c) (n0 + (12 + (drop_it.0 + on.0))) u0 u4 (λ x y. (inl y.0, y.1)) all;
        within = (let x : n0 + (12 + (drop_it.0 + on.0)) ≤ 224 = omega (arith, few, drop_it.1, few_on) in x);
        belongs = subst (λ d. Belong c d u4) (sym e) (going calls.0.unit calls.0.unit_is false tt calls.0.carried.3 calls.1);
        progress = inl (let x : 0 < n0 + (12 + (drop_it.0 + on.0)) = omega arith in x);
      }

  pub return_follows : (q : ℕ) (hand : List Operand) → w.operands ≡ hand → slice_get code q ≡ Some (order.Return (argument_words (parameters_of u (Some a.procedure))) true) → 24 + stack_words w.operands (b ∷ bs) ≤ c.room → IsSane ((A c).step (configuration s Return (a ∷ acts) w Running)) → Goes c (configuration s Return (a ∷ acts) w Running) (state a.segment q true (b ∷ bs) w Running)
  return_follows q [] is h room sane = absurd (subst (λ x. IsSane (Rattle.cw_unit.specs.Step.come_back_with x s Return (a ∷ acts) w)) is sane)
  return_follows q (Held x ∷ rest) is h room sane = absurd (subst (λ x. IsSane (Rattle.cw_unit.specs.Step.come_back_with x s Return (a ∷ acts) w)) is sane)
  return_follows q (Word z ∷ rest) is h room sane =
      comes_back Return q q true z rest 0 (omega arith) (stay (ap (λ x. state a.segment q true (b ∷ bs) (with_operands w x) Running) is) refl) h
      (ap (λ x. Rattle.cw_unit.specs.Step.come_back_with x s Return (a ∷ acts) w) is) room

  pub leave_follows : (q : ℕ) → slice_get code q ≡ Some (order.Const 0) → slice_get code (q + 1) ≡ Some (order.Return (argument_words (parameters_of u (Some a.procedure))) true) → 24 + stack_words w.operands (b ∷ bs) ≤ c.room → Goes c (configuration s Leave (a ∷ acts) w Running) (state a.segment q false (b ∷ bs) w Running)
  leave_follows q zero_at h room =
      let at_q = order_here c s (a ∷ acts) (b ∷ bs) u unit_is q (order.Const 0) zero_at in
      let v = with_operands w (Word (pos 0) ∷ w.operands) in
      let fits : stack_words (Word (pos 0) ∷ w.operands) (b ∷ bs) ≤ c.room = omega (arith, room) in
      comes_back Leave q (q + 1) false (pos 0) w.operands 2 (omega arith)
      (move (refl, ap (λ x. started_by x a.segment w) at_q) (ap (λ x. carry_out (target c) x a.segment q false (b ∷ bs) w) at_q ∙ ap (λ t. go_on t a.segment q true (b ∷ bs) w v) (le-leb (stack_words (Word (pos 0) ∷ w.operands) (b ∷ bs)) c.room fits))
      (let e : 2 ≡ weight_at (order_at (target c) a.segment q) + 0 = omega (arith, ap weight_at at_q) in e) (stay refl refl))
      h refl room
