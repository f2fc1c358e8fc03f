-- The orders follow the source through conditions.
use Rattle.std.proofs.Common.{◌≡◌, ℕ, ◌+◌, ◌<◌, ℤ, pos, negsuc, max, List, [], ◌∷◌, Bool, true, false, Some, refl, sym, ap, ap₂, ◌∙◌, subst, arith}
use Rattle.std.specs.Prelude.{slice_get, not, int_lt, int_le, IsTrue, ◌&&◌}
use Rattle.std.proofs.lemmas.Bool.Decides.{nat_tests}
use Rattle.cw_unit.specs.declared.unit.Arg.{Arg}
use Rattle.cw_unit.specs.declared.unit.Cond.{Cond, out-Cond}
use Rattle.cw_unit.specs.declared.unit.CompareOp.{CompareOp}
use Rattle.cw_unit.specs.declared.unit.CompareOp.TheVariants as compare
use Rattle.cw_unit.specs.declared.unit.Expr.{Expr}
use Rattle.cw_unit.specs.declared.unit.Spot.{Spot}
use Rattle.cw_unit.specs.declared.unit.Ref.{Ref}
use Rattle.cw_unit.specs.declared.unit.Arg.TheOpen as layer
use Rattle.cw_unit.specs.declared.unit.Arg.TheOpen.{Cond-F}
use Rattle.cw_unit.specs.Scales.{natural_scale}
use Rattle.cw_unit.specs.Stop.{Running}
use Rattle.cw_unit.specs.Words.{Operand, Word, Held, Words}
use Rattle.cw_unit.specs.Operation.{holds}
use Rattle.cw_unit.specs.Work.{Work, Eval, Test, Choose, condition_work}
use Rattle.cw_unit.specs.Configuration.{at as configuration}
use Rattle.cw_unit.specs.Step.{in_unit, stuck, pick}
use Rattle.cw_order.specs.declared.order.Order.TheVariants as order
use Rattle.cw_order.specs.OrderChanges.{comparison, to_mark_if}
use Rattle.cw_order.specs.OrderMachine.{branch, go_at}
use Rattle.cw_gen_expr.specs.Pieces.{followed_by}
use Rattle.cw_gen_expr.specs.ReferenceExpressions.{at_line, two_values, comparator_for, pick_mark, value_of, condition_piece}
use Rattle.cw_gen_expr.specs.BuiltExpressions.{whole, built_value, is_condition, most_levels}
use Rattle.cw_gen_expr.proofs.Layers.{condition_layer, condition-made, built_condition_layer, condition-built, expression_size, condition_size, condition-size, condition_size_layer}
use Rattle.cw_gen_expr.proofs.Scales.{natural-is, built-natural-is}
use Rattle.cw_safety.proofs.Truth.{both}
use Rattle.cw_carry.proofs.Expressions.Standing.{Made, both_made, end_made}
use Rattle.cw_carry.proofs.Expressions.Carried.{Leads, here, past, Via, Pick}
use Rattle.cw_carry.proofs.Expressions.Stepping.{Compiled, source, target, IsSane, mark_here}
use Rattle.cw_carry.proofs.Expressions.Moments.{Moment, here_in, scope, has_words, code, marks, At, Leads_to, Steps, next, becomes, acts_once}
use Rattle.cw_carry.proofs.Expressions.Values.{two_at}

-- ---- comparisons

abbrev pub is_same : Bool → Bool → Bool
is_same true b = b
is_same false b = not b

not_less : (x y : ℤ) → int_le y x ≡ not (int_lt x y)
not_less (pos x) (pos y) = grind (arith, nat_tests)
not_less (pos x) (negsuc y) = refl
not_less (negsuc x) (pos y) = refl
not_less (negsuc x) (negsuc y) = grind (arith, nat_tests)

twice : (b : Bool) → b ≡ not (not b)
twice true = refl
twice false = refl

less_not : (x y : ℤ) → int_lt x y ≡ not (int_le y x)
less_not x y = twice (int_lt x y) ∙ ap not (sym (not_less x y))

pub compared : (when : Bool) (op : CompareOp) (x y : ℤ) → holds (comparison (comparator_for when op)) x y ≡ is_same when (holds op x y)
compared true compare.Less x y = refl
compared true compare.LessEq x y = refl
compared true compare.Equal x y = refl
compared true compare.GreaterEq x y = refl
compared true compare.Greater x y = refl
compared true compare.Unequal x y = refl
compared false compare.Less x y = not_less x y
compared false compare.LessEq x y = less_not y x
compared false compare.Equal x y = refl
compared false compare.GreaterEq x y = less_not x y
compared false compare.Greater x y = not_less y x
compared false compare.Unequal x y = twice (int_le x y && int_le y x)

module _ (c : Compiled) (t : Moment c) where
  abbrev On : (when : Bool) → (place : ℕ) → (pass fail : Work) → Type 0
  On when p pass fail = Via (code c t) (marks c t) most_levels p false (λ x m. Pick when (At c t x m false fail) (At c t x m false pass))

  abbrev To : (when : Bool) → (place : ℕ) → (pass fail : Work) → Type 0
  To when p pass fail = Via (code c t) (marks c t) most_levels p false (λ x m. Pick when (At c t x m false pass) (At c t x m false fail))

  tests : (d : Cond) (x : Cond-F Arg Cond Expr Spot Ref) (line : ℕ) (pass fail : Work) (w : Words) → out-Cond d ≡ x → next c t (Test d line pass fail) w ≡ configuration t.segment (condition_work t.unit x line pass fail) t.acts w Running
  tests d x line pass fail w h =
      ap (λ v. in_unit (source c) v (λ u. configuration t.segment (condition_work u (out-Cond d) line pass fail) t.acts w Running) (stuck (source c) t.segment (Test d line pass fail) t.acts w)) t.unit_is
      ∙ ap (λ y. configuration t.segment (condition_work t.unit y line pass fail) t.acts w Running) h

  on_end : (when : Bool) (place n : ℕ) (pass fail : Work) → slice_get (code c t) place ≡ Some order.Mark → place + 1 ≡ n → On when n pass fail → On when place pass fail
  on_end when place n pass fail h e v = (v.0, v.1, past h (subst (λ x. Leads (code c t) (marks c t) most_levels x false v.0 v.1) (sym e) v.2), v.3)

  -- where a first condition that fails, or that holds, goes to
  where_fails : (when : Bool) (end mark x to : ℕ) (pass fail : Work) → slice_get (marks c t) end ≡ Some x → slice_get (marks c t) mark ≡ Some to → On when x pass fail → To when to pass fail → (y : ℕ) × (slice_get (marks c t) (pick_mark when end mark) ≡ Some y) × Leads_to c t y false false fail
  where_fails true end mark x to pass fail e f on at_mark = (x, e, on)
  where_fails false end mark x to pass fail e f on at_mark = (to, f, at_mark)

  where_holds : (when : Bool) (end mark x to : ℕ) (pass fail : Work) → slice_get (marks c t) end ≡ Some x → slice_get (marks c t) mark ≡ Some to → On when x pass fail → To when to pass fail → (y : ℕ) × (slice_get (marks c t) (pick_mark when mark end) ≡ Some y) × Leads_to c t y false false pass
  where_holds true end mark x to pass fail e f on at_mark = (to, f, at_mark)
  where_holds false end mark x to pass fail e f on at_mark = (x, e, on)

  decided : (d : Cond) (x : Cond-F Arg Cond Expr Spot Ref) (when : Bool) (line : ℕ) (pass fail : Work) (q mark to n free last : ℕ) (w : Words) → out-Cond d ≡ x → IsTrue (built_condition_layer t.unit (has_words c t) x) → Made (code c t) (marks c t) (condition_layer (at_line line (scope c t)) x when mark q free) q n free last → slice_get (marks c t) mark ≡ Some to → On when n pass fail → To when to pass fail → Steps c t (Test d line pass fail) q false w
  decided d (layer.Cmp op a b) when line pass fail q mark to n free last w h built made to_is on at_mark =
      let u = t.unit in
      let va = value_of (at_line line (scope c t)) a in
      let vb = value_of (at_line line (scope c t)) b in
      let ba = built_value u (has_words c t) a in
      let bb = built_value u (has_words c t) b in
      let f = max (natural_scale u a) (natural_scale u b) in
      let scale : max va.natural vb.natural ≡ f = ap₂ max (natural-is (at_line line (scope c t)) a) (natural-is (at_line line (scope c t)) b) in
      let built_scale : max ba.natural bb.natural ≡ f = ap₂ max (built-natural-is u (has_words c t) a) (built-natural-is u (has_words c t) b) in
      let bs = both (whole ba f) (whole bb f) (subst (λ z. IsTrue (whole ba z && whole bb z)) built_scale built) in
      let os = order.JumpIf (comparator_for when op) mark ∷ [] in
      becomes c t (Test d line pass fail) (Eval a f line (Eval b f line (Choose op line pass fail))) q false w (tests d (layer.Cmp op a b) line pass fail w h)
      (two_at c t a b f f line q n free last (Choose op line pass fail) os bs.0 bs.1
      (subst (λ z. Made (code c t) (marks c t) (two_values (va.at z) (vb.at z) os q free) q n free last) scale made)
      (λ y stands. (when, mark, to, stands.0, to_is, refl, subst (λ p. On when p pass fail) (sym stands.1) on, at_mark)))
      (let less : expression_size a < condition_size d = omega (arith, condition-size d ∙ ap condition_size_layer h) in less)
  decided d (layer.And a b) when line pass fail q mark to n free last w h built made to_is on at_mark =
      let bs = both (is_condition t.unit (has_words c t) a) (is_condition t.unit (has_words c t) b) built in
      let pa = condition_piece (at_line line (scope c t)) a in
      let pb = condition_piece (at_line line (scope c t)) b in
      let end = end_made (code c t) (marks c t) (λ end. followed_by (pa false (pick_mark when end mark)) (pb when mark)) q n free last made in
      let parts = both_made (code c t) (marks c t) (pa false (pick_mark when free mark)) (pb when mark) q end.0 (free + 1) last end.1 in
      let on' = on_end when end.0 n pass fail end.2 end.3 on in
      let goes = where_fails when free mark end.0 to pass fail end.4 to_is on' at_mark in
      becomes c t (Test d line pass fail) (Test a line (Test b line pass fail) fail) q false w (tests d (layer.And a b) line pass fail w h)
      (false, pick_mark when free mark, goes.0, parts.0, free + 1, parts.1, bs.0, parts.2, goes.1, refl, (parts.0, false, here refl refl, (when, mark, to, end.0, parts.1, last, bs.1, parts.3, to_is, refl, on', at_mark)), goes.2)
      (let less : condition_size a < condition_size d = omega (arith, condition-size d ∙ ap condition_size_layer h) in less)
  decided d (layer.Or a b) when line pass fail q mark to n free last w h built made to_is on at_mark =
      let bs = both (is_condition t.unit (has_words c t) a) (is_condition t.unit (has_words c t) b) built in
      let pa = condition_piece (at_line line (scope c t)) a in
      let pb = condition_piece (at_line line (scope c t)) b in
      let end = end_made (code c t) (marks c t) (λ end. followed_by (pa true (pick_mark when mark end)) (pb when mark)) q n free last made in
      let parts = both_made (code c t) (marks c t) (pa true (pick_mark when mark free)) (pb when mark) q end.0 (free + 1) last end.1 in
      let on' = on_end when end.0 n pass fail end.2 end.3 on in
      let goes = where_holds when free mark end.0 to pass fail end.4 to_is on' at_mark in
      becomes c t (Test d line pass fail) (Test a line pass (Test b line pass fail)) q false w (tests d (layer.Or a b) line pass fail w h)
      (true, pick_mark when mark free, goes.0, parts.0, free + 1, parts.1, bs.0, parts.2, goes.1, refl, (parts.0, false, here refl refl, (when, mark, to, end.0, parts.1, last, bs.1, parts.3, to_is, refl, on', at_mark)), goes.2)
      (let less : condition_size a < condition_size d = omega (arith, condition-size d ∙ ap condition_size_layer h) in less)

  pub test_follows : (d : Cond) (when : Bool) (line : ℕ) (pass fail : Work) (q mark to n free last : ℕ) (w : Words) → IsTrue (is_condition t.unit (has_words c t) d) → Made (code c t) (marks c t) (condition_piece (at_line line (scope c t)) d when mark q free) q n free last → slice_get (marks c t) mark ≡ Some to → On when n pass fail → To when to pass fail → Steps c t (Test d line pass fail) q false w
  test_follows d when line pass fail q mark to n free last w b made to_is on at_mark =
      decided d (out-Cond d) when line pass fail q mark to n free last w refl (sym (condition-built t.unit (has_words c t) d) ∙ b)
      (subst (λ p. Made (code c t) (marks c t) (p when mark q free) q n free last) (condition-made (at_line line (scope c t)) d) made)
      to_is on at_mark

  -- ---- the comparison

  chosen_by : (b when : Bool) (op : CompareOp) (line : ℕ) (pass fail : Work) (q mark to : ℕ) (y x : ℤ) (rest : List Operand) (memory : List ℤ) (input output : List ℕ) → holds op x y ≡ b → slice_get (code c t) q ≡ Some (order.JumpIf (comparator_for when op) mark) → slice_get (marks c t) mark ≡ Some to → On when (q + 1) pass fail → To when to pass fail → Steps c t (Choose op line pass fail) q true (record { operands = Word y ∷ Word x ∷ rest; memory = memory; input = input; output = output })
  chosen_by b when op line pass fail q mark to y x rest memory input output is h to_is on at_mark = by_both b when refl is on at_mark
    where
      v : Words
      v = record { operands = rest; memory = memory; input = input; output = output }

      w : Words
      w = record { operands = Word y ∷ Word x ∷ rest; memory = memory; input = input; output = output }

      steps : (b : Bool) → holds op x y ≡ b → next c t (Choose op line pass fail) w ≡ configuration t.segment (pick b pass fail) t.acts v Running
      steps b is = ap (λ z. configuration t.segment (pick z pass fail) t.acts v Running) is

      jumped : (b : Bool) → holds op x y ≡ b → is_same when b ≡ true → Leads_to c t to false false (pick b pass fail) → Steps c t (Choose op line pass fail) q true w
      jumped b is same carried =
          acts_once c t (Choose op line pass fail) (pick b pass fail) (order.JumpIf (comparator_for when op) mark) q to true false false w v (λ g x. refl) h refl (omega arith) (omega arith) (steps b is)
          (ap (λ z. branch (target c) 0 (to_mark_if z mark v) (here_in c t) q false t.calls_below w) (compared when op x y ∙ ap (is_same when) is ∙ same) ∙ ap (λ o. go_at o (here_in c t) q false t.calls_below w v) (mark_here c t.segment t.acts t.calls_below t.unit t.unit_is mark to to_is))
          tt carried

      went_on : (b : Bool) → holds op x y ≡ b → is_same when b ≡ false → Leads_to c t (q + 1) false false (pick b pass fail) → Steps c t (Choose op line pass fail) q true w
      went_on b is same carried =
          acts_once c t (Choose op line pass fail) (pick b pass fail) (order.JumpIf (comparator_for when op) mark) q (q + 1) true false false w v (λ g x. refl) h refl (omega arith) (omega arith) (steps b is)
          (ap (λ z. branch (target c) 0 (to_mark_if z mark v) (here_in c t) q false t.calls_below w) (compared when op x y ∙ ap (is_same when) is ∙ same))
          tt carried

      by_both : (b when' : Bool) → when ≡ when' → holds op x y ≡ b → On when' (q + 1) pass fail → To when' to pass fail → Steps c t (Choose op line pass fail) q true w
      by_both true true e is on at_mark = jumped true is (ap (λ z. is_same z true) e) at_mark
      by_both true false e is on at_mark = went_on true is (ap (λ z. is_same z true) e) on
      by_both false true e is on at_mark = went_on false is (ap (λ z. is_same z false) e) on
      by_both false false e is on at_mark = jumped false is (ap (λ z. is_same z false) e) at_mark

  pub choice_follows : (op : CompareOp) (when : Bool) (line : ℕ) (pass fail : Work) (q mark to : ℕ) (hand : List Operand) (memory : List ℤ) (input output : List ℕ) → slice_get (code c t) q ≡ Some (order.JumpIf (comparator_for when op) mark) → slice_get (marks c t) mark ≡ Some to → On when (q + 1) pass fail → To when to pass fail → IsSane (next c t (Choose op line pass fail) (record { operands = hand; memory = memory; input = input; output = output })) → Steps c t (Choose op line pass fail) q true (record { operands = hand; memory = memory; input = input; output = output })
  choice_follows op when line pass fail q mark to [] memory input output h to_is on at_mark sane = absurd sane
  choice_follows op when line pass fail q mark to (Held x ∷ rest) memory input output h to_is on at_mark sane = absurd sane
  choice_follows op when line pass fail q mark to (Word y ∷ []) memory input output h to_is on at_mark sane = absurd sane
  choice_follows op when line pass fail q mark to (Word y ∷ Held x ∷ rest) memory input output h to_is on at_mark sane = absurd sane
  choice_follows op when line pass fail q mark to (Word y ∷ Word x ∷ rest) memory input output h to_is on at_mark sane =
      chosen_by (holds op x y) when op line pass fail q mark to y x rest memory input output refl h to_is on at_mark
