-- The orders of the statements of a unit that is built name what there is, and begin each statement with its line.
use Rattle.std.proofs.Common.{◌≡◌, ℕ, zero, suc, ◌+◌, ◌<◌, ◌≤◌, nat_lt, ℤ, pos, negsuc, if◌then◌else◌, List, [], ◌∷◌, ◌++◌, map, length, Bool, true, false, IsTrue, ◌&&◌, Option, Some, None, is_some, slice_get, refl, sym, subst, arith}
use Rattle.std.proofs.lemmas.Bool.{leb-true}
use Rattle.std.specs.List.{list_all}
use Rattle.cw_order.specs.declared.order.Order.{Order}
use Rattle.cw_order.specs.declared.order.Order.TheVariants as order
use Rattle.cw_order.specs.declared.order.Comparator.TheVariants as comparator
use Rattle.cw_word.specs.Word.{unsigned}
use Rattle.cw_unit.specs.Operation.{is_past}
use Rattle.cw_unit.specs.declared.unit.Unit.{Unit as SourceUnit}
use Rattle.cw_unit.specs.declared.unit.Label.{Label}
use Rattle.cw_unit.specs.declared.unit.Goal.{Goal}
use Rattle.cw_unit.specs.declared.unit.Goal.TheVariants as goal
use Rattle.cw_unit.specs.declared.unit.Target.{Target}
use Rattle.cw_unit.specs.declared.unit.Target.TheVariants as target
use Rattle.cw_unit.specs.declared.unit.Dest.{Dest}
use Rattle.cw_unit.specs.declared.unit.Dest.TheVariants as dest
use Rattle.cw_unit.specs.declared.unit.Felem.{Felem}
use Rattle.cw_unit.specs.declared.unit.Felem.TheVariants as element
use Rattle.cw_unit.specs.declared.unit.Expr.{Expr}
use Rattle.cw_unit.specs.declared.unit.Cond.{Cond}
use Rattle.cw_unit.specs.declared.unit.Ref.{Ref, out-Ref}
use Rattle.cw_unit.specs.declared.unit.Stmt.{Stmt, Stmt-F, out-Stmt, map-Stmt, fold_out-Stmt}
use Rattle.cw_unit.specs.declared.unit.Stmt.TheOpen as statement
use Rattle.cw_unit.specs.declared.unit.Def.{Def}
use Rattle.cw_unit.specs.Program.{definition_of}
use Rattle.cw_unit.specs.Step.{label_of_def, label_of_goal, switch_of_def}
use Rattle.cw_unit.specs.Storage.{layout_of}
use Rattle.cw_unit.specs.ValidStorage.{IsStorable}
use Rattle.cw_safety.specs.WellFormed as formed
use Rattle.cw_safety.specs.WellFormed.{kinds_of, kind_of, reaches, reaches_switch}
use Rattle.cw_safety.proofs.Expanding.{formed-statement}
use Rattle.cw_gen_expr.specs.Pieces.{Piece, plain, followed_by, sequence, with_end}
use Rattle.cw_gen_expr.specs.BuiltExpressions as expressions
use Rattle.cw_gen_expr.specs.BuiltExpressions.{most_levels, within, built_reference}
use Rattle.cw_gen_expr.specs.ReferenceExpressions.{Scope, at_line, saved, argument_words, control_place, item_order, store_orders, number_order, call_order, condition_piece, reference_of, expression_piece}
use Rattle.cw_gen_expr.specs.ReferenceEntries.{scope_of}
use Rattle.cw_gen_expr.specs.UnitTables.{label_mark}
use Rattle.cw_gen_expr.proofs.Layers.{total}
use Rattle.cw_gen_unit.specs.BuiltStatements as built
use Rattle.cw_gen_unit.specs.Endings.{comes_to_end}
use Rattle.cw_gen_unit.proofs.Layers.{statement_layer, statement-made, statement_size, size_layer, statement-size, jump-holds}
use Rattle.cw_gen_unit.specs.ReferenceStatements.{begin_orders, after_statement_call, from_procedure, own_order, goal_order, owned_marks, switch_order, jump_piece, with_middle, keep_orders, number_orders, set_orders, bump_orders, turn_piece, while_values, step_values, element_piece, elements_piece, element_ways, ring_piece, loop_place, value_orders, past_orders, turn_orders, simple_orders, simple_beginning, first_turn, stepped_piece, begun_loop, jump_past, statement_piece}
use Rattle.cw_gen_unit.specs.declared.simple.Simple.{Simple}
use Rattle.cw_gen_unit.specs.declared.simple.Simple.TheVariants as simple
use Rattle.cw_gen_unit.specs.declared.simple.SimpleStep.{SimpleStep}
use Rattle.cw_gen_unit.specs.SimpleLoops.{simple_step}
use Rattle.cw_built.specs.Listed.{are_named}
use Rattle.cw_built.specs.Built.{alone}
use Rattle.cw_writable.proofs.Coded.Fine.{no, both, parts}
use Rattle.cw_writable.specs.Back.Ready.{all, is_line, lines_step, has_lines}
use Rattle.cw_writable.proofs.Back.Fit.{passed, plainly, both_good, ended_good, labels_good, begin_good}
use Rattle.cw_writable.proofs.Back.Names.{place-named, listed}
use Rattle.cw_writable.proofs.Back.Loops.{ValueHas, Has as StepWords, StepHas, step-has}
use Rattle.cw_writable.proofs.Back.Expressions as named
use Rattle.cw_writable.proofs.Back.Expressions.{Names, Fine, Words}

-- ---- lines

abbrev lines_layer : Stmt-F Stmt → Bool
lines_layer x = lines_step (map-Stmt Stmt Bool has_lines x)

statement-lines : (x : Stmt) → has_lines x ≡ lines_layer (out-Stmt x)
statement-lines = fold_out-Stmt Bool lines_step

-- a unit that is stored and named, a body of it, and who is at work there
module _ (u : SourceUnit) (stored : IsStorable u) (few : length u.items ≤ 65535) (is_named : IsTrue (are_named u.descs)) (who : Option ℕ) (o : Option (ℕ × ℕ)) (answer : ℕ) where
  abbrev Sound : Piece → Type 0
  Sound p = Fine u stored few is_named who o p

  abbrev At : Scope
  At = scope_of u who

  abbrev Has : (item words : ℕ) → Bool
  Has = Words u stored few is_named who o

  abbrev Well : List Order → Type 0
  Well os = IsTrue (list_all (Names u stored few is_named who o) os)

  abbrev Forms : Stmt → Bool
  Forms t = formed.is_statement (alone u) 0 o t

  abbrev Passes : Stmt → ℕ → Bool
  Passes t n = built.is_statement u Has who answer t n

  expression : (line : ℕ) (e : Expr) (f levels : ℕ) → IsTrue (expressions.is_expression u Has e f levels) → IsTrue (formed.is_expression (alone u) 0 o e) → (g : ℕ) → Sound (expression_piece (at_line line At) e g)
  expression = named.expression_good u stored few is_named who o

  condition : (line : ℕ) (c : Cond) → IsTrue (expressions.is_condition u Has c) → IsTrue (formed.is_condition (alone u) 0 o c) → (when : Bool) (mark : ℕ) → Sound (condition_piece (at_line line At) c when mark)
  condition = named.condition_formed_good u stored few is_named who o

  address : (line : ℕ) (r : Ref) → IsTrue (built_reference u Has r).good → IsTrue (formed.is_reference (alone u) 0 o r) → Sound (reference_of (at_line line At) r).address
  address = named.address_good u stored few is_named who o

  item-first : (i m word : ℕ) (os : List Order) → IsTrue (Has i m) → Well os → Well (item_order (layout_of u) i word ∷ os)
  item-first = named.item-first u stored few is_named who o

  saved_good : Sound saved
  saved_good = named.saved_good u stored few is_named who o

  -- ---- jumps

  goal-named : (g : Goal) → IsTrue (reaches (alone u) o (label_of_goal (alone u) 0 g)) → Well (goal_order u who g ∷ [])
  goal-named (goal.Own l) h = by_owner who (slice_get u.labels l)
    where
      from : (x : Option Label) → Well (from_procedure x (label_mark u l) ∷ [])
      from None = refl
      from (Some x) = by_procedure x.proc
        where
          by_procedure : (q : Option ℕ) → Well ((elim q [ None ↦ order.GoMain (label_mark u l) | Some p ↦ order.Jump (label_mark u l) ]) ∷ [])
          by_procedure None = refl
          by_procedure (Some p) = refl

      by_owner : (w : Option ℕ) (x : Option Label) → Well (own_order w x (label_mark u l) ∷ [])
      by_owner None x = refl
      by_owner (Some q) x = from x
  goal-named (goal.Common d) h = both (nat_lt d (length u.descs)) true (listed u is_named d (λ x. reaches (alone u) o (label_of_def x)) refl h) refl

  -- by its marks, or by the list of the unit
  switch-named : (n line : ℕ) (x : Option (List ℕ)) → Well (switch_order x n line ∷ [])
  switch-named n line None = refl
  switch-named n line (Some ms) = refl

  jump_good : (line : ℕ) (d : Dest) → IsTrue (built.is_jump u Has who answer d) → IsTrue (formed.is_goal (alone u) 0 o d) → Sound (jump_piece (at_line line At) who d)
  jump_good line (dest.Goal g) h k = plainly (goal_order u who g ∷ []) (goal-named g k)
  jump_good line (dest.Special m) h k = plainly (order.GoSpecial (control_place At.parameters m) ∷ []) refl
  jump_good line (dest.Switch n e) h k =
      let p = parts (formed.is_expression (alone u) 0 o e) (reaches_switch (alone u) o (Some (0, n))) k in
      both_good (expression line e 0 most_levels h p.0 0) (plainly (switch_order (owned_marks u who n) n line ∷ []) (switch-named n line (owned_marks u who n)))
  jump_good line (dest.CommonSwitch d e) h k =
      let asked : Option (ℕ × Def) → Bool = λ x. reaches_switch (alone u) o (switch_of_def x) in
      let p = parts (formed.is_expression (alone u) 0 o e) (asked (definition_of (alone u) 0 d)) k in
      both_good (expression line e 0 most_levels h p.0 0) (plainly (order.GoSwitchCommon d line ∷ []) (both (nat_lt d (length u.descs)) true (listed u is_named d (λ x. reaches_switch (alone u) o (switch_of_def x)) refl p.1) refl))
  jump_good line (dest.SpecialSwitch m e) h k =
      let p = parts (formed.is_expression (alone u) 0 o e) (formed.is_switch (slice_get (formed.controls_of (alone u) o) m)) k in
      both_good (expression line e 0 most_levels h p.0 0) (plainly (order.GoSwitchSpecial (control_place At.parameters m) line ∷ []) refl)

  -- ---- FOR

  middle_good : (a b : ℕ → Piece) → ((mark : ℕ) → Sound (a mark)) → ((mark : ℕ) → Sound (b mark)) → Sound (with_middle a b)
  middle_good a b ha hb = record { at = λ place next. (both_good (ended_good a ha) (hb next)).at place next }

  module _ (line item : ℕ) (has : IsTrue (Has item 4)) where
    abbrev Line : Scope
    Line = at_line line At

    kept_well : (word : ℕ) (os : List Order) → Well os → Well (keep_orders (layout_of u) item word ++ os)
    kept_well word os h = item-first item 4 word (order.Store ∷ os) has h

    numbered_good : (i : ℕ) → Sound (plain (number_orders (layout_of u) item i))
    numbered_good i = plainly (number_orders (layout_of u) item i) (kept_well 3 [] refl)

    set_good : Sound (plain (set_orders (layout_of u) line item))
    set_good = plainly (set_orders (layout_of u) line item) (item-first item 4 0 (order.SetVariable line ∷ []) has refl)

    bump_good : Sound (plain (bump_orders (layout_of u) line item))
    bump_good = plainly (bump_orders (layout_of u) line item) (item-first item 4 0 (order.AddStep line ∷ []) has refl)

    turn_good : (body : ℕ) → Sound (turn_piece (layout_of u) line item body)
    turn_good body =
        ended_good (λ next. plain (item_order (layout_of u) item 0 ∷ order.PutVariable line ∷ order.Exhausted next ∷ order.Jump body ∷ []))
        (λ next. plainly (item_order (layout_of u) item 0 ∷ order.PutVariable line ∷ order.Exhausted next ∷ order.Jump body ∷ [])
        (item-first item 4 0 (order.PutVariable line ∷ order.Exhausted next ∷ order.Jump body ∷ []) has refl))

    kept_good : (word : ℕ) (os : List Order) → Well os → Sound (plain (keep_orders (layout_of u) item word ++ os))
    kept_good word os h = plainly (keep_orders (layout_of u) item word ++ os) (kept_well word os h)

    while_good : (f body next i : ℕ) (e : Expr) (c : Cond) → IsTrue (built.is_element u Has who answer f (element.While e c)) → IsTrue (formed.is_element (alone u) 0 o (element.While e c)) → Sound (while_values Line item f body next i e c)
    while_good f body next i e c h k =
        let p = parts (expressions.is_expression u Has e f most_levels) (expressions.is_condition u Has c) h in
        let q = parts (formed.is_expression (alone u) 0 o e) (formed.is_condition (alone u) 0 o c) k in
        both_good (numbered_good i)
        (both_good (expression line e f most_levels p.0 q.0 f) (both_good set_good (both_good (condition line c p.1 q.1 false next) (plainly (order.Jump body ∷ []) refl))))

    step_good : (f turn i : ℕ) (a b d : Expr) → IsTrue (built.is_element u Has who answer f (element.Step a b d)) → IsTrue (formed.is_element (alone u) 0 o (element.Step a b d)) → Sound (step_values Line item f turn i a b d)
    step_good f turn i a b d h k =
        let p = parts (expressions.is_expression u Has a f most_levels) (expressions.is_expression u Has b f most_levels && expressions.is_expression u Has d f most_levels) h in
        let q = parts (expressions.is_expression u Has b f most_levels) (expressions.is_expression u Has d f most_levels) p.1 in
        let r = parts (formed.is_expression (alone u) 0 o a) (formed.is_expression (alone u) 0 o b && formed.is_expression (alone u) 0 o d) k in
        let t = parts (formed.is_expression (alone u) 0 o b) (formed.is_expression (alone u) 0 o d) r.1 in
        both_good (numbered_good i)
        (both_good (expression line a f most_levels p.0 r.0 f)
        (both_good set_good
        (both_good (expression line b f most_levels q.0 t.0 f)
        (both_good (kept_good 1 [] refl)
        (both_good (expression line d f most_levels q.1 t.1 f) (kept_good 2 (order.Jump turn ∷ []) refl))))))

    element_good : (f set body i : ℕ) (e : Felem) → IsTrue (built.is_element u Has who answer f e) → IsTrue (formed.is_element (alone u) 0 o e) → Sound (element_piece Line item f set body i e)
    element_good f set body i (element.One e) h k =
        ended_good (λ next. followed_by (plain (number_orders (layout_of u) item i)) (followed_by (expression_piece Line e f) (plain (order.Jump set ∷ []))))
        (λ next. both_good (numbered_good i) (both_good (expression line e f 63 h k f) (plainly (order.Jump set ∷ []) refl)))
    element_good f set body i (element.While e c) h k =
        middle_good (λ own. plain []) (λ own. with_end (λ next. while_values Line item f body next i e c)) (λ own. plainly [] refl)
        (λ own. ended_good (λ next. while_values Line item f body next i e c) (λ next. while_good f body next i e c h k))
    element_good f set body i (element.Step a b d) h k =
        middle_good (λ turn. followed_by (with_end (λ bump. step_values Line item f turn i a b d)) (plain (bump_orders (layout_of u) line item))) (λ turn. turn_piece (layout_of u) line item body)
        (λ turn. both_good (ended_good (λ bump. step_values Line item f turn i a b d) (λ bump. step_good f turn i a b d h k)) bump_good)
        (λ turn. turn_good body)

    elements_good : (f set body i : ℕ) (es : List Felem) → IsTrue (built.are_elements u Has who answer f es) → IsTrue (formed.are_elements (alone u) 0 o es) → Sound (elements_piece Line item f set body i es)
    elements_good f set body i [] h k = plainly [] refl
    elements_good f set body i (e ∷ es) h k =
        let p = parts (built.is_element u Has who answer f e) (built.are_elements u Has who answer f es) h in
        let q = parts (formed.is_element (alone u) 0 o e) (formed.are_elements (alone u) 0 o es) k in
        both_good (element_good f set body i e p.0 q.0) (elements_good f set body (i + 1) es p.1 q.1)

    ring_good : (f : ℕ) (es : List Felem) (body : Piece) → IsTrue (built.are_elements u Has who answer f es) → IsTrue (formed.are_elements (alone u) 0 o es) → Sound body → Sound (ring_piece Line item f es body)
    ring_good f es body h k hb = record { at = λ place next. (laid (element_ways Line item f (next + 1 + 1) (next + 1) 1 es place (next + 1 + 1 + 1))).at place next }
      where
        laid : (ways : List ℕ) → Sound (with_end (λ end. with_middle (λ start. followed_by (with_end (λ set. followed_by (elements_piece Line item f set start 1 es) (plain (order.Jump end ∷ [])))) (plain (set_orders (layout_of u) line item))) (λ start. followed_by body (plain (item_order (layout_of u) item 3 ∷ order.Load ∷ order.LoopWay ways ∷ [])))))
        laid ways =
            ended_good (λ end. with_middle (λ start. followed_by (with_end (λ set. followed_by (elements_piece Line item f set start 1 es) (plain (order.Jump end ∷ [])))) (plain (set_orders (layout_of u) line item))) (λ start. followed_by body (plain (item_order (layout_of u) item 3 ∷ order.Load ∷ order.LoopWay ways ∷ []))))
            (λ end. middle_good (λ start. followed_by (with_end (λ set. followed_by (elements_piece Line item f set start 1 es) (plain (order.Jump end ∷ [])))) (plain (set_orders (layout_of u) line item))) (λ start. followed_by body (plain (item_order (layout_of u) item 3 ∷ order.Load ∷ order.LoopWay ways ∷ [])))
            (λ start. both_good (ended_good (λ set. followed_by (elements_piece Line item f set start 1 es) (plain (order.Jump end ∷ []))) (λ set. both_good (elements_good f set start 1 es h k) (plainly (order.Jump end ∷ []) refl))) set_good)
            (λ start. both_good hb (plainly (item_order (layout_of u) item 3 ∷ order.Load ∷ order.LoopWay ways ∷ []) (item-first item 4 3 (order.Load ∷ order.LoopWay ways ∷ []) has refl))))

    -- the one STEP element of a FOR
    first_turn_good : (f end : ℕ) (a b d : Expr) → IsTrue (built.is_element u Has who answer f (element.Step a b d)) → IsTrue (formed.is_element (alone u) 0 o (element.Step a b d)) → Sound (first_turn Line item f a b d end)
    first_turn_good f end a b d h k =
        let p = parts (expressions.is_expression u Has a f most_levels) (expressions.is_expression u Has b f most_levels && expressions.is_expression u Has d f most_levels) h in
        let q = parts (expressions.is_expression u Has b f most_levels) (expressions.is_expression u Has d f most_levels) p.1 in
        let r = parts (formed.is_expression (alone u) 0 o a) (formed.is_expression (alone u) 0 o b && formed.is_expression (alone u) 0 o d) k in
        let t = parts (formed.is_expression (alone u) 0 o b) (formed.is_expression (alone u) 0 o d) r.1 in
        let last : List Order = order.PutVariable line ∷ order.Exhausted end ∷ [] in
        both_good (numbered_good 1)
        (both_good (expression line a f most_levels p.0 r.0 f)
        (both_good set_good
        (both_good (expression line b f most_levels q.0 t.0 f)
        (both_good (kept_good 1 [] refl)
        (both_good (expression line d f most_levels q.1 t.1 f) (kept_good 2 (item_order (layout_of u) item 0 ∷ last) (item-first item 4 0 last has refl)))))))

    stepped_good : (beginning : ℕ → Piece) (body : Piece) → ((end : ℕ) → Sound (beginning end)) → Sound body → Sound (stepped_piece Line item beginning body)
    stepped_good beginning body hn hb =
        let next : ℕ → Order = order.NextStep (loop_place (layout_of u) item) line in
        ended_good (λ end. with_middle (λ start. beginning end) (λ start. followed_by body (plain (next start ∷ []))))
        (λ end. middle_good (λ start. beginning end) (λ start. followed_by body (plain (next start ∷ []))) (λ start. hn end)
        (λ start. both_good hb (plainly (next start ∷ []) (both (Names u stored few is_named who o (next start)) true (place-named u stored few who item 4 0 has) refl))))

    -- a beginning without the library

    value_well : (a : Simple) (os : List Order) → ValueHas u Has a → Well os → Well (value_orders (layout_of u) a ++ os)
    value_well (simple.Number z) os h k = k
    value_well (simple.Item i) os h k = item-first i 1 0 (order.Load ∷ os) h k

    past_well : (j : ℕ) (step : ℤ) (end : ℕ) → IsTrue (Has j 1) → Well (past_orders (layout_of u) item j step end)
    past_well j (pos zero) end h = refl
    past_well j (pos (suc n)) end h =
        let last : List Order = order.Load ∷ order.JumpIf comparator.Greater end ∷ [] in
        item-first j 1 0 (order.Load ∷ order.Save ∷ item_order (layout_of u) item 2 ∷ last) h (item-first item 4 2 last has refl)
    past_well j (negsuc n) end h =
        let last : List Order = order.Load ∷ order.JumpIf comparator.Less end ∷ [] in
        item-first j 1 0 (order.Load ∷ order.Save ∷ item_order (layout_of u) item 2 ∷ last) h (item-first item 4 2 last has refl)

    turn_well : (j : ℕ) (a : Simple) (step : ℤ) (d : Simple) (end : ℕ) → IsTrue (Has j 1) → Well (turn_orders (layout_of u) item j a step d end)
    turn_well j (simple.Number a) step (simple.Number d) end h = picked (is_past step a d)
      where
        picked : (b : Bool) → Well (if b then (order.Jump end ∷ []) else [])
        picked true = refl
        picked false = refl
    turn_well j (simple.Number a) step (simple.Item i) end h = past_well j step end h
    turn_well j (simple.Item i) step d end h = past_well j step end h

    simple_good : (x : SimpleStep) (end : ℕ) → StepWords u Has x → Sound (plain (simple_beginning (layout_of u) item x end))
    simple_good x end h =
        let y = layout_of u in
        let limit : List Order = value_orders y x.limit ++ keep_orders y item 2 in
        let step : List Order = keep_orders y item 1 ++ limit in
        let variable : List Order = keep_orders y x.variable 0 ++ number_order (unsigned x.step) ∷ step in
        let value : List Order = value_orders y x.first ++ variable in
        plainly (simple_beginning y item x end)
        (passed (length u.descs) y.families (simple_orders y item x) (turn_orders y item x.variable x.first x.step x.limit end)
        (item-first x.variable 1 0 (keep_orders y item 0 ++ (number_orders y item 1 ++ value)) h.variable
        (kept_well 0 (number_orders y item 1 ++ value)
        (kept_well 3 value
        (value_well x.first variable h.first
        (item-first x.variable 1 0 (order.Store ∷ number_order (unsigned x.step) ∷ step) h.variable
        (kept_well 1 limit (value_well x.limit (keep_orders y item 2) h.limit (kept_well 2 [] refl))))))))
        (turn_well x.variable x.first x.step x.limit end h.variable))

    begun_good : (r : Ref) (a b d : Expr) (body : Piece) (x : Option SimpleStep) → StepHas u Has x → IsTrue (built_reference u Has r).good → IsTrue (formed.is_reference (alone u) 0 o r)
        → IsTrue (built.is_element u Has who answer (out-Ref r).f (element.Step a b d)) → IsTrue (formed.is_element (alone u) 0 o (element.Step a b d)) → Sound body → Sound (begun_loop Line x item r (element.Step a b d ∷ []) body)
    begun_good r a b d body None hx hr kr h k hb =
        let f = (out-Ref r).f in
        both_good (address line r hr kr) (both_good (kept_good 0 [] refl) (stepped_good (first_turn Line item f a b d) body (λ end. first_turn_good f end a b d h k) hb))
    begun_good r a b d body (Some x) hx hr kr h k hb = stepped_good (λ end. plain (simple_beginning (layout_of u) item x end)) body (λ end. simple_good x end hx) hb

    loop_good : (r : Ref) (es : List Felem) (body : Piece) → IsTrue (built_reference u Has r).good → IsTrue (formed.is_reference (alone u) 0 o r)
        → IsTrue (built.are_elements u Has who answer (out-Ref r).f es) → IsTrue (formed.are_elements (alone u) 0 o es) → Sound body → Sound (begun_loop Line (simple_step (layout_of u) item r es) item r es body)
    loop_good r (element.Step a b d ∷ []) body hr kr h k hb =
        let p = parts (built.is_element u Has who answer (out-Ref r).f (element.Step a b d)) true h in
        let q = parts (formed.is_element (alone u) 0 o (element.Step a b d)) true k in
        begun_good r a b d body (simple_step (layout_of u) item r (element.Step a b d ∷ [])) (step-has u Has who answer (layout_of u) item r a b d hr p.0) hr kr p.0 q.0 hb
    loop_good r [] body hr kr h k hb = both_good (address line r hr kr) (both_good (kept_good 0 [] refl) (ring_good (out-Ref r).f [] body h k hb))
    loop_good r (element.One e ∷ es) body hr kr h k hb = both_good (address line r hr kr) (both_good (kept_good 0 [] refl) (ring_good (out-Ref r).f (element.One e ∷ es) body h k hb))
    loop_good r (element.While e c ∷ es) body hr kr h k hb = both_good (address line r hr kr) (both_good (kept_good 0 [] refl) (ring_good (out-Ref r).f (element.While e c ∷ es) body h k hb))
    loop_good r (element.Step a b d ∷ e ∷ es) body hr kr h k hb =
        both_good (address line r hr kr) (both_good (kept_good 0 [] refl) (ring_good (out-Ref r).f (element.Step a b d ∷ e ∷ es) body h k hb))

  -- ---- statements

  begin : (line : ℕ) → IsTrue (is_line line) → Sound (plain (begin_orders line))
  begin line h = begin_good line (leb-true 1 line h)

  after-named : (t : Target) → Well (after_statement_call t)
  after-named (target.Own q) = refl
  after-named _ = refl

  abbrev built_layer : Stmt-F Stmt → ℕ → Bool
  built_layer x = built.statement_step u Has who answer (map-Stmt Stmt (ℕ → Bool) (built.is_statement u Has who answer) x)

  statement-built : (x : Stmt) → built.is_statement u Has who answer x ≡ built_layer (out-Stmt x)
  statement-built = fold_out-Stmt (ℕ → Bool) (built.statement_step u Has who answer)

  abbrev formed_layer : Stmt-F Stmt → Bool
  formed_layer x = formed.statement_step (alone u) 0 o (map-Stmt Stmt Bool (formed.is_statement (alone u) 0 o) x)

  module _ (n : ℕ) (below : (t : Stmt) → statement_size t < n → (levels : ℕ) → IsTrue (Passes t levels) → IsTrue (Forms t) → IsTrue (has_lines t) → Sound (statement_piece At who answer t)) where
    all_good : (ss : List Stmt) → total (map statement_size ss) < n → (levels : ℕ) → IsTrue (built.all_within u Has who answer levels (map (built.is_statement u Has who answer) ss)) → IsTrue (formed.all (map (formed.is_statement (alone u) 0 o) ss)) → IsTrue (all (map has_lines ss)) → Sound (sequence (map (statement_piece At who answer) ss))
    all_good [] lt levels h k l = plainly [] refl
    all_good (t ∷ ts) lt levels h k l =
        let p = parts (Passes t levels) (built.all_within u Has who answer levels (map (built.is_statement u Has who answer) ts)) h in
        let q = parts (Forms t) (formed.all (map (formed.is_statement (alone u) 0 o) ts)) k in
        let r = parts (has_lines t) (all (map has_lines ts)) l in
        both_good (below t (let z : statement_size t < n = omega (arith, lt) in z) levels p.0 q.0 r.0) (all_good ts (let z : total (map statement_size ts) < n = omega (arith, lt) in z) levels p.1 q.1 r.1)

    -- with a level less, if there is one
    inner_good : (t : Stmt) → statement_size t < n → (levels : ℕ) → IsTrue (within levels (built.is_statement u Has who answer t)) → IsTrue (Forms t) → IsTrue (has_lines t) → Sound (statement_piece At who answer t)
    inner_good t lt zero h k l = no h
    inner_good t lt (suc m) h k l = below t lt m h k l

    layer_good : (x : Stmt-F Stmt) → size_layer x ≤ n → (levels : ℕ) → IsTrue (built_layer x levels) → IsTrue (formed_layer x) → IsTrue (lines_layer x) → Sound (statement_layer At who answer x)
    layer_good (statement.Put line r e) le levels h k l =
        let f = (out-Ref r).f in
        let p = parts (built_reference u Has r).good (expressions.is_expression u Has e f most_levels) h in
        let q = parts (formed.is_reference (alone u) 0 o r) (formed.is_expression (alone u) 0 o e) k in
        both_good (begin line l)
        (both_good (expression line e f most_levels p.1 q.1 f)
        (both_good saved_good (both_good (address line r p.0 q.0) (plainly (store_orders (out-Ref r).field) (named.store-named u stored few is_named who o (out-Ref r).field)))))
    layer_good (statement.PutBits line t b r e) le levels h k l =
        let p = parts (built_reference u Has r).good (expressions.is_expression u Has e 0 most_levels) h in
        let q = parts (formed.is_reference (alone u) 0 o r) (formed.is_expression (alone u) 0 o e) k in
        both_good (begin line l)
        (both_good (expression line e 0 most_levels p.1 q.1 0) (both_good saved_good (both_good (address line r p.0 q.0) (plainly (order.StorePart t b ∷ []) refl))))
    layer_good (statement.Go line d) le levels h k l = both_good (begin line l) (jump_good line d h k)
    layer_good (statement.Call line t args) le levels h k l =
        let ks = kinds_of (map (kind_of (alone u) 0 o) args) in
        both_good (begin line l)
        (both_good (named.arguments_good u stored few is_named who o line args h (named.call-kinds u stored few is_named who o line false t ks k))
        (plainly (call_order (at_line line At) t ∷ after_statement_call t) (both (Names u stored few is_named who o (call_order (at_line line At) t)) (list_all (Names u stored few is_named who o) (after_statement_call t)) (named.call-named u stored few is_named who o line false t ks k) (after-named t))))
    layer_good (statement.Answer line e) le levels h k l =
        let p = parts (is_some who) (expressions.is_expression u Has e answer most_levels) h in
        let q = parts (is_some o) (formed.is_expression (alone u) 0 o e) k in
        both_good (begin line l) (both_good (expression line e answer most_levels p.1 q.1 answer) (plainly (order.Return (argument_words At.parameters) true ∷ []) refl))
    layer_good (statement.If line c a b) le levels h k l =
        let p = parts (expressions.is_condition u Has c) (within levels (built.is_statement u Has who answer a) && Passes b levels) h in
        let q = parts (within levels (built.is_statement u Has who answer a)) (Passes b levels) p.1 in
        let r = parts (formed.is_condition (alone u) 0 o c) (Forms a && Forms b) k in
        let t = parts (Forms a) (Forms b) r.1 in
        let v = parts (is_line line) (has_lines a && has_lines b) l in
        let w = parts (has_lines a) (has_lines b) v.1 in
        both_good (begin line v.0)
        (named.parted_good u stored few is_named who o line (condition_piece (at_line line At) c) (jump_past (comes_to_end a) b) (statement_piece At who answer a) (statement_piece At who answer b) (condition line c p.0 r.0)
        (jump-holds Well (λ end. refl) refl (comes_to_end a) b)
        (inner_good a (let z : statement_size a < n = omega (arith, le) in z) levels q.0 t.0 w.0) (below b (let z : statement_size b < n = omega (arith, le) in z) levels q.1 t.1 w.1))
    layer_good (statement.For line item r es t) le levels h k l =
        let one : Bool = within levels (λ m. true) in
        let p = parts (built_reference u Has r).good (Has item 4 && (nat_lt (length es) 32767 && (built.are_elements u Has who answer (out-Ref r).f es && (one && Passes t most_levels)))) h in
        let q = parts (Has item 4) (nat_lt (length es) 32767 && (built.are_elements u Has who answer (out-Ref r).f es && (one && Passes t most_levels))) p.1 in
        let a = parts (nat_lt (length es) 32767) (built.are_elements u Has who answer (out-Ref r).f es && (one && Passes t most_levels)) q.1 in
        let b = parts (built.are_elements u Has who answer (out-Ref r).f es) (one && Passes t most_levels) a.1 in
        let c = parts one (Passes t most_levels) b.1 in
        let v = parts (formed.is_reference (alone u) 0 o r) (formed.are_elements (alone u) 0 o es && Forms t) k in
        let w = parts (formed.are_elements (alone u) 0 o es) (Forms t) v.1 in
        let x = parts (is_line line) (has_lines t) l in
        both_good (begin line x.0) (loop_good line item q.0 r es (statement_piece At who answer t) p.0 v.0 b.0 w.0 (below t (let z : statement_size t < n = omega (arith, le) in z) most_levels c.1 w.1 x.1))
    layer_good (statement.Seq ss) le levels h k l = all_good ss (let z : total (map statement_size ss) < n = omega (arith, le) in z) levels h k l
    layer_good (statement.Mark ls t) le levels h k l = both_good (labels_good ls) (below t (let z : statement_size t < n = omega (arith, le) in z) levels h k l)

  good_below : (n : ℕ) (t : Stmt) → statement_size t < n → (levels : ℕ) → IsTrue (Passes t levels) → IsTrue (Forms t) → IsTrue (has_lines t) → Sound (statement_piece At who answer t)
  good_below zero t lt levels h k l = absurd (omega (arith, lt))
  good_below (suc n) t lt levels h k l =
      subst Sound (sym (statement-made At who answer t))
      (layer_good n (good_below n) (out-Stmt t) (let z : size_layer (out-Stmt t) ≤ n = omega (arith, lt, statement-size t) in z) levels
      (subst (λ x. IsTrue (x levels)) (statement-built t) h) (subst IsTrue (formed-statement (alone u) 0 o t) k) (subst IsTrue (statement-lines t) l))

  pub statement_good : (t : Stmt) (levels : ℕ) → IsTrue (Passes t levels) → IsTrue (Forms t) → IsTrue (has_lines t) → Sound (statement_piece At who answer t)
  statement_good t levels h k l = good_below (suc (statement_size t)) t (let z : statement_size t < suc (statement_size t) = omega arith in z) levels h k l
