-- The calls of statements fit, where those of their expressions do.
use Rattle.std.proofs.Common.{◌≡◌, ℕ, List, [], ◌∷◌, ◌++◌, length, map, Bool, true, false, ◌==◌, Option, refl, sym, subst, if◌then◌else◌, Some}
use Rattle.cw_tree.specs.declared.leaf.Position.{Position}
use Rattle.cw_tree.specs.declared.leaf.RawName.{RawName}
use Rattle.cw_tree.specs.declared.expression.RawBits.{RawBits}
use Rattle.cw_tree.specs.declared.expression.RawExpr.{RawExpr}
use Rattle.cw_tree.specs.declared.expression.RawCond.{RawCond}
use Rattle.cw_tree.specs.declared.expression.RawRef.{RawRef}
use Rattle.cw_tree.specs.declared.statement.RawFelem.{RawFelem}
use Rattle.cw_tree.specs.declared.statement.RawFelem.TheVariants as felem
use Rattle.cw_facts.specs.declared.fact.Form.TheVariants as form
use Rattle.cw_facts.specs.declared.fact.Reading.{Reading}
use Rattle.cw_facts.specs.declared.fact.Reading.TheVariants as reading
use Rattle.cw_facts.specs.Uses.{uses_of, expression_uses, condition_uses, reference_uses, argument_uses}
use Rattle.cw_facts.specs.Facts.{felem_facts, felems_facts}
use Rattle.cw_scope.specs.declared.resolve.Named.{Named}
use Rattle.cw_scale.specs.Faults.{both}
use Rattle.cw_scale.specs.Kinds.{signature_of}
use Rattle.cw_scale.specs.Types.{bits_judged}
use Rattle.cw_scale.specs.TypeRules.{expression, condition, reference, call_faults}
use Rattle.cw_judge.specs.Operators.{few_operators, few_each, expression_operators, condition_operators, reference_operators}
use Rattle.cw_judge.specs.Judged.{expression_judged, condition_judged, reference_judged, scale_of, felem_judged, felems_judged}
use Rattle.cw_number.specs.declared.numbered.Numbered.{Numbered}
use Rattle.cw_make_expr.specs.Parts.{Numbers, number_of, item_here}
use Rattle.cw_make_expr.specs.Made.{expression_made, expression_of, condition_of, reference_of, call_of}
use Rattle.cw_make_stmt.specs.Made as made
use Rattle.cw_make_stmt.specs.Made.{goal_of, switch_of, felem_of}
use Rattle.cw_unit.specs.declared.unit.Expr.{Expr}
use Rattle.cw_unit.specs.declared.unit.Stmt.{Stmt, Stmt-F, roll-Stmt, map-Stmt}
use Rattle.cw_unit.specs.declared.unit.Stmt.TheOpen as statement
use Rattle.cw_unit.specs.declared.unit.Stmt.TheFolds.{fold-roll-Stmt}
use Rattle.cw_deepest.specs.Programs.Calls as calls
use Rattle.cw_deepest.specs.Programs.Calls.{Calls, in_expression, in_condition, in_reference, in_element, in_jump, in_statement, statement_step}
use Rattle.cw_sound.proofs.Expressions.Judging.{NoFault, keeps_both, both_free}
use Rattle.cw_sound.proofs.Statements.Keeping.{whole_keeps, test_keeps, place_keeps, elements_keep}
use Rattle.cw_sound.proofs.Calls.Trees.Parts.{Context, AllFit, Rights, none, more}
use Rattle.cw_sound.proofs.Calls.Trees.Nodes.{joined}
use Rattle.cw_sound.proofs.Calls.Trees.Rules.{sounds_for}
use Rattle.cw_sound.proofs.Calls.Trees.Arguments.{call_fits}
use Rattle.cw_sound.proofs.Calls.Trees.Trees.{expression_is_right, condition_is_right, reference_is_right}
use Rattle.cw_sound.proofs.Items.Keeping.{keeps_few, keeps_few_each}
use Rattle.cw_number.specs.declared.numbered.Numbered.TheVariants as numbered

abbrev statement_layer : Stmt-F Stmt → Calls
statement_layer x = statement_step (map-Stmt Stmt Calls in_statement x)

statement_rolled : (x : Stmt-F Stmt) → in_statement (roll-Stmt x) ≡ statement_layer x
statement_rolled = fold-roll-Stmt Calls statement_step

no_calls_to : (number : Option Numbered) → in_jump (goal_of number) ≡ []
no_calls_to (Some (numbered.Label l)) = refl
no_calls_to _ = refl

calls_of_switch : (number : Option Numbered) (e : Expr) → in_jump (switch_of number e) ≡ in_expression e
calls_of_switch (Some (numbered.Switch s)) e = refl
calls_of_switch _ e = refl

module _ (named : Named) (numbers : Numbers) (body : Context named numbers) where
  abbrev All : Calls → Type 0
  All = AllFit named numbers body

  abbrev pub Fits : Stmt → Type 0
  Fits s = All (in_statement s)

  fits_of : (x : Stmt-F Stmt) → All (statement_layer x) → Fits (roll-Stmt x)
  fits_of x h = subst All (sym (statement_rolled x)) h

  -- ---- expressions

  pub expression_fits : (e : RawExpr) (f : ℕ) → body.Stood (expression_uses e reading.Value) → NoFault (expression_judged named f e) → All (in_expression (expression_of named numbers e))
  expression_fits e f s free =
      (expression_is_right named numbers body e reading.Value s).fits f (both_free ((expression named e).faults f) (few_operators (expression_operators e)) (keeps_few (expression_operators e)) free).0 false

  pub test_fits : (c : RawCond) → body.Stood (condition_uses c reading.Value) → NoFault (condition_judged named c) → All (in_condition (condition_of named numbers c))
  test_fits c s free =
      (condition_is_right named numbers body c reading.Value s).fits 0 (both_free ((condition named c).faults 0) (few_operators (condition_operators c)) (keeps_few (condition_operators c)) free).0

  pub place_fits : (r : RawRef) (x : Reading) → body.Stood (reference_uses r x) → NoFault (reference_judged named r) → All (in_reference (reference_of named numbers r))
  place_fits r x s free =
      (reference_is_right named numbers body r x s).place 0 (both_free ((reference named r).faults 0) (few_each (reference_operators r)) (keeps_few_each (reference_operators r)) free).0

  -- ---- the elements of a FOR

  element_fits : (e : RawFelem) (f : ℕ) → body.Stood (felem_facts e) → NoFault (felem_judged named f e) → All (in_element (felem_of named numbers e))
  element_fits (felem.One e) f s free = expression_fits e f s free
  element_fits (felem.While e c) f s free =
      let sides = body.split (expression_uses e reading.Value) (condition_uses c reading.Value) s in
      let calm = both_free (expression_judged named f e) (condition_judged named c) (test_keeps named c) free in
      joined body.Fit (in_expression (expression_of named numbers e)) (in_condition (condition_of named numbers c)) (expression_fits e f sides.0 calm.0) (test_fits c sides.1 calm.1)
  element_fits (felem.Step a b d) f s free =
      let first = body.split (expression_uses a reading.Value) (expression_uses b reading.Value ++ expression_uses d reading.Value) s in
      let rest = body.split (expression_uses b reading.Value) (expression_uses d reading.Value) first.1 in
      let calm = both_free (expression_judged named f a) (both (expression_judged named f b) (expression_judged named f d)) (keeps_both (whole_keeps named f b) (whole_keeps named f d)) free in
      let calms = both_free (expression_judged named f b) (expression_judged named f d) (whole_keeps named f d) calm.1 in
      let x = in_expression (expression_of named numbers b) in
      let y = in_expression (expression_of named numbers d) in
      joined body.Fit (in_expression (expression_of named numbers a)) (x ++ y) (expression_fits a f first.0 calm.0) (joined body.Fit x y (expression_fits b f rest.0 calms.0) (expression_fits d f rest.1 calms.1))

  pub elements_fit : (es : List RawFelem) (f : ℕ) → body.Stood (felems_facts es) → NoFault (felems_judged named f es) → All (calls.joined (map in_element (map (felem_of named numbers) es)))
  elements_fit [] f s free = tt
  elements_fit (e ∷ es) f s free =
      let sides = body.split (felem_facts e) (felems_facts es) s in
      let calm = both_free (felem_judged named f e) (felems_judged named f es) (elements_keep named f es) free in
      joined body.Fit (in_element (felem_of named numbers e)) (calls.joined (map in_element (map (felem_of named numbers) es))) (element_fits e f sides.0 calm.0) (elements_fit es f sides.1 calm.1)

  -- ---- calls

  each_right : (es : List RawExpr) → Rights named numbers body (map (expression named) es) (map (expression_made named numbers) es) (map expression_uses es)
  each_right [] = none
  each_right (e ∷ es) = more (expression_is_right named numbers body e) (each_right es)

  pub call_statement_fits : (n : RawName) (es : List RawExpr) → body.Stood (uses_of n form.Call ++ argument_uses es) → NoFault (call_faults named (signature_of named n) n (map (expression named) es)) → Fits (made.call_statement named numbers n es)
  call_statement_fits n es s free =
      let sides = body.split (uses_of n form.Call) (argument_uses es) s in
      fits_of (statement.Call (made.line_of n.at) (call_of named numbers n es).0 (call_of named numbers n es).1)
      (call_fits named numbers body n (body.known n form.Call sides.0) (body.callable n form.Call refl sides.0) (sounds_for named numbers body reading.Argument (each_right es) sides.1) free)

  -- ---- jumps

  pub jump_fits : (at : Position) (n : RawName) → Fits (made.jump named numbers at n)
  jump_fits at n = fits_of (statement.Go (made.line_of at) (goal_of (number_of named numbers n))) (subst All (sym (no_calls_to (number_of named numbers n))) tt)

  pub switch_jump_fits : (at : Position) (n : RawName) (e : RawExpr) → body.Stood (expression_uses e reading.Value) → NoFault (expression_judged named 0 e) → Fits (made.switch_jump named numbers at n e)
  switch_jump_fits at n e s free =
      fits_of (statement.Go (made.line_of at) (switch_of (number_of named numbers n) (expression_of named numbers e)))
      (subst All (sym (calls_of_switch (number_of named numbers n) (expression_of named numbers e))) (expression_fits e 0 s free))

  -- ---- other simple statements

  pub assign_fits : (r : RawRef) (e : RawExpr) → body.Stood (reference_uses r reading.Target ++ expression_uses e reading.Value) → NoFault (both (reference_judged named r) (expression_judged named (scale_of named r) e)) → Fits (made.assignment named numbers r e)
  assign_fits r e s free =
      let sides = body.split (reference_uses r reading.Target) (expression_uses e reading.Value) s in
      let calm = both_free (reference_judged named r) (expression_judged named (scale_of named r) e) (whole_keeps named (scale_of named r) e) free in
      fits_of (statement.Put (made.line_of (made.ref_position r)) (reference_of named numbers r) (expression_of named numbers e))
      (joined body.Fit (in_reference (reference_of named numbers r)) (in_expression (expression_of named numbers e)) (place_fits r reading.Target sides.0 calm.0) (expression_fits e (scale_of named r) sides.1 calm.1))

  pub bits_fit : (bits : RawBits) (r : RawRef) (e : RawExpr) → body.Stood (reference_uses r reading.Whole ++ expression_uses e reading.Value) → NoFault (both (bits_judged bits) (both (reference_judged named r) (expression_judged named 0 e))) → Fits (made.bits_assignment named numbers bits r e)
  bits_fit bits r e s free =
      let sides = body.split (reference_uses r reading.Whole) (expression_uses e reading.Value) s in
      let behind = both_free (bits_judged bits) (both (reference_judged named r) (expression_judged named 0 e)) (keeps_both (place_keeps named r) (whole_keeps named 0 e)) free in
      let calm = both_free (reference_judged named r) (expression_judged named 0 e) (whole_keeps named 0 e) behind.1 in
      fits_of (statement.PutBits (made.line_of bits.at) _ _ (reference_of named numbers r) (expression_of named numbers e))
      (joined body.Fit (in_reference (reference_of named numbers r)) (in_expression (expression_of named numbers e)) (place_fits r reading.Whole sides.0 calm.0) (expression_fits e 0 sides.1 calm.1))

  pub answer_fits : (at : Position) (e : RawExpr) (f : ℕ) → body.Stood (expression_uses e reading.Value) → NoFault (expression_judged named f e) → Fits (made.answer named numbers at e)
  answer_fits at e f s free = fits_of (statement.Answer (made.line_of at) (expression_of named numbers e)) (expression_fits e f s free)

  -- ---- statements with parts

  row_of : (ss : List Stmt) → All (calls.joined (map in_statement ss)) → Fits (made.row ss)
  row_of ss h = fits_of (statement.Seq ss) h

  row_parts : (ss : List Stmt) → Fits (made.row ss) → All (calls.joined (map in_statement ss))
  row_parts ss h = subst All (statement_rolled (statement.Seq ss)) h

  pub no_row : Fits (made.row [])
  no_row = row_of [] tt

  pub row_more : (s : Stmt) (ss : List Stmt) → Fits s → Fits (made.row ss) → Fits (made.row (s ∷ ss))
  row_more s ss h k = row_of (s ∷ ss) (joined body.Fit (in_statement s) (calls.joined (map in_statement ss)) h (row_parts ss k))

  pub marked_fits : (ns : List RawName) (s : Stmt) → Fits s → Fits (made.marked numbers ns s)
  marked_fits ns s h = by_test (length ns == 0)
    where
      by_test : (b : Bool) → Fits (if b then s else made.mark (made.labels_of numbers ns) s)
      by_test true = h
      by_test false = fits_of (statement.Mark (made.labels_of numbers ns) s) h

  pub conditional_fits : (at : Position) (test : RawCond) (a b : Stmt) → body.Stood (condition_uses test reading.Value) → NoFault (condition_judged named test) → Fits a → Fits b → Fits (made.conditional (made.line_of at) (condition_of named numbers test) a b)
  conditional_fits at test a b s free h k =
      fits_of (statement.If (made.line_of at) (condition_of named numbers test) a b)
      (joined body.Fit (in_condition (condition_of named numbers test)) (in_statement a ++ in_statement b) (test_fits test s free) (joined body.Fit (in_statement a) (in_statement b) h k))

  pub repetition_fits : (at : Position) (variable : RawRef) (elems : List RawFelem) (s : Stmt) → body.Stood (reference_uses variable reading.Whole) → body.Stood (felems_facts elems) → NoFault (reference_judged named variable) → NoFault (felems_judged named (scale_of named variable) elems) → Fits s
      → Fits (made.repetition (made.line_of at) (item_here numbers at.token) (reference_of named numbers variable) (map (felem_of named numbers) elems) s)
  repetition_fits at variable elems s place elements free calm h =
      fits_of (statement.For (made.line_of at) (item_here numbers at.token) (reference_of named numbers variable) (map (felem_of named numbers) elems) s)
      (joined body.Fit (in_reference (reference_of named numbers variable)) (calls.joined (map in_element (map (felem_of named numbers) elems)) ++ in_statement s) (place_fits variable reading.Whole place free)
      (joined body.Fit (calls.joined (map in_element (map (felem_of named numbers) elems))) (in_statement s) (elements_fit elems (scale_of named variable) elements calm) h))
