-- Every statement is right: each rule of statements, and the induction over them.
use Rattle.std.proofs.Common.{ℕ, ◌≤◌, List, ◌∷◌, ◌++◌, map, Bool, false, IsTrue, ◌&&◌, Option, refl, sym, subst, arith}
use Rattle.cw_table.specs.declared.table.Row.{Row}
use Rattle.cw_table.specs.Rows.{item_at}
use Rattle.cw_tree.specs.declared.statement.RawBlock.{RawBlock}
use Rattle.cw_tree.specs.declared.statement.RawStmt.{RawStmt}
use Rattle.cw_facts.specs.declared.fact.Fact.TheVariants as fact
use Rattle.cw_facts.specs.declared.fact.Form.TheVariants as form
use Rattle.cw_facts.specs.declared.fact.Reading.TheVariants as reading
use Rattle.cw_facts.specs.Uses.{uses_of, expression_uses, reference_uses}
use Rattle.cw_facts.specs.Facts.{answer_name, statement_facts, block_facts}
use Rattle.cw_scope.specs.declared.resolve.Named.{Named}
use Rattle.cw_scale.specs.Faults.{Judgement, both}
use Rattle.cw_scale.specs.Kinds.{kind_of, signature_of, fraction_of_kind}
use Rattle.cw_scale.specs.Types.{bits_judged}
use Rattle.cw_scale.specs.TypeRules.{expression, call_faults}
use Rattle.cw_items.specs.declared.families.Site.{Site}
use Rattle.cw_judge.specs.Judged.{expression_judged, reference_judged, arguments_counted, scale_of, statement_judged, block_judged}
use Rattle.cw_amount.specs.Amounts.{place_amount}
use Rattle.cw_make_expr.specs.Parts.{Numbers, within, number_of, item_here}
use Rattle.cw_make_expr.specs.Made.{expression_of, condition_of, call_of}
use Rattle.cw_make_stmt.specs.Made.{line_of, ref_position, goal_of, switch_of, row, conditional, repetition, statement_of, block_of}
use Rattle.cw_make_stmt.specs.Made as made
use Rattle.cw_unit.specs.declared.unit.Unit.{Unit as SourceUnit}
use Rattle.cw_safety.specs.Kinds.{Kind}
use Rattle.cw_safety.specs.WellFormed as formed
use Rattle.cw_gen_expr.specs.BuiltExpressions.{most_levels}
use Rattle.cw_built.specs.Built.{alone, at_work}
use Rattle.cw_sound.specs.Expressions.Levels.{largest, then_levels, condition_levels, reference_levels}
use Rattle.cw_sound.specs.Expressions.Regular.{is_regular, is_regular_reference}
use Rattle.cw_sound.proofs.Expressions.Truth.{parts}
use Rattle.cw_sound.proofs.Expressions.Judging.{NoFault, keeps_both, both_free}
use Rattle.cw_sound.proofs.Expressions.Standing.{loop_stands}
use Rattle.cw_sound.proofs.Expressions.Numbers.{name_small}
use Rattle.cw_sound.proofs.Expressions.Places.{has_item_of}
use Rattle.cw_sound.proofs.Expressions.Built.{built_well}
use Rattle.cw_sound.proofs.Expressions.BuiltTrees.{built_kept}
use Rattle.cw_sound.proofs.Expressions.Given.{all_given}
use Rattle.cw_sound.proofs.Expressions.Whole.{call_good}
use Rattle.cw_sound.specs.Statements.Levels.{element_levels, statement_levels, block_levels}
use Rattle.cw_sound.specs.Statements.Regular.{is_regular_statement, is_regular_block}
use Rattle.cw_sound.proofs.Statements.Keeping.{counted_keeps, whole_keeps, place_keeps}
use Rattle.cw_sound.proofs.Statements.Parts.{Stood, halves_of, answers_as, fit_of, test_fit, place_fit, jump_fit, SwitchFit, switch_fit, elements_fit}
use Rattle.cw_sound.proofs.Statements.Nodes.{Good, GoodRow, no_row, row_more, row_good, marked_good, conditional_good, go_good, call_statement_good, put_good, put_bits_good, answer_good, repetition_good}
use Rattle.cw_sound.proofs.Statements.Induction.{row_right, Closed, each_statement, each_block}

module _ (named : Named) (numbers : Numbers) (u : SourceUnit) (who : Option ℕ) where
  -- ---- simple statements

  -- ---- statements with parts

  closed : Closed named numbers u who (Good u who)
  closed = record {
    row = row_right (Good u who) (GoodRow u who) (no_row u who) (row_more u who) (row_good u who);
    marked = λ ns s l g. marked_good u who numbers ns s l g;
    conditional = λ at test a b l k ok s free ga gb.
        let t = λ (few : condition_levels test ≤ most_levels). test_fit named numbers u who test ok s.0 free few in
        conditional_good u who (line_of at) (condition_of named numbers test) a b (condition_levels test) l k (λ few. (t few).built) (λ few. (t few).formed) ga gb;
    repetition = λ at variable elems s l ok few_elements oks loop place sides calm calms g.
        let fit = λ (few : reference_levels variable ≤ most_levels). place_fit named numbers u who variable reading.Whole refl ok place.0 calm few in
        repetition_good u who named numbers (line_of at) (item_here numbers at.token) variable elems s (largest (map element_levels elems)) l (has_item_of named numbers u who 4 (item_at numbers at.token) (loop_stands named numbers u who at loop.0)) few_elements fit
        (λ few_place few. elements_fit named numbers u who elems (scale_of named variable) (fit few_place).small oks sides.0 calms few) g;
    goto = λ at n s. let j = jump_fit named numbers u who n s.0 in go_good u who (line_of at) (goal_of (number_of named numbers n)) 0 (λ few. j.built) (λ few. j.formed);
    switch = λ at n e r s free.
        let sides = halves_of named numbers u who (uses_of n form.GotoSwitch) (expression_uses e reading.Value) s in
        let fits : then_levels e ≤ most_levels → SwitchFit named numbers u who (number_of named numbers n) (expression_of named numbers e) = λ few.
        let x = fit_of named numbers u who e 0 r sides.1.0 free (omega arith) few in
        switch_fit named numbers u who (expression_of named numbers e) (x.built most_levels few (omega arith)) x.formed n sides.0.0 in
        go_good u who (line_of at) (switch_of (number_of named numbers n) (expression_of named numbers e)) (then_levels e) (λ few. (fits few).built) (λ few. (fits few).formed);
    call = λ n es r s free.
        let calm = (both_free (call_faults named (signature_of named n) n (map (expression named) es)) (arguments_counted es) (counted_keeps es) free).0 in
        call_statement_good u who (line_of n.at) (call_of named numbers n es).0 (call_of named numbers n es).1 (largest (map then_levels es))
        (λ few. (all_given u who (call_good named numbers u who (built_well u who) (built_kept named numbers u who) n es r s.0 calm few).1).built)
        (λ few.
        let g = call_good named numbers u who (built_well u who) (built_kept named numbers u who) n es r s.0 calm few in
        subst (λ (ks : Option (List Kind)). IsTrue (formed.is_call (alone u) 0 (at_work who) false (call_of named numbers n es).0 ks)) (sym (all_given u who g.1).kinds) g.0.call);
    assign = λ r e ok s free.
        let oks = parts (is_regular_reference r) (is_regular e) ok in
        let sides = halves_of named numbers u who (reference_uses r reading.Target) (expression_uses e reading.Value) s in
        let calm = both_free (reference_judged named r) (expression_judged named (scale_of named r) e) (whole_keeps named (scale_of named r) e) free in
        put_good u who named numbers (line_of (ref_position r)) r e (λ few. place_fit named numbers u who r reading.Target refl oks.0 sides.0.0 calm.0 few)
        (λ few few_place. fit_of named numbers u who e (scale_of named r) oks.1 sides.1.0 calm.1 (place_fit named numbers u who r reading.Target refl oks.0 sides.0.0 calm.0 few_place).small few);
    bits = λ bits r e ok s free.
        let oks = parts (is_regular_reference r) (is_regular e) ok in
        let sides = halves_of named numbers u who (reference_uses r reading.Whole) (expression_uses e reading.Value) s in
        let both_parts : Judgement = both (reference_judged named r) (expression_judged named 0 e) in
        let calm = both_free (reference_judged named r) (expression_judged named 0 e) (whole_keeps named 0 e) (both_free (bits_judged bits) both_parts (keeps_both (place_keeps named r) (whole_keeps named 0 e)) free).1 in
        put_bits_good u who named numbers (line_of bits.at) (within 255 (place_amount bits.size.first)) (within 255 (place_amount bits.size.second)) r e
        (λ few. place_fit named numbers u who r reading.Whole refl oks.0 sides.0.0 calm.0 few) (λ few. fit_of named numbers u who e 0 oks.1 sides.1.0 calm.1 (omega arith) few);
    answer = λ at e r s free.
        let f : ℕ = fraction_of_kind (kind_of named (answer_name at)) in
        let sides = halves_of named numbers u who (uses_of (answer_name at) form.Answer) (expression_uses e reading.Value) s in
        let a = answers_as named numbers u who (answer_name at) sides.0 in
        answer_good u who named numbers (line_of at) e f a.0 a.1 (λ few. fit_of named numbers u who e f r sides.1.0 free (name_small (kind_of named (answer_name at))) few);
  }

module _ (named : Named) (sites : List (Row Site)) (numbers : Numbers) (u : SourceUnit) (who : Option ℕ) where
  pub statement_is_right : (x : RawStmt) → IsTrue (is_regular_statement x) → Stood named numbers u who (statement_facts x) → NoFault (statement_judged named sites x) → Good u who (statement_of named numbers x) (statement_levels x)
  statement_is_right = each_statement named sites numbers u who (Good u who) (closed named numbers u who)

  pub block_is_right : (x : RawBlock) (outermost : Bool) → IsTrue (is_regular_block x) → Stood named numbers u who (block_facts x outermost) → NoFault (block_judged named sites x) → Good u who (block_of named numbers x) (block_levels x)
  block_is_right = each_block named sites numbers u who (Good u who) (closed named numbers u who)
