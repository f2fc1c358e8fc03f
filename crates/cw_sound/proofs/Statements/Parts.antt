-- The parts of statements that are expressions, conditions, references, calls and jumps.
use Rattle.std.proofs.Common.{◌≡◌, ℕ, ◌≤◌, List, [], ◌∷◌, ◌++◌, map, Bool, IsTrue, ◌&&◌, nat_le, Option, Some, slice_get, refl, sym, ap, subst, ◌∙◌, arith}
use Rattle.cw_tree.specs.declared.leaf.RawName.{RawName}
use Rattle.cw_tree.specs.declared.expression.RawExpr.{RawExpr}
use Rattle.cw_tree.specs.declared.expression.RawCond.{RawCond}
use Rattle.cw_tree.specs.declared.expression.RawRef.{RawRef}
use Rattle.cw_tree.specs.declared.statement.RawFelem.{RawFelem}
use Rattle.cw_tree.specs.declared.statement.RawFelem.TheVariants as felem
use Rattle.cw_facts.specs.declared.fact.Fact.{Fact}
use Rattle.cw_facts.specs.declared.fact.Form.TheVariants as form
use Rattle.cw_facts.specs.declared.fact.Kind.{Kind as NameKind}
use Rattle.cw_facts.specs.declared.fact.Kind.TheVariants as kind
use Rattle.cw_facts.specs.declared.fact.Reading.{Reading}
use Rattle.cw_facts.specs.declared.fact.Reading.TheVariants as reading
use Rattle.cw_facts.specs.Uses.{uses_of, expression_uses, condition_uses, reference_uses}
use Rattle.cw_facts.specs.Facts.{felem_facts, felems_facts}
use Rattle.cw_scope.specs.declared.resolve.Named.{Named}
use Rattle.cw_scope.specs.NameRules.{is_label, is_switch}
use Rattle.cw_scale.specs.Faults.{both as judged_both}
use Rattle.cw_scale.specs.TypeRules.{expression, condition, reference}
use Rattle.cw_judge.specs.Operators.{few_operators, few_each, expression_operators, condition_operators, reference_operators}
use Rattle.cw_judge.specs.Judged.{expression_judged, condition_judged, reference_judged, scale_of, felem_judged, felems_judged}
use Rattle.cw_number.specs.declared.numbered.Numbered.{Numbered}
use Rattle.cw_number.specs.declared.numbered.Numbered.TheVariants as numbered
use Rattle.cw_make_expr.specs.Parts.{Numbers, number_of}
use Rattle.cw_make_expr.specs.Made.{expression_of, condition_of, reference_of}
use Rattle.cw_make_stmt.specs.Made.{goal_of, switch_of, felem_of}
use Rattle.cw_unit.specs.declared.unit.Unit.{Unit as SourceUnit}
use Rattle.cw_unit.specs.declared.unit.Expr.{Expr}
use Rattle.cw_unit.specs.declared.unit.Ref.{out-Ref}
use Rattle.cw_unit.specs.Program.{definition_of}
use Rattle.cw_unit.specs.Step.{switch_of_def}
use Rattle.cw_safety.specs.Kinds.{Kind, LabelKind, SwitchKind}
use Rattle.cw_safety.specs.WellFormed as formed
use Rattle.cw_gen_expr.specs.NamedItems.{has_words}
use Rattle.cw_gen_expr.specs.BuiltExpressions.{BuiltReference, most_levels, built_value, is_expression, is_condition, built_reference}
use Rattle.cw_gen_expr.proofs.Layers.{reference-built}
use Rattle.cw_gen_unit.specs.BuiltStatements.{is_jump, is_element, are_elements}
use Rattle.cw_gen_unit.specs.ReferenceUnits.{answer_of}
use Rattle.cw_built.specs.Built.{alone, at_work}
use Rattle.cw_sound.specs.Uses.Mentions.{here, uses}
use Rattle.cw_sound.specs.Uses.Stands.{FactsStand, StandsAs, IsLabel, IsSwitch, IsControl}
use Rattle.cw_sound.specs.Expressions.Levels.{largest, then_levels, condition_levels, reference_levels}
use Rattle.cw_sound.specs.Expressions.Readings.{is_placed}
use Rattle.cw_sound.specs.Expressions.Regular.{all, is_regular, is_regular_condition, is_regular_reference}
use Rattle.cw_sound.proofs.Expressions.Truth.{no, both, parts, le_true}
use Rattle.cw_sound.proofs.Expressions.Judging.{NoFault, keeps_both, both_free}
use Rattle.cw_sound.proofs.Expressions.Standing.{split, all_left, all_right, use_stands, use_is_in}
use Rattle.cw_sound.proofs.Expressions.Parts.{AsValue}
use Rattle.cw_sound.proofs.Expressions.Built.{built_well, BuiltTest}
use Rattle.cw_sound.proofs.Expressions.BuiltTrees.{built_kept}
use Rattle.cw_sound.proofs.Expressions.Trees.{reference_is_right}
use Rattle.cw_sound.proofs.Expressions.Whole.{expression_good, condition_good}
use Rattle.cw_sound.specs.Statements.Answers.{AnswersStand, AnswersAs}
use Rattle.cw_sound.specs.Statements.Levels.{element_levels}
use Rattle.cw_sound.specs.Statements.Regular.{is_regular_element}
use Rattle.cw_sound.proofs.Statements.Elements.{step_parts}
use Rattle.cw_sound.proofs.Statements.Keeping.{whole_keeps, test_keeps, elements_keep}
use Rattle.cw_sound.proofs.Items.Keeping.{keeps_few, keeps_few_each}

module _ (named : Named) (numbers : Numbers) (u : SourceUnit) (who : Option ℕ) where
  -- ---- facts that stand, with ANSWER

  abbrev pub Stood : List Fact → Type 0
  Stood fs = FactsStand named numbers u fs who × AnswersStand named numbers u fs who

  pub halves_of : (fs gs : List Fact) → Stood (fs ++ gs) → Stood fs × Stood gs
  halves_of fs gs h =
      let facts = split named numbers u who fs gs h.0 in
      ((facts.0, λ m k. h.1 m (all_left named numbers u who m fs gs k)), (facts.1, λ m k. h.1 m (all_right named numbers u who m fs gs k)))

  pub answers_as : (n : RawName) → Stood (uses_of n form.Answer) → AnswersAs named u who form.Answer n
  answers_as n h = h.1 (here who (uses (record { name = n; form = form.Answer }))) (use_is_in named numbers u who n form.Answer)

  -- ---- expressions

  pub record Fit (e : RawExpr) (f : ℕ) : Type 0 where
    pub built : (levels : ℕ) → then_levels e ≤ levels → levels ≤ most_levels → IsTrue (is_expression u (has_words u who) (expression_of named numbers e) f levels)
    pub formed : IsTrue (formed.is_expression (alone u) 0 (at_work who) (expression_of named numbers e))

  pub fit_of : (e : RawExpr) (f : ℕ) → IsTrue (is_regular e) → FactsStand named numbers u (expression_uses e reading.Value) who → NoFault (expression_judged named f e) → f ≤ 15 → then_levels e ≤ most_levels → Fit e f
  fit_of e f regular facts free small few =
      let g = expression_good named numbers u who (built_well u who) (built_kept named numbers u who) reading.Value e f regular refl facts (both_free ((expression named e).faults f) (few_operators (expression_operators e)) (keeps_few (expression_operators e)) free).0 small few in
      record {
        built = λ levels low high. both (nat_le f 15) ((built_value u (has_words u who) (expression_of named numbers e)).at f levels) (le_true f 15 small) (g.at.built levels low high);
        formed = g.at.formed;
      }

  abbrev pub TestFit : RawCond → Type 0
  TestFit c = BuiltTest u who (condition_of named numbers c)

  pub test_fit : (c : RawCond) → IsTrue (is_regular_condition c) → FactsStand named numbers u (condition_uses c reading.Value) who → NoFault (condition_judged named c) → condition_levels c ≤ most_levels → TestFit c
  test_fit c regular facts free few =
      condition_good named numbers u who (built_well u who) (built_kept named numbers u who) reading.Value c 0 regular facts (both_free ((condition named c).faults 0) (few_operators (condition_operators c)) (keeps_few (condition_operators c)) free).0 few

  -- a reference that is assigned to, with the scale of what is assigned
  pub record PlaceFit (r : RawRef) : Type 0 where
    pub built : IsTrue (built_reference u (has_words u who) (reference_of named numbers r)).good
    pub formed : IsTrue (formed.is_reference (alone u) 0 (at_work who) (reference_of named numbers r))
    pub small : scale_of named r ≤ 15
    pub scale : (out-Ref (reference_of named numbers r)).f ≡ scale_of named r

  wanted : (x : Reading) (b : Option RawName) → IsTrue (is_placed x) → AsValue named x b
  wanted reading.Argument b h = no h
  wanted _ b h = tt

  pub place_fit : (r : RawRef) (x : Reading) → IsTrue (is_placed x) → IsTrue (is_regular_reference r) → FactsStand named numbers u (reference_uses r x) who → NoFault (reference_judged named r) → reference_levels r ≤ most_levels → PlaceFit r
  place_fit r x placed regular facts free few =
      let p = reference_is_right named numbers u who (built_well u who) (built_kept named numbers u who) r regular in
      let calm = (both_free ((reference named r).faults 0) (few_each (reference_operators r)) (keeps_few_each (reference_operators r)) free).0 in
      let g = (p.located x placed facts).good 0 few calm in
      record {
        built = g.built;
        formed = g.formed;
        small = ((p.sound x facts).valued (wanted x (reference named r).shape.bare placed)).natural_small;
        scale = sym (ap (λ (b : BuiltReference). b.scale) (reference-built u (has_words u who) (reference_of named numbers r))) ∙ p.scale;
      }

  -- ---- jumps

  pub record JumpFit (number : Option Numbered) : Type 0 where
    pub built : IsTrue (is_jump u (has_words u who) who (answer_of u who) (goal_of number))
    pub formed : IsTrue (formed.is_goal (alone u) 0 (at_work who) (goal_of number))

  to_label : (number : Option Numbered) → IsLabel named numbers u who number → JumpFit number
  to_label (Some (numbered.Label l)) x = record { built = refl; formed = x }
  to_label (Some (numbered.CommonLabel d)) x = record { built = refl; formed = x }
  to_label _ x = absurd x

  to_parameter : (number : Option Numbered) → IsControl named numbers u who LabelKind number → JumpFit number
  to_parameter number x =
      subst JumpFit (sym x.1) (record { built = refl; formed = subst (λ (k : Option Kind). IsTrue (formed.is_label k)) (sym x.2) refl })

  jump_by_kind : (k : NameKind) (n : RawName) → StandsAs named numbers u who k n → IsTrue (is_label k) → JumpFit (number_of named numbers n)
  jump_by_kind kind.Label n x h = to_label (number_of named numbers n) x
  jump_by_kind kind.LabelParam n x h = to_parameter (number_of named numbers n) x
  jump_by_kind _ n x h = no h

  pub jump_fit : (n : RawName) → FactsStand named numbers u (uses_of n form.Goto) who → JumpFit (number_of named numbers n)
  jump_fit n h = let s = use_stands named numbers u who n form.Goto h in jump_by_kind s.named_kind n s.stands_as s.fits_use

  pub record SwitchFit (number : Option Numbered) (e : Expr) : Type 0 where
    pub built : IsTrue (is_jump u (has_words u who) who (answer_of u who) (switch_of number e))
    pub formed : IsTrue (formed.is_goal (alone u) 0 (at_work who) (switch_of number e))

  module _ (e : Expr) (good : IsTrue (is_expression u (has_words u who) e 0 most_levels)) (fits : IsTrue (formed.is_expression (alone u) 0 (at_work who) e)) where
    by_switch : (number : Option Numbered) → IsSwitch named numbers u who number → SwitchFit number e
    by_switch (Some (numbered.Switch n)) x = record { built = good; formed = both (formed.is_expression (alone u) 0 (at_work who) e) (formed.reaches_switch (alone u) (at_work who) (Some (0, n))) fits x }
    by_switch (Some (numbered.CommonSwitch d)) x =
        record {
          built = good;
          formed = both (formed.is_expression (alone u) 0 (at_work who) e) (formed.reaches_switch (alone u) (at_work who) (switch_of_def (definition_of (alone u) 0 d))) fits x;
        }
    by_switch _ x = absurd x

    by_parameter : (number : Option Numbered) → IsControl named numbers u who SwitchKind number → SwitchFit number e
    by_parameter number x =
        subst (λ (m : Option Numbered). SwitchFit m e) (sym x.1)
        (record { built = good; formed = both (formed.is_expression (alone u) 0 (at_work who) e) (formed.is_switch (slice_get (formed.controls_of (alone u) (at_work who)) x.0)) fits (subst (λ (k : Option Kind). IsTrue (formed.is_switch k)) (sym x.2) refl) })

    switch_by_kind : (k : NameKind) (n : RawName) → StandsAs named numbers u who k n → IsTrue (is_switch k) → SwitchFit (number_of named numbers n) e
    switch_by_kind kind.Switch n x h = by_switch (number_of named numbers n) x
    switch_by_kind kind.SwitchParam n x h = by_parameter (number_of named numbers n) x
    switch_by_kind _ n x h = no h

    pub switch_fit : (n : RawName) → FactsStand named numbers u (uses_of n form.GotoSwitch) who → SwitchFit (number_of named numbers n) e
    switch_fit n h = let s = use_stands named numbers u who n form.GotoSwitch h in switch_by_kind s.named_kind n s.stands_as s.fits_use

  -- ---- the elements of a FOR

  pub record ElementsFit (es : List RawFelem) (f : ℕ) : Type 0 where
    pub built : IsTrue (are_elements u (has_words u who) who (answer_of u who) f (map (felem_of named numbers) es))
    pub formed : IsTrue (formed.are_elements (alone u) 0 (at_work who) (map (felem_of named numbers) es))

  record ElementFit (e : RawFelem) (f : ℕ) : Type 0 where
    built : IsTrue (is_element u (has_words u who) who (answer_of u who) f (felem_of named numbers e))
    formed : IsTrue (formed.is_element (alone u) 0 (at_work who) (felem_of named numbers e))

  abbrev an_expression : RawExpr → ℕ → ℕ → Bool
  an_expression e f levels = is_expression u (has_words u who) (expression_of named numbers e) f levels

  abbrev a_formed : RawExpr → Bool
  a_formed e = formed.is_expression (alone u) 0 (at_work who) (expression_of named numbers e)

  element_fit : (e : RawFelem) (f : ℕ) → f ≤ 15 → IsTrue (is_regular_element e) → FactsStand named numbers u (felem_facts e) who → NoFault (felem_judged named f e) → element_levels e ≤ most_levels → ElementFit e f
  element_fit (felem.One e) f small regular facts free few =
      let x = fit_of e f regular facts free small (omega (arith, few)) in
      record { built = x.built 63 (omega (arith, few)) (omega arith); formed = x.formed }
  element_fit (felem.While e c) f small regular facts free few =
      let ok = parts (is_regular e) (is_regular_condition c) regular in
      let sides = split named numbers u who (expression_uses e reading.Value) (condition_uses c reading.Value) facts in
      let calm = both_free (expression_judged named f e) (condition_judged named c) (test_keeps named c) free in
      let x = fit_of e f ok.0 sides.0 calm.0 small (omega (arith, few)) in
      let t = test_fit c ok.1 sides.1 calm.1 (omega (arith, few)) in
      record {
        built = both (an_expression e f most_levels) (is_condition u (has_words u who) (condition_of named numbers c)) (x.built most_levels (omega (arith, few)) (omega arith)) t.built;
        formed = both (a_formed e) (formed.is_condition (alone u) 0 (at_work who) (condition_of named numbers c)) x.formed t.formed;
      }
  element_fit (felem.Step a b d) f small regular facts free few =
      let p = step_parts named numbers u who a b d f regular facts free in
      let x = fit_of a f p.0.regular p.0.facts p.0.free small (omega (arith, few)) in
      let y = fit_of b f p.1.regular p.1.facts p.1.free small (omega (arith, few)) in
      let z = fit_of d f p.2.regular p.2.facts p.2.free small (omega (arith, few)) in
      record {
        built = both (an_expression a f most_levels) (an_expression b f most_levels && an_expression d f most_levels) (x.built most_levels (omega (arith, few)) (omega arith))
            (both (an_expression b f most_levels) (an_expression d f most_levels) (y.built most_levels (omega (arith, few)) (omega arith)) (z.built most_levels (omega (arith, few)) (omega arith)));
        formed = both (a_formed a) (a_formed b && a_formed d) x.formed (both (a_formed b) (a_formed d) y.formed z.formed);
      }

  pub elements_fit : (es : List RawFelem) (f : ℕ) → f ≤ 15 → IsTrue (all (map is_regular_element es)) → FactsStand named numbers u (felems_facts es) who → NoFault (felems_judged named f es) → largest (map element_levels es) ≤ most_levels → ElementsFit es f
  elements_fit [] f small regular facts free few = record { built = refl; formed = refl }
  elements_fit (e ∷ es) f small regular facts free few =
      let ok = parts (is_regular_element e) (all (map is_regular_element es)) regular in
      let sides = split named numbers u who (felem_facts e) (felems_facts es) facts in
      let calm = both_free (felem_judged named f e) (felems_judged named f es) (elements_keep named f es) free in
      let x = element_fit e f small ok.0 sides.0 calm.0 (omega (arith, few)) in
      let xs = elements_fit es f small ok.1 sides.1 calm.1 (omega (arith, few)) in
      record {
        built = both (is_element u (has_words u who) who (answer_of u who) f (felem_of named numbers e)) (are_elements u (has_words u who) who (answer_of u who) f (map (felem_of named numbers) es)) x.built xs.built;
        formed = both (formed.is_element (alone u) 0 (at_work who) (felem_of named numbers e)) (formed.are_elements (alone u) 0 (at_work who) (map (felem_of named numbers) es)) x.formed xs.formed;
      }
