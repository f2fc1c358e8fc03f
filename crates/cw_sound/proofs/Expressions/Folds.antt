-- Folds over expressions, by their steps.
use Rattle.std.proofs.Common.{ℕ, Bool}
use Rattle.cw_tree.specs.declared.expression.RawExpr.{RawExpr-F}
use Rattle.cw_tree.specs.declared.expression.RawExpr.TheOpen.{RawPrimary-F, RawSum-F, RawTerm-F}
use Rattle.cw_tree.proofs.Expressions.{ExpressionSteps, expression_steps}
use Rattle.cw_facts.specs.Uses as uses
use Rattle.cw_facts.specs.Uses.{Uses}
use Rattle.cw_preset.specs.Strings as rows
use Rattle.cw_preset.specs.Strings.{Rows}
use Rattle.cw_scope.specs.declared.resolve.Named.{Named}
use Rattle.cw_scale.specs.TypeRules as judged
use Rattle.cw_scale.specs.TypeRules.{Judged}
use Rattle.cw_make_expr.specs.Parts.{Numbers}
use Rattle.cw_make_expr.specs.Made as made
use Rattle.cw_make_expr.specs.Made.{Made, Placed}
use Rattle.cw_unit.specs.declared.unit.Cond.{Cond}
use Rattle.cw_tokens.specs.TreeTokens as tokens
use Rattle.cw_sound.specs.Expressions.Gathered as gathered
use Rattle.cw_sound.specs.Expressions.Gathered.{Gathering}
use Rattle.cw_sound.specs.Expressions.Levels as levels
use Rattle.cw_sound.specs.Expressions.Levels.{by_largest}
use Rattle.cw_sound.specs.Expressions.Regular as regular
use Rattle.cw_sound.specs.Expressions.Regular.{by_all}
use Rattle.cw_tokens.proofs.Passes.{Pass}

-- the uses of names, by what each part is wanted for
abbrev pub uses_pass : Pass Uses
uses_pass = expression_steps uses.expression_step uses.primary_step uses.reference_step uses.conjunction_step uses.comparison_step uses.condition_step uses.differ_step uses.mask_step uses.prim_step uses.sum_step uses.term_step uses.union_step

-- the strings that are held
abbrev pub rows_pass : Pass Rows
rows_pass = expression_steps rows.expression_step rows.primary_step rows.reference_step rows.conjunction_step rows.comparison_step rows.condition_step rows.differ_step rows.mask_step rows.prim_step rows.sum_step rows.term_step rows.union_step

-- the judgements
abbrev pub judged_pass : Named → Pass Judged
judged_pass named = expression_steps (judged.expression_step named) (judged.primary_step named) (judged.reference_step named) (judged.conjunction_step named) (judged.comparison_step named) (judged.condition_step named) (judged.differ_step named) (judged.mask_step named) (judged.prim_step named) (judged.sum_step named) (judged.term_step named) (judged.union_step named)

-- what is made
abbrev pub made_steps : Named → Numbers → ExpressionSteps Made Made Placed Cond Cond Cond Made Made Made Made Made Made
made_steps named numbers = expression_steps (made.expression_step named numbers) (made.primary_step named numbers) (made.reference_step named numbers) (made.conjunction_step named numbers) (made.comparison_step named numbers) (made.condition_step named numbers) (made.differ_step named numbers) (made.mask_step named numbers) (made.prim_step named numbers) (made.sum_step named numbers) (made.term_step named numbers) (made.union_step named numbers)

-- the tokens that are counted
abbrev pub tokens_pass : Pass ℕ
tokens_pass = expression_steps tokens.expr_step tokens.primary_step tokens.ref_step tokens.cand_step tokens.cmp_step tokens.cond_step tokens.differ_step tokens.mask_step tokens.prim_step tokens.sum_step tokens.term_step tokens.union_step

-- what is gathered
module _ {A : Type 0} (g : Gathering A) (whole : RawExpr-F A A A A A A A A A A A A → A) (primary : RawPrimary-F A A A A A A A A A A A A → A) (sum : RawSum-F A A A A A A A A A A A A → A) (term : RawTerm-F A A A A A A A A A A A A → A) where
  abbrev pub gathered_pass : Pass A
  gathered_pass = expression_steps whole primary (gathered.reference_step g) (gathered.conjunction_step g) (gathered.comparison_step g) (gathered.condition_step g) (gathered.differ_step g) (gathered.mask_step g) (gathered.prim_step g) sum term (gathered.union_step g)

-- the levels that are needed
abbrev pub levels_pass : Pass ℕ
levels_pass = gathered_pass by_largest levels.expression_step (gathered.primary_step by_largest) (gathered.sum_step by_largest) (gathered.term_step by_largest)

-- whether it is regular
abbrev pub regular_pass : Pass Bool
regular_pass = gathered_pass by_all regular.expression_step regular.primary_step regular.sum_step regular.term_step
