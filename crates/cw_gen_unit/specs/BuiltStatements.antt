-- The statements whose orders do what they mean: what the checks of a unit give.
use Rattle.std.specs.Prelude.{ℕ, nat_lt, List, [], ◌∷◌, map, length, Bool, true, ◌&&◌, is_some, Option}
use Rattle.cw_unit.specs.declared.unit.Unit.{Unit as SourceUnit}
use Rattle.cw_unit.specs.declared.unit.Dest.{Dest}
use Rattle.cw_unit.specs.declared.unit.Dest.TheVariants as dest
use Rattle.cw_unit.specs.declared.unit.Felem.{Felem}
use Rattle.cw_unit.specs.declared.unit.Felem.TheVariants as element
use Rattle.cw_unit.specs.declared.unit.Ref.{out-Ref}
use Rattle.cw_unit.specs.declared.unit.Stmt.{Stmt, Stmt-F, fold-Stmt}
use Rattle.cw_unit.specs.declared.unit.Stmt.TheOpen as statement
use Rattle.cw_gen_expr.specs.BuiltExpressions.{most_levels, within, all_built, is_expression, is_condition, is_argument, built_reference}

module _ (u : SourceUnit) (has_words : (item words : ℕ) → Bool) (who : Option ℕ) (answer : ℕ) where
  abbrev pub is_jump : Dest → Bool
  is_jump (dest.Goal g) = true
  is_jump (dest.Special k) = true
  is_jump (dest.Switch n e) = is_expression u has_words e 0 most_levels
  is_jump (dest.CommonSwitch d e) = is_expression u has_words e 0 most_levels
  is_jump (dest.SpecialSwitch k e) = is_expression u has_words e 0 most_levels

  -- a value may jump once to the tail of its FOR
  abbrev pub is_element : (scale : ℕ) → Felem → Bool
  is_element f (element.One e) = is_expression u has_words e f 63
  is_element f (element.While e c) = is_expression u has_words e f most_levels && is_condition u has_words c
  is_element f (element.Step a b d) = is_expression u has_words a f most_levels &&
      (is_expression u has_words b f most_levels && is_expression u has_words d f most_levels)

  abbrev pub are_elements : (scale : ℕ) → List Felem → Bool
  are_elements f [] = true
  are_elements f (e ∷ es) = is_element f e && are_elements f es

  -- in a body that has room for so many levels of IF and FOR
  abbrev pub all_within : (levels : ℕ) → List (ℕ → Bool) → Bool
  all_within n [] = true
  all_within n (s ∷ ss) = s n && all_within n ss

  abbrev pub statement_step : Stmt-F (ℕ → Bool) → ℕ → Bool
  statement_step (statement.Put line r e) n = (built_reference u has_words r).good && is_expression u has_words e (out-Ref r).f most_levels
  statement_step (statement.PutBits line t b r e) n = (built_reference u has_words r).good && is_expression u has_words e 0 most_levels
  statement_step (statement.Go line d) n = is_jump d
  statement_step (statement.Call line t args) n = all_built (map (is_argument u has_words) args)
  statement_step (statement.Answer line e) n = is_some who && is_expression u has_words e answer most_levels
  statement_step (statement.If line c a b) n = is_condition u has_words c && (within n a && b n)
  statement_step (statement.For line item r es s) n =
      (built_reference u has_words r).good &&
      (has_words item 4 && (nat_lt (length es) 32767 &&
      (are_elements (out-Ref r).f es && (within n (λ m. true) && s most_levels))))
  statement_step (statement.Seq ss) n = all_within n ss
  statement_step (statement.Mark ls s) n = s n

  abbrev pub is_statement : Stmt → ℕ → Bool
  is_statement = fold-Stmt (ℕ → Bool) statement_step
