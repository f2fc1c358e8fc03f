-- The trees that the grammar gives: the terms of a sum, and the factors of a term, have an operator between any two, and a LITERAL is a byte.
use Rattle.std.specs.Prelude.{suc, nat_le, nat_lt, length, Bool, true, ◌&&◌}
use Rattle.cw_tree.specs.declared.expression.RawExpr.{RawExpr, RawExpr-F}
use Rattle.cw_tree.specs.declared.expression.RawExpr.TheOpen as layer
use Rattle.cw_tree.specs.declared.expression.RawExpr.TheOpen.{RawPrimary-F, RawSum-F, RawTerm-F}
use Rattle.cw_tree.specs.declared.expression.RawRef.{RawRef}
use Rattle.cw_tree.specs.declared.expression.RawCond.{RawCond}
pub use Rattle.cw_writable.specs.Back.Ready.{all}
use Rattle.cw_sound.specs.Expressions.Gathered as gathered
use Rattle.cw_sound.specs.Expressions.Gathered.{Gathering, expression_gathered, reference_gathered, condition_gathered}

abbrev pub by_all : Gathering Bool
by_all = record { nothing = true; two = ◌&&◌; all = all }

abbrev pub expression_step : RawExpr-F Bool Bool Bool Bool Bool Bool Bool Bool Bool Bool Bool Bool → Bool
expression_step (layer.Choice at test a b) = test && (a && b)
expression_step (layer.Sum sum) = sum

abbrev pub primary_step : RawPrimary-F Bool Bool Bool Bool Bool Bool Bool Bool Bool Bool Bool Bool → Bool
primary_step (layer.Literal c) = nat_lt c.byte 256
primary_step x = gathered.primary_step by_all x

abbrev pub sum_step : RawSum-F Bool Bool Bool Bool Bool Bool Bool Bool Bool Bool Bool Bool → Bool
sum_step e = nat_le (length e.operands) (suc (length e.operators)) && all e.operands

abbrev pub term_step : RawTerm-F Bool Bool Bool Bool Bool Bool Bool Bool Bool Bool Bool Bool → Bool
term_step e = nat_le (length e.operands) (suc (length e.operators)) && all e.operands

abbrev pub is_regular : RawExpr → Bool
is_regular = expression_gathered by_all expression_step primary_step sum_step term_step

abbrev pub is_regular_reference : RawRef → Bool
is_regular_reference = reference_gathered by_all expression_step primary_step sum_step term_step

abbrev pub is_regular_condition : RawCond → Bool
is_regular_condition = condition_gathered by_all expression_step primary_step sum_step term_step
