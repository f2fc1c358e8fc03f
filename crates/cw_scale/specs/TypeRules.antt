-- The rules of types in expressions: the natural scale and the operand scale of each, and its faults where it is evaluated at a scale.
-- Official Definition of CORAL 66, "Expressions"; BS 5905, "Scaling".
use Rattle.std.specs.Prelude.{ℕ, zero, suc, ◌+◌, ◌≤◌, nat_le, nat_lt, max, ◌==◌, List, [], ◌∷◌, length, map, Bool}
use Rattle.std.specs.Prelude.{true, false, ◌&&◌, Option, Some, None, is_none, is_some, if◌then◌else◌}
use Rattle.cw_word.specs.Decimal.{decimal_floor}
use Rattle.cw_tree.specs.declared.leaf.Position.{Position}
use Rattle.cw_tree.specs.declared.leaf.RawName.{RawName}
use Rattle.cw_tree.specs.declared.leaf.RawFactorSign.{RawFactorSign}
use Rattle.cw_tree.specs.declared.leaf.MulOp.{MulOp}
use Rattle.cw_tree.specs.declared.leaf.MulOp.TheVariants as op
use Rattle.cw_word.specs.Number.{Number}
use Rattle.cw_tree.specs.declared.expression.RawExpr.TheOpen as layer
use Rattle.cw_tree.specs.declared.expression.RawExpr.TheOpen.{RawPrimary-F, RawRef-F, RawCand-F, RawCmp-F, RawCond-F, RawDiffer-F}
use Rattle.cw_tree.specs.declared.expression.RawExpr.TheOpen.{RawMask-F, RawPrim-F, RawSum-F, RawTerm-F, RawUnion-F}
use Rattle.cw_tree.specs.declared.expression.RawExpr.{RawExpr, RawExpr-F, fold-RawExpr}
use Rattle.cw_tree.specs.declared.expression.RawPrimary.{RawPrimary, fold-RawPrimary}
use Rattle.cw_tree.specs.declared.expression.RawRef.{RawRef, fold-RawRef}
use Rattle.cw_tree.specs.declared.expression.RawCand.{RawCand, fold-RawCand}
use Rattle.cw_tree.specs.declared.expression.RawCmp.{RawCmp, fold-RawCmp}
use Rattle.cw_tree.specs.declared.expression.RawCond.{RawCond, fold-RawCond}
use Rattle.cw_tree.specs.declared.expression.RawDiffer.{RawDiffer, fold-RawDiffer}
use Rattle.cw_tree.specs.declared.expression.RawMask.{RawMask, fold-RawMask}
use Rattle.cw_tree.specs.declared.expression.RawPrim.{RawPrim, fold-RawPrim}
use Rattle.cw_tree.specs.declared.expression.RawSum.{RawSum, fold-RawSum}
use Rattle.cw_tree.specs.declared.expression.RawTerm.{RawTerm, fold-RawTerm}
use Rattle.cw_tree.specs.declared.expression.RawUnion.{RawUnion, fold-RawUnion}
use Rattle.cw_facts.specs.declared.fact.Signature.{Signature}
use Rattle.cw_tree.specs.declared.segment.RawIps.{RawIps}
use Rattle.cw_tree.specs.declared.segment.RawIps.TheVariants as inner
use Rattle.cw_tree.specs.declared.segment.RawPs.{RawPs}
use Rattle.cw_tree.specs.declared.segment.RawPs.TheVariants as ps
use Rattle.cw_scope.specs.declared.resolve.Named.{Named}
use Rattle.cw_scale.specs.declared.fault.Rule.TheVariants as rule
use Rattle.cw_scale.specs.declared.scales.Shape.{Shape}
use Rattle.cw_scale.specs.Faults.{Judgement, fine, wrong, unless, both}
use Rattle.cw_scale.specs.Types.{type_judged, each_bits_judged}
use Rattle.cw_scale.specs.Kinds.{kind_of, signature_of, fraction_of, fraction_of_kind}
use Rattle.cw_scale.specs.Arguments.{is_word_item_if, is_whole_if, takes}
use Rattle.cw_amount.specs.Amounts.{octal_word}

-- of an expression: its shape (its natural scale, its scale as an operand, its name where it is a name by itself, and
-- whether it is a reference of a whole word), and the faults of
-- its evaluation at a scale
pub record Judged : Type 0 where
  pub shape : Shape
  pub faults : (scale : ℕ) → Judgement

-- an operand has its natural scale, but for a number with a point
abbrev pub plain : ℕ → Shape
plain n = record { natural = n; operand = n; bare = None; whole = false }

abbrev pub number_shape : ℕ → Shape
number_shape n = record { natural = 0; operand = n; bare = None; whole = false }

abbrev pub name_shape : RawName → ℕ → (whole : Bool) → Shape
name_shape name n whole = record { natural = n; operand = n; bare = Some name; whole = whole }

abbrev pub place_shape : ℕ → (whole : Bool) → Shape
place_shape n whole = record { natural = n; operand = n; bare = None; whole = whole }

-- ---- numbers

-- whether a number fits a word at a scale, which is at most 15
abbrev pub fits_at : Number → (scale : ℕ) → Bool
fits_at n f = nat_le f 15 && nat_le (decimal_floor n.whole n.digits n.places f) 32767

abbrev pub best_if : Bool → ℕ → ℕ → ℕ
best_if true f other = f
best_if false f other = other

-- the largest scale of at most f at which a number fits, or 0
abbrev pub best_within : Number → ℕ → ℕ
best_within n zero = 0
best_within n (suc f) = best_if (fits_at n (suc f)) (suc f) (best_within n f)

abbrev pub number_operand : Number → ℕ
number_operand n = if n.places == 0 then 0 else best_within n 15

-- ---- operands of one rule

-- one alone stands for the whole, and of more the largest natural scale is that of the whole
abbrev pub merged : (alone : Bool) → Shape → Shape → Shape
merged true before x = x
merged false before x = plain (max before.natural x.natural)

abbrev pub shape_from : (alone : Bool) → Shape → List Judged → Shape
shape_from alone before [] = before
shape_from alone before (x ∷ xs) = shape_from alone (merged alone before x.shape) xs

-- the result of word logic has scale 0
abbrev pub logic_merged : (alone : Bool) → Shape → Shape
logic_merged true x = x
logic_merged false x = plain 0

abbrev pub logic_shape_from : (alone : Bool) → Shape → List Judged → Shape
logic_shape_from alone before [] = before
logic_shape_from alone before (x ∷ xs) = logic_shape_from alone (logic_merged alone x.shape) xs

abbrev pub each_at : (scale : ℕ) → List Judged → Judgement
each_at f [] = fine
each_at f (x ∷ xs) = both (x.faults f) (each_at f xs)

-- an operand of `*`, `/`, word logic or BITS is evaluated at its operand scale
abbrev pub operand_faults : Judged → Judgement
operand_faults x = x.faults x.shape.operand

abbrev pub is_division : MulOp → Bool
is_division op.Times = false
is_division op.Divide = true

-- a quotient at scale F of operands at f1 and f2 is scaled by F + f2 - f1, which is -15 to 16
abbrev pub can_divide : (asked f1 f2 : ℕ) → Bool
can_divide asked f1 f2 = nat_le f1 (asked + f2 + 15) && nat_le (asked + f2) (f1 + 16)

abbrev pub division_faults : Bool → RawFactorSign → (asked f1 f2 : ℕ) → Judgement
division_faults true sign asked f1 f2 = unless (can_divide asked f1 f2) rule.ScaleRange sign.at
division_faults false sign asked f1 f2 = fine

abbrev pub factor_faults : RawFactorSign → (asked f1 f2 : ℕ) → Judgement
factor_faults sign asked f1 f2 = division_faults (is_division sign.op) sign asked f1 f2

-- A product or quotient that is an operand of the next operator is evaluated at its natural scale, the last one at the asked scale.
abbrev pub scale_before : List Judged → (asked natural : ℕ) → ℕ
scale_before [] asked n = asked
scale_before (x ∷ xs) asked n = n

-- the operands behind the first of a term: f1 is the operand scale of what stands before, so_far its natural scale
abbrev pub chain_faults : (asked f1 so_far : ℕ) → List Judged → List RawFactorSign → Judgement
chain_faults asked f1 so_far [] signs = fine
chain_faults asked f1 so_far (x ∷ xs) [] = fine
chain_faults asked f1 so_far (x ∷ xs) (s ∷ signs) =
    let n = max so_far x.shape.natural in
    both (operand_faults x) (both (factor_faults s (scale_before xs asked n) f1 x.shape.operand) (chain_faults asked n n xs signs))

abbrev pub term_faults : (asked : ℕ) → List Judged → List RawFactorSign → Judgement
term_faults asked [] signs = fine
term_faults asked (x ∷ xs) signs = both (x.faults (scale_before xs asked x.shape.operand)) (chain_faults asked x.shape.operand x.shape.natural xs signs)

-- one alone is evaluated as the whole is, others at their operand scales
abbrev pub scale_for : (alone : Bool) → (asked operand : ℕ) → ℕ
scale_for true asked operand = asked
scale_for false asked operand = operand

abbrev pub logic_faults : (alone : Bool) → (asked : ℕ) → List Judged → Judgement
logic_faults alone asked [] = fine
logic_faults alone asked (x ∷ xs) = both (x.faults (scale_for alone asked x.shape.operand)) (logic_faults alone asked xs)

module _ (named : Named) where
  -- ---- calls

  abbrev pub all_taken : List RawPs → List Judged → Bool
  all_taken [] [] = true
  all_taken (p ∷ more) (x ∷ xs) = takes named p x.shape && all_taken more xs
  all_taken _ _ = false

  -- a value is evaluated at its parameter's scale, and in a location the indexes are
  abbrev pub plain_argument : RawIps → Judged → Judgement
  plain_argument (inner.Value at t) x = x.faults (fraction_of t)
  plain_argument (inner.Location at t) x = x.faults 0
  plain_argument _ x = fine

  abbrev pub argument_faults : RawPs → Judged → Judgement
  argument_faults (ps.Plain p) x = plain_argument p x
  argument_faults (ps.Proc answer at params) x = fine

  abbrev pub arguments_faults : List RawPs → List Judged → Judgement
  arguments_faults [] xs = fine
  arguments_faults (p ∷ more) [] = fine
  arguments_faults (p ∷ more) (x ∷ xs) = both (argument_faults p x) (arguments_faults more xs)

  abbrev pub taken_faults : (taken : Bool) → List RawPs → RawName → List Judged → Judgement
  taken_faults true params n xs = arguments_faults params xs
  taken_faults false params n xs = wrong rule.WrongArgs n.at

  -- a name that names no procedure is no call
  abbrev pub call_faults : Option Signature → RawName → List Judged → Judgement
  call_faults None n xs = fine
  call_faults (Some s) n xs = taken_faults (all_taken s.params xs) s.params n xs

  -- ---- rules of the grammar

  abbrev pub expression_step : RawExpr-F Judged Judged Judged Judged Judged Judged Judged Judged Judged Judged Judged Judged → Judged
  expression_step (layer.Choice at test a b) =
      record { shape = plain (max a.shape.natural b.shape.natural); faults = λ f. both (test.faults 0) (both (a.faults f) (b.faults f)) }
  expression_step (layer.Sum sum) = sum

  abbrev pub primary_step : RawPrimary-F Judged Judged Judged Judged Judged Judged Judged Judged Judged Judged Judged Judged → Judged
  primary_step (layer.Number n) =
      record { shape = number_shape (number_operand n.number); faults = λ f. unless (fits_at n.number f) rule.NumberRange n.at }
  primary_step (layer.Octal n) = record { shape = plain 0; faults = λ f. unless (is_some (octal_word n.number.number)) rule.NumberRange n.number.at }
  primary_step (layer.Literal c) = record { shape = plain 0; faults = λ f. fine }
  primary_step (layer.Text at cs) = record { shape = plain 0; faults = λ f. fine }
  primary_step (layer.Location at r) = record { shape = plain 0; faults = λ f. r.faults 0 }
  primary_step (layer.Forced t e) = record { shape = plain (fraction_of t); faults = λ f. both (type_judged t) (e.faults (fraction_of t)) }
  primary_step (layer.Bracket at e) = record { shape = plain e.shape.natural; faults = λ f. e.faults f }
  primary_step (layer.Ref r) = r
  primary_step (layer.Call n xs) = record { shape = plain (fraction_of_kind (kind_of named n)); faults = λ f. call_faults (signature_of named n) n xs }

  abbrev pub reference_step : RawRef-F Judged Judged Judged Judged Judged Judged Judged Judged Judged Judged Judged Judged → Judged
  reference_step (layer.Name n) =
      record {
        shape = name_shape n (fraction_of_kind (kind_of named n)) (is_word_item_if (kind_of named n));
        faults = λ f. call_faults (signature_of named n) n [];
      }
  reference_step (layer.One n i) = record { shape = place_shape (fraction_of_kind (kind_of named n)) (is_whole_if (kind_of named n)); faults = λ f. i.faults 0 }
  reference_step (layer.Two n i j) =
      record { shape = place_shape (fraction_of_kind (kind_of named n)) (is_whole_if (kind_of named n)); faults = λ f. both (i.faults 0) (j.faults 0) }
  reference_step (layer.Bare at e) = record { shape = place_shape 0 true; faults = λ f. e.faults 0 }

  abbrev pub conjunction_step : RawCand-F Judged Judged Judged Judged Judged Judged Judged Judged Judged Judged Judged Judged → Judged
  conjunction_step c = record { shape = plain 0; faults = λ f. each_at 0 c.operands }

  abbrev pub comparison_step : RawCmp-F Judged Judged Judged Judged Judged Judged Judged Judged Judged Judged Judged Judged → Judged
  comparison_step c =
      record {
        shape = plain 0;
        faults = λ f. both (c.left.faults (max c.left.shape.natural c.right.shape.natural))
            (c.right.faults (max c.left.shape.natural c.right.shape.natural));
      }

  abbrev pub condition_step : RawCond-F Judged Judged Judged Judged Judged Judged Judged Judged Judged Judged Judged Judged → Judged
  condition_step c = record { shape = plain 0; faults = λ f. each_at 0 c.operands }

  abbrev pub differ_step : RawDiffer-F Judged Judged Judged Judged Judged Judged Judged Judged Judged Judged Judged Judged → Judged
  differ_step e =
      record { shape = logic_shape_from (length e.operands == 1) (plain 0) e.operands; faults = λ f. logic_faults (length e.operands == 1) f e.operands }

  abbrev pub mask_step : RawMask-F Judged Judged Judged Judged Judged Judged Judged Judged Judged Judged Judged Judged → Judged
  mask_step e =
      record { shape = logic_shape_from (length e.operands == 1) (plain 0) e.operands; faults = λ f. logic_faults (length e.operands == 1) f e.operands }

  abbrev pub union_step : RawUnion-F Judged Judged Judged Judged Judged Judged Judged Judged Judged Judged Judged Judged → Judged
  union_step e =
      record { shape = logic_shape_from (length e.operands == 1) (plain 0) e.operands; faults = λ f. logic_faults (length e.operands == 1) f e.operands }

  abbrev pub prim_step : RawPrim-F Judged Judged Judged Judged Judged Judged Judged Judged Judged Judged Judged Judged → Judged
  prim_step e =
      record {
        shape = logic_merged (length e.bits == 0) e.primary.shape;
        faults = λ f. both (each_bits_judged e.bits) (e.primary.faults (scale_for (length e.bits == 0) f e.primary.shape.operand));
      }

  abbrev pub sum_step : RawSum-F Judged Judged Judged Judged Judged Judged Judged Judged Judged Judged Judged Judged → Judged
  sum_step e =
      record {
        shape = shape_from (length e.operands == 1 && is_none e.sign) (plain 0) e.operands;
        faults = λ f. each_at f e.operands;
      }

  abbrev pub term_step : RawTerm-F Judged Judged Judged Judged Judged Judged Judged Judged Judged Judged Judged Judged → Judged
  term_step e =
      record {
        shape = shape_from (length e.operands == 1) (plain 0) e.operands;
        faults = λ f. term_faults f e.operands e.operators;
      }

  abbrev pub expression : RawExpr → Judged
  expression = fold-RawExpr Judged Judged Judged Judged Judged Judged Judged Judged Judged Judged Judged Judged
      expression_step primary_step reference_step conjunction_step comparison_step condition_step differ_step
      mask_step prim_step sum_step term_step union_step

  abbrev pub primary : RawPrimary → Judged
  primary = fold-RawPrimary Judged Judged Judged Judged Judged Judged Judged Judged Judged Judged Judged Judged
      expression_step primary_step reference_step conjunction_step comparison_step condition_step differ_step
      mask_step prim_step sum_step term_step union_step

  abbrev pub reference : RawRef → Judged
  reference = fold-RawRef Judged Judged Judged Judged Judged Judged Judged Judged Judged Judged Judged Judged
      expression_step primary_step reference_step conjunction_step comparison_step condition_step differ_step
      mask_step prim_step sum_step term_step union_step

  abbrev pub conjunction : RawCand → Judged
  conjunction = fold-RawCand Judged Judged Judged Judged Judged Judged Judged Judged Judged Judged Judged Judged
      expression_step primary_step reference_step conjunction_step comparison_step condition_step differ_step
      mask_step prim_step sum_step term_step union_step

  abbrev pub comparison : RawCmp → Judged
  comparison = fold-RawCmp Judged Judged Judged Judged Judged Judged Judged Judged Judged Judged Judged Judged
      expression_step primary_step reference_step conjunction_step comparison_step condition_step differ_step
      mask_step prim_step sum_step term_step union_step

  abbrev pub condition : RawCond → Judged
  condition = fold-RawCond Judged Judged Judged Judged Judged Judged Judged Judged Judged Judged Judged Judged
      expression_step primary_step reference_step conjunction_step comparison_step condition_step differ_step
      mask_step prim_step sum_step term_step union_step

  abbrev pub differ : RawDiffer → Judged
  differ = fold-RawDiffer Judged Judged Judged Judged Judged Judged Judged Judged Judged Judged Judged Judged
      expression_step primary_step reference_step conjunction_step comparison_step condition_step differ_step
      mask_step prim_step sum_step term_step union_step

  abbrev pub mask : RawMask → Judged
  mask = fold-RawMask Judged Judged Judged Judged Judged Judged Judged Judged Judged Judged Judged Judged
      expression_step primary_step reference_step conjunction_step comparison_step condition_step differ_step
      mask_step prim_step sum_step term_step union_step

  abbrev pub prim : RawPrim → Judged
  prim = fold-RawPrim Judged Judged Judged Judged Judged Judged Judged Judged Judged Judged Judged Judged
      expression_step primary_step reference_step conjunction_step comparison_step condition_step differ_step
      mask_step prim_step sum_step term_step union_step

  abbrev pub sum : RawSum → Judged
  sum = fold-RawSum Judged Judged Judged Judged Judged Judged Judged Judged Judged Judged Judged Judged
      expression_step primary_step reference_step conjunction_step comparison_step condition_step differ_step
      mask_step prim_step sum_step term_step union_step

  abbrev pub term : RawTerm → Judged
  term = fold-RawTerm Judged Judged Judged Judged Judged Judged Judged Judged Judged Judged Judged Judged
      expression_step primary_step reference_step conjunction_step comparison_step condition_step differ_step
      mask_step prim_step sum_step term_step union_step

  abbrev pub union : RawUnion → Judged
  union = fold-RawUnion Judged Judged Judged Judged Judged Judged Judged Judged Judged Judged Judged Judged
      expression_step primary_step reference_step conjunction_step comparison_step condition_step differ_step
      mask_step prim_step sum_step term_step union_step
