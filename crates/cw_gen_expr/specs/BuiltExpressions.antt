-- The expressions, conditions, references and arguments whose orders do what they mean: what the checks of a unit give. Numbers fit a
-- word at their scale, scales are at most 15, the items that are named have words, what is called in an expression
-- answers, and conditional expressions stand in one another's
-- THEN parts in no more than so many levels, since each may jump once where it ends.
use Rattle.std.specs.Prelude.{ℕ, zero, suc, max, nat_le, nat_lt, List, [], ◌∷◌, Bool, true, false, ◌&&◌}
use Rattle.cw_word.specs.Decimal.{decimal_floor}
use Rattle.cw_word.specs.FixedPoint.{fits_word}
use Rattle.cw_unit.specs.declared.unit.Unit.{Unit as SourceUnit}
use Rattle.cw_unit.specs.declared.unit.Target.{Target}
use Rattle.cw_unit.specs.declared.unit.Target.TheVariants as target
use Rattle.cw_unit.specs.declared.unit.Cond.{Cond, fold-Cond}
use Rattle.cw_unit.specs.declared.unit.Expr.{Expr, Expr-F, fold-Expr}
use Rattle.cw_unit.specs.declared.unit.Arg.{Arg, fold-Arg}
use Rattle.cw_unit.specs.declared.unit.Ref.{Ref, fold-Ref}
use Rattle.cw_unit.specs.declared.unit.Spot.{Spot, fold-Spot}
use Rattle.cw_unit.specs.declared.unit.Arg.TheOpen as layer
use Rattle.cw_unit.specs.declared.unit.Arg.TheOpen.{Arg-F, Cond-F, Spot-F, Ref-F}
use Rattle.cw_unit.specs.Scales.{answer_scale, number_scale}

-- how many levels of choices may end together: as many as are open at a place
abbrev pub most_levels : ℕ
most_levels = 64

-- an expression: its natural scale, its scale as an operand, and whether it is built at a scale, with so many levels left
pub record BuiltValue : Type 0 where
  pub natural : ℕ
  pub operand : ℕ
  pub at : (scale levels : ℕ) → Bool

-- a reference: its scale, and whether it is built
pub record BuiltReference : Type 0 where
  pub scale : ℕ
  pub good : Bool

abbrev pub within : (levels : ℕ) → (ℕ → Bool) → Bool
within zero f = false
within (suc n) f = f n

abbrev pub all_built : List Bool → Bool
all_built [] = true
all_built (b ∷ bs) = b && all_built bs

abbrev pub whole : BuiltValue → (scale : ℕ) → Bool
whole e f = nat_le f 15 && e.at f most_levels

abbrev pub built_unscaled : (ℕ → ℕ → Bool) → BuiltValue
built_unscaled p = record { natural = 0; operand = 0; at = p }

abbrev pub built_scaled : ℕ → (ℕ → ℕ → Bool) → BuiltValue
built_scaled f p = record { natural = f; operand = f; at = p }

-- WRITEBYTE has no answer
abbrev pub answers : Target → Bool
answers target.Write = false
answers _ = true

module _ (u : SourceUnit) (has_words : (item words : ℕ) → Bool) where
  abbrev pub spot_step : Spot-F Bool Bool BuiltValue Bool BuiltReference → Bool
  spot_step (layer.Direct i) = has_words i 1
  spot_step (layer.Through i) = has_words i 1
  spot_step (layer.One i l h e) = has_words i 1 && whole e 0
  spot_step (layer.Two i l1 h1 l2 h2 n e g) = has_words i 1 && (whole e 0 && whole g 0)
  spot_step (layer.ParamArray i e) = has_words i 1 && whole e 0
  spot_step (layer.Word i t n e) = has_words i 1 && whole e 0
  spot_step (layer.Elem i t n m w e) = has_words i 1 && whole e 0
  spot_step (layer.Bare e) = whole e 0

  abbrev pub reference_step : Ref-F Bool Bool BuiltValue Bool BuiltReference → BuiltReference
  reference_step r = record { scale = r.f; good = r.at }

  abbrev pub argument_step : Arg-F Bool Bool BuiltValue Bool BuiltReference → Bool
  argument_step (layer.Value e f) = whole e f
  argument_step (layer.Place r) = r.good
  argument_step (layer.Array i l) = has_words i 1
  argument_step (layer.Same i) = has_words i 1
  argument_step (layer.Base i) = has_words i 1
  argument_step (layer.Goal g) = true
  argument_step (layer.Switch n) = true
  argument_step (layer.CommonSwitch d) = true
  argument_step (layer.Proc q) = true
  argument_step (layer.CommonProc d) = true
  argument_step (layer.Special k) = true

  abbrev pub condition_step : Cond-F Bool Bool BuiltValue Bool BuiltReference → Bool
  condition_step (layer.Cmp op a b) = let f = max a.natural b.natural in whole a f && whole b f
  condition_step (layer.And c d) = c && d
  condition_step (layer.Or c d) = c && d

  abbrev pub expression_step : Expr-F Bool Bool BuiltValue Bool BuiltReference → BuiltValue
  expression_step (layer.Num n) =
      record { natural = 0; operand = number_scale (nat_lt 0 n.places) n; at = λ f levels. nat_lt (decimal_floor n.whole n.digits n.places f) 32768 }
  expression_step (layer.Const z) = built_unscaled (λ f levels. fits_word z)
  expression_step (layer.Text i) = built_unscaled (λ f levels. has_words i 1)
  expression_step (layer.Read r) = built_scaled r.scale (λ f levels. r.good)
  expression_step (layer.Call t args) = built_scaled (answer_scale u t) (λ f levels. answers t && all_built args)
  expression_step (layer.Force g e) = built_scaled g (λ f levels. whole e g)
  expression_step (layer.Locate r) = built_unscaled (λ f levels. r.good)
  expression_step (layer.Bits t b e) = built_unscaled (λ f levels. whole e e.operand)
  expression_step (layer.Logic op a b) = built_unscaled (λ f levels. whole a a.operand && whole b b.operand)
  expression_step (layer.Sum a b) = built_scaled (max a.natural b.natural) (λ f levels. whole a f && whole b f)
  expression_step (layer.Less a b) = built_scaled (max a.natural b.natural) (λ f levels. whole a f && whole b f)
  expression_step (layer.Minus a) = built_scaled a.natural (λ f levels. whole a f)
  expression_step (layer.Times a b) = built_scaled (max a.natural b.natural) (λ f levels. whole a a.operand && whole b b.operand)
  expression_step (layer.Over a b) = built_scaled (max a.natural b.natural) (λ f levels. whole a a.operand && whole b b.operand)
  expression_step (layer.Choice c a b) = built_scaled (max a.natural b.natural) (λ f levels. c && (within levels (a.at f) && b.at f levels))

  abbrev pub built_value : Expr → BuiltValue
  built_value = fold-Expr Bool Bool BuiltValue Bool BuiltReference argument_step condition_step expression_step spot_step reference_step

  abbrev pub is_condition : Cond → Bool
  is_condition = fold-Cond Bool Bool BuiltValue Bool BuiltReference argument_step condition_step expression_step spot_step reference_step

  abbrev pub is_argument : Arg → Bool
  is_argument = fold-Arg Bool Bool BuiltValue Bool BuiltReference argument_step condition_step expression_step spot_step reference_step

  abbrev pub built_reference : Ref → BuiltReference
  built_reference = fold-Ref Bool Bool BuiltValue Bool BuiltReference argument_step condition_step expression_step spot_step reference_step

  abbrev pub is_spot : Spot → Bool
  is_spot = fold-Spot Bool Bool BuiltValue Bool BuiltReference argument_step condition_step expression_step spot_step reference_step

  -- an expression at a scale, behind which so many choices may end
  abbrev pub is_expression : Expr → (scale levels : ℕ) → Bool
  is_expression e f n = nat_le f 15 && (built_value e).at f n
