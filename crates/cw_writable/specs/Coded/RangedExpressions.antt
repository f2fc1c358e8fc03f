-- The expressions, conditions, references and arguments whose numbers are in the ranges of the language: bounds are words, rows, widths and
-- sizes at most 32,768, parts lie in a word, scales are at most 15, and a quotient's scale suits those of its operands.
use Rattle.std.specs.Prelude.{ℕ, ◌+◌, max, nat_le, nat_lt, ℤ, List, [], ◌∷◌, Bool, true, ◌&&◌, Option, Some, None}
use Rattle.cw_word.specs.FixedPoint.{fits_word}
use Rattle.cw_unit.specs.declared.unit.Unit.{Unit as SourceUnit}
use Rattle.cw_unit.specs.declared.unit.Field.{Field}
use Rattle.cw_unit.specs.declared.unit.Cond.{Cond, fold-Cond}
use Rattle.cw_unit.specs.declared.unit.Expr.{Expr, Expr-F, fold-Expr}
use Rattle.cw_unit.specs.declared.unit.Arg.{Arg, fold-Arg}
use Rattle.cw_unit.specs.declared.unit.Ref.{Ref, fold-Ref}
use Rattle.cw_unit.specs.declared.unit.Spot.{Spot, fold-Spot}
use Rattle.cw_unit.specs.declared.unit.Arg.TheOpen as layer
use Rattle.cw_unit.specs.declared.unit.Arg.TheOpen.{Arg-F, Cond-F, Spot-F, Ref-F}
use Rattle.cw_unit.specs.Scales.{answer_scale, number_scale}
use Rattle.cw_built.specs.Coded.{is_part}

-- an expression: its natural scale, its scale as an operand, and whether its numbers are in range at a context scale
pub record RangedValue : Type 0 where
  pub natural : ℕ
  pub operand : ℕ
  pub at : (scale : ℕ) → Bool

-- a reference: its scale, and whether its numbers are in range
pub record RangedReference : Type 0 where
  pub scale : ℕ
  pub good : Bool

abbrev pub all_ranged : List Bool → Bool
all_ranged [] = true
all_ranged (b ∷ bs) = b && all_ranged bs

abbrev pub is_field : Option Field → Bool
is_field None = true
is_field (Some s) = is_part s.t s.b

abbrev pub are_bounds : (lower upper : ℤ) → Bool
are_bounds l h = fits_word l && fits_word h

-- an expression at a scale of the language
abbrev pub in_range : RangedValue → (scale : ℕ) → Bool
in_range e f = nat_le f 15 && e.at f

-- a quotient at scale f of operands at f1 and f2 is scaled by f + f2 - f1, which is -15 to 16
abbrev pub can_divide : (f f1 f2 : ℕ) → Bool
can_divide f f1 f2 = nat_le f1 (f + f2 + 15) && nat_le (f + f2) (f1 + 16)

abbrev pub ranged_unscaled : (ℕ → Bool) → RangedValue
ranged_unscaled p = record { natural = 0; operand = 0; at = p }

abbrev pub ranged_scaled : ℕ → (ℕ → Bool) → RangedValue
ranged_scaled f p = record { natural = f; operand = f; at = p }

abbrev pub spot_step : Spot-F Bool Bool RangedValue Bool RangedReference → Bool
spot_step (layer.Direct i) = true
spot_step (layer.Through i) = true
spot_step (layer.One i l h e) = are_bounds l h && e.at 0
spot_step (layer.Two i l1 h1 l2 h2 n e g) = (are_bounds l1 h1 && (are_bounds l2 h2 && nat_le n 32768)) && (e.at 0 && g.at 0)
spot_step (layer.ParamArray i e) = e.at 0
spot_step (layer.Word i t n e) = nat_le n 32768 && e.at 0
spot_step (layer.Elem i t n m w e) = (nat_le n 32768 && (nat_le m 32768 && nat_lt w 32768)) && e.at 0
spot_step (layer.Bare e) = e.at 0

abbrev pub reference_step : Ref-F Bool Bool RangedValue Bool RangedReference → RangedReference
reference_step r = record { scale = r.f; good = nat_le r.f 15 && (is_field r.field && r.at) }

abbrev pub argument_step : Arg-F Bool Bool RangedValue Bool RangedReference → Bool
argument_step (layer.Value e f) = in_range e f
argument_step (layer.Place r) = r.good
argument_step (layer.Array i l) = fits_word l
argument_step _ = true

abbrev pub condition_step : Cond-F Bool Bool RangedValue Bool RangedReference → Bool
condition_step (layer.Cmp op a b) = let f = max a.natural b.natural in in_range a f && in_range b f
condition_step (layer.And c d) = c && d
condition_step (layer.Or c d) = c && d

module _ (u : SourceUnit) where
  abbrev pub expression_step : Expr-F Bool Bool RangedValue Bool RangedReference → RangedValue
  expression_step (layer.Num n) = record { natural = 0; operand = number_scale (nat_lt 0 n.places) n; at = λ f. true }
  expression_step (layer.Const z) = ranged_unscaled (λ f. true)
  expression_step (layer.Text i) = ranged_unscaled (λ f. true)
  expression_step (layer.Read r) = ranged_scaled r.scale (λ f. r.good)
  expression_step (layer.Call t args) = ranged_scaled (answer_scale u t) (λ f. nat_le (answer_scale u t) 15 && all_ranged args)
  expression_step (layer.Force g e) = ranged_scaled g (λ f. in_range e g)
  expression_step (layer.Locate r) = ranged_unscaled (λ f. r.good)
  expression_step (layer.Bits t b e) = ranged_unscaled (λ f. is_part t b && in_range e e.operand)
  expression_step (layer.Logic op a b) = ranged_unscaled (λ f. in_range a a.operand && in_range b b.operand)
  expression_step (layer.Sum a b) = ranged_scaled (max a.natural b.natural) (λ f. a.at f && b.at f)
  expression_step (layer.Less a b) = ranged_scaled (max a.natural b.natural) (λ f. a.at f && b.at f)
  expression_step (layer.Minus a) = ranged_scaled a.natural (λ f. a.at f)
  expression_step (layer.Times a b) = ranged_scaled (max a.natural b.natural) (λ f. in_range a a.operand && in_range b b.operand)
  expression_step (layer.Over a b) =
      ranged_scaled (max a.natural b.natural) (λ f. can_divide f a.operand b.operand && (in_range a a.operand && in_range b b.operand))
  expression_step (layer.Choice c a b) = ranged_scaled (max a.natural b.natural) (λ f. c && (a.at f && b.at f))

  abbrev pub ranged_value : Expr → RangedValue
  ranged_value = fold-Expr Bool Bool RangedValue Bool RangedReference argument_step condition_step expression_step spot_step reference_step

  abbrev pub is_ranged_condition : Cond → Bool
  is_ranged_condition = fold-Cond Bool Bool RangedValue Bool RangedReference argument_step condition_step expression_step spot_step reference_step

  abbrev pub is_ranged_argument : Arg → Bool
  is_ranged_argument = fold-Arg Bool Bool RangedValue Bool RangedReference argument_step condition_step expression_step spot_step reference_step

  abbrev pub ranged_reference : Ref → RangedReference
  ranged_reference = fold-Ref Bool Bool RangedValue Bool RangedReference argument_step condition_step expression_step spot_step reference_step

  abbrev pub is_ranged_spot : Spot → Bool
  is_ranged_spot = fold-Spot Bool Bool RangedValue Bool RangedReference argument_step condition_step expression_step spot_step reference_step

  -- an expression at a scale
  abbrev pub is_ranged_expression : Expr → (scale : ℕ) → Bool
  is_ranged_expression e f = in_range (ranged_value e) f
