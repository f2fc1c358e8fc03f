-- What is known of a tree by its first layer: its orders, and whether it is built.
use Rattle.std.proofs.Common.{◌≡◌, ℕ, ◌+◌, ℤ, List, [], ◌∷◌, Bool, true, false, IsTrue, ◌&&◌, Option, Some, refl}
use Rattle.std.proofs.lemmas.Bool.{false≢true}
use Rattle.std.proofs.lemmas.Option.{none-some}
use Rattle.cw_unit.specs.declared.unit.Unit.{Unit as SourceUnit}
use Rattle.cw_unit.specs.declared.unit.Arg.{Arg, out-Arg, map-Arg, fold-Arg, fold_out-Arg}
use Rattle.cw_unit.specs.declared.unit.Cond.{Cond, out-Cond, map-Cond, fold-Cond, fold_out-Cond}
use Rattle.cw_unit.specs.declared.unit.Spot.{Spot, out-Spot, map-Spot, fold-Spot, fold_out-Spot}
use Rattle.cw_unit.specs.declared.unit.Ref.{Ref, out-Ref, map-Ref, fold-Ref, fold_out-Ref}
use Rattle.cw_unit.specs.declared.unit.Expr.{Expr, Expr-F, out-Expr, map-Expr, fold-Expr, fold_out-Expr}
use Rattle.cw_unit.specs.declared.unit.Arg.TheOpen as layer
use Rattle.cw_unit.specs.declared.unit.Arg.TheOpen.{Arg-F, Cond-F, Spot-F, Ref-F}
use Rattle.cw_gen_expr.specs.Pieces.{Piece}
use Rattle.cw_gen_expr.specs.ReferenceExpressions as made
use Rattle.cw_gen_expr.specs.ReferenceExpressions.{Scope, Computed, Value, Reference, ConditionPiece, value_of, condition_piece, argument_piece, reference_of, spot_piece}
use Rattle.cw_gen_expr.specs.BuiltExpressions as built
use Rattle.cw_gen_expr.specs.BuiltExpressions.{BuiltValue, BuiltReference, built_value, is_condition, is_argument, built_reference, is_spot}

IsTrue-left : (a b : Bool) → IsTrue (a && b) → IsTrue a
IsTrue-left true b h = refl
IsTrue-left false b h = absurd (false≢true h)

module _ (s : Scope) where
  abbrev pub value_layer : Expr-F Arg Cond Expr Spot Ref → Value
  value_layer x = made.expression_step s (map-Expr Arg Cond Expr Spot Ref Piece ConditionPiece Value Piece Reference (argument_piece s) (condition_piece s) (value_of s) (spot_piece s) (reference_of s) x)

  abbrev pub computed_layer : Expr-F Arg Cond Expr Spot Ref → Computed
  computed_layer x = made.computed_step s (map-Expr Arg Cond Expr Spot Ref Piece ConditionPiece Value Piece Reference (argument_piece s) (condition_piece s) (value_of s) (spot_piece s) (reference_of s) x)

  abbrev pub known_layer : Expr-F Arg Cond Expr Spot Ref → (scale : ℕ) → Option ℤ
  known_layer x = made.known_value (map-Expr Arg Cond Expr Spot Ref Piece ConditionPiece Value Piece Reference (argument_piece s) (condition_piece s) (value_of s) (spot_piece s) (reference_of s) x)

  abbrev pub argument_layer : Arg-F Arg Cond Expr Spot Ref → Piece
  argument_layer x = made.argument_step s (map-Arg Arg Cond Expr Spot Ref Piece ConditionPiece Value Piece Reference (argument_piece s) (condition_piece s) (value_of s) (spot_piece s) (reference_of s) x)

  abbrev pub spot_layer : Spot-F Arg Cond Expr Spot Ref → Piece
  spot_layer x = made.spot_step s (map-Spot Arg Cond Expr Spot Ref Piece ConditionPiece Value Piece Reference (argument_piece s) (condition_piece s) (value_of s) (spot_piece s) (reference_of s) x)

  -- with its indexes, and its word where that is known
  abbrev pub indexed_layer : Spot-F Arg Cond Expr Spot Ref → Piece
  indexed_layer x = made.indexed_piece s (map-Spot Arg Cond Expr Spot Ref Piece ConditionPiece Value Piece Reference (argument_piece s) (condition_piece s) (value_of s) (spot_piece s) (reference_of s) x)

  abbrev pub word_item : Spot-F Arg Cond Expr Spot Ref → ℕ
  word_item x = made.known_item s (map-Spot Arg Cond Expr Spot Ref Piece ConditionPiece Value Piece Reference (argument_piece s) (condition_piece s) (value_of s) (spot_piece s) (reference_of s) x)

  abbrev pub word_layer : Spot-F Arg Cond Expr Spot Ref → Option ℕ
  word_layer x = made.known_word s (map-Spot Arg Cond Expr Spot Ref Piece ConditionPiece Value Piece Reference (argument_piece s) (condition_piece s) (value_of s) (spot_piece s) (reference_of s) x)

  abbrev pub reference_layer : Ref-F Arg Cond Expr Spot Ref → Reference
  reference_layer x = made.reference_step s (map-Ref Arg Cond Expr Spot Ref Piece ConditionPiece Value Piece Reference (argument_piece s) (condition_piece s) (value_of s) (spot_piece s) (reference_of s) x)

  abbrev pub condition_layer : Cond-F Arg Cond Expr Spot Ref → ConditionPiece
  condition_layer x = made.condition_step s (map-Cond Arg Cond Expr Spot Ref Piece ConditionPiece Value Piece Reference (argument_piece s) (condition_piece s) (value_of s) (spot_piece s) (reference_of s) x)

  pub value-made : (x : Expr) → value_of s x ≡ value_layer (out-Expr x)
  value-made = fold_out-Expr Piece ConditionPiece Value Piece Reference (made.argument_step s) (made.condition_step s) (made.expression_step s) (made.spot_step s) (made.reference_step s)

  pub argument-made : (x : Arg) → argument_piece s x ≡ argument_layer (out-Arg x)
  argument-made = fold_out-Arg Piece ConditionPiece Value Piece Reference (made.argument_step s) (made.condition_step s) (made.expression_step s) (made.spot_step s) (made.reference_step s)

  pub spot-made : (x : Spot) → spot_piece s x ≡ spot_layer (out-Spot x)
  spot-made = fold_out-Spot Piece ConditionPiece Value Piece Reference (made.argument_step s) (made.condition_step s) (made.expression_step s) (made.spot_step s) (made.reference_step s)

  pub reference-made : (x : Ref) → reference_of s x ≡ reference_layer (out-Ref x)
  reference-made = fold_out-Ref Piece ConditionPiece Value Piece Reference (made.argument_step s) (made.condition_step s) (made.expression_step s) (made.spot_step s) (made.reference_step s)

  pub condition-made : (x : Cond) → condition_piece s x ≡ condition_layer (out-Cond x)
  condition-made = fold_out-Cond Piece ConditionPiece Value Piece Reference (made.argument_step s) (made.condition_step s) (made.expression_step s) (made.spot_step s) (made.reference_step s)

module _ (u : SourceUnit) (has_words : (item words : ℕ) → Bool) where
  abbrev pub built_value_layer : Expr-F Arg Cond Expr Spot Ref → BuiltValue
  built_value_layer x = built.expression_step u has_words (map-Expr Arg Cond Expr Spot Ref Bool Bool BuiltValue Bool BuiltReference (is_argument u has_words) (is_condition u has_words) (built_value u has_words) (is_spot u has_words) (built_reference u has_words) x)

  abbrev pub built_argument_layer : Arg-F Arg Cond Expr Spot Ref → Bool
  built_argument_layer x = built.argument_step u has_words (map-Arg Arg Cond Expr Spot Ref Bool Bool BuiltValue Bool BuiltReference (is_argument u has_words) (is_condition u has_words) (built_value u has_words) (is_spot u has_words) (built_reference u has_words) x)

  abbrev pub built_spot_layer : Spot-F Arg Cond Expr Spot Ref → Bool
  built_spot_layer x = built.spot_step u has_words (map-Spot Arg Cond Expr Spot Ref Bool Bool BuiltValue Bool BuiltReference (is_argument u has_words) (is_condition u has_words) (built_value u has_words) (is_spot u has_words) (built_reference u has_words) x)

  abbrev pub built_reference_layer : Ref-F Arg Cond Expr Spot Ref → BuiltReference
  built_reference_layer x = built.reference_step u has_words (map-Ref Arg Cond Expr Spot Ref Bool Bool BuiltValue Bool BuiltReference (is_argument u has_words) (is_condition u has_words) (built_value u has_words) (is_spot u has_words) (built_reference u has_words) x)

  abbrev pub built_condition_layer : Cond-F Arg Cond Expr Spot Ref → Bool
  built_condition_layer x = built.condition_step u has_words (map-Cond Arg Cond Expr Spot Ref Bool Bool BuiltValue Bool BuiltReference (is_argument u has_words) (is_condition u has_words) (built_value u has_words) (is_spot u has_words) (built_reference u has_words) x)

  pub value-built : (x : Expr) → built_value u has_words x ≡ built_value_layer (out-Expr x)
  value-built = fold_out-Expr Bool Bool BuiltValue Bool BuiltReference (built.argument_step u has_words) (built.condition_step u has_words) (built.expression_step u has_words) (built.spot_step u has_words) (built.reference_step u has_words)

  pub argument-built : (x : Arg) → is_argument u has_words x ≡ built_argument_layer (out-Arg x)
  argument-built = fold_out-Arg Bool Bool BuiltValue Bool BuiltReference (built.argument_step u has_words) (built.condition_step u has_words) (built.expression_step u has_words) (built.spot_step u has_words) (built.reference_step u has_words)

  pub spot-built : (x : Spot) → is_spot u has_words x ≡ built_spot_layer (out-Spot x)
  spot-built = fold_out-Spot Bool Bool BuiltValue Bool BuiltReference (built.argument_step u has_words) (built.condition_step u has_words) (built.expression_step u has_words) (built.spot_step u has_words) (built.reference_step u has_words)

  pub reference-built : (x : Ref) → built_reference u has_words x ≡ built_reference_layer (out-Ref x)
  reference-built = fold_out-Ref Bool Bool BuiltValue Bool BuiltReference (built.argument_step u has_words) (built.condition_step u has_words) (built.expression_step u has_words) (built.spot_step u has_words) (built.reference_step u has_words)

  pub condition-built : (x : Cond) → is_condition u has_words x ≡ built_condition_layer (out-Cond x)
  condition-built = fold_out-Cond Bool Bool BuiltValue Bool BuiltReference (built.argument_step u has_words) (built.condition_step u has_words) (built.expression_step u has_words) (built.spot_step u has_words) (built.reference_step u has_words)

-- a reference whose word is known names an item
pub item-named : (s : Scope) (u : SourceUnit) (has_words : (item words : ℕ) → Bool) (x : Spot-F Arg Cond Expr Spot Ref) (n : ℕ) → IsTrue (built_spot_layer u has_words x) → word_layer s x ≡ Some n → IsTrue (has_words (word_item s x) 1)
item-named s u has_words (layer.One i l h e) n b known = IsTrue-left (has_words i 1) _ b
item-named s u has_words (layer.Two i l1 h1 l2 h2 m e g) n b known = IsTrue-left (has_words i 1) _ b
item-named s u has_words (layer.Word i t m e) n b known = IsTrue-left (has_words i 1) _ b
item-named s u has_words (layer.Elem i t m k w e) n b known = IsTrue-left (has_words i 1) _ b
item-named s u has_words (layer.Direct i) n b known = absurd (none-some n known)
item-named s u has_words (layer.Through i) n b known = absurd (none-some n known)
item-named s u has_words (layer.ParamArray i e) n b known = absurd (none-some n known)
item-named s u has_words (layer.Bare e) n b known = absurd (none-some n known)

-- ---- its size: how many works it may become before an order is carried out

abbrev pub total : List ℕ → ℕ
total [] = 0
total (n ∷ ns) = n + total ns

abbrev expression_size_step : Expr-F ℕ ℕ ℕ ℕ ℕ → ℕ
expression_size_step (layer.Num n) = 0
expression_size_step (layer.Const z) = 0
expression_size_step (layer.Text i) = 0
expression_size_step (layer.Read r) = 1 + r
expression_size_step (layer.Call t args) = 1 + total args
expression_size_step (layer.Force g e) = 1 + e
expression_size_step (layer.Locate r) = 1 + r
expression_size_step (layer.Bits t b e) = 1 + e
expression_size_step (layer.Logic op a b) = 1 + (a + b)
expression_size_step (layer.Sum a b) = 1 + (a + b)
expression_size_step (layer.Less a b) = 1 + (a + b)
expression_size_step (layer.Minus a) = 1 + a
expression_size_step (layer.Times a b) = 1 + (a + b)
expression_size_step (layer.Over a b) = 1 + (a + b)
expression_size_step (layer.Choice c a b) = 1 + (c + (a + b))

abbrev argument_size_step : Arg-F ℕ ℕ ℕ ℕ ℕ → ℕ
argument_size_step (layer.Value e f) = 1 + e
argument_size_step (layer.Place r) = 1 + r
argument_size_step _ = 0

abbrev condition_size_step : Cond-F ℕ ℕ ℕ ℕ ℕ → ℕ
condition_size_step (layer.Cmp op a b) = 1 + (a + b)
condition_size_step (layer.And c d) = 1 + (c + d)
condition_size_step (layer.Or c d) = 1 + (c + d)

abbrev spot_size_step : Spot-F ℕ ℕ ℕ ℕ ℕ → ℕ
spot_size_step (layer.Direct i) = 0
spot_size_step (layer.Through i) = 1
spot_size_step (layer.One i l u e) = 1 + e
spot_size_step (layer.Two i l1 u1 l2 u2 n e g) = 1 + (e + g)
spot_size_step (layer.ParamArray i e) = 1 + e
spot_size_step (layer.Word i t n e) = 1 + e
spot_size_step (layer.Elem i t n m w e) = 1 + e
spot_size_step (layer.Bare e) = 1 + e

abbrev reference_size_step : Ref-F ℕ ℕ ℕ ℕ ℕ → ℕ
reference_size_step r = r.at

abbrev pub expression_size : Expr → ℕ
expression_size = fold-Expr ℕ ℕ ℕ ℕ ℕ argument_size_step condition_size_step expression_size_step spot_size_step reference_size_step

abbrev pub argument_size : Arg → ℕ
argument_size = fold-Arg ℕ ℕ ℕ ℕ ℕ argument_size_step condition_size_step expression_size_step spot_size_step reference_size_step

abbrev pub spot_size : Spot → ℕ
spot_size = fold-Spot ℕ ℕ ℕ ℕ ℕ argument_size_step condition_size_step expression_size_step spot_size_step reference_size_step

abbrev pub reference_size : Ref → ℕ
reference_size = fold-Ref ℕ ℕ ℕ ℕ ℕ argument_size_step condition_size_step expression_size_step spot_size_step reference_size_step

abbrev pub condition_size : Cond → ℕ
condition_size = fold-Cond ℕ ℕ ℕ ℕ ℕ argument_size_step condition_size_step expression_size_step spot_size_step reference_size_step

abbrev pub expression_size_layer : Expr-F Arg Cond Expr Spot Ref → ℕ
expression_size_layer x = expression_size_step (map-Expr Arg Cond Expr Spot Ref ℕ ℕ ℕ ℕ ℕ argument_size condition_size expression_size spot_size reference_size x)

pub expression-size : (x : Expr) → expression_size x ≡ expression_size_layer (out-Expr x)
expression-size = fold_out-Expr ℕ ℕ ℕ ℕ ℕ argument_size_step condition_size_step expression_size_step spot_size_step reference_size_step

abbrev pub argument_size_layer : Arg-F Arg Cond Expr Spot Ref → ℕ
argument_size_layer x = argument_size_step (map-Arg Arg Cond Expr Spot Ref ℕ ℕ ℕ ℕ ℕ argument_size condition_size expression_size spot_size reference_size x)

pub argument-size : (x : Arg) → argument_size x ≡ argument_size_layer (out-Arg x)
argument-size = fold_out-Arg ℕ ℕ ℕ ℕ ℕ argument_size_step condition_size_step expression_size_step spot_size_step reference_size_step

abbrev pub spot_size_layer : Spot-F Arg Cond Expr Spot Ref → ℕ
spot_size_layer x = spot_size_step (map-Spot Arg Cond Expr Spot Ref ℕ ℕ ℕ ℕ ℕ argument_size condition_size expression_size spot_size reference_size x)

pub spot-size : (x : Spot) → spot_size x ≡ spot_size_layer (out-Spot x)
spot-size = fold_out-Spot ℕ ℕ ℕ ℕ ℕ argument_size_step condition_size_step expression_size_step spot_size_step reference_size_step

abbrev pub reference_size_layer : Ref-F Arg Cond Expr Spot Ref → ℕ
reference_size_layer x = reference_size_step (map-Ref Arg Cond Expr Spot Ref ℕ ℕ ℕ ℕ ℕ argument_size condition_size expression_size spot_size reference_size x)

pub reference-size : (x : Ref) → reference_size x ≡ reference_size_layer (out-Ref x)
reference-size = fold_out-Ref ℕ ℕ ℕ ℕ ℕ argument_size_step condition_size_step expression_size_step spot_size_step reference_size_step

abbrev pub condition_size_layer : Cond-F Arg Cond Expr Spot Ref → ℕ
condition_size_layer x = condition_size_step (map-Cond Arg Cond Expr Spot Ref ℕ ℕ ℕ ℕ ℕ argument_size condition_size expression_size spot_size reference_size x)

pub condition-size : (x : Cond) → condition_size x ≡ condition_size_layer (out-Cond x)
condition-size = fold_out-Cond ℕ ℕ ℕ ℕ ℕ argument_size_step condition_size_step expression_size_step spot_size_step reference_size_step
