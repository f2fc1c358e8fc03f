-- The rules of expressions and conditions keep what is known.
use Rattle.std.proofs.Common.{◌≡◌, ℕ, true, ◌&&◌, List, Option, Some, None, refl, subst, arith}
use Rattle.cw_lex.specs.declared.token.TokenKind.TheVariants as kinds
use Rattle.cw_tree.specs.declared.leaf.Position.{Position}
use Rattle.cw_tree.specs.declared.leaf.RawName.{RawName}
use Rattle.cw_tree.specs.declared.leaf.RawNumber.{RawNumber}
use Rattle.cw_tree.specs.declared.leaf.RawOctal.{RawOctal}
use Rattle.cw_tree.specs.declared.leaf.RawType.{RawType}
use Rattle.cw_tree.specs.declared.expression.RawExpr.{RawExpr}
use Rattle.cw_tree.specs.declared.expression.RawExpr.TheVariants as expr_tree
use Rattle.cw_tree.specs.declared.expression.RawExpr.TheOpen as layer
use Rattle.cw_tree.specs.declared.expression.RawCond.{RawCond}
use Rattle.cw_tree.specs.declared.expression.RawRef.{RawRef}
use Rattle.cw_tree.specs.declared.expression.RawRef.TheVariants as ref_tree
use Rattle.cw_tree.specs.declared.expression.RawPrimary.TheVariants as primary_tree
use Rattle.cw_grammar.specs.Tokens.{Item, position, same, characters}
use Rattle.cw_grammar.specs.Grammar.{Either, left, right}
use Rattle.cw_grammar.specs.Rules.{raw_literal, indexed_name, ref_behind, primary_behind, reference, constant, worded, enclosed, named, primary, prim, mask, union, differ, term, sum, cmp, cand, condition, expr}
use Rattle.cw_tokens.specs.TreeTokens as tokens
use Rattle.cw_sound.specs.Expressions.Regular as regular
use Rattle.cw_sound.proofs.Expressions.Truth.{both}
use Rattle.cw_sound.proofs.Regular.Fits.{fitted, expr_rolled, primary_rolled, ref_rolled}
use Rattle.cw_sound.proofs.Regular.Lists.{all_each}
use Rattle.cw_sound.proofs.Regular.Operands.{mask_made, union_made, differ_made, term_made, sum_made, expr_made, prim_made, cand_made, cond_made, cmp_made}
use Rattle.cw_sound.proofs.Regular.Good.{IsByte, Keeps, given_good}
use Rattle.cw_tokens.proofs.Kept.{OfOption, OfEither}
use Rattle.cw_macro.specs.Premises.{Each}

-- ---- trees

pub name_fits : (f : RawName) → fitted.Ref (ref_tree.Name f)
name_fits f = subst fitted.Ref (ref_tree.rolls-Name f) (ref_rolled (layer.Name f) (record { right = refl; some = omega arith }))

pub index_fits : (f : RawName) (x : RawExpr) (o : Option RawExpr) → fitted.Expr x → OfOption fitted.Expr o → fitted.Ref (indexed_name f x o)
index_fits f x None h k = subst fitted.Ref (ref_tree.rolls-One f x) (ref_rolled (layer.One f x) (record { right = h.right; some = omega arith }))
index_fits f x (Some y) h k = subst fitted.Ref (ref_tree.rolls-Two f x y) (ref_rolled (layer.Two f x y) (record { right = both (regular.is_regular x) (regular.is_regular y) h.right k.right; some = omega arith }))

pub bare_fits : (at : Position) (x : RawExpr) → fitted.Expr x → fitted.Ref (ref_tree.Bare at x)
bare_fits at x h = subst fitted.Ref (ref_tree.rolls-Bare at x) (ref_rolled (layer.Bare at x) (record { right = h.right; some = omega arith }))

ref_fits : (f : RawName) (o : Option (Item × (RawExpr × Option RawExpr))) → OfOption (λ x. Unit {0} × (fitted.Expr x.1.0 × OfOption fitted.Expr x.1.1)) o → fitted.Ref (ref_behind f o)
ref_fits f None h = name_fits f
ref_fits f (Some x) h = index_fits f x.1.0 x.1.1 h.1.0 h.1.1

number_fits : (x : RawNumber) → fitted.Primary (primary_tree.Number x)
number_fits x = subst fitted.Primary (primary_tree.rolls-Number x) (primary_rolled (layer.Number x) (record { right = refl; some = omega arith }))

octal_fits : (x : RawOctal) → fitted.Primary (primary_tree.Octal x)
octal_fits x = subst fitted.Primary (primary_tree.rolls-Octal x) (primary_rolled (layer.Octal x) (record { right = refl; some = omega arith }))

literal_fits : (t : Item) → (same t.kind kinds.Literal ≡ true) × IsByte t → fitted.Primary (primary_tree.Literal (raw_literal t))
literal_fits t h = subst fitted.Primary (primary_tree.rolls-Literal (raw_literal t)) (primary_rolled (layer.Literal (raw_literal t)) (record { right = h.1 h.0; some = omega arith }))

text_fits : (t : Item) → fitted.Primary (primary_tree.Text (position t) (characters t.kind t.text))
text_fits t = subst fitted.Primary (primary_tree.rolls-Text (position t) (characters t.kind t.text)) (primary_rolled (layer.Text (position t) (characters t.kind t.text)) (record { right = refl; some = omega arith }))

location_fits : (at : Position) (r : RawRef) → fitted.Ref r → fitted.Primary (primary_tree.Location at r)
location_fits at r h = subst fitted.Primary (primary_tree.rolls-Location at r) (primary_rolled (layer.Location at r) (record { right = h.right; some = omega arith }))

forced_fits : (t : RawType) (x : RawExpr) → fitted.Expr x → fitted.Primary (primary_tree.Forced t x)
forced_fits t x h = subst fitted.Primary (primary_tree.rolls-Forced t x) (primary_rolled (layer.Forced t x) (record { right = h.right; some = omega arith }))

bracket_fits : (at : Position) (x : RawExpr) → fitted.Expr x → fitted.Primary (primary_tree.Bracket at x)
bracket_fits at x h = subst fitted.Primary (primary_tree.rolls-Bracket at x) (primary_rolled (layer.Bracket at x) (record { right = h.right; some = h.some }))

referred_fits : (r : RawRef) → fitted.Ref r → fitted.Primary (primary_tree.Ref r)
referred_fits r h = subst fitted.Primary (primary_tree.rolls-Ref r) (primary_rolled (layer.Ref r) (record { right = h.right; some = h.some }))

call_fits : (f : RawName) (xs : List RawExpr) → Each fitted.Expr xs → fitted.Primary (primary_tree.Call f xs)
call_fits f xs h = subst fitted.Primary (primary_tree.rolls-Call f xs) (primary_rolled (layer.Call f xs) (record { right = all_each regular.is_regular tokens.expr_tokens xs h; some = omega arith }))

primary_fits : (f : RawName) (o : Option (Either (RawExpr × Option RawExpr) (List RawExpr))) → OfOption (OfEither (λ x. fitted.Expr x.0 × OfOption fitted.Expr x.1) (Each fitted.Expr)) o → fitted.Primary (primary_behind f o)
primary_fits f None h = referred_fits (ref_tree.Name f) (name_fits f)
primary_fits f (Some (left x)) h = referred_fits (indexed_name f x.0 x.1) (index_fits f x.0 x.1 h.0 h.1)
primary_fits f (Some (right xs)) h = call_fits f xs h

choice_fits : (at : Position) (c : RawCond) (x y : RawExpr) → fitted.Cond c → fitted.Expr x → fitted.Expr y → fitted.Expr (expr_tree.Choice at c x y)
choice_fits at c x y h k l =
    subst fitted.Expr (expr_tree.rolls-Choice at c x y)
    (expr_rolled (layer.Choice at c x y) (record { right = both (regular.is_regular_condition c) (regular.is_regular x && regular.is_regular y) h.right (both (regular.is_regular x) (regular.is_regular y) k.right l.right); some = omega arith }))

-- ---- rules

module _ (m : ℕ) where
  pub reference_keeps : Keeps m reference
  unfolding reference
  reference_keeps = (((tt, ((tt, λ x h. (tt, h)), tt)), λ x h. ref_fits x.0 x.1 h.1), (tt, λ x h. bare_fits (position x.0) x.1 h))

  constant_keeps : Keeps m constant
  unfolding constant
  constant_keeps = ((tt, λ x h. number_fits x), ((tt, λ x h. octal_fits x), ((tt, λ t h. literal_fits t h), (tt, λ t h. text_fits t))))

  worded_keeps : Keeps m worded
  unfolding worded
  worded_keeps = (((tt, tt), λ x h. location_fits (position x.0) x.1.1 h.1), ((tt, tt), λ x h. forced_fits x.0 x.1.1 h.1))

  enclosed_keeps : Keeps m enclosed
  unfolding enclosed
  enclosed_keeps = ((tt, λ x h. bracket_fits (position x.0) x.1 h), (tt, λ x h. referred_fits (ref_tree.Bare (position x.0) x.1) (bare_fits (position x.0) x.1 h)))

  named_keeps : Keeps m named
  unfolding named
  named_keeps = ((tt, ((tt, λ x h. h), ((tt, λ x h. h), tt))), λ x h. primary_fits x.0 x.1 h.1)

  primary_keeps : Keeps m primary
  unfolding primary
  primary_keeps = (constant_keeps, (worded_keeps, (enclosed_keeps, named_keeps)))

  prim_keeps : Keeps m prim
  unfolding prim
  prim_keeps = ((tt, primary_keeps), λ x h. prim_made x.0 x.1 (given_good m primary x.1 h.1))

  sum_keeps : Keeps m sum
  unfolding mask union differ term sum
  sum_keeps =
      let mask_keeps : Keeps m mask = ((prim_keeps, (tt, prim_keeps)), λ x h. mask_made x.0 x.1 (given_good m prim x.0 h.0) h.1) in
      let union_keeps : Keeps m union = ((mask_keeps, (tt, mask_keeps)), λ x h. union_made x.0 x.1 (given_good m mask x.0 h.0) h.1) in
      let differ_keeps : Keeps m differ = ((union_keeps, (tt, union_keeps)), λ x h. differ_made x.0 x.1 (given_good m union x.0 h.0) h.1) in
      let term_keeps : Keeps m term = ((differ_keeps, (tt, differ_keeps)), λ x h. term_made x.0 x.1 (given_good m differ x.0 h.0) h.1) in
      ((tt, (term_keeps, (tt, term_keeps))), λ x h. sum_made x.0 x.1.0 x.1.1 (given_good m term x.1.0 h.1.0) h.1.1)

  cmp_keeps : Keeps m cmp
  unfolding cmp
  cmp_keeps = ((sum_keeps, (tt, sum_keeps)), λ x h. cmp_made x.0 x.1.0 x.1.1 (given_good m sum x.0 h.0) (given_good m sum x.1.1 h.1.1))

  cand_keeps : Keeps m cand
  unfolding cand
  cand_keeps = ((cmp_keeps, (tt, cmp_keeps)), λ x h. cand_made x.0 x.1 (given_good m cmp x.0 h.0) h.1)

  pub condition_keeps : Keeps m condition
  unfolding condition
  condition_keeps = ((cand_keeps, (tt, cand_keeps)), λ x h. cond_made x.0 x.1 (given_good m cand x.0 h.0) h.1)

  pub expr_keeps : Keeps m expr
  unfolding expr
  expr_keeps = ((tt, λ x h. choice_fits (position x.0) x.1.0 x.1.1.0 x.1.1.1 h.0 h.1.0 h.1.1), (sum_keeps, λ x h. expr_made x (given_good m sum x h)))
