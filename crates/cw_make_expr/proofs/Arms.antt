-- The trees of a text's expressions, primaries and references by which of their forms they are.
use Rattle.std.proofs.Common.{◌≡◌, ℕ, Bool, false, List, sym, ap, ap₂, ◌∙◌, map, None}
use Rattle.cw_word.specs.Word.{signed}
use Rattle.cw_tree.specs.declared.leaf.Position.{Position}
use Rattle.cw_tree.specs.declared.leaf.RawName.{RawName}
use Rattle.cw_tree.specs.declared.leaf.RawNumber.{RawNumber}
use Rattle.cw_tree.specs.declared.leaf.RawOctal.{RawOctal}
use Rattle.cw_tree.specs.declared.leaf.RawLiteral.{RawLiteral}
use Rattle.cw_tree.specs.declared.leaf.RawType.{RawType}
use Rattle.cw_tree.specs.declared.expression.RawExpr.TheOpen as layer
use Rattle.cw_tree.specs.declared.expression.RawExpr.TheVariants as expression
use Rattle.cw_tree.specs.declared.expression.RawPrimary.TheVariants as primary
use Rattle.cw_tree.specs.declared.expression.RawRef.TheVariants as ref
use Rattle.cw_tree.specs.declared.expression.RawCond.{RawCond}
use Rattle.cw_tree.specs.declared.expression.RawSum.{RawSum}
use Rattle.cw_tree.specs.declared.expression.RawExpr.{RawExpr}
use Rattle.cw_tree.specs.declared.expression.RawPrimary.{RawPrimary}
use Rattle.cw_tree.specs.declared.expression.RawRef.{RawRef}
use Rattle.cw_tree.specs.declared.segment.RawIps.{RawIps}
use Rattle.cw_tree.specs.declared.segment.RawIps.TheVariants as inner
use Rattle.cw_tree.specs.declared.segment.RawPs.{RawPs}
use Rattle.cw_tree.specs.declared.segment.RawPs.TheVariants as ps
use Rattle.cw_tree.proofs.Expressions.{of_expression-Choice, of_expression-Sum, of_primary-Bracket, of_primary-Call, of_primary-Forced, of_primary-Literal, of_primary-Location, of_primary-Number, of_primary-Octal, of_primary-Ref, of_primary-Text, of_reference-Bare, of_reference-Name, of_reference-One, of_reference-Two}
use Rattle.cw_scope.specs.declared.resolve.Named.{Named}
use Rattle.cw_amount.specs.Amounts.{octal_word}
use Rattle.cw_scale.specs.Kinds.{fraction_of, signature_of}
use Rattle.cw_unit.specs.declared.unit.Arg.TheOpen as unit_layer
use Rattle.cw_unit.specs.declared.unit.Expr.{Expr}
use Rattle.cw_unit.specs.declared.unit.Expr.TheVariants as unit
use Rattle.cw_unit.specs.declared.unit.Cond.{Cond}
use Rattle.cw_unit.specs.declared.unit.Ref.{Ref}
use Rattle.cw_unit.specs.declared.unit.Spot.{roll-Spot}
use Rattle.cw_unit.specs.declared.unit.Spot.TheVariants as spots
use Rattle.cw_unit.specs.declared.unit.Arg.{Arg}
use Rattle.cw_unit.specs.declared.unit.Arg.TheVariants as args
use Rattle.cw_unit.specs.declared.unit.Target.{Target}
use Rattle.cw_make_expr.specs.Nodes.{number, constant, string, call, force, locate, choice, reference, place_argument, whole_part_if}
use Rattle.cw_make_expr.specs.Parts.{Numbers, within, item_here, params_of}
use Rattle.cw_make_expr.specs.Made.{Made, simply, plainly, place_read, place_of_name, indexed_place, twice_indexed_place, value_of, argument_for, arguments_for, target, arguments, reference_step, expression_made, primary_made, reference_made, condition_made, sum_made}
use Rattle.cw_make_expr.proofs.Layers.{steps}

module _ (named : Named) (numbers : Numbers) where
  pub of_choice : (at : Position) (test : RawCond) (a : RawExpr) (b : RawExpr) → expression_made named numbers (expression.Choice at test a b) ≡ simply (choice (condition_made named numbers test) ((expression_made named numbers a).made false) ((expression_made named numbers b).made false))
  of_choice at test a b = of_expression-Choice (steps named numbers) at test a b

  pub of_sum : (x : RawSum) → expression_made named numbers (expression.Sum x) ≡ sum_made named numbers x
  of_sum x = of_expression-Sum (steps named numbers) x

  pub of_number : (n : RawNumber) → primary_made named numbers (primary.Number n) ≡ simply (number n.number)
  of_number n = of_primary-Number (steps named numbers) n

  pub of_octal : (n : RawOctal) → primary_made named numbers (primary.Octal n) ≡ simply (constant (signed (within 65535 (octal_word n.number.number))))
  of_octal n = of_primary-Octal (steps named numbers) n

  pub of_literal : (x : RawLiteral) → primary_made named numbers (primary.Literal x) ≡ simply (constant (signed x.byte))
  of_literal x = of_primary-Literal (steps named numbers) x

  pub of_text : (at : Position) (xs : List ℕ) → primary_made named numbers (primary.Text at xs) ≡ simply (string (item_here numbers at.token))
  of_text at xs = of_primary-Text (steps named numbers) at xs

  pub of_location : (at : Position) (r : RawRef) → primary_made named numbers (primary.Location at r) ≡ simply (locate (reference_made named numbers r).place)
  of_location at r = of_primary-Location (steps named numbers) at r

  pub of_forced : (t : RawType) (e : RawExpr) → primary_made named numbers (primary.Forced t e) ≡ simply (force (fraction_of t) ((expression_made named numbers e).made false))
  of_forced t e = of_primary-Forced (steps named numbers) t e

  pub of_bracket : (at : Position) (e : RawExpr) → primary_made named numbers (primary.Bracket at e) ≡ plainly ((expression_made named numbers e).made false)
  of_bracket at e = of_primary-Bracket (steps named numbers) at e

  pub of_ref : (r : RawRef) → primary_made named numbers (primary.Ref r) ≡ (record { made = λ operand. (reference_made named numbers r).value; handed = (reference_made named numbers r).handed })
  of_ref r = of_primary-Ref (steps named numbers) r

  pub of_call : (n : RawName) (es : List RawExpr) → primary_made named numbers (primary.Call n es) ≡ simply (call (target named numbers n) (arguments named numbers n (map (expression_made named numbers) es)))
  of_call n es = of_primary-Call (steps named numbers) n es

  pub of_name : (n : RawName) → reference_made named numbers (ref.Name n) ≡ reference_step named numbers (layer.Name n)
  of_name n = of_reference-Name (steps named numbers) n

  pub of_indexed : (n : RawName) (e : RawExpr) → reference_made named numbers (ref.One n e) ≡ place_read (indexed_place named numbers n ((expression_made named numbers e).made false))
  of_indexed n e = of_reference-One (steps named numbers) n e

  pub of_twice_indexed : (n : RawName) (a : RawExpr) (b : RawExpr) → reference_made named numbers (ref.Two n a b) ≡ place_read (twice_indexed_place named numbers n ((expression_made named numbers a).made false) ((expression_made named numbers b).made false))
  of_twice_indexed n a b = of_reference-Two (steps named numbers) n a b

  pub of_bare : (at : Position) (e : RawExpr) → reference_made named numbers (ref.Bare at e) ≡ place_read (reference (roll-Spot (unit_layer.Bare ((expression_made named numbers e).made false))) 0 None)
  of_bare at e = of_reference-Bare (steps named numbers) at e

  -- ---- the tree that a function makes of each

  made_as : {A : Type 0} (f : A → Made) (x y : A) (m : Made) (operand : Bool) (z : Expr) → x ≡ y → f y ≡ m → z ≡ m.made operand → z ≡ (f x).made operand
  made_as f x y m operand z e h k = k ∙ ap (λ n. n.made operand) (sym h ∙ ap f (sym e))

  pub choice_made : (e : RawExpr) (at : Position) (test test' : RawCond) (a a' b b' : RawExpr) (t : Cond) (x y z : Expr) (operand : Bool) → e ≡ expression.Choice at test a b → test' ≡ test → a' ≡ a → b' ≡ b
      → t ≡ condition_made named numbers test' → x ≡ (expression_made named numbers a').made false → y ≡ (expression_made named numbers b').made false → z ≡ choice t x y
      → z ≡ (expression_made named numbers e).made operand
  choice_made e at test test' a a' b b' t x y z operand ee et ea eb e1 e2 e3 k =
      made_as (expression_made named numbers) e (expression.Choice at test a b) _ operand z ee (of_choice at test a b)
      (k ∙ ap (λ t. choice t x y) (e1 ∙ ap (condition_made named numbers) et)
      ∙ ap₂ (λ x y. choice (condition_made named numbers test) x y) (e2 ∙ ap (λ a. (expression_made named numbers a).made false) ea) (e3 ∙ ap (λ b. (expression_made named numbers b).made false) eb))

  pub alone_made : (e : RawExpr) (s s' : RawSum) (z : Expr) (operand : Bool) → e ≡ expression.Sum s → s' ≡ s → z ≡ (sum_made named numbers s').made operand → z ≡ (expression_made named numbers e).made operand
  alone_made e s s' z operand ee es k =
      made_as (expression_made named numbers) e (expression.Sum s) (sum_made named numbers s) operand z ee (of_sum s) (k ∙ ap (λ s. (sum_made named numbers s).made operand) es)

  pub number_made : (p : RawPrimary) (n : RawNumber) (z : Expr) (operand : Bool) → p ≡ primary.Number n → z ≡ unit.Num n.number → z ≡ (primary_made named numbers p).made operand
  number_made p n z operand ep k = made_as (primary_made named numbers) p (primary.Number n) _ operand z ep (of_number n) (k ∙ sym (unit.rolls-Num n.number))

  pub text_made : (p : RawPrimary) (at : Position) (xs : List ℕ) (i : ℕ) (z : Expr) (operand : Bool) → p ≡ primary.Text at xs → i ≡ item_here numbers at.token → z ≡ unit.Text i → z ≡ (primary_made named numbers p).made operand
  text_made p at xs i z operand ep ei k = made_as (primary_made named numbers) p (primary.Text at xs) _ operand z ep (of_text at xs) (k ∙ ap unit.Text ei ∙ sym (unit.rolls-Text (item_here numbers at.token)))

  pub location_made : (p : RawPrimary) (at : Position) (r r' : RawRef) (place : Ref) (z : Expr) (operand : Bool) → p ≡ primary.Location at r → r' ≡ r
      → place ≡ (reference_made named numbers r').place → z ≡ locate place → z ≡ (primary_made named numbers p).made operand
  location_made p at r r' place z operand ep er e1 k =
      made_as (primary_made named numbers) p (primary.Location at r) _ operand z ep (of_location at r) (k ∙ ap locate (e1 ∙ ap (λ r. (reference_made named numbers r).place) er))

  pub forced_made : (p : RawPrimary) (t : RawType) (e e' : RawExpr) (f : ℕ) (x z : Expr) (operand : Bool) → p ≡ primary.Forced t e → e' ≡ e
      → x ≡ (expression_made named numbers e').made false → f ≡ fraction_of t → z ≡ force f x → z ≡ (primary_made named numbers p).made operand
  forced_made p t e e' f x z operand ep ee e1 e2 k =
      made_as (primary_made named numbers) p (primary.Forced t e) _ operand z ep (of_forced t e) (k ∙ ap₂ force e2 (e1 ∙ ap (λ e. (expression_made named numbers e).made false) ee))

  pub bracket_made : (p : RawPrimary) (at : Position) (e e' : RawExpr) (x z : Expr) (operand : Bool) → p ≡ primary.Bracket at e → e' ≡ e
      → x ≡ (expression_made named numbers e').made false → z ≡ whole_part_if operand x → z ≡ (primary_made named numbers p).made operand
  bracket_made p at e e' x z operand ep ee e1 k =
      made_as (primary_made named numbers) p (primary.Bracket at e) _ operand z ep (of_bracket at e) (k ∙ ap (whole_part_if operand) (e1 ∙ ap (λ e. (expression_made named numbers e).made false) ee))

  pub value_made : (p : RawPrimary) (r : RawRef) (z : Expr) (operand : Bool) → p ≡ primary.Ref r
      → z ≡ (reference_made named numbers r).value → z ≡ (primary_made named numbers p).made operand
  value_made p r z operand ep = made_as (primary_made named numbers) p (primary.Ref r) _ operand z ep (of_ref r)

  pub call_made : (p : RawPrimary) (n : RawName) (es es' : List RawExpr) (params : List RawPs) (args : List Arg) (t : Target) (x z : Expr) (operand : Bool) → p ≡ primary.Call n es → es' ≡ es
      → params ≡ params_of (signature_of named n) → args ≡ arguments_for (map (expression_made named numbers) es') params → t ≡ target named numbers n → x ≡ call t args → z ≡ x
      → z ≡ (primary_made named numbers p).made operand
  call_made p n es es' params args t x z operand ep ee e1 e2 e3 e4 k =
      made_as (primary_made named numbers) p (primary.Call n es) _ operand z ep (of_call n es)
      (k ∙ e4 ∙ ap₂ call e3 (e2 ∙ ap₂ (λ es params. arguments_for (map (expression_made named numbers) es) params) ee e1))

  pub place_made : (r : RawRef) (n : RawName) (z : Ref) → r ≡ ref.Name n → z ≡ place_of_name named numbers n → z ≡ (reference_made named numbers r).place
  place_made r n z er k = k ∙ ap (λ m. m.place) (sym (of_name n) ∙ ap (reference_made named numbers) (sym er))

  pub named_made : (r : RawRef) (n : RawName) (z : Expr) → r ≡ ref.Name n → z ≡ value_of named numbers n → z ≡ (reference_made named numbers r).value
  named_made r n z er k = k ∙ ap (λ m. m.value) (sym (of_name n) ∙ ap (reference_made named numbers) (sym er))

  pub indexed_made : (r : RawRef) (n : RawName) (e e' : RawExpr) (x y : Expr) (z : Ref) → r ≡ ref.One n e → e' ≡ e → x ≡ (expression_made named numbers e').made false → y ≡ x
      → z ≡ indexed_place named numbers n y → z ≡ (reference_made named numbers r).place
  indexed_made r n e e' x y z er ee e1 e2 k =
      k ∙ ap (indexed_place named numbers n) (e2 ∙ e1 ∙ ap (λ e. (expression_made named numbers e).made false) ee)
      ∙ ap (λ m. m.place) (sym (of_indexed n e) ∙ ap (reference_made named numbers) (sym er))

  pub twice_indexed_made : (r : RawRef) (n : RawName) (a a' b b' : RawExpr) (x y : Expr) (z : Ref) → r ≡ ref.Two n a b → a' ≡ a → b' ≡ b
      → x ≡ (expression_made named numbers a').made false → y ≡ (expression_made named numbers b').made false → z ≡ twice_indexed_place named numbers n x y
      → z ≡ (reference_made named numbers r).place
  twice_indexed_made r n a a' b b' x y z er ea eb e1 e2 k =
      k ∙ ap₂ (twice_indexed_place named numbers n) (e1 ∙ ap (λ a. (expression_made named numbers a).made false) ea) (e2 ∙ ap (λ b. (expression_made named numbers b).made false) eb)
      ∙ ap (λ m. m.place) (sym (of_twice_indexed n a b) ∙ ap (reference_made named numbers) (sym er))

  pub bare_made : (r : RawRef) (at : Position) (e e' : RawExpr) (x y : Expr) (z : Ref) → r ≡ ref.Bare at e → e' ≡ e → x ≡ (expression_made named numbers e').made false → y ≡ x
      → z ≡ reference (spots.Bare y) 0 None → z ≡ (reference_made named numbers r).place
  bare_made r at e e' x y z er ee e1 e2 k =
      k ∙ ap (λ s. reference s 0 None) (ap spots.Bare (e2 ∙ e1 ∙ ap (λ e. (expression_made named numbers e).made false) ee) ∙ sym (spots.rolls-Bare ((expression_made named numbers e).made false)))
      ∙ ap (λ m. m.place) (sym (of_bare at e) ∙ ap (reference_made named numbers) (sym er))

-- ---- an argument by what its parameter takes

pub value_taken : (p : RawPs) (i : RawIps) (at : Position) (t : RawType) (m : Made) (x y : Expr) (f : ℕ) → p ≡ ps.Plain i → i ≡ inner.Value at t → x ≡ m.made false → y ≡ x
    → f ≡ fraction_of t
    → args.Value y f ≡ argument_for p m
value_taken p i at t m x y f ep ei e1 e2 ef =
    ap₂ args.Value (e2 ∙ e1) ef ∙ sym (args.rolls-Value (m.made false) (fraction_of t)) ∙ ap (λ (p : RawPs). argument_for p m) (sym (ep ∙ ap ps.Plain ei))

pub place_taken : (p : RawPs) (i : RawIps) (at : Position) (t : RawType) (m : Made) (x y : Expr) (f : ℕ) (z : Arg) → p ≡ ps.Plain i → i ≡ inner.Location at t → x ≡ m.made false
    → y ≡ x
    → f ≡ fraction_of t → z ≡ place_argument y f → z ≡ argument_for p m
place_taken p i at t m x y f z ep ei e1 e2 ef k = k ∙ ap₂ place_argument (e2 ∙ e1) ef ∙ ap (λ (p : RawPs). argument_for p m) (sym (ep ∙ ap ps.Plain ei))
