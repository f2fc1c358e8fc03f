-- The trees of a unit for the expressions, conditions and references of a text.
-- Official Definition of CORAL 66, "Expressions"; BS 5905, "Expressions", "Scaling". The forms of trees are this project's profile.
use Rattle.std.specs.Prelude.{ℕ, zero, suc, ◌==◌, List, [], ◌∷◌, length, map, Bool, true, false, ◌&&◌, Option, Some, None, is_none, if◌then◌else◌}
use Rattle.cw_word.specs.Word.{signed}
use Rattle.cw_tree.specs.declared.leaf.RawName.{RawName}
use Rattle.cw_tree.specs.declared.leaf.RawSign.{RawSign}
use Rattle.cw_tree.specs.declared.leaf.RawFactorSign.{RawFactorSign}
use Rattle.cw_tree.specs.declared.expression.RawBits.{RawBits}
use Rattle.cw_tree.specs.declared.expression.RawExpr.TheOpen as layer
use Rattle.cw_tree.specs.declared.expression.RawExpr.TheOpen.{RawPrimary-F, RawRef-F, RawCand-F, RawCmp-F, RawCond-F, RawDiffer-F}
use Rattle.cw_tree.specs.declared.expression.RawExpr.TheOpen.{RawMask-F, RawPrim-F, RawSum-F, RawTerm-F, RawUnion-F}
use Rattle.cw_tree.specs.declared.expression.RawExpr.{RawExpr, RawExpr-F, fold-RawExpr}
use Rattle.cw_tree.specs.declared.expression.RawPrimary.{RawPrimary, fold-RawPrimary}
use Rattle.cw_tree.specs.declared.expression.RawRef.{RawRef, fold-RawRef}
use Rattle.cw_tree.specs.declared.expression.RawCand.{RawCand, fold-RawCand}
use Rattle.cw_tree.specs.declared.expression.RawCmp.{RawCmp, fold-RawCmp}
use Rattle.cw_tree.specs.declared.expression.RawCond.{RawCond, fold-RawCond}
use Rattle.cw_tree.specs.declared.expression.RawDiffer.{RawDiffer, fold-RawDiffer}
use Rattle.cw_tree.specs.declared.expression.RawMask.{RawMask, fold-RawMask}
use Rattle.cw_tree.specs.declared.expression.RawPrim.{RawPrim, fold-RawPrim}
use Rattle.cw_tree.specs.declared.expression.RawSum.{RawSum, fold-RawSum}
use Rattle.cw_tree.specs.declared.expression.RawTerm.{RawTerm, fold-RawTerm}
use Rattle.cw_tree.specs.declared.expression.RawUnion.{RawUnion, fold-RawUnion}
use Rattle.cw_tree.specs.declared.segment.RawIps.TheVariants as inner
use Rattle.cw_tree.specs.declared.segment.RawPs.{RawPs}
use Rattle.cw_tree.specs.declared.segment.RawPs.TheVariants as ps
use Rattle.cw_scope.specs.declared.resolve.Named.{Named}
use Rattle.cw_amount.specs.Amounts.{octal_word, place_amount, is_negative}
use Rattle.cw_scale.specs.Kinds.{kind_of, signature_of, fraction_of, fraction_of_kind}
use Rattle.cw_unit.specs.declared.unit.LogicOp.{LogicOp}
use Rattle.cw_unit.specs.declared.unit.LogicOp.TheVariants as logic_op
use Rattle.cw_unit.specs.declared.unit.Target.{Target}
use Rattle.cw_unit.specs.declared.unit.Expr.{Expr}
use Rattle.cw_unit.specs.declared.unit.Cond.{Cond}
use Rattle.cw_unit.specs.declared.unit.Arg.{Arg}
use Rattle.cw_unit.specs.declared.unit.Ref.{Ref}
use Rattle.cw_unit.specs.declared.unit.Spot.{Spot, roll-Spot}
use Rattle.cw_unit.specs.declared.unit.Arg.TheOpen as unit_layer
use Rattle.cw_make_expr.specs.Nodes.{number, nothing, constant, string, read, call, force, locate, bits, logic, minus, added, multiplied, choice, comparator}
use Rattle.cw_make_expr.specs.Nodes.{comparison, no_condition, both, either, reference, value_argument, place_argument, whole_part, whole_part_if}
use Rattle.cw_make_expr.specs.Parts.{Numbers, within, number_of, item_in, item_here, params_of, is_called, target_of}
use Rattle.cw_make_expr.specs.Parts.{handed, no_argument, named_spot, field_of, indexed_spot, twice_indexed_spot}

-- Of an expression: its tree, where it is an operand of `*`, `/`, word logic or BITS and where it is not, and what it is as an argument
-- that is no value and no place, if it is a name by itself.
pub record Made : Type 0 where
  pub made : (operand : Bool) → Expr
  pub handed : Arg

-- of a reference, also the place that it names
pub record Placed : Type 0 where
  pub place : Ref
  pub value : Expr
  pub handed : Arg

-- the same tree in both places
abbrev pub simply : Expr → Made
simply e = record { made = λ operand. e; handed = no_argument }

-- Behind a sign and in brackets a number with a point has the scale 0 as an operand.
abbrev pub plainly : Expr → Made
plainly e = record { made = λ operand. whole_part_if operand e; handed = no_argument }

-- ---- operands of one rule: one alone stands for the whole, and more are grouped to the left

abbrev pub logic_from : LogicOp → Expr → List Made → Expr
logic_from op e [] = e
logic_from op e (x ∷ xs) = logic_from op (logic op e (x.made true)) xs

-- where an operand stands: one alone stands for the whole, and each of more is an operand of the operator
abbrev pub operand_for : (alone operand : Bool) → Bool
operand_for true operand = operand
operand_for false operand = true

abbrev pub handed_if : Bool → Arg → Arg
handed_if true a = a
handed_if false a = no_argument

abbrev pub logic_of : LogicOp → List Made → Made
logic_of op [] = simply nothing
logic_of op (x ∷ xs) =
    record {
      made = λ operand. logic_from op (x.made (operand_for (length xs == 0) operand)) xs;
      handed = handed_if (length xs == 0) x.handed;
    }

abbrev pub factors_from : Expr → List Made → List RawFactorSign → Expr
factors_from e [] signs = e
factors_from e (x ∷ xs) [] = e
factors_from e (x ∷ xs) (s ∷ signs) = factors_from (multiplied s.op e (x.made true)) xs signs

abbrev pub term_of : List Made → List RawFactorSign → Made
term_of [] signs = simply nothing
term_of (x ∷ xs) signs =
    record {
      made = λ operand. factors_from (x.made (operand_for (length xs == 0) operand)) xs signs;
      handed = handed_if (length xs == 0) x.handed;
    }

abbrev pub terms_from : Expr → List Made → List RawSign → Expr
terms_from e [] signs = e
terms_from e (x ∷ xs) [] = e
terms_from e (x ∷ xs) (s ∷ signs) = terms_from (added s.op e (x.made false)) xs signs

-- `+` before a term has no node
abbrev pub signed_term : Option RawSign → Expr → Expr
signed_term sign e = if is_negative sign then minus e else e

-- a term without a sign that stands alone
abbrev pub is_alone : Option RawSign → (others : ℕ) → Bool
is_alone sign others = is_none sign && others == 0

abbrev pub sum_from : (alone operand : Bool) → Option RawSign → Made → List Made → List RawSign → Expr
sum_from true operand sign x xs signs = x.made operand
sum_from false operand sign x xs signs = whole_part_if operand (terms_from (signed_term sign (x.made false)) xs signs)

abbrev pub sum_of : Option RawSign → List Made → List RawSign → Made
sum_of sign [] signs = simply nothing
sum_of sign (x ∷ xs) signs =
    record {
      made = λ operand. sum_from (is_alone sign (length xs)) operand sign x xs signs;
      handed = handed_if (is_alone sign (length xs)) x.handed;
    }

-- the BITS before a primary: the last is applied first
abbrev pub bits_around : List RawBits → Expr → Expr
bits_around [] e = e
bits_around (b ∷ bs) e = bits (within 255 (place_amount b.size.first)) (within 255 (place_amount b.size.second)) (bits_around bs e)

abbrev pub prim_of : List RawBits → Made → Made
prim_of bs x =
    record {
      made = λ operand. bits_around bs (x.made (operand_for (length bs == 0) operand));
      handed = handed_if (length bs == 0) x.handed;
    }

-- ---- conditions

abbrev pub all_from : Cond → List Cond → Cond
all_from c [] = c
all_from c (d ∷ ds) = all_from (both c d) ds

abbrev pub any_from : Cond → List Cond → Cond
any_from c [] = c
any_from c (d ∷ ds) = any_from (either c d) ds

abbrev pub all_of : List Cond → Cond
all_of [] = no_condition
all_of (c ∷ cs) = all_from c cs

abbrev pub any_of : List Cond → Cond
any_of [] = no_condition
any_of (c ∷ cs) = any_from c cs

-- ---- arguments

-- A value is evaluated at its parameter's scale. Of a location the address is given, and anything else is handed on.
abbrev pub argument_for : RawPs → Made → Arg
argument_for (ps.Plain (inner.Value at t)) x = value_argument (x.made false) (fraction_of t)
argument_for (ps.Plain (inner.Location at t)) x = place_argument (x.made false) (fraction_of t)
argument_for _ x = x.handed

abbrev pub arguments_for : List Made → List RawPs → List Arg
arguments_for [] params = []
arguments_for (x ∷ xs) [] = []
arguments_for (x ∷ xs) (p ∷ params) = argument_for p x ∷ arguments_for xs params

-- a name by itself is read, or a procedure that is called
abbrev pub value_of_name : (called : Bool) → Target → Ref → Expr
value_of_name true t r = call t []
value_of_name false t r = read r

abbrev pub place_read : Ref → Placed
place_read r = record { place = r; value = read r; handed = no_argument }

-- the reference of a name at a place of it
abbrev pub reference_at : Named → RawName → Spot → Ref
reference_at named n s = reference s (fraction_of_kind (kind_of named n)) (field_of (kind_of named n))

module _ (named : Named) (numbers : Numbers) where
  abbrev pub item_of : RawName → ℕ
  item_of n = item_in (number_of named numbers n)

  abbrev pub target : RawName → Target
  target n = target_of (kind_of named n) (number_of named numbers n)

  abbrev pub arguments : RawName → List Made → List Arg
  arguments n xs = arguments_for xs (params_of (signature_of named n))

  abbrev pub place_of_name : RawName → Ref
  place_of_name n = reference_at named n (named_spot (kind_of named n) (item_of n))

  abbrev pub indexed_place : RawName → (index : Expr) → Ref
  indexed_place n e = reference_at named n (indexed_spot named numbers (kind_of named n) (item_of n) e)

  abbrev pub twice_indexed_place : RawName → (first second : Expr) → Ref
  twice_indexed_place n e g = reference_at named n (twice_indexed_spot (kind_of named n) (item_of n) e g)

  abbrev pub value_of : RawName → Expr
  value_of n = value_of_name (is_called (kind_of named n)) (target n) (place_of_name n)

  -- a name by itself as an argument
  abbrev pub named_handed : Option RawName → Arg
  named_handed None = no_argument
  named_handed (Some n) = handed (kind_of named n) (number_of named numbers n)

  -- ---- rules of the grammar

  abbrev pub expression_step : RawExpr-F Made Made Placed Cond Cond Cond Made Made Made Made Made Made → Made
  expression_step (layer.Choice at test a b) = simply (choice test (a.made false) (b.made false))
  expression_step (layer.Sum sum) = sum

  abbrev pub primary_step : RawPrimary-F Made Made Placed Cond Cond Cond Made Made Made Made Made Made → Made
  primary_step (layer.Number n) = simply (number n.number)
  primary_step (layer.Octal n) = simply (constant (signed (within 65535 (octal_word n.number.number))))
  primary_step (layer.Literal c) = simply (constant (signed c.byte))
  primary_step (layer.Text at cs) = simply (string (item_here numbers at.token))
  primary_step (layer.Location at r) = simply (locate r.place)
  primary_step (layer.Forced t e) = simply (force (fraction_of t) (e.made false))
  primary_step (layer.Bracket at e) = plainly (e.made false)
  primary_step (layer.Ref r) = record { made = λ operand. r.value; handed = r.handed }
  primary_step (layer.Call n xs) = simply (call (target n) (arguments n xs))

  abbrev pub reference_step : RawRef-F Made Made Placed Cond Cond Cond Made Made Made Made Made Made → Placed
  reference_step (layer.Name n) =
      record {
        place = place_of_name n;
        value = value_of n;
        handed = handed (kind_of named n) (number_of named numbers n);
      }
  reference_step (layer.One n e) = place_read (indexed_place n (e.made false))
  reference_step (layer.Two n e g) = place_read (twice_indexed_place n (e.made false) (g.made false))
  reference_step (layer.Bare at e) = place_read (reference (roll-Spot (unit_layer.Bare (e.made false))) 0 None)

  abbrev pub conjunction_step : RawCand-F Made Made Placed Cond Cond Cond Made Made Made Made Made Made → Cond
  conjunction_step c = all_of c.operands

  abbrev pub comparison_step : RawCmp-F Made Made Placed Cond Cond Cond Made Made Made Made Made Made → Cond
  comparison_step c = comparison (comparator c.operator.op) (c.left.made false) (c.right.made false)

  abbrev pub condition_step : RawCond-F Made Made Placed Cond Cond Cond Made Made Made Made Made Made → Cond
  condition_step c = any_of c.operands

  abbrev pub differ_step : RawDiffer-F Made Made Placed Cond Cond Cond Made Made Made Made Made Made → Made
  differ_step e = logic_of logic_op.Differ e.operands

  abbrev pub mask_step : RawMask-F Made Made Placed Cond Cond Cond Made Made Made Made Made Made → Made
  mask_step e = logic_of logic_op.Mask e.operands

  abbrev pub prim_step : RawPrim-F Made Made Placed Cond Cond Cond Made Made Made Made Made Made → Made
  prim_step e = prim_of e.bits e.primary

  abbrev pub sum_step : RawSum-F Made Made Placed Cond Cond Cond Made Made Made Made Made Made → Made
  sum_step e = sum_of e.sign e.operands e.operators

  abbrev pub term_step : RawTerm-F Made Made Placed Cond Cond Cond Made Made Made Made Made Made → Made
  term_step e = term_of e.operands e.operators

  abbrev pub union_step : RawUnion-F Made Made Placed Cond Cond Cond Made Made Made Made Made Made → Made
  union_step e = logic_of logic_op.Union e.operands

  abbrev pub expression_made : RawExpr → Made
  expression_made = fold-RawExpr Made Made Placed Cond Cond Cond Made Made Made Made Made Made expression_step
      primary_step reference_step conjunction_step comparison_step condition_step differ_step mask_step prim_step
      sum_step term_step union_step

  abbrev pub primary_made : RawPrimary → Made
  primary_made = fold-RawPrimary Made Made Placed Cond Cond Cond Made Made Made Made Made Made expression_step
      primary_step reference_step conjunction_step comparison_step condition_step differ_step mask_step prim_step
      sum_step term_step union_step

  abbrev pub reference_made : RawRef → Placed
  reference_made = fold-RawRef Made Made Placed Cond Cond Cond Made Made Made Made Made Made expression_step
      primary_step reference_step conjunction_step comparison_step condition_step differ_step mask_step prim_step
      sum_step term_step union_step

  abbrev pub conjunction_made : RawCand → Cond
  conjunction_made = fold-RawCand Made Made Placed Cond Cond Cond Made Made Made Made Made Made expression_step
      primary_step reference_step conjunction_step comparison_step condition_step differ_step mask_step prim_step
      sum_step term_step union_step

  abbrev pub comparison_made : RawCmp → Cond
  comparison_made = fold-RawCmp Made Made Placed Cond Cond Cond Made Made Made Made Made Made expression_step
      primary_step reference_step conjunction_step comparison_step condition_step differ_step mask_step prim_step
      sum_step term_step union_step

  abbrev pub condition_made : RawCond → Cond
  condition_made = fold-RawCond Made Made Placed Cond Cond Cond Made Made Made Made Made Made expression_step
      primary_step reference_step conjunction_step comparison_step condition_step differ_step mask_step prim_step
      sum_step term_step union_step

  abbrev pub differ_made : RawDiffer → Made
  differ_made = fold-RawDiffer Made Made Placed Cond Cond Cond Made Made Made Made Made Made expression_step
      primary_step reference_step conjunction_step comparison_step condition_step differ_step mask_step prim_step
      sum_step term_step union_step

  abbrev pub mask_made : RawMask → Made
  mask_made = fold-RawMask Made Made Placed Cond Cond Cond Made Made Made Made Made Made expression_step primary_step
      reference_step conjunction_step comparison_step condition_step differ_step mask_step prim_step sum_step
      term_step union_step

  abbrev pub prim_made : RawPrim → Made
  prim_made = fold-RawPrim Made Made Placed Cond Cond Cond Made Made Made Made Made Made expression_step primary_step
      reference_step conjunction_step comparison_step condition_step differ_step mask_step prim_step sum_step
      term_step union_step

  abbrev pub sum_made : RawSum → Made
  sum_made = fold-RawSum Made Made Placed Cond Cond Cond Made Made Made Made Made Made expression_step primary_step
      reference_step conjunction_step comparison_step condition_step differ_step mask_step prim_step sum_step
      term_step union_step

  abbrev pub term_made : RawTerm → Made
  term_made = fold-RawTerm Made Made Placed Cond Cond Cond Made Made Made Made Made Made expression_step primary_step
      reference_step conjunction_step comparison_step condition_step differ_step mask_step prim_step sum_step
      term_step union_step

  abbrev pub union_made : RawUnion → Made
  union_made = fold-RawUnion Made Made Placed Cond Cond Cond Made Made Made Made Made Made expression_step
      primary_step reference_step conjunction_step comparison_step condition_step differ_step mask_step prim_step
      sum_step term_step union_step

  -- ---- the trees

  abbrev pub expression_of : RawExpr → Expr
  expression_of e = (expression_made e).made false

  abbrev pub condition_of : RawCond → Cond
  condition_of = condition_made

  abbrev pub reference_of : RawRef → Ref
  reference_of r = (reference_made r).place

  -- what is called, and what it is given
  abbrev pub call_of : RawName → List RawExpr → Target × List Arg
  call_of n es = (target n, arguments n (map expression_made es))
