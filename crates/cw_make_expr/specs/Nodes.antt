-- The nodes of a unit's expressions, conditions and references.
use Rattle.std.specs.Prelude.{ℕ, ℤ, ◌≡◌, List, [], Bool, true, false, Option, None, Result, IfOk, if◌then◌else◌}
use Rattle.cw_word.specs.Number.{Number}
use Rattle.cw_tree.specs.declared.leaf.AddOp.{AddOp}
use Rattle.cw_tree.specs.declared.leaf.AddOp.TheVariants as add
use Rattle.cw_tree.specs.declared.leaf.MulOp.{MulOp}
use Rattle.cw_tree.specs.declared.leaf.MulOp.TheVariants as mul
use Rattle.cw_tree.specs.declared.leaf.CompareOp.{CompareOp as Compared}
use Rattle.cw_tree.specs.declared.leaf.CompareOp.TheVariants as compared
use Rattle.cw_unit.specs.declared.unit.LogicOp.{LogicOp}
use Rattle.cw_unit.specs.declared.unit.CompareOp.{CompareOp}
use Rattle.cw_unit.specs.declared.unit.CompareOp.TheVariants as compare
use Rattle.cw_unit.specs.declared.unit.Field.{Field}
use Rattle.cw_unit.specs.declared.unit.Target.{Target}
use Rattle.cw_unit.specs.declared.unit.Expr.{Expr, Expr-F, roll-Expr, out-Expr}
use Rattle.cw_unit.specs.declared.unit.Arg.{Arg, roll-Arg}
use Rattle.cw_unit.specs.declared.unit.Cond.{Cond, roll-Cond}
use Rattle.cw_unit.specs.declared.unit.Spot.{Spot}
use Rattle.cw_unit.specs.declared.unit.Ref.{Ref, roll-Ref}
use Rattle.cw_unit.specs.declared.unit.Arg.TheOpen as layer

-- what is made, if it can be
abbrev pub Makes : {T E : Type 0} → Result T E → T → Type 0
Makes r x = IfOk r (λ t. t ≡ x)

abbrev pub number : Number → Expr
number n = roll-Expr (layer.Num n)

abbrev pub whole_number : ℕ → Expr
whole_number n = number (record { whole = n; digits = 0; places = 0 })

-- what stands where a text has nothing
abbrev pub nothing : Expr
nothing = whole_number 0

abbrev pub constant : ℤ → Expr
constant z = roll-Expr (layer.Const z)

abbrev pub string : ℕ → Expr
string i = roll-Expr (layer.Text i)

abbrev pub read : Ref → Expr
read r = roll-Expr (layer.Read r)

abbrev pub call : Target → List Arg → Expr
call t args = roll-Expr (layer.Call t args)

abbrev pub force : (f : ℕ) → Expr → Expr
force f e = roll-Expr (layer.Force f e)

abbrev pub locate : Ref → Expr
locate r = roll-Expr (layer.Locate r)

abbrev pub bits : (t b : ℕ) → Expr → Expr
bits t b e = roll-Expr (layer.Bits t b e)

abbrev pub logic : LogicOp → Expr → Expr → Expr
logic op a b = roll-Expr (layer.Logic op a b)

abbrev pub minus : Expr → Expr
minus e = roll-Expr (layer.Minus e)

-- two operands with `+` or `-` between them
abbrev pub added : AddOp → Expr → Expr → Expr
added add.Plus a b = roll-Expr (layer.Sum a b)
added add.Minus a b = roll-Expr (layer.Less a b)

-- two operands with `*` or `/` between them
abbrev pub multiplied : MulOp → Expr → Expr → Expr
multiplied mul.Times a b = roll-Expr (layer.Times a b)
multiplied mul.Divide a b = roll-Expr (layer.Over a b)

abbrev pub choice : Cond → Expr → Expr → Expr
choice c a b = roll-Expr (layer.Choice c a b)

-- ---- conditions

abbrev pub comparator : Compared → CompareOp
comparator compared.Less = compare.Less
comparator compared.LessOrEqual = compare.LessEq
comparator compared.Equal = compare.Equal
comparator compared.GreaterOrEqual = compare.GreaterEq
comparator compared.Greater = compare.Greater
comparator compared.NotEqual = compare.Unequal

abbrev pub comparison : CompareOp → Expr → Expr → Cond
comparison op a b = roll-Cond (layer.Cmp op a b)

-- what stands for a condition that is not there
abbrev pub no_condition : Cond
no_condition = comparison compare.Equal nothing nothing

abbrev pub both : Cond → Cond → Cond
both c d = roll-Cond (layer.And c d)

abbrev pub either : Cond → Cond → Cond
either c d = roll-Cond (layer.Or c d)

-- ---- references and arguments

abbrev pub reference : Spot → (f : ℕ) → Option Field → Ref
reference s f field = roll-Ref (record { «at» = s; f = f; field = field })

abbrev pub value_argument : Expr → (f : ℕ) → Arg
value_argument e f = roll-Arg (layer.Value e f)

-- the address of what an expression reads
abbrev pub place_in : Expr → (f : ℕ) → Expr-F Arg Cond Expr Spot Ref → Arg
place_in e f (layer.Read r) = roll-Arg (layer.Place r)
place_in e f _ = value_argument e f

abbrev pub place_argument : Expr → (f : ℕ) → Arg
place_argument e f = place_in e f (out-Expr e)

-- ---- a number with a point that is evaluated at the scale 0, where an operand would be at its best scale: its whole part

abbrev pub whole_part_in : Expr → Expr-F Arg Cond Expr Spot Ref → Expr
whole_part_in e (layer.Num n) = whole_number n.whole
whole_part_in e _ = e

abbrev pub whole_part : Expr → Expr
whole_part e = whole_part_in e (out-Expr e)

abbrev pub whole_part_if : Bool → Expr → Expr
whole_part_if true e = whole_part e
whole_part_if false e = e
