-- How many words a program's control stack needs.
use Rattle.std.specs.Prelude.{ℕ, ◌+◌, ◌*◌, max, List, [], ◌∷◌}
use Rattle.cw_unit.specs.declared.unit.Unit.{Unit as SourceUnit}
use Rattle.cw_unit.specs.declared.unit.Proc.{Proc}
use Rattle.cw_unit.specs.declared.unit.Stmt.{Stmt, Stmt-F, fold-Stmt}
use Rattle.cw_unit.specs.declared.unit.Stmt.TheOpen as statement
use Rattle.cw_unit.specs.declared.unit.Dest.{Dest}
use Rattle.cw_unit.specs.declared.unit.Dest.TheVariants as dest
use Rattle.cw_unit.specs.declared.unit.Felem.{Felem}
use Rattle.cw_unit.specs.declared.unit.Felem.TheVariants as element
use Rattle.cw_unit.specs.declared.unit.Expr.{Expr, Expr-F, fold-Expr}
use Rattle.cw_unit.specs.declared.unit.Arg.{Arg, fold-Arg}
use Rattle.cw_unit.specs.declared.unit.Cond.{Cond, fold-Cond}
use Rattle.cw_unit.specs.declared.unit.Ref.{Ref, fold-Ref}
use Rattle.cw_unit.specs.declared.unit.Arg.TheOpen as layer
use Rattle.cw_unit.specs.declared.unit.Arg.TheOpen.{Arg-F, Cond-F, Spot-F, Ref-F}

abbrev pub largest : List ℕ → ℕ
largest [] = 0
largest (n ∷ ns) = max n (largest ns)

-- an argument: the most words at once, and those that stay
pub record ArgumentNeed : Type 0 where
  pub most : ℕ
  pub kept : ℕ

abbrev pub word_argument : ℕ → ArgumentNeed
word_argument n = record { most = n; kept = 1 }

-- a control argument counts two
abbrev pub control_argument : ArgumentNeed
control_argument = record { most = 2; kept = 2 }

abbrev pub arguments_depth : List ArgumentNeed → ℕ
arguments_depth [] = 0
arguments_depth (a ∷ args) = max a.most (a.kept + arguments_depth args)

abbrev pub argument_step : Arg-F ArgumentNeed ℕ ℕ ℕ ℕ → ArgumentNeed
argument_step (layer.Value e f) = word_argument e
argument_step (layer.Place r) = word_argument r
argument_step (layer.Array i l) = word_argument 1
argument_step (layer.Same i) = word_argument 1
argument_step (layer.Base i) = word_argument 1
argument_step (layer.Goal g) = control_argument
argument_step (layer.Switch n) = control_argument
argument_step (layer.CommonSwitch d) = control_argument
argument_step (layer.Proc q) = control_argument
argument_step (layer.CommonProc d) = control_argument
argument_step (layer.Special k) = control_argument

abbrev pub two_depth : ℕ → ℕ → ℕ
two_depth a b = max a (1 + b)

abbrev pub condition_step : Cond-F ArgumentNeed ℕ ℕ ℕ ℕ → ℕ
condition_step (layer.Cmp op a b) = two_depth a b
condition_step (layer.And c d) = max c d
condition_step (layer.Or c d) = max c d

abbrev pub spot_step : Spot-F ArgumentNeed ℕ ℕ ℕ ℕ → ℕ
spot_step (layer.Direct i) = 1
spot_step (layer.Through i) = 1
spot_step (layer.One i l u e) = e
spot_step (layer.Two i l1 u1 l2 u2 n e g) = two_depth e g
spot_step (layer.ParamArray i e) = e
spot_step (layer.Word i p n e) = e
spot_step (layer.Elem i p w n q e) = e
spot_step (layer.Bare e) = e

abbrev pub ref_step : Ref-F ArgumentNeed ℕ ℕ ℕ ℕ → ℕ
ref_step r = r.at

abbrev pub expression_step : Expr-F ArgumentNeed ℕ ℕ ℕ ℕ → ℕ
expression_step (layer.Num n) = 1
expression_step (layer.Const z) = 1
expression_step (layer.Text i) = 1
expression_step (layer.Read r) = r
expression_step (layer.Call t args) = max 1 (arguments_depth args)
expression_step (layer.Force f e) = e
expression_step (layer.Locate r) = r
expression_step (layer.Bits t b e) = e
expression_step (layer.Logic op a b) = two_depth a b
expression_step (layer.Sum a b) = two_depth a b
expression_step (layer.Less a b) = two_depth a b
expression_step (layer.Minus a) = a
expression_step (layer.Times a b) = two_depth a b
expression_step (layer.Over a b) = two_depth a b
expression_step (layer.Choice c a b) = max c (max a b)

-- the most words in hand at once
abbrev pub operand_depth : Expr → ℕ
operand_depth = fold-Expr ArgumentNeed ℕ ℕ ℕ ℕ argument_step condition_step expression_step spot_step ref_step

abbrev pub argument_depth : Arg → ArgumentNeed
argument_depth = fold-Arg ArgumentNeed ℕ ℕ ℕ ℕ argument_step condition_step expression_step spot_step ref_step

abbrev pub condition_depth : Cond → ℕ
condition_depth = fold-Cond ArgumentNeed ℕ ℕ ℕ ℕ argument_step condition_step expression_step spot_step ref_step

abbrev pub address_depth : Ref → ℕ
address_depth = fold-Ref ArgumentNeed ℕ ℕ ℕ ℕ argument_step condition_step expression_step spot_step ref_step

abbrev pub argument_depths : List Arg → List ArgumentNeed
argument_depths [] = []
argument_depths (a ∷ args) = argument_depth a ∷ argument_depths args

abbrev pub element_depth : Felem → ℕ
element_depth (element.One e) = operand_depth e
element_depth (element.While e c) = max (operand_depth e) (condition_depth c)
element_depth (element.Step a b d) = max (operand_depth a) (max (operand_depth b) (operand_depth d))

abbrev pub elements_depth : List Felem → ℕ
elements_depth [] = 0
elements_depth (e ∷ es) = max (element_depth e) (elements_depth es)

abbrev pub jump_depth : Dest → ℕ
jump_depth (dest.Goal g) = 0
jump_depth (dest.Special k) = 0
jump_depth (dest.Switch n e) = operand_depth e
jump_depth (dest.CommonSwitch d e) = operand_depth e
jump_depth (dest.SpecialSwitch k e) = operand_depth e

abbrev pub statement_step : Stmt-F ℕ → ℕ
statement_step (statement.Put line r e) = two_depth (operand_depth e) (address_depth r)
statement_step (statement.PutBits line t b r e) = two_depth (operand_depth e) (address_depth r)
statement_step (statement.Go line d) = jump_depth d
statement_step (statement.Call line t args) = arguments_depth (argument_depths args)
statement_step (statement.Answer line e) = operand_depth e
statement_step (statement.If line c a b) = max (condition_depth c) (max a b)
statement_step (statement.For line i r es s) = max (address_depth r) (max (elements_depth es) s)
statement_step (statement.Seq ss) = largest ss
statement_step (statement.Mark ls s) = s

abbrev pub body_depth : Stmt → ℕ
body_depth = fold-Stmt ℕ statement_step

-- the words of an activation record
abbrev pub body_need : (controls : ℕ) → Stmt → ℕ
body_need controls s = 8 + 3 * controls + 2 * body_depth s

abbrev pub procedures_need : List Proc → ℕ
procedures_need [] = 0
procedures_need (q ∷ qs) = max (body_need q.specials q.body) (procedures_need qs)

abbrev pub unit_need : SourceUnit → ℕ
unit_need u = max (body_need 0 u.body) (procedures_need u.procs)

abbrev pub largest_need : List SourceUnit → ℕ
largest_need [] = 0
largest_need (u ∷ us) = max (unit_need u) (largest_need us)

-- the words of control stack at a depth limit
abbrev pub control_need : List SourceUnit → (depth : ℕ) → ℕ
control_need us depth = (depth + 1) * largest_need us + 64
