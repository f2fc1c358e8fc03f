-- The least number of tokens that a text of such a tree has: each node of a unit's trees counts the words, names, numbers and signs without which it
-- is not written. Brackets round operands are not counted, nor is what stores data.
use Rattle.std.specs.Prelude.{ℕ, suc, ◌+◌, ◌*◌, List, [], ◌∷◌, length, Option, Some, None}
use Rattle.cw_unit.specs.declared.unit.Unit.{Unit as SourceUnit}
use Rattle.cw_unit.specs.declared.unit.Field.{Field}
use Rattle.cw_unit.specs.declared.unit.Proc.{Proc}
use Rattle.cw_unit.specs.declared.unit.Switch.{Switch}
use Rattle.cw_unit.specs.declared.unit.Stmt.{Stmt, Stmt-F, fold-Stmt}
use Rattle.cw_unit.specs.declared.unit.Stmt.TheOpen as statement
use Rattle.cw_unit.specs.declared.unit.Dest.{Dest}
use Rattle.cw_unit.specs.declared.unit.Dest.TheVariants as dest
use Rattle.cw_unit.specs.declared.unit.Felem.{Felem}
use Rattle.cw_unit.specs.declared.unit.Felem.TheVariants as element
use Rattle.cw_unit.specs.declared.unit.Expr.{Expr, Expr-F, fold-Expr}
use Rattle.cw_unit.specs.declared.unit.Arg.{Arg, fold-Arg}
use Rattle.cw_unit.specs.declared.unit.Cond.{Cond, fold-Cond}
use Rattle.cw_unit.specs.declared.unit.Ref.{Ref, fold-Ref}
use Rattle.cw_unit.specs.declared.unit.Arg.TheOpen as layer
use Rattle.cw_unit.specs.declared.unit.Arg.TheOpen.{Arg-F, Cond-F, Spot-F, Ref-F}

-- each with the sign before it or behind it
abbrev pub separated : List ℕ → ℕ
separated [] = 0
separated (n ∷ ns) = suc n + separated ns

-- ---- expressions

-- nothing, or a bracket and the arguments, each with the comma or bracket behind it
abbrev pub arguments : List ℕ → ℕ
arguments [] = 0
arguments (n ∷ ns) = suc (separated (n ∷ ns))

abbrev pub argument_step : Arg-F ℕ ℕ ℕ (Option Field → ℕ) ℕ → ℕ
argument_step (layer.Value e f) = e
argument_step (layer.Place r) = r
argument_step _ = 1

abbrev pub condition_step : Cond-F ℕ ℕ ℕ (Option Field → ℕ) ℕ → ℕ
condition_step (layer.Cmp op a b) = suc (a + b)
condition_step (layer.And c d) = suc (c + d)
condition_step (layer.Or c d) = suc (c + d)

-- what is counted beside the name and the indexes of a word that no text takes a part of
abbrev pub part : Option Field → ℕ
part None = 0
part (Some s) = 1

-- A name, with its indexes in brackets. Only elements of tables are parts of words: no text has one through a LOCATION parameter, or in an array.
abbrev pub spot_step : Spot-F ℕ ℕ ℕ (Option Field → ℕ) ℕ → Option Field → ℕ
spot_step (layer.Direct i) field = 1
spot_step (layer.Through i) field = 1 + part field
spot_step (layer.One i l u e) field = 3 + e
spot_step (layer.Two i l1 u1 l2 u2 n e g) field = 4 + (part field + (e + g))
spot_step (layer.ParamArray i e) field = 3 + e
spot_step (layer.Word i p n e) field = 3 + e
spot_step (layer.Elem i p w n q e) field = 3 + e
spot_step (layer.Bare e) field = 2 + e

abbrev pub reference_step : Ref-F ℕ ℕ ℕ (Option Field → ℕ) ℕ → ℕ
reference_step r = r.at r.field

abbrev pub expression_step : Expr-F ℕ ℕ ℕ (Option Field → ℕ) ℕ → ℕ
expression_step (layer.Num n) = 1
expression_step (layer.Const z) = 1
expression_step (layer.Text i) = 1
expression_step (layer.Read r) = r
expression_step (layer.Call t args) = suc (arguments args)
-- a type and brackets
expression_step (layer.Force f e) = 3 + e
-- LOCATION and brackets
expression_step (layer.Locate r) = 3 + r
-- BITS with two numbers
expression_step (layer.Bits t b e) = 6 + e
expression_step (layer.Logic op a b) = suc (a + b)
expression_step (layer.Sum a b) = suc (a + b)
expression_step (layer.Less a b) = suc (a + b)
expression_step (layer.Minus a) = suc a
expression_step (layer.Times a b) = suc (a + b)
expression_step (layer.Over a b) = suc (a + b)
-- IF, THEN and ELSE
expression_step (layer.Choice c a b) = 3 + (c + (a + b))

abbrev pub expression_tokens : Expr → ℕ
expression_tokens = fold-Expr ℕ ℕ ℕ (Option Field → ℕ) ℕ argument_step condition_step expression_step spot_step reference_step

abbrev pub argument_tokens : Arg → ℕ
argument_tokens = fold-Arg ℕ ℕ ℕ (Option Field → ℕ) ℕ argument_step condition_step expression_step spot_step reference_step

abbrev pub condition_tokens : Cond → ℕ
condition_tokens = fold-Cond ℕ ℕ ℕ (Option Field → ℕ) ℕ argument_step condition_step expression_step spot_step reference_step

abbrev pub reference_tokens : Ref → ℕ
reference_tokens = fold-Ref ℕ ℕ ℕ (Option Field → ℕ) ℕ argument_step condition_step expression_step spot_step reference_step

-- the arguments of a call
abbrev pub each_argument : List Arg → List ℕ
each_argument [] = []
each_argument (a ∷ args) = argument_tokens a ∷ each_argument args

-- ---- statements

-- an element of a FOR, without the sign before it
abbrev pub element_tokens : Felem → ℕ
element_tokens (element.One e) = expression_tokens e
element_tokens (element.While e c) = suc (expression_tokens e + condition_tokens c)
element_tokens (element.Step a b d) = 2 + (expression_tokens a + (expression_tokens b + expression_tokens d))

abbrev pub each_element : List Felem → List ℕ
each_element [] = []
each_element (e ∷ es) = element_tokens e ∷ each_element es

-- a name, and the index of a switch in brackets
abbrev pub jump_tokens : Dest → ℕ
jump_tokens (dest.Goal g) = 1
jump_tokens (dest.Special k) = 1
jump_tokens (dest.Switch n e) = 3 + expression_tokens e
jump_tokens (dest.CommonSwitch d e) = 3 + expression_tokens e
jump_tokens (dest.SpecialSwitch k e) = 3 + expression_tokens e

abbrev pub statement_step : Stmt-F ℕ → ℕ
statement_step (statement.Put line r e) = suc (reference_tokens r + expression_tokens e)
-- BITS with two numbers, and the sign
statement_step (statement.PutBits line t b r e) = 7 + (reference_tokens r + expression_tokens e)
statement_step (statement.Go line d) = suc (jump_tokens d)
statement_step (statement.Call line t args) = suc (arguments (each_argument args))
statement_step (statement.Answer line e) = suc (expression_tokens e)
-- IF and THEN; what stands behind ELSE may be nothing
statement_step (statement.If line c a b) = 2 + (condition_tokens c + (a + b))
-- FOR and DO; each element with the sign before it
statement_step (statement.For line i r es s) = 2 + (reference_tokens r + (separated (each_element es) + s))
-- each statement with the semicolon or END behind it
statement_step (statement.Seq ss) = separated ss
-- a name and a colon each
statement_step (statement.Mark ls s) = 2 * length ls + s

abbrev pub statement_tokens : Stmt → ℕ
statement_tokens = fold-Stmt ℕ statement_step

-- ---- units

-- PROCEDURE, its name, a semicolon before the body and one behind it; two for each parameter
abbrev pub procedure_tokens : Proc → ℕ
procedure_tokens q = 4 + (2 * length q.params + statement_tokens q.body)

-- SWITCH, its name and the sign; each label with the sign behind it
abbrev pub switch_tokens : Switch → ℕ
switch_tokens s = 3 + 2 * length s.list

abbrev pub procedures_tokens : List Proc → ℕ
procedures_tokens [] = 0
procedures_tokens (q ∷ qs) = procedure_tokens q + procedures_tokens qs

abbrev pub switches_tokens : List Switch → ℕ
switches_tokens [] = 0
switches_tokens (s ∷ ss) = switch_tokens s + switches_tokens ss

-- SEGMENT, its name, BEGIN and FINISH
abbrev pub least_tokens : SourceUnit → ℕ
least_tokens u = 4 + (procedures_tokens u.procs + (switches_tokens u.switches + statement_tokens u.body))
