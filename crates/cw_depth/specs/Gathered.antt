-- What is gathered from a statement or an expression, in order of the text, by what is taken of an argument and of a call with its arguments.
use Rattle.std.specs.Prelude.{List, [], ◌∷◌, ◌++◌, map, Option, Some, None}
use Rattle.cw_unit.specs.declared.unit.Unit.{Unit as SourceUnit}
use Rattle.cw_unit.specs.declared.unit.Proc.{Proc}
use Rattle.cw_unit.specs.declared.unit.Stmt.{Stmt, Stmt-F, fold-Stmt}
use Rattle.cw_unit.specs.declared.unit.Stmt.TheOpen as statement
use Rattle.cw_unit.specs.declared.unit.Dest.{Dest}
use Rattle.cw_unit.specs.declared.unit.Dest.TheVariants as dest
use Rattle.cw_unit.specs.declared.unit.Felem.{Felem}
use Rattle.cw_unit.specs.declared.unit.Felem.TheVariants as element
use Rattle.cw_unit.specs.declared.unit.Target.{Target}
use Rattle.cw_unit.specs.declared.unit.Expr.{Expr, Expr-F, fold-Expr, map-Expr}
use Rattle.cw_unit.specs.declared.unit.Arg.{Arg, fold-Arg, map-Arg}
use Rattle.cw_unit.specs.declared.unit.Cond.{Cond, fold-Cond, map-Cond}
use Rattle.cw_unit.specs.declared.unit.Spot.{Spot, fold-Spot, map-Spot}
use Rattle.cw_unit.specs.declared.unit.Ref.{Ref, fold-Ref}
use Rattle.cw_unit.specs.declared.unit.Arg.TheOpen as layer
use Rattle.cw_unit.specs.declared.unit.Arg.TheOpen.{Arg-F, Cond-F, Spot-F, Ref-F}

abbrev pub joined : {Item : Type 0} → List (List Item) → List Item
joined [] = []
joined (items ∷ rest) = items ++ joined rest

abbrev pub condition_step : {Argument Item : Type 0} → Cond-F Argument (List Item) (List Item) (List Item) (List Item) → List Item
condition_step (layer.Cmp op a b) = a ++ b
condition_step (layer.And c d) = c ++ d
condition_step (layer.Or c d) = c ++ d

abbrev pub spot_step : {Argument Item : Type 0} → Spot-F Argument (List Item) (List Item) (List Item) (List Item) → List Item
spot_step (layer.Direct i) = []
spot_step (layer.Through i) = []
spot_step (layer.One i l u e) = e
spot_step (layer.Two i l1 u1 l2 u2 n e g) = e ++ g
spot_step (layer.ParamArray i e) = e
spot_step (layer.Word i p n e) = e
spot_step (layer.Elem i p w n q e) = e
spot_step (layer.Bare e) = e

abbrev pub ref_step : {Argument Item : Type 0} → Ref-F Argument (List Item) (List Item) (List Item) (List Item) → List Item
ref_step r = r.at

module _ {Argument Item : Type 0} (argument_step : Arg-F Argument (List Item) (List Item) (List Item) (List Item) → Argument) (of_call : Target → List Argument → List Item) where
  abbrev pub expression_step : Expr-F Argument (List Item) (List Item) (List Item) (List Item) → List Item
  expression_step (layer.Num n) = []
  expression_step (layer.Const z) = []
  expression_step (layer.Text i) = []
  expression_step (layer.Read r) = r
  expression_step (layer.Call t args) = of_call t args
  expression_step (layer.Force f e) = e
  expression_step (layer.Locate r) = r
  expression_step (layer.Bits t b e) = e
  expression_step (layer.Logic op a b) = a ++ b
  expression_step (layer.Sum a b) = a ++ b
  expression_step (layer.Less a b) = a ++ b
  expression_step (layer.Minus a) = a
  expression_step (layer.Times a b) = a ++ b
  expression_step (layer.Over a b) = a ++ b
  expression_step (layer.Choice c a b) = c ++ (a ++ b)

  abbrev pub in_expression : Expr → List Item
  in_expression = fold-Expr Argument (List Item) (List Item) (List Item) (List Item) argument_step condition_step expression_step spot_step ref_step

  abbrev pub of_argument : Arg → Argument
  of_argument = fold-Arg Argument (List Item) (List Item) (List Item) (List Item) argument_step condition_step expression_step spot_step ref_step

  abbrev pub in_condition : Cond → List Item
  in_condition = fold-Cond Argument (List Item) (List Item) (List Item) (List Item) argument_step condition_step expression_step spot_step ref_step

  abbrev pub in_spot : Spot → List Item
  in_spot = fold-Spot Argument (List Item) (List Item) (List Item) (List Item) argument_step condition_step expression_step spot_step ref_step

  abbrev pub in_reference : Ref → List Item
  in_reference = fold-Ref Argument (List Item) (List Item) (List Item) (List Item) argument_step condition_step expression_step spot_step ref_step

  abbrev pub in_element : Felem → List Item
  in_element (element.One e) = in_expression e
  in_element (element.While e c) = in_expression e ++ in_condition c
  in_element (element.Step a b d) = in_expression a ++ (in_expression b ++ in_expression d)

  abbrev pub in_jump : Dest → List Item
  in_jump (dest.Goal g) = []
  in_jump (dest.Special k) = []
  in_jump (dest.Switch n e) = in_expression e
  in_jump (dest.CommonSwitch d e) = in_expression e
  in_jump (dest.SpecialSwitch k e) = in_expression e

  abbrev pub statement_step : Stmt-F (List Item) → List Item
  statement_step (statement.Put line r e) = in_reference r ++ in_expression e
  statement_step (statement.PutBits line t b r e) = in_reference r ++ in_expression e
  statement_step (statement.Go line d) = in_jump d
  statement_step (statement.Call line t args) = of_call t (map of_argument args)
  statement_step (statement.Answer line e) = in_expression e
  statement_step (statement.If line c a b) = in_condition c ++ (a ++ b)
  statement_step (statement.For line i r es s) = in_reference r ++ (joined (map in_element es) ++ s)
  statement_step (statement.Seq ss) = joined ss
  statement_step (statement.Mark ls s) = s

  abbrev pub in_statement : Stmt → List Item
  in_statement = fold-Stmt (List Item) statement_step

  -- ---- bodies

  abbrev pub in_unit : Option SourceUnit → List Item
  in_unit None = []
  in_unit (Some u) = in_statement u.body

  abbrev pub in_procedure : Option Proc → List Item
  in_procedure None = []
  in_procedure (Some p) = in_statement p.body

  -- ---- the first layer of a tree

  abbrev pub expression_layer : Expr-F Arg Cond Expr Spot Ref → List Item
  expression_layer x = expression_step (map-Expr Arg Cond Expr Spot Ref Argument (List Item) (List Item) (List Item) (List Item) of_argument in_condition in_expression in_spot in_reference x)

  abbrev pub argument_layer : Arg-F Arg Cond Expr Spot Ref → Argument
  argument_layer x = argument_step (map-Arg Arg Cond Expr Spot Ref Argument (List Item) (List Item) (List Item) (List Item) of_argument in_condition in_expression in_spot in_reference x)

  abbrev pub condition_layer : Cond-F Arg Cond Expr Spot Ref → List Item
  condition_layer x = condition_step (map-Cond Arg Cond Expr Spot Ref Argument (List Item) (List Item) (List Item) (List Item) of_argument in_condition in_expression in_spot in_reference x)

  abbrev pub spot_layer : Spot-F Arg Cond Expr Spot Ref → List Item
  spot_layer x = spot_step (map-Spot Arg Cond Expr Spot Ref Argument (List Item) (List Item) (List Item) (List Item) of_argument in_condition in_expression in_spot in_reference x)
