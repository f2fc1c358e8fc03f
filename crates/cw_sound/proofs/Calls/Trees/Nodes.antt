-- The calls in the nodes of a unit's trees, by those in their parts.
use Rattle.std.proofs.Common.{◌≡◌, ℕ, [], ◌∷◌, ◌++◌, Bool, true, false, Option, Some, None, sym, ap, subst, ◌∙◌}
use Rattle.std.specs.List.{AllByRecursion}
use Rattle.cw_tree.specs.declared.leaf.AddOp.{AddOp}
use Rattle.cw_tree.specs.declared.leaf.AddOp.TheVariants as add
use Rattle.cw_tree.specs.declared.leaf.MulOp.{MulOp}
use Rattle.cw_tree.specs.declared.leaf.MulOp.TheVariants as mul
use Rattle.cw_tree.specs.declared.items.RawRange.{RawRange}
use Rattle.cw_facts.specs.declared.fact.Kind.{Kind}
use Rattle.cw_facts.specs.declared.fact.Kind.TheVariants as kind
use Rattle.cw_scope.specs.declared.resolve.Named.{Named}
use Rattle.cw_make_expr.specs.Nodes as nodes
use Rattle.cw_make_expr.specs.Nodes.{whole_part_in, whole_part, whole_part_if, place_in, place_argument, reference}
use Rattle.cw_make_expr.specs.Parts.{Numbers, kind_here, item_here, named_spot, element_spot, element_word, double_spot, twice_indexed_spot, indexed_spot}
use Rattle.cw_unit.specs.declared.unit.LogicOp.{LogicOp}
use Rattle.cw_unit.specs.declared.unit.Field.{Field}
use Rattle.cw_unit.specs.declared.unit.Arg.{Arg, roll-Arg, map-Arg}
use Rattle.cw_unit.specs.declared.unit.Cond.{Cond, roll-Cond, map-Cond}
use Rattle.cw_unit.specs.declared.unit.Expr.{Expr, Expr-F, roll-Expr, out-Expr, map-Expr}
use Rattle.cw_unit.specs.declared.unit.Spot.{Spot, roll-Spot, map-Spot}
use Rattle.cw_unit.specs.declared.unit.Ref.{Ref, roll-Ref}
use Rattle.cw_unit.specs.declared.unit.Arg.TheOpen as layer
use Rattle.cw_unit.specs.declared.unit.Arg.TheOpen.{Arg-F, Cond-F, Spot-F, Ref-F}
use Rattle.cw_unit.specs.declared.unit.Arg.TheFolds.{fold-roll-Arg, fold-roll-Cond, fold-roll-Expr, fold-roll-Spot, fold-roll-Ref, fold_out-Expr}
use Rattle.cw_deepest.specs.Programs.Calls as calls
use Rattle.cw_deepest.specs.Programs.Calls.{Argument, Call, Calls, of_word, of_call, of_argument, in_condition, in_expression, in_spot, in_reference}

abbrev pub expression_layer : Expr-F Arg Cond Expr Spot Ref → Calls
expression_layer x = calls.expression_step (map-Expr Arg Cond Expr Spot Ref Argument Calls Calls Calls Calls of_argument in_condition in_expression in_spot in_reference x)

abbrev pub argument_layer : Arg-F Arg Cond Expr Spot Ref → Argument
argument_layer x = calls.argument_step (map-Arg Arg Cond Expr Spot Ref Argument Calls Calls Calls Calls of_argument in_condition in_expression in_spot in_reference x)

abbrev condition_layer : Cond-F Arg Cond Expr Spot Ref → Calls
condition_layer x = calls.condition_step (map-Cond Arg Cond Expr Spot Ref Argument Calls Calls Calls Calls of_argument in_condition in_expression in_spot in_reference x)

abbrev spot_layer : Spot-F Arg Cond Expr Spot Ref → Calls
spot_layer x = calls.spot_step (map-Spot Arg Cond Expr Spot Ref Argument Calls Calls Calls Calls of_argument in_condition in_expression in_spot in_reference x)

pub expression_rolled : (x : Expr-F Arg Cond Expr Spot Ref) → in_expression (roll-Expr x) ≡ expression_layer x
expression_rolled = fold-roll-Expr Argument Calls Calls Calls Calls calls.argument_step calls.condition_step calls.expression_step calls.spot_step calls.ref_step

pub argument_rolled : (x : Arg-F Arg Cond Expr Spot Ref) → of_argument (roll-Arg x) ≡ argument_layer x
argument_rolled = fold-roll-Arg Argument Calls Calls Calls Calls calls.argument_step calls.condition_step calls.expression_step calls.spot_step calls.ref_step

condition_rolled : (x : Cond-F Arg Cond Expr Spot Ref) → in_condition (roll-Cond x) ≡ condition_layer x
condition_rolled = fold-roll-Cond Argument Calls Calls Calls Calls calls.argument_step calls.condition_step calls.expression_step calls.spot_step calls.ref_step

spot_rolled : (x : Spot-F Arg Cond Expr Spot Ref) → in_spot (roll-Spot x) ≡ spot_layer x
spot_rolled = fold-roll-Spot Argument Calls Calls Calls Calls calls.argument_step calls.condition_step calls.expression_step calls.spot_step calls.ref_step

reference_rolled : (x : Ref-F Arg Cond Expr Spot Ref) → in_reference (roll-Ref x) ≡ in_spot x.at
reference_rolled = fold-roll-Ref Argument Calls Calls Calls Calls calls.argument_step calls.condition_step calls.expression_step calls.spot_step calls.ref_step

expression_out : (e : Expr) → in_expression e ≡ expression_layer (out-Expr e)
expression_out = fold_out-Expr Argument Calls Calls Calls Calls calls.argument_step calls.condition_step calls.expression_step calls.spot_step calls.ref_step

-- ---- a value, or the address of what is read

pub value_argument_calls : (e : Expr) (f : ℕ) → of_argument (nodes.value_argument e f) ≡ of_word (in_expression e)
value_argument_calls e f = argument_rolled (layer.Value e f)

place_calls : (e : Expr) (f : ℕ) (x : Expr-F Arg Cond Expr Spot Ref) → in_expression e ≡ expression_layer x → of_argument (place_in e f x) ≡ of_word (in_expression e)
place_calls e f (layer.Read r) is = argument_rolled (layer.Place r) ∙ ap of_word (sym is)
place_calls e f _ is = value_argument_calls e f

pub place_argument_calls : (e : Expr) (f : ℕ) → of_argument (place_argument e f) ≡ of_word (in_expression e)
place_argument_calls e f = place_calls e f (out-Expr e) (expression_out e)

-- ---- calls that fit

module _ (Fit : Call → Type 0) where
  abbrev All : Calls → Type 0
  All = AllByRecursion Fit

  pub joined : (xs ys : Calls) → All xs → All ys → All (xs ++ ys)
  joined [] ys h k = k
  joined (x ∷ xs) ys h k = (h.0, joined xs ys h.1 k)

  pub expression_of : (x : Expr-F Arg Cond Expr Spot Ref) → All (expression_layer x) → All (in_expression (roll-Expr x))
  expression_of x h = subst All (sym (expression_rolled x)) h

  condition_of : (x : Cond-F Arg Cond Expr Spot Ref) → All (condition_layer x) → All (in_condition (roll-Cond x))
  condition_of x h = subst All (sym (condition_rolled x)) h

  spot_of : (x : Spot-F Arg Cond Expr Spot Ref) → All (spot_layer x) → All (in_spot (roll-Spot x))
  spot_of x h = subst All (sym (spot_rolled x)) h

  pub nothing_fits : All (in_expression nodes.nothing)
  nothing_fits = expression_of (layer.Num (record { whole = 0; digits = 0; places = 0 })) tt

  pub logic_fits : (op : LogicOp) (a b : Expr) → All (in_expression a) → All (in_expression b) → All (in_expression (nodes.logic op a b))
  logic_fits op a b h k = expression_of (layer.Logic op a b) (joined (in_expression a) (in_expression b) h k)

  pub added_fits : (op : AddOp) (a b : Expr) → All (in_expression a) → All (in_expression b) → All (in_expression (nodes.added op a b))
  added_fits add.Plus a b h k = expression_of (layer.Sum a b) (joined (in_expression a) (in_expression b) h k)
  added_fits add.Minus a b h k = expression_of (layer.Less a b) (joined (in_expression a) (in_expression b) h k)

  pub multiplied_fits : (op : MulOp) (a b : Expr) → All (in_expression a) → All (in_expression b) → All (in_expression (nodes.multiplied op a b))
  multiplied_fits mul.Times a b h k = expression_of (layer.Times a b) (joined (in_expression a) (in_expression b) h k)
  multiplied_fits mul.Divide a b h k = expression_of (layer.Over a b) (joined (in_expression a) (in_expression b) h k)

  pub choice_fits : (c : Cond) (a b : Expr) → All (in_condition c) → All (in_expression a) → All (in_expression b) → All (in_expression (nodes.choice c a b))
  choice_fits c a b h k l = expression_of (layer.Choice c a b) (joined (in_condition c) (in_expression a ++ in_expression b) h (joined (in_expression a) (in_expression b) k l))

  part_fits : (e : Expr) (x : Expr-F Arg Cond Expr Spot Ref) → All (in_expression e) → All (in_expression (whole_part_in e x))
  part_fits e (layer.Num n) h = expression_of (layer.Num (record { whole = n.whole; digits = 0; places = 0 })) tt
  part_fits e _ h = h

  pub whole_part_fits : (operand : Bool) (e : Expr) → All (in_expression e) → All (in_expression (whole_part_if operand e))
  whole_part_fits true e h = part_fits e (out-Expr e) h
  whole_part_fits false e h = h

  -- ---- conditions

  pub comparison_fits : (op : _) (a b : Expr) → All (in_expression a) → All (in_expression b) → All (in_condition (nodes.comparison op a b))
  comparison_fits op a b h k = condition_of (layer.Cmp op a b) (joined (in_expression a) (in_expression b) h k)

  pub both_fit : (c d : Cond) → All (in_condition c) → All (in_condition d) → All (in_condition (nodes.both c d))
  both_fit c d h k = condition_of (layer.And c d) (joined (in_condition c) (in_condition d) h k)

  pub either_fits : (c d : Cond) → All (in_condition c) → All (in_condition d) → All (in_condition (nodes.either c d))
  either_fits c d h k = condition_of (layer.Or c d) (joined (in_condition c) (in_condition d) h k)

  -- ---- references

  pub reference_fits : (s : Spot) (f : ℕ) (field : Option Field) → All (in_spot s) → All (in_reference (reference s f field))
  reference_fits s f field h = subst All (sym (reference_rolled (record { «at» = s; f = f; field = field }))) h

  pub read_fits : (r : Ref) → All (in_reference r) → All (in_expression (nodes.read r))
  read_fits r h = expression_of (layer.Read r) h

  pub bare_fits : (e : Expr) → All (in_expression e) → All (in_spot (roll-Spot (layer.Bare e)))
  bare_fits e h = spot_of (layer.Bare e) h

  pub named_fits : (o : Option Kind) (i : ℕ) → All (in_spot (named_spot o i))
  named_fits (Some (kind.Location t)) i = spot_of (layer.Through i) tt
  named_fits _ i = spot_of (layer.Direct i) tt

  element_fits : (o : Option Kind) (i p : ℕ) (e : Expr) → All (in_expression e) → All (in_spot (element_spot o i p e))
  element_fits (Some (kind.Table s)) i p e h = spot_of (layer.Elem i false _ _ p e) h
  element_fits (Some (kind.TableParam s)) i p e h = spot_of (layer.Elem i true _ _ p e) h
  element_fits _ i p e h = bare_fits e h

  pub indexed_fits : (named : Named) (numbers : Numbers) (o : Option Kind) (i : ℕ) (e : Expr) → All (in_expression e) → All (in_spot (indexed_spot named numbers o i e))
  indexed_fits named numbers (Some (kind.Array t bounds)) i e h = spot_of (layer.One i _ _ e) h
  indexed_fits named numbers (Some (kind.ArrayParam t)) i e h = spot_of (layer.ParamArray i e) h
  indexed_fits named numbers (Some (kind.Table s)) i e h = spot_of (layer.Word i false _ e) h
  indexed_fits named numbers (Some (kind.TableParam s)) i e h = spot_of (layer.Word i true _ e) h
  indexed_fits named numbers (Some (kind.Element table x)) i e h = element_fits (kind_here named table.at.token) (item_here numbers table.at.token) (element_word x) e h
  indexed_fits named numbers _ i e h = bare_fits e h

  double_fits : (r : RawRange) (s : Option RawRange) (i : ℕ) (e g : Expr) → All (in_expression e) → All (in_expression g) → All (in_spot (double_spot r s i e g))
  double_fits r (Some s) i e g h k = spot_of (layer.Two i _ _ _ _ _ e g) (joined (in_expression e) (in_expression g) h k)
  double_fits r None i e g h k = bare_fits e h

  pub twice_indexed_fits : (o : Option Kind) (i : ℕ) (e g : Expr) → All (in_expression e) → All (in_expression g) → All (in_spot (twice_indexed_spot o i e g))
  twice_indexed_fits (Some (kind.Array t bounds)) i e g h k = double_fits bounds.first bounds.second i e g h k
  twice_indexed_fits _ i e g h k = bare_fits e h
