-- The words in hand of a node of a unit's trees, by those of its parts.
use Rattle.std.proofs.Common.{◌≡◌, ℕ, suc, ◌≤◌, Bool, true, false, Option, refl, sym, subst, ◌∙◌, arith}
use Rattle.cw_tree.specs.declared.leaf.AddOp.{AddOp}
use Rattle.cw_tree.specs.declared.leaf.AddOp.TheVariants as add
use Rattle.cw_tree.specs.declared.leaf.MulOp.{MulOp}
use Rattle.cw_tree.specs.declared.leaf.MulOp.TheVariants as mul
use Rattle.cw_unit.specs.declared.unit.Arg.{Arg, roll-Arg, map-Arg}
use Rattle.cw_unit.specs.declared.unit.Cond.{Cond, roll-Cond, map-Cond}
use Rattle.cw_unit.specs.declared.unit.Spot.{Spot, roll-Spot, map-Spot, fold-Spot}
use Rattle.cw_unit.specs.declared.unit.Ref.{Ref}
use Rattle.cw_unit.specs.declared.unit.Expr.{Expr, Expr-F, roll-Expr, out-Expr, map-Expr, fold_out-Expr}
use Rattle.cw_unit.specs.declared.unit.Field.{Field}
use Rattle.cw_unit.specs.declared.unit.Stmt.{Stmt, Stmt-F, roll-Stmt, map-Stmt}
use Rattle.cw_unit.specs.declared.unit.Stmt.TheFolds.{fold-roll-Stmt}
use Rattle.cw_unit.specs.declared.unit.Arg.TheOpen as layer
use Rattle.cw_unit.specs.declared.unit.Arg.TheOpen.{Arg-F, Cond-F, Spot-F}
use Rattle.cw_unit.specs.declared.unit.Arg.TheFolds.{fold-roll-Expr, fold-roll-Arg, fold-roll-Cond, fold-roll-Spot, fold-roll-Ref}
use Rattle.cw_unit.specs.StackBound.{ArgumentNeed, argument_step, condition_step, spot_step, ref_step, expression_step, operand_depth, argument_depth, condition_depth, address_depth, statement_step, body_depth, two_depth}
use Rattle.cw_make_expr.specs.Nodes.{nothing, added, multiplied, whole_part_in, whole_part_if, reference, value_argument, place_in, place_argument}

abbrev pub spot_depth : Spot → ℕ
spot_depth = fold-Spot ArgumentNeed ℕ ℕ ℕ ℕ argument_step condition_step expression_step spot_step ref_step

abbrev expression_layer : Expr-F Arg Cond Expr Spot Ref → ℕ
expression_layer x = expression_step (map-Expr Arg Cond Expr Spot Ref ArgumentNeed ℕ ℕ ℕ ℕ argument_depth condition_depth operand_depth spot_depth address_depth x)

pub expression_rolled : (x : Expr-F Arg Cond Expr Spot Ref) → operand_depth (roll-Expr x) ≡ expression_layer x
expression_rolled = fold-roll-Expr ArgumentNeed ℕ ℕ ℕ ℕ argument_step condition_step expression_step spot_step ref_step

expression_out : (x : Expr) → operand_depth x ≡ expression_layer (out-Expr x)
expression_out = fold_out-Expr ArgumentNeed ℕ ℕ ℕ ℕ argument_step condition_step expression_step spot_step ref_step

pub argument_rolled : (x : Arg-F Arg Cond Expr Spot Ref) → argument_depth (roll-Arg x) ≡ argument_step (map-Arg Arg Cond Expr Spot Ref ArgumentNeed ℕ ℕ ℕ ℕ argument_depth condition_depth operand_depth spot_depth address_depth x)
argument_rolled = fold-roll-Arg ArgumentNeed ℕ ℕ ℕ ℕ argument_step condition_step expression_step spot_step ref_step

pub condition_rolled : (x : Cond-F Arg Cond Expr Spot Ref) → condition_depth (roll-Cond x) ≡ condition_step (map-Cond Arg Cond Expr Spot Ref ArgumentNeed ℕ ℕ ℕ ℕ argument_depth condition_depth operand_depth spot_depth address_depth x)
condition_rolled = fold-roll-Cond ArgumentNeed ℕ ℕ ℕ ℕ argument_step condition_step expression_step spot_step ref_step

pub spot_rolled : (x : Spot-F Arg Cond Expr Spot Ref) → spot_depth (roll-Spot x) ≡ spot_step (map-Spot Arg Cond Expr Spot Ref ArgumentNeed ℕ ℕ ℕ ℕ argument_depth condition_depth operand_depth spot_depth address_depth x)
spot_rolled = fold-roll-Spot ArgumentNeed ℕ ℕ ℕ ℕ argument_step condition_step expression_step spot_step ref_step

pub reference_depth : (s : Spot) (f : ℕ) (field : Option Field) → address_depth (reference s f field) ≡ spot_depth s
reference_depth s f field = fold-roll-Ref ArgumentNeed ℕ ℕ ℕ ℕ argument_step condition_step expression_step spot_step ref_step (record { «at» = s; f = f; field = field })

pub statement_rolled : (x : Stmt-F Stmt) → body_depth (roll-Stmt x) ≡ statement_step (map-Stmt Stmt ℕ body_depth x)
statement_rolled = fold-roll-Stmt ℕ statement_step

-- ---- operators

pub two_within : (a b k : ℕ) → a ≤ suc k → b ≤ k → two_depth a b ≤ suc k
two_within a b k h l = omega (arith, h, l)

pub added_depth : (op : AddOp) (a b : Expr) → operand_depth (added op a b) ≡ two_depth (operand_depth a) (operand_depth b)
added_depth add.Plus a b = expression_rolled (layer.Sum a b)
added_depth add.Minus a b = expression_rolled (layer.Less a b)

pub multiplied_depth : (op : MulOp) (a b : Expr) → operand_depth (multiplied op a b) ≡ two_depth (operand_depth a) (operand_depth b)
multiplied_depth mul.Times a b = expression_rolled (layer.Times a b)
multiplied_depth mul.Divide a b = expression_rolled (layer.Over a b)

pub nothing_depth : operand_depth nothing ≡ 1
nothing_depth = expression_rolled (layer.Num (record { whole = 0; digits = 0; places = 0 }))

-- ---- a number's whole part has one word, as the number has

part_in : (e : Expr) (x : Expr-F Arg Cond Expr Spot Ref) (k : ℕ) → expression_layer x ≤ k → operand_depth e ≤ k → operand_depth (whole_part_in e x) ≤ k
part_in e (layer.Num n) k h l = subst (λ (d : ℕ). d ≤ k) (sym (expression_rolled (layer.Num (record { whole = n.whole; digits = 0; places = 0 })))) h
part_in e _ k h l = l

pub part_within : (operand : Bool) (e : Expr) (k : ℕ) → operand_depth e ≤ k → operand_depth (whole_part_if operand e) ≤ k
part_within true e k h = part_in e (out-Expr e) k (subst (λ (d : ℕ). d ≤ k) (expression_out e) h) h
part_within false e k h = h

-- ---- arguments

-- what an argument needs at once, and what stays of it
pub record Given (a : Arg) (k : ℕ) : Type 0 where
  pub most : (argument_depth a).most ≤ k
  pub kept : (argument_depth a).kept ≤ 2

pub given_of : (x : Arg-F Arg Cond Expr Spot Ref) (k : ℕ) (n : ArgumentNeed) → argument_step (map-Arg Arg Cond Expr Spot Ref ArgumentNeed ℕ ℕ ℕ ℕ argument_depth condition_depth operand_depth spot_depth address_depth x) ≡ n → n.most ≤ k → n.kept ≤ 2 → Given (roll-Arg x) k
given_of x k n e h l =
    let is = argument_rolled x ∙ e in
    record {
      most = subst (λ (d : ArgumentNeed). d.most ≤ k) (sym is) h;
      kept = subst (λ (d : ArgumentNeed). d.kept ≤ 2) (sym is) l;
    }

pub value_given : (e : Expr) (f k : ℕ) → operand_depth e ≤ k → Given (value_argument e f) k
value_given e f k h = given_of (layer.Value e f) k (record { most = operand_depth e; kept = 1 }) refl h (omega arith)

place_given_in : (e : Expr) (f k : ℕ) (x : Expr-F Arg Cond Expr Spot Ref) → expression_layer x ≤ k → operand_depth e ≤ k → Given (place_in e f x) k
place_given_in e f k (layer.Read r) h l = given_of (layer.Place r) k (record { most = address_depth r; kept = 1 }) refl h (omega arith)
place_given_in e f k _ h l = value_given e f k l

pub place_given : (e : Expr) (f k : ℕ) → operand_depth e ≤ k → Given (place_argument e f) k
place_given e f k h = place_given_in e f k (out-Expr e) (subst (λ (d : ℕ). d ≤ k) (expression_out e) h) h
