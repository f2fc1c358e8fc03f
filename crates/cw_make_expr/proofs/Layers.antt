-- The trees of a text's expressions by their first layer, and of each rule when its loop has ended.
use Rattle.std.proofs.Common.{◌≡◌, ℕ, ◌≤◌, ◌<◌, Bool, true, false, List, [], ◌∷◌, sym, ap, ◌∙◌, map, length, take, get_or, Option}
use Rattle.std.specs.Prelude.{◌==◌}
use Rattle.std.proofs.lemmas.List.{take_all}
use Rattle.cw_tree.specs.declared.leaf.RawSign.{RawSign}
use Rattle.cw_tree.specs.declared.leaf.RawFactorSign.{RawFactorSign}
use Rattle.cw_tree.specs.declared.expression.RawCand.{RawCand, out-RawCand}
use Rattle.cw_tree.specs.declared.expression.RawCmp.{RawCmp, out-RawCmp}
use Rattle.cw_tree.specs.declared.expression.RawCond.{RawCond, out-RawCond}
use Rattle.cw_tree.specs.declared.expression.RawDiffer.{RawDiffer, out-RawDiffer}
use Rattle.cw_tree.specs.declared.expression.RawMask.{RawMask, out-RawMask}
use Rattle.cw_tree.specs.declared.expression.RawPrim.{RawPrim, out-RawPrim}
use Rattle.cw_tree.specs.declared.expression.RawSum.{RawSum, out-RawSum}
use Rattle.cw_tree.specs.declared.expression.RawTerm.{RawTerm, out-RawTerm}
use Rattle.cw_tree.specs.declared.expression.RawUnion.{RawUnion, out-RawUnion}
use Rattle.cw_tree.proofs.Expressions.{ExpressionSteps, expression_steps, of_comparison-out, of_condition-out, of_conjunction-out, of_differ-out, of_mask-out, of_prim-out, of_sum-out, of_term-out, of_union-out}
use Rattle.cw_scope.specs.declared.resolve.Named.{Named}
use Rattle.cw_unit.specs.declared.unit.LogicOp.{LogicOp}
use Rattle.cw_unit.specs.declared.unit.LogicOp.TheVariants as logic_op
use Rattle.cw_unit.specs.declared.unit.Expr.{Expr}
use Rattle.cw_unit.specs.declared.unit.Cond.{Cond}
use Rattle.cw_make_expr.specs.Nodes.{nothing, no_condition, comparison, comparator, whole_part_if}
use Rattle.cw_make_expr.specs.Parts.{Numbers}
use Rattle.cw_make_expr.specs.Made.{Made, Placed, operand_for, logic_from, logic_of, factors_from, term_of, terms_from, signed_term, is_alone, sum_from, sum_of, prim_of, all_of, any_of, expression_step, primary_step, reference_step, conjunction_step, comparison_step, condition_step, differ_step, mask_step, prim_step, sum_step, term_step, union_step, primary_made, conjunction_made, comparison_made, condition_made, differ_made, mask_made, prim_made, sum_made, term_made, union_made}
use Rattle.cw_scale.proofs.Turns.{behind_first, first_and_rest, no_item, length_map}

-- what is made of the parts
abbrev pub steps : Named → Numbers → ExpressionSteps Made Made Placed Cond Cond Cond Made Made Made Made Made Made
steps named numbers = expression_steps (expression_step named numbers) (primary_step named numbers) (reference_step named numbers) (conjunction_step named numbers) (comparison_step named numbers) (condition_step named numbers) (differ_step named numbers) (mask_step named numbers) (prim_step named numbers) (sum_step named numbers) (term_step named numbers) (union_step named numbers)

module _ (named : Named) (numbers : Numbers) where
  pub condition-layer : (x : RawCond) → condition_made named numbers x ≡ any_of (map (conjunction_made named numbers) (out-RawCond x).operands)
  condition-layer = of_condition-out (steps named numbers)

  pub conjunction-layer : (x : RawCand) → conjunction_made named numbers x ≡ all_of (map (comparison_made named numbers) (out-RawCand x).operands)
  conjunction-layer = of_conjunction-out (steps named numbers)

  pub comparison-layer : (x : RawCmp) → comparison_made named numbers x ≡ comparison (comparator (out-RawCmp x).operator.op) ((sum_made named numbers (out-RawCmp x).left).made false) ((sum_made named numbers (out-RawCmp x).right).made false)
  comparison-layer = of_comparison-out (steps named numbers)

  pub sum-layer : (x : RawSum) → sum_made named numbers x ≡ sum_of (out-RawSum x).sign (map (term_made named numbers) (out-RawSum x).operands) (out-RawSum x).operators
  sum-layer = of_sum-out (steps named numbers)

  pub term-layer : (x : RawTerm) → term_made named numbers x ≡ term_of (map (differ_made named numbers) (out-RawTerm x).operands) (out-RawTerm x).operators
  term-layer = of_term-out (steps named numbers)

  pub differ-layer : (x : RawDiffer) → differ_made named numbers x ≡ logic_of logic_op.Differ (map (union_made named numbers) (out-RawDiffer x).operands)
  differ-layer = of_differ-out (steps named numbers)

  pub union-layer : (x : RawUnion) → union_made named numbers x ≡ logic_of logic_op.Union (map (mask_made named numbers) (out-RawUnion x).operands)
  union-layer = of_union-out (steps named numbers)

  pub mask-layer : (x : RawMask) → mask_made named numbers x ≡ logic_of logic_op.Mask (map (prim_made named numbers) (out-RawMask x).operands)
  mask-layer = of_mask-out (steps named numbers)

  pub prim-layer : (x : RawPrim) → prim_made named numbers x ≡ prim_of (out-RawPrim x).bits (primary_made named numbers (out-RawPrim x).primary)
  prim-layer = of_prim-out (steps named numbers)

-- ---- operands of one rule

pub logic_none : {A : Type 0} (op : LogicOp) (f : A → Made) (all : List A) (operand : Bool) → length all < 1 → nothing ≡ (logic_of op (map f all)).made operand
logic_none op f all operand h = ap (λ l. (logic_of op (map f l)).made operand) (sym (no_item all h))

pub logic_end : {A : Type 0} (op : LogicOp) (f : A → Made) (all : List A) (first : A) (operand inside : Bool) (i : ℕ) → 1 ≤ length all → first ≡ get_or all 0 first
    → length (behind_first all) ≤ i → inside ≡ operand_for (length (behind_first all) == 0) operand
    → logic_from op ((f first).made inside) (map f (take i (behind_first all))) ≡ (logic_of op (map f all)).made operand
logic_end op f all first operand inside i n e le ei =
    ap (λ l. logic_from op ((f first).made inside) (map f l)) (take_all i (behind_first all) le)
    ∙ ap (λ b. logic_from op ((f first).made b) (map f (behind_first all))) (ei ∙ ap (λ k. operand_for (k == 0) operand) (sym (length_map f (behind_first all))))
    ∙ ap (λ l. (logic_of op (map f l)).made operand) (sym (first_and_rest all first n e))

-- conditions with AND or with OR between any two
module _ (from : Cond → List Cond → Cond) (joined : List Cond → Cond) (begun : (c : Cond) (cs : List Cond) → joined (c ∷ cs) ≡ from c cs) (none : no_condition ≡ joined []) where
  pub conditions_none : {A : Type 0} (f : A → Cond) (all : List A) → length all < 1 → no_condition ≡ joined (map f all)
  conditions_none f all h = none ∙ ap (λ l. joined (map f l)) (sym (no_item all h))

  pub conditions_end : {A : Type 0} (f : A → Cond) (all : List A) (first : A) (i : ℕ) → 1 ≤ length all → first ≡ get_or all 0 first → length (behind_first all) ≤ i
      → from (f first) (map f (take i (behind_first all))) ≡ joined (map f all)
  conditions_end f all first i n e le =
      ap (λ l. from (f first) (map f l)) (take_all i (behind_first all) le) ∙ sym (begun (f first) (map f (behind_first all)))
      ∙ ap (λ l. joined (map f l)) (sym (first_and_rest all first n e))

pub term_none : {A : Type 0} (f : A → Made) (all : List A) (signs : List RawFactorSign) (operand : Bool) → length all < 1 → nothing ≡ (term_of (map f all) signs).made operand
term_none f all signs operand h = ap (λ l. (term_of (map f l) signs).made operand) (sym (no_item all h))

-- from the tree that the operands behind the first make of the first one's
pub term_whole : {A : Type 0} (f : A → Made) (all : List A) (signs : List RawFactorSign) (first : A) (operand inside : Bool) (s0 s : Expr) → 1 ≤ length all → first ≡ get_or all 0 first
    → inside ≡ operand_for (length (behind_first all) == 0) operand → s0 ≡ (f first).made inside → s ≡ factors_from s0 (map f (behind_first all)) signs → s ≡ (term_of (map f all) signs).made operand
term_whole f all signs first operand inside s0 s n e ei e0 h =
    h ∙ ap (λ z. factors_from z (map f (behind_first all)) signs) (e0 ∙ ap (λ b. (f first).made b) (ei ∙ ap (λ k. operand_for (k == 0) operand) (sym (length_map f (behind_first all)))))
    ∙ ap (λ l. (term_of (map f l) signs).made operand) (sym (first_and_rest all first n e))

pub sum_none : {A : Type 0} (f : A → Made) (sign : Option RawSign) (all : List A) (signs : List RawSign) (operand : Bool) → length all < 1 → nothing ≡ (sum_of sign (map f all) signs).made operand
sum_none f sign all signs operand h = ap (λ l. (sum_of sign (map f l) signs).made operand) (sym (no_item all h))

pub sum_alone : {A : Type 0} (f : A → Made) (sign : Option RawSign) (all : List A) (signs : List RawSign) (first : A) (operand alone : Bool) → 1 ≤ length all → first ≡ get_or all 0 first
    → alone ≡ is_alone sign (length (behind_first all)) → alone ≡ true → (f first).made operand ≡ (sum_of sign (map f all) signs).made operand
sum_alone f sign all signs first operand alone n e ea et =
    ap (λ a. sum_from a operand sign (f first) (map f (behind_first all)) signs) (sym et ∙ ea ∙ ap (is_alone sign) (sym (length_map f (behind_first all))))
    ∙ ap (λ l. (sum_of sign (map f l) signs).made operand) (sym (first_and_rest all first n e))

pub sum_whole : {A : Type 0} (f : A → Made) (sign : Option RawSign) (all : List A) (signs : List RawSign) (first : A) (operand alone : Bool) (head s0 s : Expr) → 1 ≤ length all
    → first ≡ get_or all 0 first → alone ≡ is_alone sign (length (behind_first all)) → alone ≡ false → head ≡ (f first).made false → s0 ≡ signed_term sign head
    → s ≡ terms_from s0 (map f (behind_first all)) signs → whole_part_if operand s ≡ (sum_of sign (map f all) signs).made operand
sum_whole f sign all signs first operand alone head s0 s n e ea et eh e0 h =
    ap (whole_part_if operand) (h ∙ ap (λ z. terms_from z (map f (behind_first all)) signs) (e0 ∙ ap (signed_term sign) eh))
    ∙ ap (λ a. sum_from a operand sign (f first) (map f (behind_first all)) signs) (sym et ∙ ea ∙ ap (is_alone sign) (sym (length_map f (behind_first all))))
    ∙ ap (λ l. (sum_of sign (map f l) signs).made operand) (sym (first_and_rest all first n e))
