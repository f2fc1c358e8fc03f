use Rattle.std.proofs.Common.{◌≡◌, ◌++◌, map, take, drop}
use Rattle.cw_unit.specs.declared.unit.Cond.{Cond}
use Rattle.cw_unit.specs.declared.unit.Expr.{Expr}
use Rattle.cw_unit.specs.declared.unit.LogicOp.TheVariants as logic_op
use Rattle.cw_make_expr.specs.Nodes.{Makes}
use Rattle.cw_make_expr.specs.Made.{any_from, all_from, terms_from, factors_from, logic_from, arguments_for, expression_made, conjunction_made, comparison_made, term_made, differ_made, union_made, mask_made, prim_made}
use Rattle.cw_make_expr.proofs.making.+made.Given as goal

abbrev pub invariant-make_condition-loop-operand : goal.invariant-make_condition-loop-operand
invariant-make_condition-loop-operand l =
    (first : Cond) → Makes l.initial.so_far first → Makes l.so_far (any_from first (map (conjunction_made l.text.named.now l.text.numbers.now) (take l.operand-index l.others)))

abbrev pub invariant-make_conjunction-loop-operand : goal.invariant-make_conjunction-loop-operand
invariant-make_conjunction-loop-operand l =
    (first : Cond) → Makes l.initial.so_far first → Makes l.so_far (all_from first (map (comparison_made l.text.named.now l.text.numbers.now) (take l.operand-index l.others)))

abbrev pub invariant-make_sum-loop-other : goal.invariant-make_sum-loop-other
invariant-make_sum-loop-other l =
    terms_from l.so_far (map (term_made l.text.named.now l.text.numbers.now) (drop l.other-index l.others)) l.signs
    ≡ terms_from l.initial.so_far (map (term_made l.text.named.now l.text.numbers.now) l.others) l.initial.signs

abbrev pub invariant-make_term-loop-other : goal.invariant-make_term-loop-other
invariant-make_term-loop-other l =
    factors_from l.so_far (map (differ_made l.text.named.now l.text.numbers.now) (drop l.other-index l.others)) l.signs
    ≡ factors_from l.initial.so_far (map (differ_made l.text.named.now l.text.numbers.now) l.others) l.initial.signs

abbrev pub invariant-make_differ-loop-other : goal.invariant-make_differ-loop-other
invariant-make_differ-loop-other l =
    (first : Expr) → Makes l.initial.so_far first → Makes l.so_far (logic_from logic_op.Differ first (map (union_made l.text.named.now l.text.numbers.now)
    (take l.other-index l.others)))

abbrev pub invariant-make_union-loop-other : goal.invariant-make_union-loop-other
invariant-make_union-loop-other l =
    (first : Expr) → Makes l.initial.so_far first → Makes l.so_far (logic_from logic_op.Union first (map (mask_made l.text.named.now l.text.numbers.now)
    (take l.other-index l.others)))

abbrev pub invariant-make_mask-loop-other : goal.invariant-make_mask-loop-other
invariant-make_mask-loop-other l =
    (first : Expr) → Makes l.initial.so_far first → Makes l.so_far (logic_from logic_op.Mask first (map (prim_made l.text.named.now l.text.numbers.now)
    (take l.other-index l.others)))

abbrev pub invariant-make_arguments-loop-argument : goal.invariant-make_arguments-loop-argument
invariant-make_arguments-loop-argument l =
    l.all ++ arguments_for (map (expression_made l.text.named.now l.text.numbers.now) (drop l.argument-index l.arguments)) l.rest
    ≡ arguments_for (map (expression_made l.text.named.now l.text.numbers.now) l.arguments) l.params
