use Rattle.std.proofs.Common.{◌≡◌, map, drop}
use Rattle.cw_judge.specs.Operators.{between, each, sign_at, factor_sign_at, counted, expression_operators, conjunction_operators, comparison_operators, differ_operators, mask_operators, prim_operators, term_operators, union_operators}
use Rattle.cw_judge.proofs.operators.+operators.Given as goal

abbrev pub invariant-condition_operators-loop-operand : goal.invariant-condition_operators-loop-operand
invariant-condition_operators-loop-operand l =
    counted (between (map conjunction_operators (drop l.operand-index l.operand-items)) l.rest) l.tally
    ≡ counted (between (map conjunction_operators l.operand-items) l.initial.rest) l.initial.tally

abbrev pub invariant-conjunction_operators-loop-operand : goal.invariant-conjunction_operators-loop-operand
invariant-conjunction_operators-loop-operand l =
    counted (between (map comparison_operators (drop l.operand-index l.operand-items)) l.rest) l.tally
    ≡ counted (between (map comparison_operators l.operand-items) l.initial.rest) l.initial.tally

abbrev pub invariant-sum_operators-loop-operand : goal.invariant-sum_operators-loop-operand
invariant-sum_operators-loop-operand l =
    counted (between (map term_operators (drop l.operand-index l.operand-items)) (map sign_at l.rest)) l.tally
    ≡ counted (between (map term_operators l.operand-items) (map sign_at l.initial.rest)) l.initial.tally

abbrev pub invariant-term_operators-loop-operand : goal.invariant-term_operators-loop-operand
invariant-term_operators-loop-operand l =
    counted (between (map differ_operators (drop l.operand-index l.operand-items)) (map factor_sign_at l.rest)) l.tally
    ≡ counted (between (map differ_operators l.operand-items) (map factor_sign_at l.initial.rest)) l.initial.tally

abbrev pub invariant-differ_operators-loop-operand : goal.invariant-differ_operators-loop-operand
invariant-differ_operators-loop-operand l =
    counted (between (map union_operators (drop l.operand-index l.operand-items)) l.rest) l.tally
    ≡ counted (between (map union_operators l.operand-items) l.initial.rest) l.initial.tally

abbrev pub invariant-union_operators-loop-operand : goal.invariant-union_operators-loop-operand
invariant-union_operators-loop-operand l =
    counted (between (map mask_operators (drop l.operand-index l.operand-items)) l.rest) l.tally
    ≡ counted (between (map mask_operators l.operand-items) l.initial.rest) l.initial.tally

abbrev pub invariant-mask_operators-loop-operand : goal.invariant-mask_operators-loop-operand
invariant-mask_operators-loop-operand l =
    counted (between (map prim_operators (drop l.operand-index l.operand-items)) l.rest) l.tally
    ≡ counted (between (map prim_operators l.operand-items) l.initial.rest) l.initial.tally

abbrev pub invariant-argument_operators-loop-argument : goal.invariant-argument_operators-loop-argument
invariant-argument_operators-loop-argument l =
    counted (each (map expression_operators (drop l.argument-index l.arguments))) l.tally ≡ counted (each (map expression_operators l.arguments)) l.initial.tally
