use Rattle.std.proofs.Common.{map, drop}
use Rattle.cw_gen_expr.specs.Pieces.{sequence}
use Rattle.cw_gen_expr.specs.ReferenceExpressions.{argument_piece, scope_with, at_line}
use Rattle.cw_gen_expr.proofs.Adding.{Coming}
use Rattle.cw_gen_expr.proofs.tree.+tree.Given as goal

abbrev pub invariant-put_arguments-loop-argument : goal.invariant-put_arguments-loop-argument
invariant-put_arguments-loop-argument l =
    let piece = argument_piece (at_line l.line (scope_with l.unit l.layout l.parameters)) in
    Coming (sequence (map piece l.arguments)) (sequence (map piece (drop l.argument-index l.arguments))) l.initial.out l.out
