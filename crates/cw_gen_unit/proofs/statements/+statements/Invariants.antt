use Rattle.std.proofs.Common.{◌≡◌, map, drop, true}
use Rattle.cw_gen_expr.specs.Pieces.{sequence}
use Rattle.cw_gen_expr.specs.ReferenceExpressions.{scope_with}
use Rattle.cw_gen_expr.proofs.Adding.{Coming}
use Rattle.cw_gen_unit.specs.Endings.{list_ends}
use Rattle.cw_gen_unit.specs.ReferenceStatements.{statement_piece}
use Rattle.cw_gen_unit.proofs.Layers.{with_ends}
use Rattle.cw_gen_unit.proofs.statements.+statements.Given as goal

abbrev pub invariant-put_row-loop-member : goal.invariant-put_row-loop-member
invariant-put_row-loop-member l =
    let piece = statement_piece (scope_with l.unit l.layout l.parameters) l.who l.answer in
    Coming (sequence (map piece l.statements)) (sequence (map piece (drop l.member-index l.statements))) l.initial.out l.out
    × (list_ends l.before (with_ends (drop l.member-index l.statements)) ≡ list_ends true (with_ends l.statements))
