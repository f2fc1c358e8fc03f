use Rattle.std.proofs.Common.{◌≡◌, ◌+◌, ◌++◌, length, drop, false}
use Rattle.cw_gen_expr.specs.ReferenceExpressions.{scope_with, at_line}
use Rattle.cw_gen_expr.proofs.Adding.{Coming}
use Rattle.cw_gen_unit.specs.ReferenceStatements.{elements_piece, element_ways}
use Rattle.cw_gen_unit.proofs.elements.put_elements.Given as goal

abbrev pub invariant-loop-element : goal.invariant-loop-element
invariant-loop-element l =
    let s = at_line l.line (scope_with l.unit l.layout l.parameters) in
    record {
      counted : l.number ≡ l.element-index;
      ways : l.out.failed ≡ false
          → l.ways ++ element_ways s l.looped l.scale l.set l.body (l.element-index + 1) (drop l.element-index l.elements) (length l.out.orders) (length l.out.marks.items)
          ≡ element_ways s l.looped l.scale l.set l.body 1 l.elements (length l.initial.out.orders) (length l.initial.out.marks.items);
      orders : Coming (elements_piece s l.looped l.scale l.set l.body 1 l.elements) (elements_piece s l.looped l.scale l.set l.body (l.element-index + 1) (drop l.element-index l.elements)) l.initial.out l.out;
    }
