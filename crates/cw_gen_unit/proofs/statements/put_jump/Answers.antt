use Rattle.std.proofs.Common.{[], ◌∷◌, sym, ap, ◌∙◌}
use Rattle.cw_gen_expr.specs.Pieces.{plain, followed_by}
use Rattle.cw_gen_expr.specs.ReferenceExpressions.{scope_with, at_line, expression_piece}
use Rattle.cw_gen_unit.specs.ReferenceStatements.{jump_order, jump_piece}
use Rattle.cw_gen_expr.proofs.Adding.{also}
use Rattle.cw_gen_unit.proofs.statements.put_jump.Goals as goal

pub returns-in-Goal : goal.returns-in-Goal
returns-in-Goal c who is =
    let s = at_line c.args.line (scope_with c.args.unit.now c.args.layout.now c.args.parameters.now) in
    let d = c.in-Goal in
    let same = is ∙ ap (jump_order s who) d.is in
    also (jump_piece s who) (sym d.is) (also (λ o. plain (o ∷ [])) same c.put.ensures)

pub returns-in-Special : goal.returns-in-Special
returns-in-Special c who is =
    let s = at_line c.args.line (scope_with c.args.unit.now c.args.layout.now c.args.parameters.now) in
    let d = c.in-Special in
    let same = is ∙ ap (jump_order s who) d.is in
    also (jump_piece s who) (sym d.is) (also (λ o. plain (o ∷ [])) same c.put-in-Special.ensures)

pub returns-in-Switch : goal.returns-in-Switch
returns-in-Switch c who is =
    let s = at_line c.args.line (scope_with c.args.unit.now c.args.layout.now c.args.parameters.now) in
    let d = c.in-Switch in
    let same = is ∙ ap (jump_order s who) d.is in
    also (jump_piece s who) (sym d.is) (also (λ o. followed_by (expression_piece s d.e 0) (plain (o ∷ []))) same c.put_chosen.ensures)

pub returns-in-CommonSwitch : goal.returns-in-CommonSwitch
returns-in-CommonSwitch c who is =
    let s = at_line c.args.line (scope_with c.args.unit.now c.args.layout.now c.args.parameters.now) in
    let d = c.in-CommonSwitch in
    let same = is ∙ ap (jump_order s who) d.is in
    also (jump_piece s who) (sym d.is) (also (λ o. followed_by (expression_piece s d.e 0) (plain (o ∷ []))) same c.put_chosen-in-CommonSwitch.ensures)

pub returns-in-SpecialSwitch : goal.returns-in-SpecialSwitch
returns-in-SpecialSwitch c who is =
    let s = at_line c.args.line (scope_with c.args.unit.now c.args.layout.now c.args.parameters.now) in
    let d = c.in-SpecialSwitch in
    let same = is ∙ ap (jump_order s who) d.is in
    also (jump_piece s who) (sym d.is) (also (λ o. followed_by (expression_piece s d.e 0) (plain (o ∷ []))) same c.put_chosen-in-SpecialSwitch.ensures)
