use Rattle.std.proofs.Common.{Option, refl, sym, ◌∙◌, subst}
use Rattle.std.proofs.lemmas.Result.{IfOk-weaker}
use Rattle.cw_gen_expr.specs.Pieces.{Piece, plain, followed_by}
use Rattle.cw_gen_expr.specs.ReferenceExpressions.{scope_with, at_line, reference_of}
use Rattle.cw_unit.specs.declared.unit.Ref.{out-Ref}
use Rattle.cw_gen_unit.specs.ReferenceStatements.{keep_orders, only_step, elements_loop, begun_loop}
use Rattle.cw_gen_unit.specs.BegunLoops.{Begins}
use Rattle.cw_gen_unit.specs.declared.begun.Begun.{Begun}
use Rattle.cw_gen_unit.specs.declared.simple.SimpleStep.{SimpleStep}
use Rattle.cw_gen_unit.proofs.Chains.{behind, address}
use Rattle.cw_gen_unit.proofs.begun.begin_loop.Goals as goal

pub returns-in-Some : goal.returns-in-Some
returns-in-Some c =
    let s = at_line c.args.line (scope_with c.args.unit.now c.args.layout.now c.args.parameters.now) in
    let loop = λ (o : Option SimpleStep) (body : Piece). begun_loop s o c.args.looped c.args.reference.now c.args.elements.now body in
    subst (λ o. Begins s.layout s.line c.args.looped (loop o) c.begin_simple.result c.args.out.now c.begin_simple.new.out) (sym c.in-Some.is ∙ c.in_ok-x.ensures) (c.begin_simple.ensures s refl refl)

pub returns-in-None : goal.returns-in-None
returns-in-None c =
    let s = at_line c.args.line (scope_with c.args.unit.now c.args.layout.now c.args.parameters.now) in
    let i = c.args.looped in
    let r = c.args.reference.now in
    let es = c.args.elements.now in
    let loop = λ (o : Option SimpleStep) (body : Piece). begun_loop s o i r es body in
    let elements = elements_loop s (only_step es) i (out-Ref r).f es in
    IfOk-weaker c.begin_elements.result _ _
    (λ (b : Begun) h.
    subst (λ o. Begins s.layout s.line i (loop o) b c.args.out.now c.begin_elements.new.out) (sym c.in-None.is ∙ c.in_ok-x.ensures)
    (behind (λ body. followed_by (plain (keep_orders s.layout i 0)) (elements body)) (address s r c.put_address.ensures) (behind elements c.put_keep.ensures h)))
    c.begin_elements.ensures
