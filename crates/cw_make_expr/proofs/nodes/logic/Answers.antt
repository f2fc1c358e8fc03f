use Rattle.std.proofs.Common.{◌≡◌, sym, ap₂, ◌∙◌}
use Rattle.std.proofs.lemmas.Result.{IfOk-weaker, IfOk-at_ok}
use Rattle.cw_unit.specs.declared.unit.Expr.TheVariants as unit
use Rattle.cw_make_expr.proofs.nodes.logic.Goals as goal

pub returns : goal.returns
returns c x y hx hy =
    IfOk-weaker c.new.result _ _ (λ z h. h ∙ ap₂ (unit.Logic c.args.op) (IfOk-at_ok (λ t. t ≡ x) c.in-Ok.is hx) (IfOk-at_ok (λ t. t ≡ y) c.in-Ok-b.is hy)
    ∙ sym (unit.rolls-Logic c.args.op x y)) c.new.ensures
