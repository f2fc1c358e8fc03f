use Rattle.std.proofs.Common.{◌≡◌, ap₂, ◌∙◌}
use Rattle.std.proofs.lemmas.Result.{IfOk-weaker, IfOk-at_ok}
use Rattle.cw_make_expr.specs.Nodes.{comparison}
use Rattle.cw_make_expr.proofs.nodes.compared.Goals as goal

pub returns : goal.returns
returns c x y hx hy =
    IfOk-weaker c.new.result _ _ (λ z h. h ∙ c.comparison.ensures ∙ ap₂ (comparison c.args.op) (c.into_inner.ensures ∙ (IfOk-at_ok (λ t. t ≡ x) c.in-Ok.is hx))
    (c.into_inner-2.ensures ∙ (IfOk-at_ok (λ t. t ≡ y) c.in-Ok-b.is hy))) c.new.ensures
