use Rattle.std.proofs.Common.{◌≡◌, sym, ap, ap₂, ◌∙◌}
use Rattle.std.proofs.lemmas.Result.{IfOk-weaker, IfOk-at_ok}
use Rattle.cw_unit.specs.declared.unit.Expr.TheVariants as unit
use Rattle.cw_make_expr.proofs.nodes.choice.Goals as goal

pub returns : goal.returns
returns c t x y ht hx hy =
    IfOk-weaker c.new.result _ _ (λ z h. h ∙ ap (λ u. unit.Choice u c.in-Ok-a.a c.in-Ok-b.b) (IfOk-at_ok (λ u. u ≡ t) c.in-Ok.is ht)
    ∙ ap₂ (unit.Choice t) (IfOk-at_ok (λ t. t ≡ x) c.in-Ok-a.is hx) (IfOk-at_ok (λ t. t ≡ y) c.in-Ok-b.is hy) ∙ sym (unit.rolls-Choice t x y)) c.new.ensures
