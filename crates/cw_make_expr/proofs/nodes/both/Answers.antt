use Rattle.std.proofs.Common.{◌≡◌, sym, ap₂, ◌∙◌}
use Rattle.std.proofs.lemmas.Result.{IfOk-weaker, IfOk-at_ok}
use Rattle.cw_unit.specs.declared.unit.Cond.TheVariants as cond
use Rattle.cw_make_expr.proofs.nodes.both.Goals as goal

pub returns : goal.returns
returns c x y hx hy =
    IfOk-weaker c.new.result _ _ (λ z h. h ∙ ap₂ cond.And (IfOk-at_ok (λ t. t ≡ x) c.in-Ok.is hx) (IfOk-at_ok (λ t. t ≡ y) c.in-Ok-d.is hy) ∙ sym (cond.rolls-And x y))
    c.new.ensures
