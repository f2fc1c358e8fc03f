use Rattle.std.proofs.Common.{◌≡◌, IfOk, subst}
use Rattle.cw_tmpl.specs.ReferenceCode.{orders_code}
use Rattle.cw_actions.proofs.code.coding.unit_code.Goals as goal

pub returns : goal.returns
returns c = subst (λ o. IfOk c.assemble.result (λ code. code ≡ orders_code o)) c.in_ok-orders.ensures c.assemble.ensures
