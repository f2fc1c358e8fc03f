use Rattle.std.proofs.Common.{◌≡◌, rules}
use Rattle.std.proofs.lemmas.Fn.{always_returns_same}
use Rattle.cw_list.proofs.Ascending.{sorted_order}
use Rattle.cw_list.proofs.order.sort_by_address.Goals as goal

pub returns-in-Ok : goal.returns-in-Ok
returns-in-Ok c =
    sorted_order (λ r. r.address) c.args.rows.now.items _ (c.in-Ok.ensures.sorted (λ r. r.address) (always_returns_same _ (λ a r. r ≡ a.0.now.address) _ (λ a r f' k. search rules))) (c.in-Ok.ensures.stable (λ r. r.address) (always_returns_same _ (λ a r. r ≡ a.0.now.address) _ (λ a r f' k. search rules)))
