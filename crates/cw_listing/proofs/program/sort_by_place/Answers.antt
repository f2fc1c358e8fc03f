use Rattle.std.proofs.Common.{◌≡◌, rules}
use Rattle.std.proofs.lemmas.Fn.{always_returns_same}
use Rattle.cw_list.proofs.Ascending.{sorted_order}
use Rattle.cw_listing.proofs.program.sort_by_place.Goals as goal

pub returns-in-Ok : goal.returns-in-Ok
returns-in-Ok c =
    sorted_order (λ r. r.place) c.args.remarks.now.items _ (c.in-Ok.ensures.sorted (λ r. r.place) (always_returns_same _ (λ a r. r ≡ a.0.now.place) _ (λ a r f' k. search rules))) (c.in-Ok.ensures.stable (λ r. r.place) (always_returns_same _ (λ a r. r ≡ a.0.now.place) _ (λ a r f' k. search rules)))
