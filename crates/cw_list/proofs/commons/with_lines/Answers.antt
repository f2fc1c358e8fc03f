use Rattle.std.proofs.Common.{◌≡◌, ◌+◌, [], ◌∷◌, ◌++◌, drop, Bool, true, false, not, refl, sym, ap, ◌∙◌, rules}
use Rattle.std.proofs.lemmas.List.{get_or_default}
use Rattle.cw_list.specs.Listing.{commons_once}
use Rattle.cw_list.proofs.OneLine.{untold, repeated_next, fresh_next, untold_first}
use Rattle.cw_list.proofs.commons.with_lines.Goals as goal
use Rattle.cw_list.proofs.commons.with_lines.Goals.{then-branch+in_ok-push, else-branch}

off : (b : Bool) → not b ≡ true → b ≡ false
off true e = sym e
off false e = refl

on : (b : Bool) → not b ≡ false → b ≡ true
on true e = refl
on false e = sym e

pub loop-k-init : goal.loop-k-init
loop-k-init c =
    ap (λ kept. kept ++ untold c.new-told.result (commons_once c.args.rows.now)) c.new-kept.ensures ∙ untold_first c.new-told.result (commons_once c.args.rows.now) c.new-told.ensures.empty

pub loop-k-preserved : goal.loop-k-preserved
loop-k-preserved c =
    let rows = c.args.rows.now in
    let k = c.loop-k.k in
    let r = c.index-rows-k.result in
    let kept = c.loop-k.kept in
    let first = c.in_ok-has_line.ensures.first in
    let after = c.in_ok-has_line.ensures.after in
    elim c.if-branch.branch [
      | then-branch+in_ok-push w ↦
          (let again = w.index-rows-k-then-branch in
          let row : again.result ≡ r = again.is ∙ get_or_default rows k again.result r c.loop-k-test.true ∙ sym c.index-rows-k.is in
          let new : c.if-branch.kept ≡ kept ++ r ∷ [] = w.kept-is ∙ w.in_ok-push.ensures.ok ∙ ap (λ x. kept ++ x ∷ []) row in
          ap (λ xs. xs ++ untold c.has_line.new.told (commons_once (drop (k + 1) rows))) new
          ∙ fresh_next c.loop-k.told c.has_line.new.told rows kept k r c.loop-k-test.true c.index-rows-k.is (off _ (sym first ∙ w.if-branch.true)) after c.loop-k.invariant)
      | else-branch w ↦
          (let same : c.if-branch.kept ≡ kept = search rules in
          ap (λ xs. xs ++ untold c.has_line.new.told (commons_once (drop (k + 1) rows))) same
          ∙ repeated_next c.loop-k.told c.has_line.new.told rows kept k r c.loop-k-test.true c.index-rows-k.is (on _ (sym first ∙ w.if-branch.false)) after c.loop-k.invariant)
    ]
