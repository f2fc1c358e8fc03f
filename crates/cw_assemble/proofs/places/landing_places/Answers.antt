use Rattle.std.proofs.Common.{◌+◌, ap, ◌∙◌}
use Rattle.cw_tmpl.specs.Named.{is_named_label}
use Rattle.cw_tmpl.specs.ReferenceCode.{landing_places, landing_sizes}
use Rattle.cw_assemble.proofs.Placing.{at_index, landing_more, landing_sum}
use Rattle.cw_assemble.proofs.places.landing_places.Goals as goal

pub loop-number-preserved : goal.loop-number-preserved
loop-number-preserved c =
    let named = is_named_label c.args.orders.now in
    let list = c.as_slice-labels.result.now in
    let k = c.loop-number.number in
    let within = c.loop-number-test.true in
    let flagged = c.requires.each k (at_index k c.as_slice-labels.ensures within) in
    record {
      places = landing_more named c.loop-number.list c.push.new.self c.loop-number.at c.in_ok-behind.behind c.place_of_one.result list k _ _ c.has_landing-has.result (landing_places named c.args.first 0 c.args.orders.now.labels)
          within c.has_landing-has.ensures flagged c.place_of_one.ensures (c.in_ok-behind.ensures ∙ ap (λ n. c.loop-number.at + n) c.landing_bytes.ensures) c.in_ok-push.ensures.ok c.loop-number.invariant.places;
      behind = landing_sum named c.loop-number.at c.in_ok-behind.behind list k _ _ c.has_landing-has.result (c.args.first + landing_sizes named 0 c.args.orders.now.labels)
          within c.has_landing-has.ensures flagged (c.in_ok-behind.ensures ∙ ap (λ n. c.loop-number.at + n) c.landing_bytes.ensures) c.loop-number.invariant.behind;
    }
