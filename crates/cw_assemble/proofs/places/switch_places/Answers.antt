use Rattle.std.proofs.Common.{◌+◌, refl, ap, ◌∙◌}
use Rattle.cw_tmpl.specs.Names.{switch_bytes}
use Rattle.cw_tmpl.specs.Named.{is_named_switch}
use Rattle.cw_tmpl.specs.ReferenceCode.{switch_places}
use Rattle.cw_assemble.specs.Flags.{flag}
use Rattle.cw_assemble.proofs.Placing.{all_there, at_index, switch_more}
use Rattle.cw_assemble.proofs.places.switch_places.Goals as goal

pub loop-number-preserved : goal.loop-number-preserved
loop-number-preserved c =
    let list = c.as_slice-switches.result.now in
    let k = c.loop-number.number in
    let within = c.loop-number-test.true in
    let has = flag c.args.named.now k in
    let named_so = c.requires.each k (at_index k c.as_slice-switches.ensures within) in
    switch_more (is_named_switch c.args.orders.now) c.loop-number.list c.push.new.self c.loop-number.at c.in_ok-behind.behind c.place_of_one.result list k c.index-switches-number.result has (switch_places (is_named_switch c.args.orders.now) c.args.first 0 c.args.orders.now.switches)
    within c.index-switches-number.is named_so c.place_of_one.ensures (c.in_ok-behind.ensures ∙ ap (λ gs. c.loop-number.at + switch_bytes has gs) c.as_slice.ensures) c.in_ok-push.ensures.ok c.loop-number.invariant

pub returns : goal.returns
returns c =
    let named = is_named_switch c.args.orders.now in
    let list = c.as_slice-switches.result.now in
    all_there (switch_places named c.loop-number.at c.loop-number.number) list c.loop-number.number c.loop-number.list _ c.loop-number-test.false refl c.loop-number.invariant
