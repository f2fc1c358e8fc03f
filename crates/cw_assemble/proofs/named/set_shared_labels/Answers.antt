use Rattle.std.proofs.Common.{refl}
use Rattle.cw_tmpl.specs.Named.{label_of_shared, shared_has_label}
use Rattle.cw_assemble.proofs.Flags.{all_set, set_next}
use Rattle.cw_assemble.proofs.named.set_shared_labels.Goals as goal

pub loop-one-init : goal.loop-one-init
loop-one-init c = record { long = refl; each = λ k inside. refl }

pub loop-one-preserved : goal.loop-one-preserved
loop-one-preserved c =
    set_next shared_has_label label_of_shared c.args.shared.now c.loop-one.one-index _ c.loop-one.flags.items c.set.new.flags.items c.args.flags.now.items c.label_of_shared.result (shared_has_label c.args.shared.now)
    (λ x rest k. refl) c.loop-one-test.true c.label_of_shared.ensures c.set.ensures.long c.set.ensures.each c.loop-one.invariant

pub returns-clause-long : goal.returns-clause-long
returns-clause-long c = c.loop-one.invariant.long

pub returns-clause-each : goal.returns-clause-each
returns-clause-each c = all_set shared_has_label (shared_has_label c.args.shared.now) c.args.shared.now c.loop-one.one-index c.loop-one.flags.items c.args.flags.now.items c.loop-one-test.false (λ k. refl) c.loop-one.invariant
