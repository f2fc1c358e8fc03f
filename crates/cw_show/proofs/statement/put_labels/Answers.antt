use Rattle.cw_show.specs.StatementTokens.{label_tokens}
use Rattle.cw_show.proofs.Adding.{begun, one_more_joined, none_more_joined}
use Rattle.cw_show.proofs.statement.put_labels.Goals as goal

pub loop-label-init : goal.loop-label-init
loop-label-init c = begun _ _

pub loop-label-preserved : goal.loop-label-preserved
loop-label-preserved c = one_more_joined label_tokens c.args.labels.now c.loop-label.label-index c.label-item.result c.loop-label-test.true c.label-item.is
    c.loop-label.invariant c.put_label.ensures

pub returns : goal.returns
returns c = none_more_joined label_tokens c.args.labels.now c.loop-label.label-index c.loop-label-test.false c.loop-label.invariant
