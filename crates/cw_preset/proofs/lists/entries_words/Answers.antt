use Rattle.cw_preset.proofs.Entries.{one_entry_more}
use Rattle.cw_preset.proofs.lists.entries_words.Goals as goal

pub loop-left-preserved : goal.loop-left-preserved
loop-left-preserved c =
    one_entry_more c.loop-left.left c.args.width c.loop-left.first c.saturating_add-first.result c.args.elements.now c.loop-left.rest.now c.behind-rest.result.now
    c.loop-left.all c.in_ok-all.all _ c.loop-left-test.true c.in_ok-all.ensures c.behind-rest.ensures c.saturating_add-first.ensures c.loop-left.invariant
