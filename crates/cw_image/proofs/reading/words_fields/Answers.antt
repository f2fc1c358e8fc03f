use Rattle.cw_image.specs.ImageFormat.{word_item}
use Rattle.cw_image.proofs.Repeating.{goes_on}
use Rattle.cw_image.proofs.reading.words_fields.Goals as goal

pub loop-i-preserved : goal.loop-i-preserved
loop-i-preserved c =
    rw c.in_ok-push.ensures.ok (goes_on (word_item c.args.len) c.loop-i.words c.args.count c.loop-i.i c.loop-i.rest.now c.in_ok-word.word c.in_ok-word.after.now _ c.loop-i-test.true c.in_ok-word.ensures c.loop-i.invariant)
