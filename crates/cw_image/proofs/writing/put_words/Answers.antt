use Rattle.cw_fields.specs.Fields.{word_bytes}
use Rattle.cw_fields.proofs.Appending.{put_each_at}
use Rattle.cw_image.proofs.writing.put_words.Goals as goal

pub loop-word-preserved : goal.loop-word-preserved
loop-word-preserved c = put_each_at word_bytes c.args.words.now c.loop-word.word-index _ c.loop-word.out.items c.put_word.new.out.items _ c.loop-word-test.true c.in_ok-put_word.ensures c.loop-word.invariant
