use Rattle.cw_link.proofs.DataWords.{one_word}
use Rattle.cw_link.proofs.words.data_words.Goals as goal

pub loop-n-preserved : goal.loop-n-preserved
loop-n-preserved c = λ ps h. rw c.in_ok-push.ensures.ok (one_word ps c.loop-n.n c.word_at.result (c.word_at.ensures ps h) c.loop-n.words (c.loop-n.invariant ps h))
