use Rattle.std.proofs.Common.{◌≡◌, ◌+◌, ◌-◌, arith}
use Rattle.cw_link.proofs.DataWords.{last_word, no_last_word}
use Rattle.cw_link.proofs.words.used_words.Goals as goal

pub returns-then-word_at-ne0-clause-used : goal.returns-then-word_at-ne0-clause-used
returns-then-word_at-ne0-clause-used c = λ ps h.
    let next : c.loop-n.n - 1 + 1 ≡ c.loop-n.n = omega (arith, c.loop-n-test.true) in
    last_word ps (c.loop-n.n - 1) c.word_at.result (c.word_at.ensures ps h) c.args.area c.loop-n.n next c.if-word_at-ne0.true (c.loop-n.invariant ps h)

pub loop-n-preserved : goal.loop-n-preserved
loop-n-preserved c = λ ps h.
    let next : c.loop-n.n - 1 + 1 ≡ c.loop-n.n = omega (arith, c.loop-n-test.true) in
    no_last_word ps (c.loop-n.n - 1) c.word_at.result (c.word_at.ensures ps h) c.args.area c.loop-n.n next c.if-word_at-ne0.false (c.loop-n.invariant ps h)
