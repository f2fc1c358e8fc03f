use Rattle.std.proofs.Common.{arith, ◌≡◌, ◌∙◌, sym, refl}
use Rattle.std.proofs.lemmas.Bool.Decides.{nat_tests}
use Rattle.cw_grammar.proofs.Quotes.{plain_step}
use Rattle.cw_grammar.proofs.leaf.unquoted.Goals as goal

pub loop-at-preserved-then-byte-ne34 : goal.loop-at-preserved-then-byte-ne34
loop-at-preserved-then-byte-ne34 c =
    rw c.in_ok-push.ensures.ok (plain_step c.loop-at.found c.args.text.now _ c.loop-at.at (grind (arith, nat_tests, c.loop-at-test.true)) (grind (arith, nat_tests, c.if-byte-ne34.true)) c.loop-at.invariant)
