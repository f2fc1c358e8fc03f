use Rattle.std.proofs.Common.{rules, sym, ap, ◌∙◌, arith}
use Rattle.cw_stop.proofs.Cuts.{cut_here, cut_nowhere, behind_is}
use Rattle.cw_stop.proofs.reading.cut.Goals as goal

pub returns-then-text-at-clause-front : goal.returns-then-text-at-clause-front
returns-then-text-at-clause-front c =
    c.split_at.ensures.front ∙ sym (ap (λ x. x.0) (cut_here c.args.mark c.args.text.now c.loop-at.at c.loop-at-test.true c.if-text-at.true c.loop-at.invariant))

pub returns-then-text-at-clause-behind : goal.returns-then-text-at-clause-behind
returns-then-text-at-clause-behind c =
    behind_is c.args.mark c.args.text.now c.split_at.result.1.now _ c.loop-at.at c.split_at.ensures.back (search rules)
    (cut_here c.args.mark c.args.text.now c.loop-at.at c.loop-at-test.true c.if-text-at.true c.loop-at.invariant)

pub returns-clause-front : goal.returns-clause-front
returns-clause-front c =
    sym (ap (λ x. x.0) (cut_nowhere c.args.mark c.args.text.now (λ j less. c.loop-at.invariant j (omega (arith, c.loop-at-test.false, less)))))

pub returns-clause-behind : goal.returns-clause-behind
returns-clause-behind c =
    sym (ap (λ x. x.1) (cut_nowhere c.args.mark c.args.text.now (λ j less. c.loop-at.invariant j (omega (arith, c.loop-at-test.false, less)))))
