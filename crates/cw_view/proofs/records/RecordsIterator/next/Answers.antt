use Rattle.std.proofs.Common.{rules, sym, ◌∙◌, ap, length}
use Rattle.cw_view.proofs.Splits.{left_wanted, left_other, shorter}
use Rattle.cw_view.proofs.records.RecordsIterator.next.Goals as goal

pub returns-then-kind-self-clause-steps : goal.returns-then-kind-self-clause-steps
returns-then-kind-self-clause-steps c =
    sym c.loop-kind.invariant ∙ left_wanted c.loop-kind.self.kind c.in-Some.kind c.loop-kind.self.rest.now c.in-Some.payload.now c.in-Some.rest.now c.in-Some.ensures c.if-kind-self.true

pub returns-then-kind-self-clause-goes : goal.returns-then-kind-self-clause-goes
returns-then-kind-self-clause-goes c =
    let shorter = ap length (sym c.loop-kind.invariant ∙ left_wanted c.loop-kind.self.kind c.in-Some.kind c.loop-kind.self.rest.now c.in-Some.payload.now c.in-Some.rest.now c.in-Some.ensures c.if-kind-self.true) in
    search rules

pub loop-kind-smaller : goal.loop-kind-smaller
loop-kind-smaller c = shorter c.loop-kind.self.rest.now _ c.in-Some.ensures

pub loop-kind-preserved : goal.loop-kind-preserved
loop-kind-preserved c = sym (left_other c.loop-kind.self.kind c.in-Some.kind c.loop-kind.self.rest.now c.in-Some.payload.now c.in-Some.rest.now c.in-Some.ensures c.if-kind-self.false) ∙ c.loop-kind.invariant
