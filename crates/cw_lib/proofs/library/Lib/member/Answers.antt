use Rattle.std.proofs.Common.{◌∙◌, sym, arith, ◌-◌}
use Rattle.cw_lib.proofs.Members.{none_past, none_there, next_there}
use Rattle.cw_lib.proofs.library.Lib.member.Goals as goal

pub returns-then-self-k : goal.returns-then-self-k
returns-then-self-k c = none_past c.args.self.now.count c.args.k c.args.self.now.rest.now c.if-self-k.true

pub loop-preserved : goal.loop-preserved
loop-preserved c = next_there c.args.self.now.count c.loop.counter c.args.k c.loop.rest.now (c.in-Some.field-0-0.now, c.in-Some.after.now) _ (omega arith) c.loop-test.true c.in-Some.ensures c.loop.invariant

pub returns-in-None : goal.returns-in-None
returns-in-None c = sym c.loop.invariant ∙ none_there c.args.self.now.count c.loop.counter (c.args.k - c.loop.counter) c.loop.rest.now (omega arith) c.in-None.ensures
