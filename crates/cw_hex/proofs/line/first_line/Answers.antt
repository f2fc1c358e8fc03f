use Rattle.std.proofs.Common.{sym}
use Rattle.cw_hex.proofs.Lines.{found_feed, found_return, other_found, found_none}
use Rattle.cw_hex.proofs.line.first_line.Goals as goal

pub returns-then-text-i-eq10-clause-lines : goal.returns-then-text-i-eq10-clause-lines
returns-then-text-i-eq10-clause-lines c = found_feed c.loop-i.i c.args.text.now c.loop-i-test.true c.if-text-i-eq10.true c.loop-i.invariant

pub returns-then-is_return-clause-lines : goal.returns-then-is_return-clause-lines
returns-then-is_return-clause-lines c = found_return c.loop-i.i c.args.text.now c.loop-i-test.true c.if-text-i-eq10.false (sym c.if-is_return.ensures) c.loop-i.invariant

pub loop-i-preserved : goal.loop-i-preserved
loop-i-preserved c = other_found c.loop-i.i c.args.text.now c.loop-i-test.true c.if-text-i-eq10.false (sym c.if-is_return.ensures) c.loop-i.invariant

pub returns-clause-lines : goal.returns-clause-lines
returns-clause-lines c = found_none c.loop-i.i c.args.text.now c.requires c.loop-i-test.false c.loop-i.invariant
