use Rattle.std.proofs.Common.{sym}
use Rattle.cw_hex.proofs.Data.{faultless}
use Rattle.cw_hex.proofs.Told.{fault_here, ends_here, no_end_here}
use Rattle.cw_hex.proofs.Cleared.{cleared}
use Rattle.cw_hex.proofs.reading.load_hex.Goals as goal

pub returns-in-Some : goal.returns-in-Some
returns-in-Some c =
    fault_here c.in-Ok.cpu c.args.text.now c.loop-rest.rest.now c.first_line.result.0.now c.first_line.result.1.now c.loop-rest.number c.loop-rest.reading c.in-Some.fault
    c.first_line.ensures.lines (sym c.in-Some.ensures) c.loop-rest.invariant.so_far

pub take_record-requires-clause-form : goal.take_record-requires-clause-form
take_record-requires-clause-form c = (faultless c.loop-rest.reading.is_ended c.loop-rest.number c.first_line.result.0.now c.in-len1-up.len_at_least (sym c.in_default-line_fault.ensures)).0

pub take_record-requires-clause-fits : goal.take_record-requires-clause-fits
take_record-requires-clause-fits c = (faultless c.loop-rest.reading.is_ended c.loop-rest.number c.first_line.result.0.now c.in-len1-up.len_at_least (sym c.in_default-line_fault.ensures)).1

pub returns-then-reading : goal.returns-then-reading
returns-then-reading c =
    ends_here c.in-Ok.cpu c.args.text.now c.loop-rest.rest.now c.loop-rest.number c.loop-rest.reading
    (cleared c.in-Ok.cpu c.in-Ok.ensures) (sym c.loop-rest-test.ensures) c.if-reading.true c.loop-rest.invariant.so_far

pub returns-else-reading : goal.returns-else-reading
returns-else-reading c =
    no_end_here c.in-Ok.cpu c.args.text.now c.loop-rest.rest.now c.loop-rest.number c.loop-rest.reading
    (sym c.loop-rest-test.ensures) c.if-reading.false c.loop-rest.invariant.so_far
