use Rattle.std.proofs.Common.{arith}
use Rattle.cw_lib.proofs.Opening.{fails_cut, fails_object}
use Rattle.cw_lib.proofs.library.behind_member.Goals as goal

pub returns-in-None-clause-fault : goal.returns-in-None-clause-fault
returns-in-None-clause-fault c = fails_cut c.args.len c.args.number c.args.rest.now (λ i. omega (arith, c.type_inv.rest i)) c.in-None.ensures

pub returns-in-Ok-clause-there : goal.returns-in-Ok-clause-there
returns-in-Ok-clause-there c = record { member = c.in-Some.member.now; object = (c.in-Ok.ensures.0, c.in-Ok.ensures.1, c.in-Ok.ensures.2); there = c.in-Some.ensures }

pub returns-in-Err-clause-fault : goal.returns-in-Err-clause-fault
returns-in-Err-clause-fault c =
    fails_object c.args.len c.args.number c.args.rest.now c.in-Some.member.now c.in-Some.after.now c.in-Err.fault (λ i. omega (arith, c.type_inv.rest i)) c.in-Some.ensures c.in-Err.ensures
