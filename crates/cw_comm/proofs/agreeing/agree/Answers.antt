use Rattle.cw_comm.proofs.Naming.{agreed_is}
use Rattle.cw_comm.proofs.agreeing.agree.Goals as goal

pub returns : goal.returns
returns c = (c.in_ok-check_all.ensures.agree, agreed_is c.args.segments.now c.in_ok-names.names c.in_ok-names.of c.in_ok-defined.defined c.as_slice-in_order.result.now c.in_ok-names.ensures c.as_slice-in_order.ensures c.in_ok-defined.ensures)
