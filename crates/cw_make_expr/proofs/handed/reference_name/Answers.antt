use Rattle.cw_make_expr.proofs.Alone.{is_name, no_name}
use Rattle.cw_make_expr.proofs.handed.reference_name.Goals as goal

pub returns-in-Name : goal.returns-in-Name
returns-in-Name c = λ named numbers. is_name named numbers c.args.r.now c.in-Name.name c.in-Name.is

pub returns-in_default : goal.returns-in_default
returns-in_default c = λ named numbers. no_name named numbers c.args.r.now c.in_default.not-Name
