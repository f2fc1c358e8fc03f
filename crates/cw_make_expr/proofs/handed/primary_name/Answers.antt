use Rattle.cw_make_expr.proofs.Alone.{is_reference, no_reference}
use Rattle.cw_make_expr.proofs.handed.primary_name.Goals as goal

pub returns-in-Ref : goal.returns-in-Ref
returns-in-Ref c = λ named numbers. is_reference named numbers c.args.p.now c.in-Ref.r c.reference_name.result c.in-Ref.is (c.reference_name.ensures named numbers)

pub returns-in_default : goal.returns-in_default
returns-in_default c = λ named numbers. no_reference named numbers c.args.p.now c.in_default.not-Ref
