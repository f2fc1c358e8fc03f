use Rattle.cw_depth.proofs.OneReport.{one_is}
use Rattle.cw_depth.proofs.laws.one_report.Goals as goal

pub returns : goal.returns
returns c = one_is
