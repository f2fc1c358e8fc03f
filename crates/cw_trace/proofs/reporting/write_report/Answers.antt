use Rattle.cw_trace.specs.Gathering.{gathered}
use Rattle.cw_trace.proofs.Added.{writes_gathered, writes_ungathered}
use Rattle.cw_trace.proofs.reporting.write_report.Goals as goal

pub returns-in-Err : goal.returns-in-Err
returns-in-Err g c = writes_ungathered _ _ _ (gathered _ c.add_line.new.line _) _ _ c.new-line.ensures c.in-Err.ensures

pub returns : goal.returns
returns g c = writes_gathered _ _ _ _ _ _ _ _ _ _ c.new-line.ensures c.in_default.ensures.ok c.in_default.ensures.ok_faults c.flush.ensures.writes
