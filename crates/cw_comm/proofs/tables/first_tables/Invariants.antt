use Rattle.cw_comm.specs.Tables.{TellFrom}
use Rattle.cw_comm.proofs.tables.first_tables.Given as goal

abbrev pub invariant-loop-segment : goal.invariant-loop-segment
invariant-loop-segment l = TellFrom l.listed l.segment l.tables
