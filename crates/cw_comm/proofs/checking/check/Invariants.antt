use Rattle.cw_comm.specs.Clashes.{NoneBefore}
use Rattle.cw_comm.specs.Searching.{kind_of}
use Rattle.cw_comm.specs.Tables.{TellBefore}
use Rattle.cw_comm.proofs.checking.check.Given as goal

abbrev pub invariant-loop-segment : goal.invariant-loop-segment
invariant-loop-segment l = record {
  before : TellBefore l.listed l.segment l.own;
  none : NoneBefore (kind_of l.listed.segments.now l.sought) l.segment 0;
}
