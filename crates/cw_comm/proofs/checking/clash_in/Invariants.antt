use Rattle.cw_comm.specs.Clashes.{NoneBefore}
use Rattle.cw_comm.specs.Searching.{kind_of}
use Rattle.cw_comm.proofs.checking.clash_in.Given as goal

abbrev pub invariant-loop-d : goal.invariant-loop-d
invariant-loop-d l = NoneBefore (kind_of l.at.listed.now.segments.now l.sought) l.at.segment 0 → NoneBefore (kind_of l.at.listed.now.segments.now l.sought) l.at.segment l.d
