use Rattle.std.proofs.Common.{subst}
use Rattle.cw_comm.specs.Searching.{SoFar}
use Rattle.cw_comm.proofs.checking.clash_at.Goals as goal

pub undefined_at-requires-clause-same : goal.undefined_at-requires-clause-same
undefined_at-requires-clause-same c = (subst (SoFar c.args.at.now.listed.now.segments.now) c.in-Undefined.is c.requires.so_far).1

pub returns-in-Difference : goal.returns-in-Difference
returns-in-Difference c = rw c.in-Difference.is c.difference_at.ensures

pub returns-in-SecondDefinition : goal.returns-in-SecondDefinition
returns-in-SecondDefinition c = rw c.in-SecondDefinition.is c.second_definition_at.ensures

pub returns-in-Undefined : goal.returns-in-Undefined
returns-in-Undefined c = rw c.in-Undefined.is c.undefined_at.ensures
