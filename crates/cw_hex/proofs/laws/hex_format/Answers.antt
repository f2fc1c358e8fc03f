use Rattle.cw_hex.proofs.Faults.{one_state, one_fault, not_both, no_memory_fault, one_of_them}
use Rattle.cw_hex.proofs.laws.hex_format.Goals as goal

pub returns-clause-one : goal.returns-clause-one
returns-clause-one c = one_state c.one_start.ensures

pub returns-clause-fault : goal.returns-clause-fault
returns-clause-fault c = one_fault

pub returns-clause-not_both : goal.returns-clause-not_both
returns-clause-not_both c = not_both

pub returns-clause-no_memory : goal.returns-clause-no_memory
returns-clause-no_memory c = no_memory_fault

pub returns-clause-some : goal.returns-clause-some
returns-clause-some c = one_of_them
