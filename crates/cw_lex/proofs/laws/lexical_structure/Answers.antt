use Rattle.cw_lex.proofs.Unique.{one_lexes, one_fault, no_fault}
use Rattle.cw_lex.proofs.laws.lexical_structure.Goals as goal

pub returns-clause-one_list : goal.returns-clause-one_list
returns-clause-one_list c form start text ts us d e = one_lexes d us e

pub returns-clause-one_fault : goal.returns-clause-one_fault
returns-clause-one_fault c form start text f g d e = one_fault d g e

pub returns-clause-not_both : goal.returns-clause-not_both
returns-clause-not_both c form start text ts f d e = no_fault e ts d
