use Rattle.cw_macro.proofs.Unique.{one_outcome}
use Rattle.cw_macro.proofs.laws.macro_expansion.Goals as goal

pub returns : goal.returns
returns c tokens r s d e = one_outcome c.lexical_structure.ensures.one_list c.lexical_structure.ensures.not_both d s e
