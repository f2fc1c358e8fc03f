use Rattle.cw_compile.proofs.Outcomes.{Given, has_one_unit, has_one_refusal, has_not_both, has_few_tokens, counts_tokens}
use Rattle.cw_compile.proofs.laws.one_outcome.Goals as goal

pub returns : goal.returns
returns c =
    let laws = c.lexical_structure.ensures in
    let given : Given = record { one_list = laws.one_list; one_fault = laws.one_fault; not_both = laws.not_both; one_outcome = c.macro_expansion.ensures } in
    record {
      one_unit = has_one_unit given;
      one_refusal = has_one_refusal given;
      not_both = has_not_both given;
      few = has_few_tokens;
      tokens = counts_tokens given;
    }
