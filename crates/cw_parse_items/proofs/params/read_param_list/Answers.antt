-- The parameters in brackets, or none.
use Rattle.std.proofs.Common.{rules}
use Rattle.cw_grammar.specs.Grammar.{a_param}
use Rattle.cw_grammar.specs.Statements.{param}
use Rattle.cw_grammar.specs.Reading.{read}
use Rattle.cw_parse_items.proofs.params.read_param_list.Goals as goal

pub returns : goal.returns
returns c = c.read_listed.ensures (λ ts. read 0 a_param param ts) (λ k r p. search rules)
