-- The names between separators.
use Rattle.std.proofs.Common.{rules}
use Rattle.cw_grammar.specs.Grammar.{a_name}
use Rattle.cw_grammar.specs.Rules.{name}
use Rattle.cw_grammar.specs.Reading.{read}
use Rattle.cw_parse_items.proofs.data.read_names.Goals as goal

pub returns : goal.returns
returns c = c.read_list.ensures (λ ts. read 0 a_name name ts) (λ k r p. search rules)
