-- The groups between separators.
use Rattle.std.proofs.Common.{rules}
use Rattle.cw_grammar.specs.Grammar.{a_group}
use Rattle.cw_grammar.specs.Statements.{group}
use Rattle.cw_grammar.specs.Reading.{read}
use Rattle.cw_parse_items.proofs.data.read_groups.Goals as goal

pub returns : goal.returns
returns c = c.read_list.ensures (λ ts. read 0 a_group group ts) (λ k r p. search rules)
