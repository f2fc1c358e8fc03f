-- The elements between separators.
use Rattle.std.proofs.Common.{rules}
use Rattle.cw_grammar.specs.Grammar.{an_elem}
use Rattle.cw_grammar.specs.Statements.{elem}
use Rattle.cw_grammar.specs.Reading.{read}
use Rattle.cw_parse_items.proofs.data.read_elems.Goals as goal

pub returns : goal.returns
returns c = c.read_list.ensures (λ ts. read 0 an_elem elem ts) (λ k r p. search rules)
