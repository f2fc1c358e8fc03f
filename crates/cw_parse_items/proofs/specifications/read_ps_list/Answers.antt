-- The specifications in brackets, or none.
use Rattle.std.proofs.Common.{rules}
use Rattle.cw_grammar.specs.Grammar.{a_ps}
use Rattle.cw_grammar.specs.Statements.{ps}
use Rattle.cw_grammar.specs.Reading.{read}
use Rattle.cw_parse_items.proofs.specifications.read_ps_list.Goals as goal

pub returns : goal.returns
returns c = c.read_listed.ensures (λ ts. read 0 a_ps ps ts) (λ k r p. search rules)
