-- The specifications in brackets, or none.
use Rattle.std.proofs.Common.{rules}
use Rattle.cw_grammar.specs.Grammar.{an_ips}
use Rattle.cw_grammar.specs.Statements.{ips, ips_list}
use Rattle.cw_grammar.specs.Reading.{read}
use Rattle.cw_parse_items.proofs.specifications.read_ips_list.Goals as goal

pub returns : goal.returns
unfolding ips_list
returns c = c.read_listed.ensures (λ ts. read 0 an_ips ips ts) (λ k r p. search rules)
