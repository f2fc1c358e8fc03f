-- The elements between separators.
use Rattle.std.proofs.Common.{rules}
use Rattle.cw_grammar.specs.Grammar.{a_felem}
use Rattle.cw_grammar.specs.Statements.{felem}
use Rattle.cw_grammar.specs.Reading.{read}
use Rattle.cw_parse.proofs.simple.read_felems.Goals as goal

pub returns : goal.returns
returns c = c.read_list.ensures (λ ts. read c.args.levels a_felem felem ts) (λ k r p. search rules)
