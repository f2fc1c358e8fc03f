-- The operands so far, with those that are still read, are all.
use Rattle.std.proofs.Common.{◌≡◌, List}
use Rattle.cw_grammar.specs.Tokens.{Item, behind}
use Rattle.cw_grammar.specs.Trees.{extended}
use Rattle.cw_grammar.specs.Reading.{Read, repeat}
use Rattle.cw_series.proofs.Steps.{collected}
use Rattle.cw_parse_expr.specs.Operands.{chained}
use Rattle.cw_series.specs.Series.{Reads, both}
use Rattle.cw_parse_expr.proofs.chains.read_chain.Given as goal

abbrev pub invariant-more : goal.invariant-more
invariant-more g l =
    let begins = g.O.Operator.begins l.fn.operator in
    let reads = g.O.Operator.reads l.fn.operator in
    (item : List Item → Read g.row.T.Denot) → Reads g.F.Fn l.fn.read l.fn.tokens item
    → collected (λ s xs. extended s xs) (l.operands, l.operators) (repeat l.most begins (both reads item) (behind l.fn.tokens l.next)) ≡ chained l.fn.start begins reads item (behind l.fn.tokens l.fn.at)

abbrev pub decreases-more : goal.decreases-more
decreases-more g l = l.most
