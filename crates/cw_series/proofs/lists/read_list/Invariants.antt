-- The items so far, with those that are still read, are the whole list.
use Rattle.std.proofs.Common.{◌≡◌, List, ◌++◌}
use Rattle.cw_grammar.specs.Tokens.{Item, behind}
use Rattle.cw_grammar.specs.Reading.{Read, repeat}
use Rattle.cw_series.specs.Series.{Reads, behind_one, with_separators}
use Rattle.cw_series.proofs.Steps.{collected}
use Rattle.cw_series.proofs.lists.read_list.Given as goal

abbrev pub invariant-more : goal.invariant-more
invariant-more g l =
    let begins = g.S.Separator.begins l.fn.separator in
    let taken = g.S.Separator.taken l.fn.separator in
    (item : List Item → Read g.row.T.Denot) → Reads g.F.Fn l.fn.read l.fn.tokens item
    → collected (λ s xs. s ++ xs) l.found (repeat l.most begins (behind_one taken item) (behind l.fn.tokens l.next)) ≡ with_separators begins taken item (behind l.fn.tokens l.fn.at)

abbrev pub decreases-more : goal.decreases-more
decreases-more g l = l.most
