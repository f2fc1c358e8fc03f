-- The items so far, with those that are still read, are all.
use Rattle.std.proofs.Common.{◌≡◌, List, ◌++◌, Bool}
use Rattle.cw_grammar.specs.Tokens.{Item, behind}
use Rattle.cw_grammar.specs.Reading.{Read, repeat}
use Rattle.cw_series.specs.Series.{Reads, Tests, before_end, ended}
use Rattle.cw_series.proofs.Steps.{collected}
use Rattle.cw_series.proofs.lists.read_ended.Given as goal

abbrev pub invariant-more : goal.invariant-more
invariant-more g l =
    (begins : List Item → Bool) (item : List Item → Read g.row.T.Denot) → Tests g.P.Fn l.fn.is_next l.fn.tokens begins → Reads g.F.Fn l.fn.read l.fn.tokens item
    → collected (λ s xs. s ++ xs) l.found (repeat l.most begins (before_end l.fn.end item) (behind l.fn.tokens l.next)) ≡ ended begins l.fn.end item (behind l.fn.tokens l.fn.at)

abbrev pub decreases-more : goal.decreases-more
decreases-more g l = l.most
