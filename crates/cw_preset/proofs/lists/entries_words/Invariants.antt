use Rattle.std.proofs.Common.{◌≡◌, ◌++◌, drop}
use Rattle.cw_preset.specs.Lists.{entries_words}
use Rattle.cw_preset.proofs.lists.entries_words.Given as goal

abbrev pub invariant-loop-left : goal.invariant-loop-left
invariant-loop-left l = entries_words l.left l.width l.first l.elements l.rest l.all ≡ entries_words l.entries l.width 0 l.elements l.places l.fn.words

abbrev pub decreases-loop-left : goal.decreases-loop-left
decreases-loop-left l = l.left
