use Rattle.std.proofs.Common.{◌≡◌, ◌++◌, drop}
use Rattle.cw_preset.specs.Lists.{entry_words}
use Rattle.cw_preset.proofs.lists.entry_words.Given as goal

abbrev pub invariant-loop-element : goal.invariant-loop-element
invariant-loop-element l = entry_words l.first (drop l.element-index l.elements) l.rest l.all ≡ entry_words l.first l.elements l.places l.fn.words
