-- The loop over labels.
use Rattle.std.proofs.Common.{◌≡◌, ℕ, length}
use Rattle.cw_grammar.specs.Tokens.{behind}
use Rattle.cw_grammar.specs.Labels.{labels_of}
use Rattle.cw_grammar.proofs.LabelLoop.{joined}
use Rattle.cw_parse.proofs.simple.read_labels.Given as goal

abbrev pub invariant-loop-labels : goal.invariant-loop-labels
invariant-loop-labels l = joined l.labels (labels_of (behind l.fn.tokens l.next)) ≡ labels_of (behind l.fn.tokens l.fn.at)

abbrev pub decreases-loop-labels : goal.decreases-loop-labels
decreases-loop-labels l = length (behind l.fn.tokens l.next)
