use Rattle.std.proofs.Common.{◌≡◌, ◌≤◌, length, map, drop}
use Rattle.cw_lex.specs.Lexical.{view}
use Rattle.cw_macro.specs.Expansion.{of_text}
use Rattle.cw_macro.specs.Views.{left_of}
use Rattle.cw_macro.proofs.left.Left.of_text.Given as goal

abbrev pub invariant-loop-at : goal.invariant-loop-at
invariant-loop-at l = record {
  within : l.at ≤ length l.tokens;
  same : left_of l.left ≡ map of_text (map view (drop l.at l.tokens));
}

abbrev pub decreases-loop-at : goal.decreases-loop-at
decreases-loop-at l = l.at
