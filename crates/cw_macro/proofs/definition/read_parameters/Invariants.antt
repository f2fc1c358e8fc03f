-- The names so far, and those still to read.
use Rattle.std.proofs.Common.{◌≡◌, ℕ, List, [], length}
use Rattle.cw_macro.specs.Expansion.{parameters}
use Rattle.cw_macro.specs.Premises.{Each, IsPlaced}
use Rattle.cw_macro.specs.Views.{left_of, IsNumbering}
use Rattle.cw_macro.proofs.definition.read_parameters.Given as goal

abbrev pub invariant-loop-name : goal.invariant-loop-name
invariant-loop-name l = record {
  placed : Each IsPlaced (left_of l.left);
  so_far : (names : List (List ℕ)) × IsNumbering l.parameters names × (parameters [] (left_of l.initial.left) ≡ parameters names (left_of l.left));
}

abbrev pub decreases-loop-name : goal.decreases-loop-name
decreases-loop-name l = length (left_of l.left)
