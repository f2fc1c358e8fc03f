-- The value of a tree: where it, or a sum on the way, fits no word, there is none.
use Rattle.std.specs.Prelude.{ℤ, pos, ◌+ℤ◌, neg_ℤ, List, [], ◌∷◌, Option, Some, None, if◌then◌else◌, option_and_then}
use Rattle.cw_word.specs.FixedPoint.{fits_word}
use Rattle.cw_checks_front.specs.declared.tree.Tree.{Tree}
use Rattle.cw_checks_front.specs.declared.tree.Tree.TheOpen.{Tree-F, Word, Negative, Sum}
use Rattle.cw_checks_front.specs.declared.tree.Tree.TheFolds.{fold-Tree}

abbrev pub as_word : ℤ → Option ℤ
as_word z = if fits_word z then Some z else None

-- z and the values, from left to right
abbrev pub sum_onto : ℤ → List (Option ℤ) → Option ℤ
sum_onto z [] = Some z
sum_onto z (v ∷ vs) = option_and_then (λ x. option_and_then (λ y. sum_onto y vs) (as_word (z +ℤ x))) v

-- one node, with each child's value in its place
abbrev pub value_step : Tree-F (Option ℤ) → Option ℤ
value_step (Word z) = Some z
value_step (Negative v) = option_and_then (λ x. as_word (neg_ℤ x)) v
value_step (Sum vs) = sum_onto (pos 0) vs

abbrev pub value_of : Tree → Option ℤ
value_of = fold-Tree (Option ℤ) value_step
