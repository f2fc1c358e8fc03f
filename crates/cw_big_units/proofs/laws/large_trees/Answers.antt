use Rattle.std.proofs.Common.{decimal}
use Rattle.cw_big_units.proofs.TreeText.{tree_text}
use Rattle.cw_big_units.proofs.Texts.{has_tree}
use Rattle.cw_big_units.proofs.laws.large_trees.Goals as goal

pub returns : goal.returns
returns c i is_last l h = (tree_text is_last (decimal i), has_tree c.expands_to_itself.ensures i is_last l h)
