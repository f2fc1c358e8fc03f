use Rattle.std.proofs.Common.{◌≤◌, length, arith}
use Rattle.cw_compile.specs.Texts.{most_levels}
use Rattle.cw_sound.proofs.laws.texts.text_trees.Goals as goal

pub returns : goal.returns
returns c text raw tree =
    let ts = tree.expanded in
    let few = c.one_outcome.ensures.few text ts tree.expands in
    let proper = c.spelled.ensures text tree.expands.tokens ts tree.expands.tokenizes tree.expands.expands in
    let counted = c.tokens_counted.ensures most_levels ts raw tree.derives in
    let levels : most_levels ≤ 64 = omega arith in
    record {
      regular = c.regular.ensures.block most_levels ts raw proper few tree.derives counted;
      levels = c.within_levels.ensures most_levels ts raw tree.derives;
      bodies = c.regular.ensures.bodies most_levels ts raw proper few tree.derives counted levels;
      rising = c.items_derived.ensures.rising most_levels ts raw few tree.derives;
      plain = c.items_derived.ensures.plain most_levels ts raw tree.derives;
      placed = c.placed.ensures most_levels ts raw few tree.derives;
    }
