use Rattle.std.proofs.Common.{ap, ◌∙◌, w16}
use Rattle.std.proofs.lemmas.Int.{to_z-of_z}
use Rattle.cw_word.specs.Word.{unsigned}
use Rattle.cw_assemble.proofs.Composed.{bounds_added}
use Rattle.cw_assemble.proofs.indexes.put_with_both_bounds.Goals as goal

pub returns : goal.returns
returns c =
    bounds_added c.args.code.now c.put_all.new.self c.args.line _ _ c.args.lower c.args.upper _ _ _ _ (c.cast_unsigned.ensures ∙ ap unsigned (to_z-of_z w16 c.args.lower c.ranges.lower))
    (c.cast_unsigned-2.ensures ∙ ap unsigned (to_z-of_z w16 c.args.upper c.ranges.upper)) c.with_number.ensures c.jump_if_not_less.ensures c.with_number-2.ensures c.jump_if_at_most.ensures c.put_all.ensures
