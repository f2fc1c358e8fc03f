use Rattle.std.proofs.Common.{arith}
use Rattle.std.specs.List.{slice_get}
use Rattle.cw_macro.specs.Expansion.{tokens_of}
use Rattle.cw_macro.specs.Views.{lists_of, picked}
use Rattle.cw_macro.proofs.Pieces.{more_than, is_over}
use Rattle.cw_macro.proofs.expansion.count_run.Goals as goal

pub returns-then-count-gt-MOST_REPLACED : goal.returns-then-count-gt-MOST_REPLACED
returns-then-count-gt-MOST_REPLACED c =
    is_over _ (omega (
      arith,
      c.loop-pick.invariant.same,
      c.length_of-count.ensures.length,
      c.if-count-gt-MOST_REPLACED.true,
      more_than (tokens_of (lists_of c.args.arguments.now)) (λ i. picked (slice_get c.args.numbers.now i)) c.args.picks.now c.loop-pick.pick-index 0 c.loop-pick-test.true,
    ))
