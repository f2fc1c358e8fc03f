use Rattle.cw_judge.proofs.Joining.{placed_parts}
use Rattle.cw_judge.proofs.text.judge_placed.Goals as goal

pub returns : goal.returns
returns c =
    placed_parts c.args.named.now c.args.sites.now c.in_ok-absolute.absolute c.as_slice.result.now c.as_slice-2.result.now c.args.first.now c.judge_communicators.new.first c.judge_block.new.first
    c.in_ok-absolute.ensures c.as_slice.ensures c.as_slice-2.ensures c.judge_communicators.ensures c.judge_block.ensures
