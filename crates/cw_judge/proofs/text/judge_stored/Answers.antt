use Rattle.cw_judge.proofs.Joining.{all_parts}
use Rattle.cw_judge.proofs.text.judge_stored.Goals as goal

pub returns : goal.returns
returns c =
    all_parts c.args.named.now c.args.things.now c.in_ok-known.known c.sites.result.now c.judge_things.new.first c.judge_placed.new.first
    c.in_ok-known.ensures.known c.in_ok-known.ensures.judged c.sites.ensures c.in_ok-judge_placed.ensures
