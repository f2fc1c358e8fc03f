use Rattle.cw_carry.proofs.Runs.Spans.{spans-inside}
use Rattle.cw_carry.proofs.laws.runs.order_spans.Goals as goal

pub returns : goal.returns
returns c us m limits room suits = spans-inside us m limits room suits
