use Rattle.cw_carry.proofs.Runs.Beginnings.{statements-begin}
use Rattle.cw_carry.proofs.laws.runs.order_beginnings.Goals as goal

pub returns : goal.returns
returns c us m limits room = statements-begin us m limits room
