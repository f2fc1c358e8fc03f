use Rattle.cw_carry.proofs.Runs.Constants.{constants-fit}
use Rattle.cw_carry.proofs.laws.runs.order_words.Goals as goal

pub returns : goal.returns
returns c us m limits room = constants-fit us m limits room
