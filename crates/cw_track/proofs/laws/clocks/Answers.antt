use Rattle.cw_track.proofs.Clocks.{strikes, turns, pace}
use Rattle.cw_track.proofs.laws.clocks.Goals as goal

pub returns : goal.returns
returns c = record { strikes = strikes; turns = turns; pace = pace }
