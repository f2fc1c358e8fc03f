use Rattle.cw_sound.proofs.Ready.Definitions.{few, rising}
use Rattle.cw_sound.proofs.laws.units.definitions.Goals as goal

pub returns : goal.returns
returns c = record { few = λ named tokens. few named tokens; rising = λ named tokens. rising named tokens }
