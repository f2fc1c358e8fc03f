use Rattle.cw_follow.proofs.StatementPlaces.{places_stand}
use Rattle.cw_follow.proofs.laws.places_stand.Goals as goal

pub returns : goal.returns
returns c = λ p image is codable. places_stand p image codable
