-- Where the items stand.
use Rattle.cw_sound.proofs.Written.Homes.{homes_fit}
use Rattle.cw_sound.proofs.laws.units.homes_fit.Goals as goal

pub returns : goal.returns
returns c named resolves fine placed rising plain items = homes_fit named rising (c.frames_owned.ensures named resolves fine placed rising plain items) (c.frames_fit.ensures named resolves fine placed rising plain items)
