use Rattle.cw_listing.proofs.Told.{own_bytes}
use Rattle.cw_listing.proofs.laws.own_bytes.Goals as goal

pub returns : goal.returns
returns c = λ code words place line i at is. own_bytes code words place line i at is
