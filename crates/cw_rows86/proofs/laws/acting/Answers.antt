use Rattle.cw_rows86.proofs.Acting.{effect, straight}
use Rattle.cw_rows86.proofs.laws.acting.Goals as goal

pub returns : goal.returns
returns c = let finds = c.fetching.ensures.finds in record { one = effect finds; several = straight finds }
