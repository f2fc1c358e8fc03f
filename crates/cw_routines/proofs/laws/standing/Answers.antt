use Rattle.cw_routines.proofs.Valid.{library_stands}
use Rattle.cw_routines.proofs.Retired.{bad_there}
use Rattle.cw_routines.proofs.laws.standing.Goals as goal

pub returns : goal.returns
returns c = record { library = library_stands; retired = bad_there }
