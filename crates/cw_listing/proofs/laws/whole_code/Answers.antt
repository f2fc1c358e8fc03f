use Rattle.cw_listing.proofs.Whole.{bytes_from}
use Rattle.cw_listing.proofs.laws.whole_code.Goals as goal

pub returns : goal.returns
returns c = λ code words lines h. bytes_from code words 0 lines h
